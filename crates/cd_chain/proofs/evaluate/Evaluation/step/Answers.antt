use Rattle.std.proofs.Common.{◌∙◌, ◌<◌, List, length, refl, sym, ap, subst, arith}
use Rattle.cd_chain.specs.declared.data.Chain.{Chain}
use Rattle.cd_chain.specs.declared.evaluate.Evaluation.{Evaluation}
use Rattle.cd_chain.specs.Chains.{out, weight}
use Rattle.cd_chain.specs.Frames.{list_now, meaning, meaning_at, rest_of, steps_at, steps_to_go}
use Rattle.cd_chain.specs.Tables.{jump_table}
use Rattle.cd_match.specs.Matches.{Scene}
use Rattle.cd_walks.specs.Walks.{IsFree}
use Rattle.cd_chain.proofs.Places.{ends, goes}
use Rattle.cd_chain.proofs.Steps.{done, moved, steps}
use Rattle.cd_chain.proofs.Stepping.{nearer_on, place_of, steps_there, told_on}
use Rattle.cd_chain.proofs.evaluate.Evaluation.step.Goals as goal

pub returns-in_default-2-clause-means : goal.returns-in_default-2-clause-means
returns-in_default-2-clause-means g c =
    let scene : Scene = record { set = c.args.set.now; rates = g.V.RateView.rates_at c.args.view.now; now = c.args.now } in
    let table = c.args.chains.now in
    let jump = out scene table in
    done scene jump table c.args.self.now.actions c.args.self.now.frames.items c.pop.new.self.items c.in-Some.frame (list_now c.args.self.now) c.in-Some.ensures.items (ends scene jump (list_now c.args.self.now) table c.in-Some.frame (place_of scene table c.in-Some.frame c.current.result.now (list_now c.args.self.now) _ _ c.current.ensures c.in_ok-here.ensures.next c.in_default-2.is))

pub returns-in_default-2-clause-fewer : goal.returns-in_default-2-clause-fewer
returns-in_default-2-clause-fewer g c =
    let table = c.args.chains.now in
    let down = steps table (weight table) c.args.self.now.frames.items c.pop.new.self.items c.in-Some.frame c.in-Some.ensures.items in
    omega arith

pub run_target-requires-clause-free : goal.run_target-requires-clause-free
run_target-requires-clause-free g c =
    subst (λ (table : List Chain). IsFree (jump_table table)) (sym c.next_place.ensures.same) c.requires

pub run_target-requires-clause-some : goal.run_target-requires-clause-some
run_target-requires-clause-some g c =
    let scene : Scene = record { set = c.args.set.now; rates = g.V.RateView.rates_at c.args.view.now; now = c.args.now } in
    let table = c.args.chains.now in
    let there = goes scene (out scene table) (list_now c.args.self.now) table c.in-Some.frame c.in-Some-2.here (place_of scene table c.in-Some.frame c.current.result.now (list_now c.args.self.now) _ _ c.current.ensures c.in_ok-here.ensures.next c.in-Some-2.is) in
    subst (λ (table : List Chain). 0 < length (rest_of table c.in-Some-2.here).targets) (sym c.next_place.ensures.same) there.some

pub returns-clause-means : goal.returns-clause-means
returns-clause-means g c =
    let scene : Scene = record { set = c.args.set.now; rates = g.V.RateView.rates_at c.args.view.now; now = c.args.now } in
    let table = c.args.chains.now in
    let other = c.next_place.new.chains in
    let jump = out scene table in
    let here = c.in-Some-2.here in
    let popped : Evaluation = record c.args.self.now { frames = c.pop.new.self } in
    let there = goes scene jump (list_now c.args.self.now) table c.in-Some.frame here (place_of scene table c.in-Some.frame c.current.result.now (list_now c.args.self.now) _ _ c.current.ensures c.in_ok-here.ensures.next c.in-Some-2.is) in
    let same = c.next_place.ensures.same in
    told_on scene table other (meaning scene table c.args.self.now) (meaning_at scene other popped (rest_of other here)) c.run_target.new.self c.run_target.result same
    (moved scene jump table c.args.self.now.actions c.args.self.now.frames.items c.pop.new.self.items c.in-Some.frame (list_now c.args.self.now) (rest_of table here) c.in-Some.ensures.items there.same
    ∙ ap (λ (table : List Chain). meaning_at scene table popped (rest_of table here)) (sym same))
    (c.run_target.ensures.means scene refl)

pub returns-clause-fewer : goal.returns-clause-fewer
returns-clause-fewer g c =
    let scene : Scene = record { set = c.args.set.now; rates = g.V.RateView.rates_at c.args.view.now; now = c.args.now } in
    let table = c.args.chains.now in
    let other = c.next_place.new.chains in
    let jump = out scene table in
    let here = c.in-Some-2.here in
    let popped : Evaluation = record c.args.self.now { frames = c.pop.new.self } in
    let there = goes scene jump (list_now c.args.self.now) table c.in-Some.frame here (place_of scene table c.in-Some.frame c.current.result.now (list_now c.args.self.now) _ _ c.current.ensures c.in_ok-here.ensures.next c.in-Some-2.is) in
    let same = c.next_place.ensures.same in
    nearer_on table other (steps_at other popped (rest_of other here)) (steps_to_go table c.args.self.now) c.run_target.new.self c.run_target.result same
    (steps_there scene table other jump (list_now c.args.self.now) c.args.self.now popped c.in-Some.frame here same c.in-Some.ensures.items there)
    c.run_target.ensures.fewer
