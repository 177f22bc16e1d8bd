use Rattle.cd_core.proofs.Handled.{handled, let_go, none_queued}
use Rattle.cd_core.proofs.state.Core.handle.Goals as goal
use Rattle.cd_core.specs.Posting.{Finds, posted_live}
use Rattle.cd_core.specs.Prepared.{prepared_posts}
use Rattle.cd_registry.specs.Registry.{rows}
use Rattle.cd_value.specs.declared.data.ValueList.{ValueList}
use Rattle.std.proofs.Common.{List, Some, ap, refl, slice_get, subst, sym, ℕ, ◌∙◌, ◌≡◌}
use Rattle.std.proofs.lemmas.Option.{same_Some}
use Rattle.std.specs.Option.{option_copied}

pub returns-clause-step : goal.returns-clause-step
returns-clause-step g c = λ actor.
    let list : ValueList = c.in-Some.list.now in
    let popped : ValueList = c.in-Some-pop.list in
    let first : slice_get c.args.self.now.queue.lists 0 ≡ Some list = sym c.in-Some.ensures in
    let same : popped ≡ list = same_Some popped list (c.in-Some-pop.ensures.first ∙ first) in
    let prepared = c.in-Ok.field-0.prepared in
    handled _ _ _ _ _ _ list c.in-Some-set_of.set.now prepared actor c.args.now c.in-Ok.field-0.how _ first
    c.in-Some-set_of.ensures
    (λ regs found.
    let F : List ℕ → Type 0 = λ writers. Finds regs writers (rows g.P.TellsCalls.plug_tells g.Q.TellsReadings.probe_tells c.args.self.now.registry) in
    c.in-Ok.ensures.handling regs (subst F (sym c.as_slice.ensures.value) found))
    c.in-Ok.ensures.same c.in-Some-pop.ensures.limits c.in-Some-pop.ensures.rest
    (c.post_prepared-skipped.ensures.rows
    ∙ ap (λ (l : ValueList). posted_live (prepared_posts l prepared) (rows g.P.TellsCalls.plug_tells g.Q.TellsReadings.probe_tells c.work_out-worked.new.registry)) same
    ∙ ap (posted_live (prepared_posts list prepared)) c.in-Ok.ensures.rows)
    c.in-Ok.ensures.ok c.in-Ok.ensures.how c.post_prepared-skipped.ensures.skipped

pub returns-in_default-set_of-clause-step : goal.returns-in_default-set_of-clause-step
returns-in_default-set_of-clause-step g c = λ actor.
    let_go _ _ _ c.in-Some.list.now actor c.args.now (sym c.in-Some.ensures)
    (ap option_copied (sym c.in_default-set_of.is) ∙ c.set_of.ensures)
    c.pop.ensures.limits c.pop.ensures.rest

pub returns-in_default-clause-empty : goal.returns-in_default-clause-empty
returns-in_default-clause-empty g c =
    (λ _. none_queued c.args.self.now.queue.lists (sym c.front.ensures ∙ ap option_copied c.in_default.is), λ _. refl)
