use Rattle.std.proofs.Common.{ℕ, List, [], ◌∷◌, ◌++◌, refl, sym, ap, ◌∙◌, arith}
use Rattle.std.proofs.lemmas.Bool.Decides.{nat_tests}
use Rattle.std.proofs.lemmas.List.{nil_from_length}
use Rattle.std.specs.Prelude.{unwrap_or}
use Rattle.cd_chain.specs.declared.data.Action.{Action}
use Rattle.cd_chain.specs.declared.data.Action.TheVariants as actions
use Rattle.cd_target.specs.Targets.{rewritten}
use Rattle.cd_target.specs.declared.target.Target.{Target}
use Rattle.cd_target.specs.declared.target.Target.TheVariants as targets
use Rattle.cd_chain.specs.Chains.{chain_at, notice, out, run_targets, weight}
use Rattle.cd_chain.specs.Frames.{list_now, rest_of}
use Rattle.cd_chain.proofs.Places.{jump_run, jump_weight}
use Rattle.cd_chain.proofs.Running.{out-none}
use Rattle.cd_chain.proofs.Steps.{acted, jumped, lighter, passed, returned_back, returned_last, rewrote, steps, stopped}
use Rattle.cd_chain.proofs.evaluate.Evaluation.run_target.Goals as goal

pub returns-in-Stop-clause-means : goal.returns-in-Stop-clause-means
returns-in-Stop-clause-means c = λ scene at.
    let table = c.args.chains.now in
    let jump = out scene table in
    let here = rest_of table c.args.here in
    let rest = rest_of table c.in-Some.rest in
    let target = c.in-Some.target.now in
    stopped scene jump table c.args.self.now.actions c.args.self.now.frames.items rest here (list_now c.args.self.now) target c.in-Some.ensures c.in-Stop.is

pub returns-then-is_empty-clause-means : goal.returns-then-is_empty-clause-means
returns-then-is_empty-clause-means c = λ scene at.
    let table = c.args.chains.now in
    let jump = out scene table in
    let here = rest_of table c.args.here in
    let rest = rest_of table c.in-Some.rest in
    let target = c.in-Some.target.now in
    returned_last scene jump table c.args.self.now.actions c.args.self.now.frames.items rest here (list_now c.args.self.now) target c.in-Some.ensures c.in-Return.is (nil_from_length c.args.self.now.frames.items (let k = c.args.self.now.frames.ok.0 in let e = sym c.is_empty.ensures ∙ c.if-is_empty.true in let f = rw k at e in grind (arith, nat_tests)))

pub returns-else-is_empty-clause-means : goal.returns-else-is_empty-clause-means
returns-else-is_empty-clause-means c = λ scene at.
    let table = c.args.chains.now in
    let jump = out scene table in
    let here = rest_of table c.args.here in
    let rest = rest_of table c.in-Some.rest in
    let target = c.in-Some.target.now in
    returned_back scene jump table c.args.self.now.actions c.args.self.now.frames.items rest here (list_now c.args.self.now) target c.in-Some.ensures c.in-Return.is (let k = c.args.self.now.frames.ok.0 in let e = sym c.is_empty.ensures ∙ c.if-is_empty.false in let f = rw k at e in grind (arith, nat_tests))

pub returns-else-is_empty-clause-fewer : goal.returns-else-is_empty-clause-fewer
returns-else-is_empty-clause-fewer c =
    let table = c.args.chains.now in
    let w = weight table in
    let here = rest_of table c.args.here in
    let rest = rest_of table c.in-Some.rest in
    let below = c.args.self.now.frames.items in
    let own = lighter w rest here c.in-Some.target.now targets.Return c.in-Some.ensures c.in-Return.is in
    omega arith

pub returns-in_ok-push-in-Jump-2-clause-means : goal.returns-in_ok-push-in-Jump-2-clause-means
returns-in_ok-push-in-Jump-2-clause-means c = λ scene at.
    let table = c.args.chains.now in
    let jump = out scene table in
    let here = rest_of table c.args.here in
    let rest = rest_of table c.in-Some.rest in
    let target = c.in-Some.target.now in
    jumped scene jump table c.args.self.now.actions c.args.self.now.frames.items c.push.new.self.items c.push-in-Some-number_of.new.self.items c.in-Some.rest c.of.result here (list_now c.args.self.now) c.in-Jump.name target c.in-Some.ensures c.in-Jump.is c.in_ok-push-in-Jump.ensures.items c.in_ok-push-in-Jump-2.ensures.items (jump_run scene table c.requires.free c.in-Jump.name c.in-Some-number_of.number c.of.result c.in-Some-number_of.ensures c.of.ensures (list_now c.args.self.now))

pub returns-in_ok-push-in-Jump-2-clause-fewer : goal.returns-in_ok-push-in-Jump-2-clause-fewer
returns-in_ok-push-in-Jump-2-clause-fewer c =
    let table = c.args.chains.now in
    let w = weight table in
    let here = rest_of table c.args.here in
    let rest = rest_of table c.in-Some.rest in
    let below = c.args.self.now.frames.items in
    let own = lighter w rest here c.in-Some.target.now (targets.Jump c.in-Jump.name) c.in-Some.ensures c.in-Jump.is in
    let up0 = steps table w c.push.new.self.items below c.in-Some.rest c.in_ok-push-in-Jump.ensures.items in
    let up1 = steps table w c.push-in-Some-number_of.new.self.items c.push.new.self.items c.of.result c.in_ok-push-in-Jump-2.ensures.items in
    let whole = jump_weight table c.requires.free c.in-Jump.name c.in-Some-number_of.number c.of.result c.in-Some-number_of.ensures c.of.ensures in
    omega arith

pub returns-in_default-number_of-clause-means : goal.returns-in_default-number_of-clause-means
returns-in_default-number_of-clause-means c = λ scene at.
    let table = c.args.chains.now in
    let jump = out scene table in
    let here = rest_of table c.args.here in
    let rest = rest_of table c.in-Some.rest in
    let target = c.in-Some.target.now in
    passed scene jump table c.args.self.now.actions c.args.self.now.frames.items c.push.new.self.items c.in-Some.rest here (list_now c.args.self.now) c.in-Jump.name target c.in-Some.ensures c.in-Jump.is c.in_ok-push-in-Jump.ensures.items (out-none scene table c.requires.free c.in-Jump.name (ap (chain_at table) (sym c.in_default-number_of.ensures)) (list_now c.args.self.now))

pub returns-in_default-number_of-clause-fewer : goal.returns-in_default-number_of-clause-fewer
returns-in_default-number_of-clause-fewer c =
    let table = c.args.chains.now in
    let w = weight table in
    let here = rest_of table c.args.here in
    let rest = rest_of table c.in-Some.rest in
    let below = c.args.self.now.frames.items in
    let own = lighter w rest here c.in-Some.target.now (targets.Jump c.in-Jump.name) c.in-Some.ensures c.in-Jump.is in
    let up0 = steps table w c.push.new.self.items below c.in-Some.rest c.in_ok-push-in-Jump.ensures.items in
    omega arith

pub returns-in_ok-push-in-Write-2-clause-means : goal.returns-in_ok-push-in-Write-2-clause-means
returns-in_ok-push-in-Write-2-clause-means c = λ scene at.
    let table = c.args.chains.now in
    let jump = out scene table in
    let here = rest_of table c.args.here in
    let rest = rest_of table c.in-Some.rest in
    let target = c.in-Some.target.now in
    acted scene jump table c.args.self.now.actions c.push-in-Write.new.self c.args.self.now.frames.items c.push-in-Write-2.new.self.items c.in-Some.rest here (list_now c.args.self.now) (actions.Write c.in-Write.names (list_now c.args.self.now)) target (targets.Write c.in-Write.names) c.in-Some.ensures c.in-Write.is (λ ts. refl) c.in_ok-push-in-Write-2.ensures.items (c.in_ok-push-in-Write.ensures.ok ∙ ap (λ (a : Action). c.args.self.now.actions ++ a ∷ []) (ap (λ (names : List (List ℕ)). actions.Write names c.in_ok-list-in-Write.list) c.in_ok-names-in-Write.ensures ∙ ap (actions.Write c.in-Write.names) (c.in_ok-list-in-Write.ensures ∙ c.current.ensures)))

pub returns-in_ok-push-in-Write-2-clause-fewer : goal.returns-in_ok-push-in-Write-2-clause-fewer
returns-in_ok-push-in-Write-2-clause-fewer c =
    let table = c.args.chains.now in
    let w = weight table in
    let here = rest_of table c.args.here in
    let rest = rest_of table c.in-Some.rest in
    let below = c.args.self.now.frames.items in
    let own = lighter w rest here c.in-Some.target.now (targets.Write c.in-Write.names) c.in-Some.ensures c.in-Write.is in
    let up0 = steps table w c.push-in-Write-2.new.self.items below c.in-Some.rest c.in_ok-push-in-Write-2.ensures.items in
    omega arith

pub returns-in_ok-push-in-Set-clause-means : goal.returns-in_ok-push-in-Set-clause-means
returns-in_ok-push-in-Set-clause-means c = λ scene at.
    let table = c.args.chains.now in
    let jump = out scene table in
    let here = rest_of table c.args.here in
    let rest = rest_of table c.in-Some.rest in
    let target = c.in-Some.target.now in
    rewrote scene jump table c.args.self.now.actions c.args.self.now.frames.items c.push-in-Set.new.self.items c.in-Some.rest here (list_now c.args.self.now) (unwrap_or c.change.new.changed c.args.self.now.given.now) target (targets.Set c.in-Set.field-0) c.in-Some.ensures c.in-Set.is (λ ts. ap (run_targets scene jump ts) (ap (λ (t : Target). rewritten t (list_now c.args.self.now)) (sym c.in-Set.is) ∙ sym c.in_ok-change-in-Set.ensures)) c.in_ok-push-in-Set.ensures.items

pub returns-in_ok-push-in-Set-clause-fewer : goal.returns-in_ok-push-in-Set-clause-fewer
returns-in_ok-push-in-Set-clause-fewer c =
    let table = c.args.chains.now in
    let w = weight table in
    let here = rest_of table c.args.here in
    let rest = rest_of table c.in-Some.rest in
    let below = c.args.self.now.frames.items in
    let own = lighter w rest here c.in-Some.target.now (targets.Set c.in-Set.field-0) c.in-Some.ensures c.in-Set.is in
    let up0 = steps table w c.push-in-Set.new.self.items below c.in-Some.rest c.in_ok-push-in-Set.ensures.items in
    omega arith

pub returns-in_ok-push-in-Replace-clause-means : goal.returns-in_ok-push-in-Replace-clause-means
returns-in_ok-push-in-Replace-clause-means c = λ scene at.
    let table = c.args.chains.now in
    let jump = out scene table in
    let here = rest_of table c.args.here in
    let rest = rest_of table c.in-Some.rest in
    let target = c.in-Some.target.now in
    rewrote scene jump table c.args.self.now.actions c.args.self.now.frames.items c.push-in-Replace.new.self.items c.in-Some.rest here (list_now c.args.self.now) (unwrap_or c.change-in-Replace.new.changed c.args.self.now.given.now) target (targets.Replace c.in-Replace.field-0) c.in-Some.ensures c.in-Replace.is (λ ts. ap (run_targets scene jump ts) (ap (λ (t : Target). rewritten t (list_now c.args.self.now)) (sym c.in-Replace.is) ∙ sym c.in_ok-change-in-Replace.ensures)) c.in_ok-push-in-Replace.ensures.items

pub returns-in_ok-push-in-Replace-clause-fewer : goal.returns-in_ok-push-in-Replace-clause-fewer
returns-in_ok-push-in-Replace-clause-fewer c =
    let table = c.args.chains.now in
    let w = weight table in
    let here = rest_of table c.args.here in
    let rest = rest_of table c.in-Some.rest in
    let below = c.args.self.now.frames.items in
    let own = lighter w rest here c.in-Some.target.now (targets.Replace c.in-Replace.field-0) c.in-Some.ensures c.in-Replace.is in
    let up0 = steps table w c.push-in-Replace.new.self.items below c.in-Some.rest c.in_ok-push-in-Replace.ensures.items in
    omega arith

pub returns-in_ok-push-in-Notification-2-clause-means : goal.returns-in_ok-push-in-Notification-2-clause-means
returns-in_ok-push-in-Notification-2-clause-means c = λ scene at.
    let table = c.args.chains.now in
    let jump = out scene table in
    let here = rest_of table c.args.here in
    let rest = rest_of table c.in-Some.rest in
    let target = c.in-Some.target.now in
    acted scene jump table c.args.self.now.actions c.push-in-Notification.new.self c.args.self.now.frames.items c.push-in-Notification-2.new.self.items c.in-Some.rest here (list_now c.args.self.now) (actions.Notify (notice scene c.in-Notification.message c.in-Notification.severity (list_now c.args.self.now))) target (targets.Notification c.in-Notification.message c.in-Notification.severity) c.in-Some.ensures c.in-Notification.is (λ ts. refl) c.in_ok-push-in-Notification-2.ensures.items (c.in_ok-push-in-Notification.ensures.ok ∙ ap (λ (a : Action). c.args.self.now.actions ++ a ∷ []) (ap actions.Notify (c.in_ok-note-in-Notification.ensures scene at ∙ ap (notice scene c.in-Notification.message c.in-Notification.severity) c.current-in-Notification.ensures)))

pub returns-in_ok-push-in-Notification-2-clause-fewer : goal.returns-in_ok-push-in-Notification-2-clause-fewer
returns-in_ok-push-in-Notification-2-clause-fewer c =
    let table = c.args.chains.now in
    let w = weight table in
    let here = rest_of table c.args.here in
    let rest = rest_of table c.in-Some.rest in
    let below = c.args.self.now.frames.items in
    let own = lighter w rest here c.in-Some.target.now (targets.Notification c.in-Notification.message c.in-Notification.severity) c.in-Some.ensures c.in-Notification.is in
    let up0 = steps table w c.push-in-Notification-2.new.self.items below c.in-Some.rest c.in_ok-push-in-Notification-2.ensures.items in
    omega arith
