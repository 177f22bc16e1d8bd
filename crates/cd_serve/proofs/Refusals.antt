-- A registration that can't be refused lacks memory at most.
use Rattle.cd_core.specs.Replies.{register_refusal, register_reply}
use Rattle.cd_core.specs.Seen.{CoreSeen}
use Rattle.cd_core.specs.Stands.{Anyhow, Makes}
use Rattle.cd_core.specs.declared.faults.RegisterFault.TheVariants as register
use Rattle.cd_core.specs.declared.faults.RegisterFault.{RegisterFault}
use Rattle.cd_daemon.specs.Answers.{register_answer}
use Rattle.cd_history.specs.declared.entry.Entry.TheVariants as entry
use Rattle.cd_history.specs.declared.entry.Joining.{Joining}
use Rattle.cd_history.specs.declared.entry.RegisterFault.{RegisterFault as Refusal}
use Rattle.cd_serve.specs.Working.Loading.{IsToRegister, PlaceSeen}
use Rattle.cd_value.specs.declared.memory.Refused.{Refused}
use Rattle.std.proofs.Common.{Err, IfSome, List, Ok, ap, refl, ℕ, ◌∙◌, ◌≡◌}

pub never_refused : {A : Type 0} (before after : CoreSeen) (place : PlaceSeen) → IsToRegister before place → (name : List ℕ) (joining : Joining) (refused : Refused A RegisterFault)
    → name ≡ place.name → IfSome (register_reply (Err refused)) (λ reply. (actor : ℕ) → Makes before after Anyhow (entry.Register actor name joining reply))
    → (refused.why ≡ register.Memory → ⊥) → ⊥
never_refused before after place r name joining refused named step some = by refused.why step some
  where
    accepted : register_answer r.past name ≡ Ok r.number
    accepted = ap (register_answer r.past) named ∙ r.free

    refuses : (fault : Refusal) → ((actor : ℕ) → Makes before after Anyhow (entry.Register actor name joining (Err fault))) → ⊥
    refuses fault makes =
        let e : Err fault ≡ register_answer r.past name = (makes 0 r.opening r.past r.stands tt).legal.1 in
        let a = accepted in
        cc

    by : (why : RegisterFault) → IfSome (register_refusal why) (λ reply. (actor : ℕ) → Makes before after Anyhow (entry.Register actor name joining reply))
        → (why ≡ register.Memory → ⊥) → ⊥
    by register.Stopping s m = refuses _ s
    by register.Reserved s m = refuses _ s
    by (register.NameTaken reg) s m = refuses _ s
    by register.TableFull s m = refuses _ s
    by register.Memory s m = m refl
