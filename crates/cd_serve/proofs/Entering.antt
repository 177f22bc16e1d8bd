-- A plug-in is taken for a call, entered with it, and brought home.
use Rattle.cd_core.specs.Objects.{IsEntered, IsLent}
use Rattle.cd_core.specs.Seen.{CoreSeen}
use Rattle.cd_core.specs.Stands.{Anyhow, Makes, Stands}
use Rattle.cd_daemon.specs.declared.Opening.{Opening}
use Rattle.cd_history.specs.History.{History, ◌▸◌}
use Rattle.cd_history.specs.declared.entry.Entry.TheVariants as entry
use Rattle.cd_registry.specs.Told.{told_after}
use Rattle.cd_registry.specs.declared.calls.Answer.{Answer}
use Rattle.cd_registry.specs.declared.calls.Call.{Call}
use Rattle.cd_registry.specs.declared.plug.PlugTells.{PlugTells}
use Rattle.cd_serve.specs.Working.Outside.{WasCalled}
use Rattle.std.proofs.Common.{ℕ, ◌≡◌}

pub was_called : (old mid new : CoreSeen) (reg : ℕ) (call : Call) (answer : Answer) (before after : PlugTells)
    → Makes old mid Anyhow (entry.Take 0 reg call)
    → ((K : Opening) (H : History) → Stands K old H → IsLent (H ▸ entry.Take 0 reg call) 0 reg call before)
    → after ≡ told_after call answer before
    → ((actor : ℕ) → Makes mid new (λ K H. IsEntered H actor reg call answer after) (entry.Done actor reg answer))
    → WasCalled answer old new
was_called old mid new reg call answer before after taken lent entered done K P stands =
    let out : Stands K mid (P ▸ entry.Take 0 reg call) = taken K P stands tt in
    record {
      reg = reg;
      call = call;
      was_ready = out.legal.1.0;
      its_call = out.legal.1.1;
      stands = done 0 K (P ▸ entry.Take 0 reg call) out (record { before = before; lent = lent K P stands; tells = entered });
    }
