-- Plug-ins that are out of a core for calls, so that each may be given home.
use Rattle.cd_core.specs.Objects.{IsLent}
use Rattle.cd_core.specs.Seen.{CoreSeen, seen}
use Rattle.cd_core.specs.Stands.{Stands}
use Rattle.cd_core_walk.specs.declared.real.Real.{Real}
use Rattle.cd_daemon.specs.declared.Opening.{Opening}
use Rattle.cd_history.specs.History.{History}
use Rattle.cd_registry.specs.declared.lease.LeaseOf.{LeaseOf}
use Rattle.cd_registry.specs.declared.plug.PlugTells.{PlugTells}
use Rattle.cd_registry.specs.declared.probe.ProbeTells.{ProbeTells}
use Rattle.std.specs.List.{All}
use Rattle.std.specs.Prelude.{List, ℕ}

-- it is out with some actor, for its call
abbrev pub IsOut : {P : Type 0} → (P → PlugTells) → History → LeaseOf P → Type 0
IsOut tells H lease = (actor : ℕ) × IsLent H actor lease.reg lease.call (tells lease.object)

-- the core stands for some history, after which each of these is out
pub record AreOut {P : Type 0} (tells : P → PlugTells) (core : CoreSeen) (leases : List (LeaseOf P)) : Type 0 where
  pub K : Opening
  pub H : History
  pub stands : Stands K core H
  pub out : All (IsOut tells H) leases

-- so it is with those that are kept beside a core
abbrev pub HasOut : {P Q : Type 0} → (P → PlugTells) → (Q → ProbeTells) → Real P Q → Type 0
HasOut plug probe real = AreOut plug (seen plug probe real.core) real.out.items
