-- A core that stands for a history in which nobody is out.
use Rattle.cd_core.specs.Seen.{CoreSeen}
use Rattle.cd_core.specs.Stands.{Stands}
use Rattle.cd_daemon.specs.declared.Opening.{Opening}
use Rattle.cd_history.specs.History.{History, is_stopped}
use Rattle.cd_history.specs.Leases.{taken_by}
use Rattle.cd_history.specs.Registrations.{is_closed, is_retired, registrations}
use Rattle.std.specs.Prelude.{Bool, None, ℕ, ◌≡◌}

-- the core stands for a history in which all objects are at home, and the daemon stopped or not
pub record RunsOn (K : Opening) (stopped : Bool) (core : CoreSeen) (P : History) : Type 0 where
  pub stands : Stands K core P
  pub home : (r : ℕ) → taken_by r P ≡ None
  pub is_so : is_stopped P ≡ stopped

-- between two histories nobody was registered, closed or handed out
pub record IsLeftAlone (P Q : History) : Type 0 where
  pub registered : registrations Q ≡ registrations P
  pub closed : (r : ℕ) → is_closed r Q ≡ is_closed r P
  pub retired : (r : ℕ) → is_retired r Q ≡ is_retired r P

-- the core runs on, after some history
pub record GoesOn (K : Opening) (stopped : Bool) (P : History) (core : CoreSeen) : Type 0 where
  pub past : History
  pub runs : RunsOn K stopped core past
  pub left : IsLeftAlone P past

-- Whatever came between: where the one core runs, the other runs on, with the same registrations.
abbrev pub Keeps : CoreSeen → CoreSeen → Type 0
Keeps old new = (K : Opening) (stopped : Bool) (P : History) → RunsOn K stopped old P → GoesOn K stopped P new
