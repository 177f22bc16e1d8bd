-- Steps of a core, one after another.
use Rattle.cd_daemon.specs.Answers.{is_idle}
use Rattle.cd_daemon.specs.Flushes.{flush_begun_by}
use Rattle.cd_core.specs.Objects.{IsEntered}
use Rattle.cd_core.specs.Seen.{CoreSeen}
use Rattle.cd_core.specs.Stands.{Makes}
use Rattle.cd_daemon.specs.declared.Opening.{Opening}
use Rattle.cd_history.specs.History.{Event, History, ◌▸◌}
use Rattle.cd_history.specs.Registrations.{closed_by}
use Rattle.cd_history.specs.declared.entry.Entry.TheVariants as entry
use Rattle.cd_registry.specs.declared.calls.Call.{Call}
use Rattle.cd_registry.specs.declared.plug.PlugTells.{PlugTells}
use Rattle.std.specs.Prelude.{Bool, IfSome, IsTrue, List, None, Option, Some, [], false, nat_eq, true, ℕ, ◌&&◌, ◌∷◌, ◌≡◌}

-- a plug-in that came home from a call
pub record CameHome : Type 0 where
  pub call : Call
  pub told : PlugTells

-- a step: its event, who came home in it, and the core then
pub record Step : Type 0 where
  pub event : Event
  pub home : Option CameHome
  pub after : CoreSeen

-- Whoever makes the event may do so: the object of a registration goes to the one who closed it, and the counts of a flush
-- to the one who began it; a plug-in comes home from the one who took it, entered once with its call; and who looks
-- sees no core idle that isn't.
abbrev pub May : Event → Option CameHome → Opening → History → Type 0
May (entry.Retire a r reply) home K P = IfSome (closed_by r P) (λ closer. closer ≡ a)
May (entry.FlushClose a f reply) home K P = IfSome (flush_begun_by f P) (λ beginner. beginner ≡ a)
May (entry.Done a r answer) (Some home) K P = IsEntered P a r home.call answer home.told
May (entry.Done a r answer) None K P = ⊥
May (entry.Look a idle) home K P = idle ≡ true → IsTrue (is_idle K P)
May e home K P = Unit {0}

-- each step is what a method of the core says of it
abbrev pub AreSteps : CoreSeen → List Step → Type 0
AreSteps core [] = Unit {0}
AreSteps core (step ∷ steps) = Makes core step.after (May step.event step.home) step.event × AreSteps step.after steps

-- each is made by somebody who may
abbrev pub AllMay : Opening → History → List Step → Type 0
AllMay K P [] = Unit {0}
AllMay K P (step ∷ steps) = May step.event step.home K P × AllMay K (P ▸ step.event) steps

-- the core after the steps, and the history
abbrev pub core_after : CoreSeen → List Step → CoreSeen
core_after core [] = core
core_after core (step ∷ steps) = core_after step.after steps

abbrev pub history_after : History → List Step → History
history_after P [] = P
history_after P (step ∷ steps) = history_after (P ▸ step.event) steps

-- it brings the object of r home
abbrev pub is_home_of : ℕ → Event → Bool
is_home_of r (entry.Done a reg answer) = nat_eq reg r
is_home_of r e = false

-- .. and the actor does so
abbrev pub is_brought_home_by : ℕ → ℕ → Event → Bool
is_brought_home_by actor r (entry.Done a reg answer) = nat_eq a actor && nat_eq reg r
is_brought_home_by actor r e = false
