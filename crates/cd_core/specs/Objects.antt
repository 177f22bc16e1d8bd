-- Where the objects of registrations are after a history, and what they tell.
use Rattle.cd_history.specs.History.{History}
use Rattle.cd_history.specs.Leases.{answered, call_out, taken_by}
use Rattle.cd_history.specs.Registrations.{Registration, is_retired, registrations}
use Rattle.cd_history.specs.declared.entry.Joining.TheVariants.{Plug, Probe}
use Rattle.cd_history.specs.declared.entry.Joining.{Joining}
use Rattle.cd_registry.specs.Told.{told_after, told_after_all}
use Rattle.cd_registry.specs.declared.calls.AnsweredCall.{AnsweredCall}
use Rattle.cd_registry.specs.declared.calls.Answer.{Answer}
use Rattle.cd_registry.specs.declared.calls.Call.{Call}
use Rattle.cd_registry.specs.declared.place.Place.TheVariants.{PlugHome, PlugOut, ProbeHome, Retired}
use Rattle.cd_registry.specs.declared.place.Place.{Place}
use Rattle.cd_registry.specs.declared.plug.PlugTells.{PlugTells}
use Rattle.cd_registry.specs.declared.probe.ProbeTells.{ProbeTells}
use Rattle.std.specs.Prelude.{Bool, List, None, Option, Some, false, slice_get, true, ℕ, ◌≡◌}

-- an object at home that told something when it was registered: a plug-in tells besides its calls and answers
abbrev pub home_with : Joining → List AnsweredCall → Place PlugTells ProbeTells
home_with (Plug kinds config told) calls = PlugHome (told_after_all calls told)
home_with (Probe interval now told) calls = ProbeHome told

-- where the object of a registration is at home
abbrev pub home_after : History → Registration → Place PlugTells ProbeTells
home_after P g = home_with g.joining (answered g.number P)

-- unless it was handed out for good it is with the one who took it for a call, or else at home
abbrev pub place_by : Bool → Option ℕ → Place PlugTells ProbeTells → Place PlugTells ProbeTells
place_by true taken home = Retired
place_by false (Some actor) home = PlugOut actor
place_by false None home = home

abbrev pub place_after : History → Registration → Place PlugTells ProbeTells
place_after P g = place_by (is_retired g.number P) (taken_by g.number P) (home_after P g)

-- an object that is handed out of the core tells what that of the registration does at home
pub record TellsHome (P : History) (reg : ℕ) (home : Place PlugTells ProbeTells) : Type 0 where
  pub registration : Registration
  pub registered : slice_get (registrations P) reg ≡ Some registration
  pub tells : home ≡ home_after P registration

-- a plug-in is out with an actor for this call, and tells what it told at home
pub record IsLent (P : History) (actor reg : ℕ) (call : Call) (told : PlugTells) : Type 0 where
  pub with_actor : taken_by reg P ≡ Some actor
  pub out_for : call_out reg P ≡ Some call
  pub told_home : TellsHome P reg (PlugHome told)

-- .. and was entered with it: it tells the call with its answer besides
pub record IsEntered (P : History) (actor reg : ℕ) (call : Call) (answer : Answer) (told : PlugTells) : Type 0 where
  pub before : PlugTells
  pub lent : IsLent P actor reg call before
  pub tells : told ≡ told_after call answer before
