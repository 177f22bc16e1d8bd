-- Which calls were taken and answered.
use Rattle.cd_history.specs.History.{History, ◌▸◌}
use Rattle.cd_history.specs.Registrations.{is_text, registrations}
use Rattle.cd_history.specs.declared.entry.Entry.TheVariants as entry
use Rattle.cd_registry.specs.declared.calls.Answer.{Answer}
use Rattle.cd_registry.specs.declared.calls.AnsweredCall.{AnsweredCall}
use Rattle.cd_registry.specs.declared.calls.Call.{Call}
use Rattle.std.specs.List.{filter, flat_map}
use Rattle.std.specs.Prelude.{List, None, Option, Some, [], if◌then◌else◌, nat_eq, ℕ, ◌++◌, ◌+◌, ◌∷◌}

-- how many calls of r were taken
abbrev pub takes : ℕ → History → ℕ
takes r [] = 0
takes r (P ▸ entry.Take a reg call) = if nat_eq reg r then takes r P + 1 else takes r P
takes r (P ▸ e) = takes r P

-- the answers to the calls of r, in order
abbrev pub answers_to : ℕ → History → List Answer
answers_to r [] = []
answers_to r (P ▸ entry.Done a reg answer) = if nat_eq reg r then answers_to r P ++ answer ∷ [] else answers_to r P
answers_to r (P ▸ e) = answers_to r P

-- who has the object of r for a call
abbrev pub taken_by : ℕ → History → Option ℕ
taken_by r [] = None
taken_by r (P ▸ entry.Take a reg call) = if nat_eq reg r then Some a else taken_by r P
taken_by r (P ▸ entry.Done a reg answer) = if nat_eq reg r then None else taken_by r P
taken_by r (P ▸ e) = taken_by r P

-- the call for which the object of r is out
abbrev pub call_out : ℕ → History → Option Call
call_out r [] = None
call_out r (P ▸ entry.Take a reg call) = if nat_eq reg r then Some call else call_out r P
call_out r (P ▸ entry.Done a reg answer) = if nat_eq reg r then None else call_out r P
call_out r (P ▸ e) = call_out r P

-- a call that was out, with its answer
abbrev pub answered_one : Option Call → Answer → List AnsweredCall
answered_one None answer = []
answered_one (Some call) answer = record { call = call; answer = answer } ∷ []

-- the calls of r that were taken and answered, each with its answer, in order
abbrev pub answered : ℕ → History → List AnsweredCall
answered r [] = []
answered r (P ▸ entry.Done a reg answer) =
    if nat_eq reg r then answered r P ++ answered_one (call_out r P) answer else answered r P
answered r (P ▸ e) = answered r P

-- those of all registrations of a name, in order
abbrev pub answered_as : List ℕ → History → List AnsweredCall
answered_as name P = flat_map (λ g. answered g.number P) (filter (λ g. is_text g.name name) (registrations P))
