-- A line is read by types and an interval that are those in force.
use Rattle.cd_reading.specs.Gives.{Gives, Refuses}
use Rattle.cd_sock.specs.Faults.{line_fault}
use Rattle.cd_sock.specs.Meaning.{IsSameButTimes, ListsFit, meaning}
use Rattle.cd_sock.specs.declared.command.Command.{Command}
use Rattle.cd_sock.specs.declared.fault.LineFault.{LineFault}
use Rattle.cd_value.specs.declared.data.DataSet.{DataSet}
use Rattle.std.proofs.Common.{IfErr, IfOk, List, Result, subst, ℕ, ◌≡◌}
use Rattle.std.specs.Prelude.{IsOkAnd}

module _ (r : Result Command LineFault) (read types : List DataSet) (line : List ℕ) (known : read ≡ types) where
  pub meaning_as : (now given interval : ℕ) → given ≡ interval
      → Gives (λ (command : Command). command) line_fault r (meaning read now given line) → Gives (λ (command : Command). command) line_fault r (meaning types now interval line)
  meaning_as now given interval global is =
      let T : List DataSet → Type 0 = λ sets. Gives (λ (command : Command). command) line_fault r (meaning sets now given line) in
      let I : ℕ → Type 0 = λ own. Gives (λ (command : Command). command) line_fault r (meaning types now own line) in
      subst I global (subst T known is)

  pub fault_as : IfErr r (λ fault. (later other : ℕ) → Refuses (line_fault fault) (meaning read later other line)) → IfErr r (λ fault. (later other : ℕ) → Refuses (line_fault fault) (meaning types later other line))
  fault_as is = let T : List DataSet → Type 0 = λ sets. IfErr r (λ fault. (later other : ℕ) → Refuses (line_fault fault) (meaning sets later other line)) in subst T known is

  pub command_as : IfOk r (λ command. (later other : ℕ) → IsOkAnd (meaning read later other line) (IsSameButTimes command))
      → IfOk r (λ command. (later other : ℕ) → IsOkAnd (meaning types later other line) (IsSameButTimes command))
  command_as is = let T : List DataSet → Type 0 = λ sets. IfOk r (λ command. (later other : ℕ) → IsOkAnd (meaning sets later other line) (IsSameButTimes command)) in subst T known is

  pub fits_as : IfOk r (λ command. ListsFit read command) → IfOk r (λ command. ListsFit types command)
  fits_as is = let T : List DataSet → Type 0 = λ sets. IfOk r (λ command. ListsFit sets command) in subst T known is
