-- Laws of the meaning of a line.
use Rattle.cd_reading.specs.Gives.{Gives}
use Rattle.cd_sock.proofs.Fits.{Stands, line_stands}
use Rattle.cd_sock.specs.Faults.{line_fault}
use Rattle.cd_sock.specs.Meaning.{Blank, Flush, GetVal, IsSameButTimes, ListVal, PutVal, Request, at_moment, command_at, is_blank_byte, is_blank_line, list_at, meaning, request_of, request_of_text, without_return, without_times}
use Rattle.cd_sock.specs.Values.{Reading}
use Rattle.cd_sock.specs.declared.command.Command.TheVariants as commands
use Rattle.cd_sock.specs.declared.command.Command.{Command}
use Rattle.cd_sock.specs.declared.fault.LineFault.{LineFault}
use Rattle.cd_sock.specs.declared.lines.TheConstants.{LINE_LIMIT}
use Rattle.cd_value.specs.Identifier.{Fields}
use Rattle.cd_value.specs.declared.data.DataSet.{DataSet}
use Rattle.cd_value.specs.declared.data.ValueList.{ValueList}
use Rattle.std.proofs.Common.{Bool, Err, List, Ok, Option, Result, [], ap, length, map, refl, subst, sym, true, ℕ, ◌∙◌, ◌∷◌, ◌≡◌}
use Rattle.std.proofs.lemmas.Bool.{and_parts}
use Rattle.std.specs.List.{list_all}
use Rattle.std.specs.Prelude.{IfOk, IsOkAnd, IsTrue, nat_le, unwrap_or, ◌↔◌}

-- ---- the moment and the global interval change only times and intervals

module _ (types : List DataSet) (now interval later other : ℕ) (line : List ℕ) where
  same_command : (command : Command) → meaning types now interval line ≡ Ok command → IsOkAnd (meaning types later other line) (IsSameButTimes command)
  same_command command e = by (request_of types line) e
    where
      same_lists : (id : Fields) (one two : ℕ) (own : Option ℕ) (readings : List Reading) → map without_times (map (list_at now one id) readings) ≡ map without_times (map (list_at later two id) readings)
      same_lists id one two own [] = refl
      same_lists id one two own (reading ∷ readings) = ap (λ (lists : List ValueList). without_times (list_at later two id reading) ∷ lists) (same_lists id one two own readings)

      by : (read : Result Request LineFault) → at_moment now interval read ≡ Ok command → IsOkAnd (at_moment later other read) (IsSameButTimes command)
      by (Ok request) e = let is : command_at now interval request ≡ command = cc in subst (λ (c : Command). IsSameButTimes c (command_at later other request)) is (alike request)
        where
          alike : (request : Request) → IsSameButTimes (command_at now interval request) (command_at later other request)
          alike Blank = refl
          alike (PutVal id own readings) = same_lists id (unwrap_or own interval) (unwrap_or own other) own readings
          alike (GetVal id) = refl
          alike ListVal = refl
          alike (Flush request) = refl
      by (Err g) e = absurd cc

pub read_same : (types : List DataSet) (now interval : ℕ) (line : List ℕ) (result : Result Command LineFault) → Gives (λ command. command) line_fault result (meaning types now interval line)
    → IfOk result (λ command. (later other : ℕ) → IsOkAnd (meaning types later other line) (IsSameButTimes command))
read_same types now interval line (Ok command) h = λ later other. same_command types now interval later other line command h
read_same types now interval line (Err f) h = tt

-- ---- blank lines

blank_line : (types : List DataSet) (now interval : ℕ) (line : List ℕ) → is_blank_line line ≡ true → meaning types now interval line ≡ Ok commands.Blank
unfolding request_of request_of_text
blank_line types now interval line e =
    let parts = and_parts (nat_le (length line) LINE_LIMIT) (list_all is_blank_byte (without_return line)) e in
    let short : nat_le (length line) LINE_LIMIT ≡ true = parts.0 in
    let blank : list_all is_blank_byte (without_return line) ≡ true = parts.1 in
    rw (short, blank) refl

blank_only : (types : List DataSet) (now interval : ℕ) (line : List ℕ) → meaning types now interval line ≡ Ok commands.Blank → is_blank_line line ≡ true
blank_only types now interval line e = by (request_of types line) (line_stands types line) e
  where
    by : (read : Result Request LineFault) → IfOk read (Stands types (is_blank_line line ≡ true)) → at_moment now interval read ≡ Ok commands.Blank → is_blank_line line ≡ true
    by (Ok Blank) stands e = stands
    by (Ok (PutVal id own readings)) stands e = cc
    by (Ok (GetVal id)) stands e = cc
    by (Ok ListVal) stands e = cc
    by (Ok (Flush request)) stands e = cc
    by (Err f) stands e = cc

pub is_blank_only : (types : List DataSet) (now interval : ℕ) (line : List ℕ) (result : Bool) → result ≡ is_blank_line line → IsTrue result ↔ (meaning types now interval line ≡ Ok commands.Blank)
is_blank_only types now interval line result e = (λ h. blank_line types now interval line (sym e ∙ h), λ h. e ∙ blank_only types now interval line h)
