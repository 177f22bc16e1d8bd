-- The values of a line, and its end.
use Rattle.cd_conf.specs.Blanks.{behind_blanks}
use Rattle.cd_conf.specs.Characters.{after_run, front_run, is_in_word}
use Rattle.cd_conf.specs.Faults.{fault_at}
use Rattle.cd_conf.specs.Numbers.{word_arg}
use Rattle.cd_conf.specs.Position.{Position, at}
use Rattle.cd_conf.specs.Quotes.{quoted_at}
use Rattle.cd_conf.specs.Repeated.{repeated}
use Rattle.cd_conf.specs.declared.fault.ConfFault.{ConfFault}
use Rattle.cd_conf.specs.declared.fault.ConfKind.TheVariants.{Unterminated}
use Rattle.cd_conf.specs.declared.item.Arg.TheVariants.{Words}
use Rattle.cd_conf.specs.declared.item.Arg.{Arg}
use Rattle.cd_conf.specs.declared.runs.Kind.TheVariants.{Word}
use Rattle.cd_reading.specs.First.{◌>>=◌}
use Rattle.std.specs.Prelude.{Err, List, None, Ok, Option, Result, Some, [], if◌then◌else◌, length, suc, ℕ, ◌==◌, ◌∷◌}

-- a quoted string that begins in a line, and the position behind the blanks after it
abbrev pub quoted_arg : ℕ → Option (List ℕ × Position) → Result (Arg × Position) ConfFault
quoted_arg line None = Err (fault_at Unterminated line)
quoted_arg line (Some found) = Ok (Words found.0, behind_blanks found.1)

-- the same of a word without quotes
abbrev pub word_at : Position → Result (Arg × Position) ConfFault
word_at p =
    word_arg p.line (front_run Word p.rest) >>= λ arg.
    Ok (arg, behind_blanks (at p.line (after_run Word p.rest)))

abbrev pub some_value : Arg × Position → Result (Option (List Arg × Position)) ConfFault
some_value v = Ok (Some (v.0 ∷ [], v.1))

-- the value that begins at a position, a quoted string or a word; none where none begins
abbrev pub value_from : ℕ → List ℕ → Result (Option (List Arg × Position)) ConfFault
value_from line [] = Ok None
value_from line (c ∷ cs) =
    if c == 34 then quoted_arg line (quoted_at (at line cs)) >>= some_value
    else (if is_in_word c then word_at (at line (c ∷ cs)) >>= some_value else Ok None)

unfoldable pub value_at : Position → Result (Option (List Arg × Position)) ConfFault
value_at p = value_from p.line p.rest

-- the values from a position on, and the position where no more begins
unfoldable pub values_at : Position → Result (List Arg × Position) ConfFault
values_at p = repeated value_at (suc (length p.rest)) p
