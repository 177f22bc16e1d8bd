-- The faults of a line that those of its words and of its identifier are.
use Rattle.cd_sock.specs.declared.fault.LineFault.TheVariants.{BadIdentifier, Memory, UnterminatedQuote}
use Rattle.cd_sock.specs.declared.fault.LineFault.{LineFault}
use Rattle.cd_text.specs.declared.word.WordFault.TheVariants as words
use Rattle.cd_text.specs.declared.word.WordFault.{WordFault}
use Rattle.cd_value.specs.declared.identifier.IdFault.TheVariants as identifiers
use Rattle.cd_value.specs.declared.identifier.IdFault.{IdFault}
use Rattle.std.specs.Prelude.{Err, None, Ok, Option, Result, Some}

abbrev pub of_words : WordFault → LineFault
of_words words.Unterminated = UnterminatedQuote
of_words words.Memory = Memory

abbrev pub of_identifier : IdFault → LineFault
of_identifier identifiers.BadIdentifier = BadIdentifier
of_identifier identifiers.FieldTooLong = BadIdentifier
of_identifier identifiers.Memory = Memory

-- what is read, with its fault as one of a line
abbrev pub with_fault : {A E F : Type 0} → (E → F) → Result A E → Result A F
with_fault f (Ok x) = Ok x
with_fault f (Err e) = Err (f e)

-- the value, or the fault where there is none
abbrev pub need : {A : Type 0} → LineFault → Option A → Result A LineFault
need missing None = Err missing
need missing (Some x) = Ok x

-- the fault of an error, and none for want of memory
abbrev pub line_fault : LineFault → Option LineFault
line_fault Memory = None
line_fault other = Some other
