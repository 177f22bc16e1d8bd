-- Faults and their lines.
use Rattle.cd_io.specs.declared.source.ReadAllFault.TheVariants as source
use Rattle.cd_io.specs.declared.source.ReadAllFault.{ReadAllFault}
use Rattle.cd_types.specs.declared.fault.TypesFault.{TypesFault}
use Rattle.cd_types.specs.declared.fault.TypesKind.TheVariants.{Memory, ReadFault, TooLong}
use Rattle.cd_types.specs.declared.fault.TypesKind.{TypesKind}
use Rattle.std.specs.Prelude.{Bool, Err, None, Ok, Option, Result, Some, false, if◌then◌else◌, true, ℕ, ◌==◌}

abbrev pub fault_at : TypesKind → ℕ → TypesFault
fault_at kind line = record { kind = kind; line = line }

-- what was read of a line, with the line at its fault
abbrev pub at_line : {A : Type 0} → ℕ → Result A TypesKind → Result A TypesFault
at_line line (Ok x) = Ok x
at_line line (Err kind) = Err (fault_at kind line)

-- the fault of a line, and none for want of memory
abbrev pub kind_fault : TypesKind → Option TypesKind
kind_fault Memory = None
kind_fault kind = Some kind

abbrev pub unless_memory : TypesKind → TypesFault → Option TypesFault
unless_memory Memory fault = if fault.line == 0 then None else Some fault
unless_memory _ fault = Some fault

-- the fault of an error, and none for want of memory, which has the line 0
abbrev pub types_fault : TypesFault → Option TypesFault
types_fault fault = unless_memory fault.kind fault

-- a fault that is at no line: that of a source, that of a long text, and want of memory
abbrev pub has_no_line : TypesKind → Bool
has_no_line ReadFault = true
has_no_line TooLong = true
has_no_line Memory = true
has_no_line _ = false

-- a source that failed
abbrev pub is_read_kind : TypesKind → Bool
is_read_kind ReadFault = true
is_read_kind _ = false

-- the fault of a text, and none for want of memory or a source that failed
abbrev pub text_fault : TypesFault → Option TypesFault
text_fault fault = if is_read_kind fault.kind then None else types_fault fault

-- a source failed
abbrev pub is_read_fault : {A : Type 0} → Result A TypesFault → Bool
is_read_fault (Ok x) = false
is_read_fault (Err fault) = is_read_kind fault.kind

-- the fault of a source that wasn't read to its end
abbrev pub source_kind : ReadAllFault → TypesKind
source_kind source.Failed = ReadFault
source_kind source.TooLong = TooLong
source_kind source.Memory = Memory

abbrev pub source_fault : ReadAllFault → TypesFault
source_fault fault = fault_at (source_kind fault) 0
