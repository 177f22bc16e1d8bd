-- Faults and their lines.
use Rattle.cd_conf.specs.declared.fault.ConfFault.{ConfFault}
use Rattle.cd_conf.specs.declared.fault.ConfKind.TheVariants.{Memory, ReadFault, TooLong}
use Rattle.cd_conf.specs.declared.fault.ConfKind.{ConfKind}
use Rattle.cd_io.specs.declared.source.ReadAllFault.TheVariants as source
use Rattle.cd_io.specs.declared.source.ReadAllFault.{ReadAllFault}
use Rattle.std.specs.Prelude.{Bool, Err, None, Ok, Option, Result, Some, false, if◌then◌else◌, true, ℕ, ◌==◌}

abbrev pub fault_at : ConfKind → ℕ → ConfFault
fault_at kind line = record { kind = kind; line = line }

abbrev pub unless_memory : ConfKind → ConfFault → Option ConfFault
unless_memory Memory fault = if fault.line == 0 then None else Some fault
unless_memory _ fault = Some fault

-- the fault of an error, and none for want of memory, which has the line 0
abbrev pub conf_fault : ConfFault → Option ConfFault
conf_fault fault = unless_memory fault.kind fault

-- a source that failed
abbrev pub is_read_kind : ConfKind → Bool
is_read_kind ReadFault = true
is_read_kind _ = false

-- the fault of a text, and none for want of memory or a source that failed
abbrev pub text_fault : ConfFault → Option ConfFault
text_fault fault = if is_read_kind fault.kind then None else conf_fault fault

-- a source failed
abbrev pub is_read_fault : {A : Type 0} → Result A ConfFault → Bool
is_read_fault (Ok x) = false
is_read_fault (Err fault) = is_read_kind fault.kind

-- the fault of a source that wasn't read to its end
abbrev pub source_kind : ReadAllFault → ConfKind
source_kind source.Failed = ReadFault
source_kind source.TooLong = TooLong
source_kind source.Memory = Memory

abbrev pub source_fault : ReadAllFault → ConfFault
source_fault fault = fault_at (source_kind fault) 0
