-- The replies that entries have, by what the calls of the core answer. Want of memory is no reply.
use Rattle.cd_core.specs.declared.faults.AcceptFault.TheVariants as accept
use Rattle.cd_core.specs.declared.faults.AcceptFault.{AcceptFault}
use Rattle.cd_core.specs.declared.faults.FlushEnd.TheVariants as unfinished
use Rattle.cd_core.specs.declared.faults.FlushEnd.{FlushEnd}
use Rattle.cd_core.specs.declared.faults.FlushFault.TheVariants as flush
use Rattle.cd_core.specs.declared.faults.FlushFault.{FlushFault}
use Rattle.cd_core.specs.declared.faults.Got.{Got}
use Rattle.cd_core.specs.declared.faults.QueryFault.TheVariants as query
use Rattle.cd_core.specs.declared.faults.QueryFault.{QueryFault}
use Rattle.cd_core.specs.declared.faults.RegisterFault.TheVariants as register
use Rattle.cd_core.specs.declared.faults.RegisterFault.{RegisterFault}
use Rattle.cd_history.specs.declared.entry.FlushEnd.TheVariants as ends
use Rattle.cd_history.specs.declared.entry.FlushEnd.{FlushEnd as FlushReply}
use Rattle.cd_history.specs.declared.entry.Found.TheVariants as found
use Rattle.cd_history.specs.declared.entry.Found.{Found}
use Rattle.cd_history.specs.declared.entry.RegisterFault.TheVariants as refusal
use Rattle.cd_history.specs.declared.entry.RegisterFault.{RegisterFault as Refusal}
use Rattle.cd_history.specs.declared.entry.Stopping.{Stopping}
use Rattle.cd_registry.specs.declared.faults.AddFault.TheVariants as add
use Rattle.cd_registry.specs.declared.faults.AddFault.{AddFault}
use Rattle.cd_registry.specs.declared.member.MemberOf.TheVariants as member
use Rattle.cd_registry.specs.declared.member.MemberOf.{MemberOf}
use Rattle.cd_value.specs.declared.data.Offered.{Offered}
use Rattle.cd_value.specs.declared.memory.Refused.{Refused}
use Rattle.std.specs.Prelude.{Err, List, None, Ok, Option, Result, Some, ℕ}

abbrev pub register_refusal : RegisterFault → Option (Result ℕ Refusal)
register_refusal register.Stopping = Some (Err refusal.Stopping)
register_refusal register.Reserved = Some (Err refusal.Reserved)
register_refusal (register.NameTaken reg) = Some (Err (refusal.NameTaken reg))
register_refusal register.TableFull = Some (Err refusal.TableFull)
register_refusal register.Memory = None

abbrev pub register_reply : {A : Type 0} → Result ℕ (Refused A RegisterFault) → Option (Result ℕ Refusal)
register_reply (Ok reg) = Some (Ok reg)
register_reply (Err refused) = register_refusal refused.why

abbrev pub close_reply : {E : Type 0} → Result ℕ E → Option ℕ
close_reply (Ok reg) = Some reg
close_reply (Err why) = None

abbrev pub retire_reply : {A E : Type 0} → Result A E → Result (Unit {0}) E
retire_reply (Ok member) = Ok tt
retire_reply (Err why) = Err why

abbrev pub accept_refusal : AcceptFault → Option (Result (List Offered) Stopping)
accept_refusal accept.Stopping = Some (Err (record {}))
accept_refusal accept.Memory = None

abbrev pub accept_reply : {A : Type 0} → Result (List Offered) (Refused A AcceptFault) → Option (Result (List Offered) Stopping)
accept_reply (Ok fates) = Some (Ok fates)
accept_reply (Err refused) = accept_refusal refused.why

abbrev pub query_refusal : QueryFault → Option Found
query_refusal query.NoSuchValue = Some found.NoSuchValue
query_refusal query.Memory = None

abbrev pub get_reply : Result Got QueryFault → Option Found
get_reply (Ok got) = Some (found.Got got.names got.rates)
get_reply (Err why) = query_refusal why

abbrev pub begin_refusal : FlushFault → Option (Result ℕ Stopping)
begin_refusal flush.Stopping = Some (Err (record {}))
begin_refusal flush.Memory = None

abbrev pub begin_reply : Result ℕ FlushFault → Option (Result ℕ Stopping)
begin_reply (Ok number) = Some (Ok number)
begin_reply (Err why) = begin_refusal why

abbrev pub end_refusal : FlushEnd → FlushReply
end_refusal (unfinished.NotYet calls) = ends.NotYet calls
end_refusal unfinished.NoSuchFlush = ends.NoSuchFlush

abbrev pub end_reply : Result (ℕ × ℕ) FlushEnd → FlushReply
end_reply (Ok counts) = ends.Counts counts.0 counts.1
end_reply (Err why) = end_refusal why

-- why the registry doesn't add
abbrev pub as_register_fault : AddFault → RegisterFault
as_register_fault add.Reserved = register.Reserved
as_register_fault (add.NameTaken reg) = register.NameTaken reg
as_register_fault add.TableFull = register.TableFull
as_register_fault add.Memory = register.Memory

abbrev pub IsPlugMember : {P Q : Type 0} → MemberOf P Q → Type 0
IsPlugMember (member.Plug object) = Unit {0}
IsPlugMember (member.Probe object) = ⊥
