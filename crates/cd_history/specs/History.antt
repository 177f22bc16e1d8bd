-- The history of events: the list of its entries, the newest first.
use Rattle.cd_history.specs.declared.entry.Entry.TheVariants as entry
use Rattle.cd_history.specs.declared.entry.Entry.{Entry}
use Rattle.cd_value.specs.declared.data.Offered.TheVariants.{Dropped, Kept}
use Rattle.cd_value.specs.declared.data.Offered.{Offered}
use Rattle.cd_value.specs.declared.data.ValueList.{ValueList}
use Rattle.std.specs.List.{filter}
use Rattle.std.specs.Prelude.{Bool, List, Ok, [], false, nat_eq, true, ℕ, ◌++◌, ◌+◌, ◌∷◌}

-- an event of the daemon
abbrev pub Event : Type 0
Event = Entry

abbrev pub History : Type 0
History = List Event

-- P ▸ e is P followed by e
infixl 30 ◌▸◌
pattern abbrev pub ◌▸◌ : {A : Type 0} → List A → A → List A
P ▸ e = e ∷ P

abbrev pub actor_of : Event → ℕ
actor_of (entry.Register a name joining reply) = a
actor_of (entry.Close a name reply) = a
actor_of (entry.Retire a reg reply) = a
actor_of (entry.Accept a lists words now reply) = a
actor_of (entry.Handle a now reply) = a
actor_of (entry.Notify a note reply) = a
actor_of (entry.Tick a now reply) = a
actor_of (entry.Query a name reply) = a
actor_of (entry.FlushOpen a request reply) = a
actor_of (entry.FlushClose a number reply) = a
actor_of (entry.Take a reg call) = a
actor_of (entry.Done a reg answer) = a
actor_of (entry.ReadDue a now reply) = a
actor_of (entry.ReadBack a reg now reading ok) = a
actor_of (entry.Stop a why) = a
actor_of (entry.Look a idle) = a

-- the entries of one actor
abbrev pub mine : ℕ → History → History
mine a H = filter (λ e. nat_eq (actor_of e) a) H

-- how many entries handled a list
abbrev pub handles : History → ℕ
handles [] = 0
handles (P ▸ entry.Handle a now reply) = handles P + 1
handles (P ▸ e) = handles P

abbrev pub is_stopped : History → Bool
is_stopped [] = false
is_stopped (P ▸ entry.Stop a why) = true
is_stopped (P ▸ e) = is_stopped P

-- the lists whose fate is that they were kept, in order
abbrev pub kept_of : List ValueList → List Offered → List ValueList
kept_of (list ∷ lists) (Kept ∷ fates) = list ∷ kept_of lists fates
kept_of (list ∷ lists) (Dropped ∷ fates) = kept_of lists fates
kept_of lists fates = []

-- the lists that were kept in the write queue, in order
abbrev pub kept : History → List ValueList
kept [] = []
kept (P ▸ entry.Accept a lists words now (Ok fates)) = kept P ++ kept_of lists fates
kept (P ▸ e) = kept P
