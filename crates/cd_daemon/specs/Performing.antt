-- What performing the actions of a filter chain does: the calls that are made, and the writers that are skipped.
use Rattle.cd_chain.specs.declared.data.Action.TheVariants as actions
use Rattle.cd_chain.specs.declared.data.Action.{Action}
use Rattle.cd_history.specs.Registrations.{Registration, has_kind, is_text, listeners}
use Rattle.cd_registry.specs.declared.calls.Call.TheVariants as calls
use Rattle.cd_registry.specs.declared.calls.Call.{Call}
use Rattle.cd_registry.specs.declared.kinds.TheConstants.Kinds.{WRITE}
use Rattle.cd_value.specs.declared.data.ValueList.{ValueList}
use Rattle.std.specs.List.{filter, find, fold}
use Rattle.std.specs.Option.{option_map}
use Rattle.std.specs.Prelude.{List, None, Option, Some, [], map, not, ℕ, ◌&&◌, ◌++◌, ◌+◌, ◌∷◌}

-- a call that is made to a registration
pub record Post : Type 0 where
  pub reg : ℕ
  pub call : Call

abbrev pub to_each : List ℕ → Call → List Post
to_each regs call = map (λ r. record { reg = r; call = call }) regs

-- the calls that were made, in order, and how many writers that were named were skipped
pub record Effects : Type 0 where
  pub posts : List Post
  pub skipped : ℕ

abbrev pub nothing : Effects
nothing = record { posts = []; skipped = 0 }

-- of the live registrations the one of a name, where it is a writer
abbrev pub writer_named : List Registration → List ℕ → Option ℕ
writer_named regs name =
    option_map (λ g. g.number) (find (λ g. is_text g.name name && has_kind WRITE g) regs)

-- each name once, where it first stands
abbrev pub each_once : List (List ℕ) → List (List ℕ)
each_once [] = []
each_once (name ∷ names) = name ∷ filter (λ other. not (is_text other name)) (each_once names)

-- a list goes to a writer that was named; where there is none of the name, it is skipped and counted
abbrev pub write_to : ValueList → Effects → Option ℕ → Effects
write_to list done None = record done { skipped = done.skipped + 1 }
write_to list done (Some r) = record done { posts = done.posts ++ record { reg = r; call = calls.Write list } ∷ [] }

-- A write goes to all live writers in order, or, where names are given, to each of these once, in the order given.
-- A notification makes no call yet.
abbrev pub perform : List Registration → Effects → Action → Effects
perform regs done (actions.Write [] list) =
    record done { posts = done.posts ++ to_each (listeners WRITE regs) (calls.Write list) }
perform regs done (actions.Write (name ∷ names) list) =
    fold (write_to list) done (map (writer_named regs) (each_once (name ∷ names)))
perform regs done (actions.Notify note) = done

-- each action is performed, in order
abbrev pub perform_all : List Registration → List Action → Effects → Effects
perform_all regs actions done = fold (perform regs) done actions
