-- How calls are posted: words of private contracts and of proofs. No public clause cites them.
use Rattle.cd_daemon.specs.Performing.{Effects, Post, writer_named}
use Rattle.cd_history.specs.Registrations.{Registration, listeners}
use Rattle.cd_registry.specs.Registry.{rows, spare_of}
use Rattle.cd_registry.specs.Rows.{At, IsLive, Row, after_post, has_kinds, is_live_as, with_row}
use Rattle.cd_registry.specs.declared.calls.Call.TheVariants as calls
use Rattle.cd_registry.specs.declared.calls.Call.{Call}
use Rattle.cd_registry.specs.declared.kinds.TheConstants.Kinds.{WRITE}
use Rattle.cd_registry.specs.declared.plug.PlugTells.{PlugTells}
use Rattle.cd_registry.specs.declared.probe.ProbeTells.{ProbeTells}
use Rattle.cd_registry.specs.declared.registry.Registry.{Registry}
use Rattle.cd_value.specs.declared.data.ValueList.{ValueList}
use Rattle.std.specs.List.{filter, find, list_any}
use Rattle.std.specs.Prelude.{Bool, List, None, Option, Some, [], false, if◌then◌else◌, length, nat_eq, nat_lt, slice_get, true, ℕ, ◌&&◌, ◌++◌, ◌∷◌, ◌≡◌, ◌≤◌}

-- the row of this number is a live one of that name, and is called with lists
abbrev pub is_writer : List Row → List ℕ → ℕ → Bool
is_writer rows name r =
    elim (slice_get rows r) [ None ↦ false | Some row ↦ is_live_as name row && has_kinds WRITE.0 row ]

-- the writers are those of some live registrations, and by the rows it is found among them who has a name
pub record Finds (regs : List Registration) (writers : List ℕ) (rows : List Row) : Type 0 where
  pub all : writers ≡ listeners WRITE regs
  pub named : (name : List ℕ) → find (is_writer rows name) writers ≡ writer_named regs name

-- a write of a list to a registration, where there is one
abbrev pub write_if_any : ValueList → Option ℕ → List Post
write_if_any list None = []
write_if_any list (Some r) = record { reg = r; call = calls.Write list } ∷ []

-- calls and skipped writers with such a write behind
abbrev pub with_write : ValueList → Option ℕ → Effects → Effects
with_write list to done = record done { posts = done.posts ++ write_if_any list to }

-- a call waits for a live registration behind the others
abbrev pub after_post_live : Call → Row → Row
after_post_live call row = if row.live then after_post call row else row

-- the rows once calls were posted in order
abbrev pub posted_live : List Post → List Row → List Row
posted_live [] rows = rows
posted_live (p ∷ posts) rows = posted_live posts (with_row p.reg (after_post_live p.call) rows)

-- one of the calls goes to r
abbrev pub IsAmong : List Post → ℕ → Type 0
IsAmong posts r = list_any (λ p. nat_eq p.reg r) posts ≡ true

-- how many of the calls go to r
abbrev pub count_to : ℕ → List Post → ℕ
count_to r posts = length (filter (λ p. nat_eq p.reg r) posts)

-- a registration has a greater number than another, where there is another
abbrev pub is_above : ℕ → Option ℕ → Bool
is_above r None = true
is_above r (Some other) = nat_lt other r

-- no registration is called twice
abbrev pub AreToEachOnce : List Post → Type 0
AreToEachOnce posts = (r : ℕ) → count_to r posts ≤ 1

-- there is room at each live registration for those of the calls that go to it
abbrev pub HasRoom : {P Q : Type 0} → (P → PlugTells) → (Q → ProbeTells) → List Post → Registry P Q → Type 0
HasRoom plug probe posts registry =
    (r : ℕ) → At (rows plug probe registry) r IsLive → count_to r posts ≤ spare_of registry r
