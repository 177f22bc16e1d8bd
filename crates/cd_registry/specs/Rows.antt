-- The registry as contracts see it: a row for each registration, in order of number.
use Rattle.cd_registry.specs.declared.calls.Call.{Call}
use Rattle.cd_registry.specs.declared.member.MemberOf.TheVariants as member
use Rattle.cd_registry.specs.declared.member.MemberOf.{MemberOf}
use Rattle.cd_registry.specs.declared.place.Place.TheVariants.{PlugHome, PlugOut, ProbeHome, ProbeOut, Retired}
use Rattle.cd_registry.specs.declared.place.Place.{Place}
use Rattle.cd_registry.specs.declared.plug.PlugTells.{PlugTells}
use Rattle.cd_registry.specs.declared.probe.ProbeTells.{ProbeTells}
use Rattle.std.specs.List.{enumerate_from}
use Rattle.std.specs.Prelude.{Bool, IsSomeAnd, List, Option, Some, [], bit_and, drop, false, filter, length, map, nat_eq, not, position, slice_get, suc, true, zero, ℕ, ◌&&◌, ◌++◌, ◌==◌, ◌∷◌, ◌≡◌}
use Rattle.std.specs.Str.{bytes_eq}

-- A registration: its name and its kinds of callbacks as bits, whether it is live, where its object is and what that
-- tells at home, and the calls that wait for it, the oldest first.
pub record Row : Type 0 where
  pub name : List ℕ
  pub kinds : ℕ
  pub live : Bool
  pub place : Place PlugTells ProbeTells
  pub waiting : List Call

-- where the object of a member is that comes home
abbrev pub home_of : {P Q : Type 0} → MemberOf P Q → Place P Q
home_of (member.Plug object) = PlugHome object
home_of (member.Probe object) = ProbeHome object

-- one that is read has no kinds
abbrev pub kinds_of : {P Q : Type 0} → MemberOf P Q → ℕ → ℕ
kinds_of (member.Plug object) kinds = kinds
kinds_of (member.Probe object) kinds = 0

-- a new registration of a name, kinds and what the object tells
abbrev pub new_row : List ℕ → ℕ → MemberOf PlugTells ProbeTells → Row
new_row name kinds told = record {
  name = name;
  kinds = kinds_of told kinds;
  live = true;
  place = home_of told;
  waiting = [];
}

-- it is live and has this name
abbrev pub is_live_as : List ℕ → Row → Bool
is_live_as name row = row.live && bytes_eq row.name name

-- it has all of these kinds
abbrev pub has_kinds : ℕ → Row → Bool
has_kinds kinds row = bit_and row.kinds kinds == kinds

abbrev pub is_plug_home : {P Q : Type 0} → Place P Q → Bool
is_plug_home (PlugHome object) = true
is_plug_home (ProbeHome object) = false
is_plug_home (PlugOut actor) = false
is_plug_home (ProbeOut actor) = false
is_plug_home Retired = false

-- a plug-in at home for which a call waits
abbrev pub is_ready : Row → Bool
is_ready row = is_plug_home row.place && not (nat_eq (length row.waiting) 0)

-- the number of the live registration of that name
abbrev pub live_number : List ℕ → List Row → Option ℕ
live_number name rows = position (is_live_as name) rows

-- the same, where it has all of these kinds
abbrev pub live_number_with : ℕ → List ℕ → List Row → Option ℕ
live_number_with kinds name rows = position (λ row. is_live_as name row && has_kinds kinds row) rows

-- how many registrations are live
abbrev pub live_count : List Row → ℕ
live_count rows = length (filter (λ row. row.live) rows)

-- the numbers of the elements that pass a test, in order
abbrev pub numbers_of : {A : Type 0} → (A → Bool) → List A → List ℕ
numbers_of test xs = map (λ numbered. numbered.0) (filter (λ numbered. test numbered.1) (enumerate_from 0 xs))

-- the numbers of the live registrations with all of these kinds, in order
abbrev pub listening : ℕ → List Row → List ℕ
listening kinds rows = numbers_of (λ row. row.live && has_kinds kinds row) rows

-- there is a registration of this number, and it is so
abbrev pub At : List Row → ℕ → (Row → Type 0) → Type 0
At rows reg P = IsSomeAnd (slice_get rows reg) P

abbrev pub IsLive : Row → Type 0
IsLive row = row.live ≡ true

abbrev pub IsReady : Row → Type 0
IsReady row = is_ready row ≡ true

-- a plug-in that tells this is at home, and this is the oldest call that waits for it
pub record IsHomeFor (told : PlugTells) (call : Call) (row : Row) : Type 0 where
  pub home : row.place ≡ PlugHome told
  pub oldest : slice_get row.waiting 0 ≡ Some call

-- what is at home is read
pub record IsProbeHome (row : Row) : Type 0 where
  pub told : ProbeTells
  pub home : row.place ≡ ProbeHome told

-- a plug-in is out for a call
pub record IsPlugOut (row : Row) : Type 0 where
  pub actor : ℕ
  pub out : row.place ≡ PlugOut actor

-- one is out for a reading
pub record IsProbeOut (row : Row) : Type 0 where
  pub actor : ℕ
  pub out : row.place ≡ ProbeOut actor

-- the row of a number is changed, the others stay
abbrev pub with_row : ℕ → (Row → Row) → List Row → List Row
with_row n step [] = []
with_row zero step (row ∷ rows) = step row ∷ rows
with_row (suc n) step (row ∷ rows) = row ∷ with_row n step rows

-- what becomes of a row: a call waits behind the others
abbrev pub after_post : Call → Row → Row
after_post call row = record row { waiting = row.waiting ++ call ∷ [] }

-- the object went out to an actor with the oldest call that waited
abbrev pub after_take : ℕ → Row → Row
after_take actor row = record row { place = PlugOut actor; waiting = drop 1 row.waiting }

-- the object came home, and tells this
abbrev pub after_give : PlugTells → Row → Row
after_give told row = record row { place = PlugHome told }

-- the object went out to an actor for a reading
abbrev pub after_lend : ℕ → Row → Row
after_lend actor row = record row { place = ProbeOut actor }

-- the object came home from a reading, and tells this
abbrev pub after_back : ProbeTells → Row → Row
after_back told row = record row { place = ProbeHome told }

abbrev pub after_close : Row → Row
after_close row = record row { live = false }

-- the object was handed out for good
abbrev pub after_retire : Row → Row
after_retire row = record row { place = Retired }
