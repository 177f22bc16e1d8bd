-- Who is registered.
use Rattle.cd_history.specs.History.{History, ◌▸◌}
use Rattle.cd_history.specs.declared.entry.Entry.TheVariants as entry
use Rattle.cd_history.specs.declared.entry.Joining.TheVariants.{Plug, Probe}
use Rattle.cd_history.specs.declared.entry.Joining.{Joining}
use Rattle.cd_registry.specs.declared.kinds.Kinds.{Kinds}
use Rattle.std.specs.List.{filter, find}
use Rattle.std.specs.Option.{option_map}
use Rattle.std.specs.Prelude.{Bool, List, None, Ok, Option, Some, [], bit_and, false, if◌then◌else◌, length, map, nat_eq, not, true, ℕ, ◌++◌, ◌==◌, ◌||◌, ◌∷◌}
use Rattle.std.specs.Str.{bytes_eq}

-- two texts have the same bytes
abbrev pub is_text : List ℕ → List ℕ → Bool
is_text = bytes_eq

pub record Registration : Type 0 where
  pub number : ℕ
  pub name : List ℕ
  pub joining : Joining

-- the registrations in order; each has the count of those before it as its number
abbrev pub registrations : History → List Registration
registrations [] = []
registrations (P ▸ entry.Register a name joining (Ok n)) =
    registrations P ++ record { number = length (registrations P); name = name; joining = joining } ∷ []
registrations (P ▸ e) = registrations P

abbrev pub is_closed : ℕ → History → Bool
is_closed r [] = false
is_closed r (P ▸ entry.Close a name (Some n)) = nat_eq n r || is_closed r P
is_closed r (P ▸ e) = is_closed r P

-- its object was handed out
abbrev pub is_retired : ℕ → History → Bool
is_retired r [] = false
is_retired r (P ▸ entry.Retire a n (Ok _)) = nat_eq n r || is_retired r P
is_retired r (P ▸ e) = is_retired r P

-- the registrations that aren't closed, in order
abbrev pub live : History → List Registration
live P = filter (λ g. not (is_closed g.number P)) (registrations P)

-- one that is read has no kinds
abbrev pub kinds_joined : Joining → ℕ
kinds_joined (Plug kinds config told) = kinds.0
kinds_joined (Probe interval now told) = 0

-- it has all kinds of these
abbrev pub has_kind : Kinds → Registration → Bool
has_kind kind g = bit_and (kinds_joined g.joining) kind.0 == kind.0

abbrev pub is_plug : Joining → Bool
is_plug (Plug kinds config told) = true
is_plug (Probe interval now told) = false

-- of some registrations the numbers of those of a kind, in order
abbrev pub listeners : Kinds → List Registration → List ℕ
listeners kind regs = map (λ g. g.number) (filter (has_kind kind) regs)

-- the number of the live registration of that name
abbrev pub number_of_live : List ℕ → History → Option ℕ
number_of_live name P = option_map (λ g. g.number) (find (λ g. is_text g.name name) (live P))

-- who closed r
abbrev pub closed_by : ℕ → History → Option ℕ
closed_by r [] = None
closed_by r (P ▸ entry.Close a name (Some n)) = if nat_eq n r then Some a else closed_by r P
closed_by r (P ▸ e) = closed_by r P
