-- The parts of a packet. A part is two bytes of kind, two bytes of length, which counts these four
-- too, and a payload. All numbers are in network order.
use Rattle.byteorder.specs.Endian.{big_number}
use Rattle.cd_net.specs.declared.numbers.TheConstants.{ENCRYPTION, INTERVAL, INTERVAL_HIGH_RESOLUTION, SEVERITY, TIME, TIME_HIGH_RESOLUTION, VALUES}
use Rattle.cd_net.specs.declared.packet.PacketEnd.TheVariants.{BadLength, Encrypted, Whole}
use Rattle.cd_net.specs.declared.packet.PacketEnd.{PacketEnd}
use Rattle.cd_net.specs.declared.packet.Part.{Part}
use Rattle.std.specs.List.{between}
use Rattle.std.specs.Prelude.{Bool, IsTrue, List, None, Option, Some, [], drop, if◌then◌else◌, length, nat_lt, not, true, ℕ, ◌*◌, ◌+◌, ◌==◌, ◌||◌, ◌∷◌, ◌≡◌, ◌≤◌}

-- the number in the two bytes at a place
abbrev pub u16_at : List ℕ → ℕ → ℕ
u16_at bytes place = big_number 2 (drop place bytes)

-- the part whose head stands at a place
abbrev pub part_at : List ℕ → ℕ → Part
part_at bytes place =
    record { kind = u16_at bytes place; place = place; length = u16_at bytes (place + 2) }

-- what stands behind the head of a part
abbrev pub payload : List ℕ → Part → List ℕ
payload bytes part = between (part.place + 4) (part.place + part.length) bytes

-- times, intervals and severities are one number of eight bytes
abbrev pub is_number : ℕ → Bool
is_number kind =
    kind == TIME || kind == TIME_HIGH_RESOLUTION || kind == INTERVAL
    || kind == INTERVAL_HIGH_RESOLUTION || kind == SEVERITY

-- the length is the one that the kind asks for: a number has eight bytes; values have a count of
-- two bytes, and nine bytes each
abbrev pub has_length_of_kind : List ℕ → Part → Bool
has_length_of_kind bytes part =
    if is_number part.kind then part.length == 12
    else (if part.kind == VALUES then part.length == 6 + 9 * u16_at bytes (part.place + 4) else true)

-- the length is less than the head, leads beyond the packet, or isn't that of the kind
abbrev pub has_bad_length : List ℕ → Part → Bool
has_bad_length bytes part =
    nat_lt part.length 4 || nat_lt (length bytes) (part.place + part.length)
    || not (has_length_of_kind bytes part)

-- how a packet ends at a place, if it does: nothing is left; no part with a good length begins
-- there; or the part is encrypted
unfoldable pub end_at : List ℕ → ℕ → Option PacketEnd
end_at bytes place =
    if place == length bytes then Some Whole
    else (if nat_lt (length bytes) (place + 4) || has_bad_length bytes (part_at bytes place)
    then Some (BadLength place)
    else (if u16_at bytes place == ENCRYPTION then Some (Encrypted place) else None))

-- these parts stand one behind the other from a place on, and there the packet ends
abbrev pub AreParts : List ℕ → ℕ → List Part → PacketEnd → Type 0
AreParts bytes place [] end = end_at bytes place ≡ Some end
AreParts bytes place (part ∷ parts) end =
    (end_at bytes place ≡ None) × (part ≡ part_at bytes place)
    × AreParts bytes (place + part.length) parts end

-- there are parts into which the bytes are cut, up to an end, and no others
pub record IsCutInOneWay (bytes : List ℕ) : Type 0 where
  pub parts : List Part
  pub end : PacketEnd
  pub cut : AreParts bytes 0 parts end
  pub only : (others : List Part) (last : PacketEnd) → AreParts bytes 0 others last → (others ≡ parts) × (last ≡ end)

-- ---- what a part has that doesn't end its packet

pub record IsWhole (bytes : List ℕ) (part : Part) : Type 0 where
  pub head : 4 ≤ part.length
  pub within : part.place + part.length ≤ length bytes
  pub of_kind : IsTrue (has_length_of_kind bytes part)

-- a payload is as long as a part of the kind has it
pub record IsOfKind (kind : ℕ) (payload : List ℕ) : Type 0 where
  pub number : IsTrue (is_number kind) → 8 ≤ length payload
  pub values : kind ≡ VALUES → 2 + 9 * big_number 2 payload ≤ length payload
