-- What cleaning makes of a text.
use Rattle.cd_value.proofs.Cuts.{list_any_take}
use Rattle.cd_value.specs.Clean.{clean_byte, clean_field, is_clean, longest_front}
use Rattle.cd_value.specs.Identifier.{is_control, is_field, is_slash}
use Rattle.std.proofs.Common.{Bool, List, [], ap, arith, cond, false, length, map, not, refl, suc, take, true, zero, ℕ, ◌&&◌, ◌||◌, ◌∙◌, ◌∷◌, ◌≡◌, ◌≤◌}
use Rattle.std.proofs.lemmas.Bool.{and_from, and_parts, le-leb, leb-true, not-true, not_from_false, or_parts}
use Rattle.std.proofs.lemmas.List.{length-take}
use Rattle.std.specs.Fmt.Cut.{floor_char_boundary}
use Rattle.std.specs.Fmt.{is_char_start}
use Rattle.std.specs.List.{list_any}
use Rattle.std.specs.Prelude.{nat_le, slice_index}

byte_control : (slash : Bool) (byte : ℕ) → is_control (clean_byte slash byte) ≡ false
byte_control slash byte = step (is_control byte || (slash && is_slash byte)) refl
  where
    step : (b : Bool) → (is_control byte || (slash && is_slash byte)) ≡ b → is_control (cond b 95 byte) ≡ false
    step true e = refl
    step false e = (or_parts (is_control byte) (slash && is_slash byte) e).0

byte_slash : (byte : ℕ) → is_slash (clean_byte true byte) ≡ false
byte_slash byte = step (is_control byte || is_slash byte) refl
  where
    step : (b : Bool) → (is_control byte || is_slash byte) ≡ b → is_slash (cond b 95 byte) ≡ false
    step true e = refl
    step false e = (or_parts (is_control byte) (is_slash byte) e).1

none_after : (p : ℕ → Bool) (f : ℕ → ℕ) (text : List ℕ) → ((byte : ℕ) → p (f byte) ≡ false) → list_any p (map f text) ≡ false
none_after p f [] h = refl
none_after p f (byte ∷ text) h = rw (h byte, none_after p f text h) refl

none_in_front : (p : ℕ → Bool) (limit : ℕ) (text : List ℕ) → list_any p text ≡ false → list_any p (longest_front limit text) ≡ false
none_in_front p limit text h = step (nat_le (length text) limit)
  where
    step : (b : Bool) → list_any p (cond b text (take (floor_char_boundary text limit) text)) ≡ false
    step true = h
    step false = list_any_take p (floor_char_boundary text limit) text h

floor_low : (text : List ℕ) (limit : ℕ) → floor_char_boundary text limit ≤ limit
unfolding floor_char_boundary
floor_low text zero = omega arith
floor_low text (suc limit) = step (is_char_start (slice_index text (suc limit))) (floor_low text limit)
  where
    step : (b : Bool) → floor_char_boundary text limit ≤ limit → cond b (suc limit) (floor_char_boundary text limit) ≤ suc limit
    step true h = omega arith
    step false h = omega arith

front_short : (limit : ℕ) (text : List ℕ) → length (longest_front limit text) ≤ limit
front_short limit text = step (nat_le (length text) limit) refl
  where
    step : (b : Bool) → nat_le (length text) limit ≡ b → length (cond b text (take (floor_char_boundary text limit) text)) ≤ limit
    step true e = leb-true (length text) limit e
    step false e = omega (arith, length-take (floor_char_boundary text limit) text, floor_low text limit)

-- it may be a field
pub is_field-clean_field : (slash : Bool) (text : List ℕ) → is_field (clean_field slash text) ≡ true
is_field-clean_field slash text =
    let bytes = map (clean_byte slash) text in
    let plain : list_any is_control (clean_field slash text) ≡ false = none_in_front is_control 127 bytes (none_after is_control (clean_byte slash) text (byte_control slash)) in
    and_from (not (list_any is_control (clean_field slash text))) (nat_le (length (clean_field slash text)) 127)
    (not_from_false (list_any is_control (clean_field slash text)) plain) (le-leb (length (clean_field slash text)) 127 (front_short 127 bytes))

-- it has no slash where slashes are replaced
pub slash-clean_field : (slash : Bool) (text : List ℕ) → slash ≡ true → list_any is_slash (clean_field slash text) ≡ false
slash-clean_field slash text e =
    ap (λ (b : Bool). list_any is_slash (clean_field b text)) e
    ∙ none_in_front is_slash 127 (map (clean_byte true) text) (none_after is_slash (clean_byte true) text byte_slash)

bytes_kept : (slash : Bool) (text : List ℕ) → list_any is_control text ≡ false → (slash && list_any is_slash text) ≡ false → map (clean_byte slash) text ≡ text
bytes_kept slash [] plain none = refl
bytes_kept slash (byte ∷ text) plain none =
    let controls = or_parts (is_control byte) (list_any is_control text) plain in
    let slashes = apart slash none in
    rw (controls.0, slashes.0, bytes_kept slash text controls.1 slashes.1) refl
  where
    apart : (b : Bool) → (b && (is_slash byte || list_any is_slash text)) ≡ false → ((b && is_slash byte) ≡ false) × ((b && list_any is_slash text) ≡ false)
    apart true h = or_parts (is_slash byte) (list_any is_slash text) h
    apart false h = (refl, refl)

-- a text that may stand stays as it is
pub clean_field-kept : (slash : Bool) (text : List ℕ) → is_clean slash false text ≡ true → clean_field slash text ≡ text
clean_field-kept slash text h =
    let first = (and_parts (is_field text && not (slash && list_any is_slash text)) true h).0 in
    let both = and_parts (is_field text) (not (slash && list_any is_slash text)) first in
    let field = and_parts (not (list_any is_control text)) (nat_le (length text) 127) both.0 in
    let same = bytes_kept slash text (not-true (list_any is_control text) field.0) (not-true (slash && list_any is_slash text) both.1) in
    ap (longest_front 127) same ∙ (rw field.1 refl)
