-- The texts of a packet without a refusal make an identifier.
use Rattle.cd_net.proofs.Texts.{cleaned-kept}
use Rattle.cd_net.specs.Clean.{cleaned, is_replaced}
use Rattle.cd_net.specs.Items.{clean_texts, is_message, message_of}
use Rattle.cd_value.proofs.Cleaned.{is_field-clean_field, slash-clean_field}
use Rattle.cd_value.specs.Clean.{clean_byte, clean_field, longest_front}
use Rattle.cd_value.specs.Identifier.{Fields, has_bad_field, has_long_field, has_slash, is_control, is_empty, is_field, is_identifier, is_long, is_slash, is_type_byte}
use Rattle.std.proofs.Common.{Bool, List, [], ap, arith, cond, false, length, map, not, refl, suc, sym, take, true, zero, ℕ, ◌&&◌, ◌||◌, ◌∙◌, ◌∷◌, ◌≡◌, ◌≤◌}
use Rattle.std.proofs.lemmas.Bool.Decides.{nat_tests}
use Rattle.std.proofs.lemmas.Bool.{and_parts, le-leb, leb-true, ltb-false, not-false, or_parts}
use Rattle.std.proofs.lemmas.List.{length-map, length-take}
use Rattle.std.specs.Fmt.Cut.{floor_char_boundary}
use Rattle.std.specs.Fmt.{is_char_start}
use Rattle.std.specs.List.{list_all, list_any}
use Rattle.std.specs.Prelude.{nat_le, slice_index}

-- a text that isn't too long isn't cut
uncut : (slash : Bool) (text : List ℕ) → is_long text ≡ false → clean_field slash text ≡ cleaned slash text
uncut slash text short =
    let fits : nat_le (length (map (clean_byte slash) text)) 127 ≡ true
    = ap (λ n. nat_le n 127) (length-map text (clean_byte slash)) ∙ le-leb (length text) 127 (ltb-false 127 (length text) short) in
    rw fits refl

pub field_clean : (slash : Bool) (text : List ℕ) → is_long text ≡ false → is_field (cleaned slash text) ≡ true
field_clean slash text short = ap is_field (sym (uncut slash text short)) ∙ is_field-clean_field slash text

slash_clean : (text : List ℕ) → is_long text ≡ false → has_slash (cleaned true text) ≡ false
slash_clean text short = ap has_slash (sym (uncut true text short)) ∙ slash-clean_field true text refl

empty_clean : (slash : Bool) (text : List ℕ) → is_empty text ≡ false → is_empty (cleaned slash text) ≡ false
empty_clean slash [] h = h
empty_clean slash (byte ∷ text) h = refl

type_byte : (byte : ℕ) → is_type_byte byte ≡ true → is_replaced false byte ≡ false
type_byte byte h = grind (arith, nat_tests)

type_clean : (text : List ℕ) → list_all is_type_byte text ≡ true → list_any (is_replaced false) text ≡ false
type_clean [] h = refl
type_clean (byte ∷ text) h =
    let both = and_parts (is_type_byte byte) (list_all is_type_byte text) h in
    rw (type_byte byte both.0, type_clean text both.1) refl

-- a type without another character than a type's stays
pub type_stays : (texts : Fields) → has_bad_field texts ≡ false → cleaned false texts.type_name ≡ texts.type_name
type_stays texts good =
    let bad = or_parts (is_empty texts.host || is_empty texts.plugin || is_empty texts.type_name) (not (list_all is_type_byte texts.type_name)) good in
    cleaned-kept false texts.type_name (type_clean texts.type_name (not-false (list_all is_type_byte texts.type_name) bad.1))

pub is_identifier-clean_texts : (texts : Fields) → has_bad_field texts ≡ false → has_long_field texts ≡ false → is_identifier (clean_texts texts) ≡ true
is_identifier-clean_texts texts good short =
    let bad3 = or_parts (is_empty texts.host || is_empty texts.plugin || is_empty texts.type_name) (not (list_all is_type_byte texts.type_name)) good in
    let bad2 = or_parts (is_empty texts.host || is_empty texts.plugin) (is_empty texts.type_name) bad3.0 in
    let bad1 = or_parts (is_empty texts.host) (is_empty texts.plugin) bad2.0 in
    let long4 = or_parts (is_long texts.host || is_long texts.plugin || is_long texts.plugin_instance || is_long texts.type_name) (is_long texts.type_instance) short in
    let long3 = or_parts (is_long texts.host || is_long texts.plugin || is_long texts.plugin_instance) (is_long texts.type_name) long4.0 in
    let long2 = or_parts (is_long texts.host || is_long texts.plugin) (is_long texts.plugin_instance) long3.0 in
    let long1 = or_parts (is_long texts.host) (is_long texts.plugin) long2.0 in
    let type_bytes : list_all is_type_byte texts.type_name ≡ true = not-false (list_all is_type_byte texts.type_name) bad3.1 in
    let type_kept : cleaned false texts.type_name ≡ texts.type_name = type_stays texts good in
    rw (
      field_clean true texts.host long1.0,
      field_clean true texts.plugin long1.1,
      field_clean true texts.plugin_instance long2.1,
      field_clean false texts.type_name long3.1,
      field_clean false texts.type_instance long4.1,
      empty_clean true texts.host bad1.0,
      empty_clean true texts.plugin bad1.1,
      empty_clean false texts.type_name bad2.1,
      slash_clean texts.host long1.0,
      slash_clean texts.plugin long1.1,
      slash_clean texts.plugin_instance long2.1,
      type_kept,
      type_bytes,
    ) refl

-- ---- a message

byte_clean : (slash : Bool) (byte : ℕ) → is_control (clean_byte slash byte) ≡ false
byte_clean slash byte = by (is_control byte || (slash && is_slash byte)) refl
  where
    by : (b : Bool) → (is_control byte || (slash && is_slash byte)) ≡ b → is_control (cond b 95 byte) ≡ false
    by true e = refl
    by false e = (or_parts (is_control byte) (slash && is_slash byte) e).0

no_control : (slash : Bool) (text : List ℕ) → list_any is_control (cleaned slash text) ≡ false
no_control slash [] = refl
no_control slash (byte ∷ text) = rw (byte_clean slash byte, no_control slash text) refl

floor_low : (text : List ℕ) (limit : ℕ) → floor_char_boundary text limit ≤ limit
unfolding floor_char_boundary
floor_low text zero = omega arith
floor_low text (suc limit) = by (is_char_start (slice_index text (suc limit))) (floor_low text limit)
  where
    by : (b : Bool) → floor_char_boundary text limit ≤ limit → cond b (suc limit) (floor_char_boundary text limit) ≤ suc limit
    by true h = omega arith
    by false h = omega arith

front_short : (limit : ℕ) (text : List ℕ) → length (longest_front limit text) ≤ limit
front_short limit text = by (nat_le (length text) limit) refl
  where
    by : (b : Bool) → nat_le (length text) limit ≡ b → length (cond b text (take (floor_char_boundary text limit) text)) ≤ limit
    by true e = leb-true (length text) limit e
    by false e = omega (arith, length-take (floor_char_boundary text limit) text, floor_low text limit)

pub is_message-message_of : (text : List ℕ) → is_message (message_of text) ≡ true
is_message-message_of text =
    let front = longest_front 255 text in
    let short : nat_le (length (cleaned false front)) 255 ≡ true
    = ap (λ n. nat_le n 255) (length-map front (clean_byte false)) ∙ le-leb (length front) 255 (front_short 255 text) in
    rw (no_control false front, short) refl
