-- What is read of a payload, and what cleaning makes of texts.
use Rattle.cd_net.specs.Clean.{cleaned, is_replaced}
use Rattle.cd_net.specs.Payload.{is_zero, payload_text}
use Rattle.cd_value.specs.Identifier.{is_control, is_slash}
use Rattle.std.proofs.Common.{Bool, List, None, Some, [], ap, cond, false, length, not, refl, sym, true, ℕ, ◌&&◌, ◌+◌, ◌==◌, ◌∙◌, ◌∷◌, ◌≡◌}
use Rattle.std.proofs.lemmas.Bool.{and_parts, eq-eqb, false_from_ne_true, ltb-false, not-true, or_parts}
use Rattle.std.proofs.lemmas.List.{take_all}
use Rattle.std.proofs.lemmas.Str.{IsUtf8-from_is_utf8, is_utf8-from_IsUtf8}
use Rattle.std.specs.List.{before_first, list_all, list_any, position, position_or_len}
use Rattle.std.specs.Prelude.{nat_lt}
use Rattle.std.specs.Str.{IsUtf8, is_utf8}

-- ---- a text in a payload

pub at_position : {X : Type 0} (p : X → Bool) (xs : List X) (i : ℕ) → position p xs ≡ Some i → position_or_len p xs ≡ i
at_position {X} p xs i h = by (nat_lt (position_or_len p xs) (length xs)) h
  where
    by : (t : Bool) → cond t (Some (position_or_len p xs)) None ≡ Some i → position_or_len p xs ≡ i
    by true e = cc
    by false e = cc

pub no_position : {X : Type 0} (p : X → Bool) (xs : List X) → position p xs ≡ None → xs ≡ before_first p xs
no_position {X} p xs h = sym (take_all (position_or_len p xs) xs (ltb-false (position_or_len p xs) (length xs) (by (nat_lt (position_or_len p xs) (length xs)) h)))
  where
    by : (t : Bool) → cond t (Some (position_or_len p xs)) None ≡ None → t ≡ false
    by true e = cc
    by false e = refl

-- what stands before the zero at the end is the text, if it is one
pub text_is : (payload text : List ℕ) → text ≡ before_first is_zero payload → length text + 1 ≡ length payload → IsUtf8 text → payload_text payload ≡ Some text
text_is payload text same long good =
    let at_end : (length text + 1 == length payload) ≡ true = eq-eqb (length text + 1) (length payload) long in
    let utf8 : is_utf8 text ≡ true = is_utf8-from_IsUtf8 text good in
    ap (λ (t : List ℕ). cond (length t + 1 == length payload && is_utf8 t) (Some t) None) (sym same) ∙ (rw (at_end, utf8) refl)

pub no_text : (payload text : List ℕ) → text ≡ before_first is_zero payload → (IsUtf8 text → ⊥) → payload_text payload ≡ None
no_text payload text same bad =
    let utf8 : is_utf8 text ≡ false = false_from_ne_true (is_utf8 text) (λ e. bad (IsUtf8-from_is_utf8 text e)) in
    ap (λ (t : List ℕ). cond (length t + 1 == length payload && is_utf8 t) (Some t) None) (sym same) ∙ (rw utf8 (none (length text + 1 == length payload)))
  where
    none : (t : Bool) → cond (t && false) (Some text) None ≡ None
    none true = refl
    none false = refl

-- ---- cleaning

pub none_replaced : (slash : Bool) (text : List ℕ) → list_all (λ byte. not (is_replaced slash byte)) text ≡ true → list_any (is_replaced slash) text ≡ false
none_replaced slash [] h = refl
none_replaced slash (byte ∷ text) h =
    let both = and_parts (not (is_replaced slash byte)) (list_all (λ b. not (is_replaced slash b)) text) h in
    rw (not-true (is_replaced slash byte) both.0, none_replaced slash text both.1) refl

-- a text of which no byte is replaced stays as it is
pub cleaned-kept : (slash : Bool) (text : List ℕ) → list_any (is_replaced slash) text ≡ false → cleaned slash text ≡ text
cleaned-kept slash [] h = refl
cleaned-kept slash (byte ∷ text) h =
    let both = or_parts (is_replaced slash byte) (list_any (is_replaced slash) text) h in
    rw (both.0, cleaned-kept slash text both.1) refl

-- where no slash is replaced, fewer bytes are
fewer : (slash : Bool) (byte : ℕ) → is_replaced true byte ≡ false → is_replaced slash byte ≡ false
fewer true byte h = h
fewer false byte h = let parts = or_parts (is_control byte) (is_slash byte) h in rw parts.0 refl

none_fewer : (slash : Bool) (text : List ℕ) → list_any (is_replaced true) text ≡ false → list_any (is_replaced slash) text ≡ false
none_fewer slash [] h = refl
none_fewer slash (byte ∷ text) h =
    let both = or_parts (is_replaced true byte) (list_any (is_replaced true) text) h in
    rw (fewer slash byte both.0, none_fewer slash text both.1) refl

-- a text without a control character and without a slash stays in each field
pub cleaned-stays : (text : List ℕ) → list_all (λ byte. not (is_replaced true byte)) text ≡ true → (slash : Bool) → cleaned slash text ≡ text
cleaned-stays text h slash = cleaned-kept slash text (none_fewer slash text (none_replaced true text h))
