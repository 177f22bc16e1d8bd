-- Where a text is cut, and what replacing its characters keeps.
use Rattle.cd_value.specs.Clean.{clean_byte, longest_front}
use Rattle.cd_value.specs.Identifier.{is_control, is_slash}
use Rattle.std.proofs.Common.{Bool, List, [], ap, append-nil, arith, cond, false, get_or, inl, inr, length, lit<, map, refl, subst, suc, sym, take, true, zero, ℕ, ◌&&◌, ◌++◌, ◌<◌, ◌||◌, ◌∙◌, ◌∷◌, ◌≡◌, ◌≤◌}
use Rattle.std.proofs.Math.Bool.{and-false}
use Rattle.std.proofs.Math.Seq.{take-length}
use Rattle.std.proofs.lemmas.Bool.Decides.{nat_tests}
use Rattle.std.proofs.lemmas.Bool.{and_from, and_parts, le-ltb, leb-false, leb-true, ne_eqb}
use Rattle.std.proofs.lemmas.List.{map-append}
use Rattle.std.proofs.lemmas.Str.{IsCharBoundary-end, encode_ascii, inside_one}
use Rattle.std.specs.Fmt.Cut.{floor_char_boundary}
use Rattle.std.specs.Fmt.{is_char_start}
use Rattle.std.specs.Prelude.{nat_le, ◌⊎◌}
use Rattle.std.specs.Str.{IsCharBoundary, IsUtf8}
use lib.Utf8.{encode, encodes, scalar, scalars}

-- ---- the longest front

starts : (text : List ℕ) (i : ℕ) → i < length text → is_char_start (get_or text i 0) ≡ true → IsCharBoundary text i
starts text i inside h = (omega arith, λ _ high. grind (arith, nat_tests))

inner : (text : List ℕ) (i : ℕ) → i < length text → is_char_start (get_or text i 0) ≡ false → IsCharBoundary text i → ⊥
inner text i inside h at = let whole = at.1 inside in grind (arith, nat_tests)

le_cases : (m n : ℕ) → m ≤ n → (m < n) ⊎ (m ≡ n)
le_cases m n h = grind arith

-- no character begins after r and at or before i
record NoneBetween (text : List ℕ) (r i : ℕ) : Type 0 where
  begins : (k : ℕ) → r < k → k ≤ i → IsCharBoundary text k → ⊥

at_start : (text : List ℕ) (i r : ℕ) → i < length text → is_char_start (get_or text i 0) ≡ true → NoneBetween text r i → (r < i) ⊎ (r ≡ i) → i ≡ r
at_start text i r inside e none (inl less) = absurd (none.begins i less (omega arith) (starts text i inside e))
at_start text i r inside e none (inr same) = sym same

before_start : (text : List ℕ) (i r : ℕ) → suc i < length text → is_char_start (get_or text (suc i) 0) ≡ false → IsCharBoundary text r
    → (r ≤ i → floor_char_boundary text i ≡ r) → (r < suc i) ⊎ (r ≡ suc i) → floor_char_boundary text i ≡ r
before_start text i r inside e at rest (inl less) = rest (omega arith)
before_start text i r inside e at rest (inr same) = absurd (inner text (suc i) inside e (subst (IsCharBoundary text) same at))

-- the place that is found is the last one up to i at which a character begins
floor_is : (text : List ℕ) (i r : ℕ) → i < length text → r ≤ i → IsCharBoundary text r → NoneBetween text r i → floor_char_boundary text i ≡ r
unfolding floor_char_boundary
floor_is text zero r inside low at none = omega arith
floor_is text (suc i) r inside low at none = step (is_char_start (get_or text (suc i) 0)) refl (λ h. floor_is text i r (omega arith) h at (record { begins = λ k more less. none.begins k more (omega arith) }))
  where
    step : (b : Bool) → is_char_start (get_or text (suc i) 0) ≡ b → (r ≤ i → floor_char_boundary text i ≡ r) → cond b (suc i) (floor_char_boundary text i) ≡ r
    step true e rest = at_start text (suc i) r inside e none (le_cases r (suc i) low)
    step false e rest = before_start text i r inside e at rest (le_cases r (suc i) low)

at_end : (text : List ℕ) (r limit : ℕ) → length text ≤ limit → r ≤ length text → NoneBetween text r limit → (r < length text) ⊎ (r ≡ length text) → take r text ≡ text
at_end text r limit fits low none (inl less) = absurd (none.begins (length text) less fits (IsCharBoundary-end text))
at_end text r limit fits low none (inr same) = ap (λ n. take n text) same ∙ take-length text

-- what stands before the last such place up to the limit is the longest front
pub front_is : (text : List ℕ) (limit r : ℕ) → r ≤ limit → IsCharBoundary text r
    → ((k : ℕ) → r < k → k ≤ limit → IsCharBoundary text k → ⊥) → take r text ≡ longest_front limit text
front_is text limit r low at none = step (nat_le (length text) limit) refl
  where
    step : (b : Bool) → nat_le (length text) limit ≡ b → take r text ≡ cond b text (take (floor_char_boundary text limit) text)
    step true e = at_end text r limit (leb-true (length text) limit e) at.0 (record { begins = none }) (le_cases r (length text) at.0)
    step false e = ap (λ n. take n text) (sym (floor_is text limit r (leb-false (length text) limit e) low at (record { begins = none })))

-- ---- replacing characters

-- beyond the first 128 no character is replaced
high_kept : (slash : Bool) (c : ℕ) → 128 ≤ c → clean_byte slash c ≡ c
high_kept slash c high =
    rw (le-ltb c 32 (omega arith), ne_eqb c 127 (λ e. absurd (omega arith)), ne_eqb c 47 (λ e. absurd (omega arith)), and-false slash) refl

low_stays : (slash : Bool) (c : ℕ) → c < 128 → clean_byte slash c < 128
low_stays slash c low = replaced (is_control c || (slash && is_slash c))
  where
    replaced : (b : Bool) → cond b 95 c < 128
    replaced true = lit< tt
    replaced false = low

map_kept : (f : ℕ → ℕ) (xs : List ℕ) → ((i : ℕ) → i < length xs → f (get_or xs i 0) ≡ get_or xs i 0) → map f xs ≡ xs
map_kept f [] h = refl
map_kept f (x ∷ xs) h =
    let first : f x ≡ x = h 0 (omega arith) in
    let rest : map f xs ≡ xs = map_kept f xs (λ i inside. h (suc i) (omega arith)) in
    rw (first, rest) refl

get_or_encode : (c k : ℕ) → 128 ≤ c → k < length (encode c) → 128 ≤ get_or (encode c) k 0
get_or_encode c k high inside = not_low (get_or (encode c) k 0) (λ low.
    let same : c ≡ get_or (encode c) k 0 = inside_one c [] (encode c) k (sym (append-nil (encode c))) inside low in
    omega arith)
  where
    not_low : (b : ℕ) → (b < 128 → ⊥) → 128 ≤ b
    not_low b h = grind arith

encode_clean : (slash : Bool) (c : ℕ) → encode (clean_byte slash c) ≡ map (clean_byte slash) (encode c)
encode_clean slash c = by_size (lt_cases c)
  where
    lt_cases : (n : ℕ) → (n < 128) ⊎ (128 ≤ n)
    lt_cases n = grind arith

    by_size : (c < 128) ⊎ (128 ≤ c) → encode (clean_byte slash c) ≡ map (clean_byte slash) (encode c)
    by_size (inl low) = encode_ascii (clean_byte slash c) (low_stays slash c low) ∙ ap (map (clean_byte slash)) (sym (encode_ascii c low))
    by_size (inr high) =
        ap encode (high_kept slash c high)
        ∙ sym (map_kept (clean_byte slash) (encode c) (λ k inside. high_kept slash (get_or (encode c) k 0) (get_or_encode c k high inside)))

encodes_clean : (slash : Bool) (cs : List ℕ) → encodes (map (clean_byte slash) cs) ≡ map (clean_byte slash) (encodes cs)
encodes_clean slash [] = refl
encodes_clean slash (c ∷ cs) =
    ap (λ (x : List ℕ). x ++ encodes (map (clean_byte slash) cs)) (encode_clean slash c)
    ∙ ap (λ (x : List ℕ). map (clean_byte slash) (encode c) ++ x) (encodes_clean slash cs)
    ∙ sym (map-append (clean_byte slash) (encode c) (encodes cs))

scalar_clean : (slash : Bool) (c : ℕ) → scalar c ≡ true → scalar (clean_byte slash c) ≡ true
scalar_clean slash c h = replaced (is_control c || (slash && is_slash c))
  where
    replaced : (b : Bool) → scalar (cond b 95 c) ≡ true
    replaced true = refl
    replaced false = h

scalars_clean : (slash : Bool) (cs : List ℕ) → scalars cs ≡ true → scalars (map (clean_byte slash) cs) ≡ true
scalars_clean slash [] h = refl
scalars_clean slash (c ∷ cs) h =
    let both = and_parts (scalar c) (scalars cs) h in
    and_from (scalar (clean_byte slash c)) (scalars (map (clean_byte slash) cs)) (scalar_clean slash c both.0) (scalars_clean slash cs both.1)

-- a text stays a text
pub IsUtf8-clean : (slash : Bool) (text : List ℕ) → IsUtf8 text → IsUtf8 (map (clean_byte slash) text)
IsUtf8-clean slash text h =
    (map (clean_byte slash) h.0, (scalars_clean slash h.0 h.1.0, encodes_clean slash h.0 ∙ ap (map (clean_byte slash)) h.1.1))
