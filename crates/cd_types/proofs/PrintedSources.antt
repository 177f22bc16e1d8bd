-- An entry that is printed is read as its source.
use Rattle.cd_reading.specs.First.{unless, ◌>>=◌}
use Rattle.cd_text.specs.Digits.{are_digits}
use Rattle.cd_types.proofs.PrintedNumbers.{bound_reads, decimals_are_digits, units, units_are}
use Rattle.cd_types.proofs.ReadSets.{as_many, name_is_first, names_of, taken_is}
use Rattle.cd_types.specs.Entry.{are_in_order, bound_of, is_colon, is_comma, is_in_name, is_name, is_taken, kind_named, name_of, parts_of, source_behind, source_of, without_comma}
use Rattle.cd_types.specs.Printed.{bound_text, decimals, fraction_text, kind_text, number_text, source_text, unsigned_text}
use Rattle.cd_types.specs.Valid.{IsBound, IsSourceBehind}
use Rattle.cd_types.specs.declared.fault.TypesKind.TheVariants.{BadSource, TooMany}
use Rattle.cd_types.specs.declared.limits.TheConstants.{SOURCES_LIMIT, SOURCE_NAME_LIMIT}
use Rattle.cd_value.specs.declared.data.DataSource.{DataSource}
use Rattle.cd_value.specs.declared.data.DsType.TheVariants.{Absolute, Counter, Derive, Gauge}
use Rattle.cd_value.specs.declared.data.DsType.{DsType}
use Rattle.std.proofs.Common.{All, Bool, List, None, Ok, Option, Some, [], ap, ap₂, append_assoc, arith, cond, false, length, map, pos, refl, subst, suc, sym, take, true, zero, ℕ, ℤ, ◌%◌, ◌++◌, ◌+◌, ◌-◌, ◌<◌, ◌==◌, ◌^◌, ◌∙◌, ◌∷◌, ◌≡◌, ◌≤◌}
use Rattle.std.proofs.Math.Seq.{take-append_seam}
use Rattle.std.proofs.lemmas.Bool.{and_from, and_parts, both_ways, lt-ltb, ne_eqb, or_left, or_right}
use Rattle.std.proofs.lemmas.List.Folds.{list_all-append, list_any_none}
use Rattle.std.proofs.lemmas.List.Splits.{slice_split_at, slice_split_none}
use Rattle.std.proofs.lemmas.List.{length-append}
use Rattle.std.specs.Char.{is_ascii_alphanumeric, is_ascii_digit}
use Rattle.std.specs.List.{list_all, list_any, slice_split}
use Rattle.std.specs.Prelude.{nat_abs, nat_lt, negsuc, not, slice_index, ◌||◌}

-- ---- bytes

-- a byte that passes a test isn't one that doesn't
pub other_byte : (q : ℕ → Bool) (c other : ℕ) → q c ≡ true → q other ≡ false → (c == other) ≡ false
other_byte q c other h e = ne_eqb c other (λ same. both_ways (q other) e (subst (λ (n : ℕ). q n ≡ true) same h))

-- what holds of each byte that passes a test
pub each_byte : (p q : ℕ → Bool) → ((b : ℕ) → q b ≡ true → p b ≡ false) → (t : List ℕ) → list_all q t ≡ true → All (λ b. p b ≡ false) t
each_byte p q f [] h k d l = absurd (omega arith)
each_byte p q f (b ∷ t) h zero d l = f b (and_parts (q b) (list_all q t) h).0
each_byte p q f (b ∷ t) h (suc k) d l = each_byte p q f t (and_parts (q b) (list_all q t) h).1 k d (omega arith)

-- bytes that pass a test pass a wider one
pub all_wider : (q r : ℕ → Bool) → ((b : ℕ) → q b ≡ true → r b ≡ true) → (t : List ℕ) → list_all q t ≡ true → list_all r t ≡ true
all_wider q r f [] h = refl
all_wider q r f (b ∷ t) h =
    let both = and_parts (q b) (list_all q t) h in
    and_from (r b) (list_all r t) (f b both.0) (all_wider q r f t both.1)

pub all_both : (q : ℕ → Bool) (xs ys : List ℕ) → list_all q xs ≡ true → list_all q ys ≡ true → list_all q (xs ++ ys) ≡ true
all_both q xs ys h g = list_all-append q xs ys ∙ and_from (list_all q xs) (list_all q ys) h g

-- no byte of the text is that one, whatever the place
pub other_at : (q : ℕ → Bool) (t : List ℕ) (i other : ℕ) → list_all q t ≡ true → q other ≡ false → (0 == other) ≡ false → (slice_index t i == other) ≡ false
other_at q [] i other h e z = z
other_at q (b ∷ t) zero other h e z = other_byte q b other (and_parts (q b) (list_all q t) h).0 e
other_at q (b ∷ t) (suc i) other h e z = other_at q t i other (and_parts (q b) (list_all q t) h).1 e z

-- the bytes of a name, a kind or a bound
abbrev pub is_plain : ℕ → Bool
is_plain b = is_in_name b || (b == 46 || b == 45)

-- and the colons between them
abbrev pub is_of_entry : ℕ → Bool
is_of_entry b = is_plain b || b == 58

no_colon : (b : ℕ) → is_plain b ≡ true → is_colon b ≡ false
no_colon b h = other_byte is_plain b 58 h refl

no_comma : (b : ℕ) → is_of_entry b ≡ true → is_comma b ≡ false
no_comma b h = other_byte is_of_entry b 44 h refl

plain_of_name : (b : ℕ) → is_in_name b ≡ true → is_plain b ≡ true
plain_of_name b h = or_left (is_in_name b) (b == 46 || b == 45) h

digit_is_plain : (b : ℕ) → is_ascii_digit b ≡ true → is_plain b ≡ true
digit_is_plain b h = plain_of_name b (or_left (is_ascii_alphanumeric b) (b == 95) (alphanumeric b h))
  where
    alphanumeric : (b : ℕ) → is_ascii_digit b ≡ true → is_ascii_alphanumeric b ≡ true
    alphanumeric b h = search (h, or_right, or_left)

entry_of_plain : (b : ℕ) → is_plain b ≡ true → is_of_entry b ≡ true
entry_of_plain b h = or_left (is_plain b) (b == 58) h

-- ---- the parts

abbrev IsPlain : List ℕ → Type 0
IsPlain t = list_all is_plain t ≡ true

name_plain : (most : ℕ) (t : List ℕ) → is_name most t ≡ true → IsPlain t
name_plain most t h = all_wider is_in_name is_plain plain_of_name t (in_name most t h)
  where
    in_name : (most : ℕ) (t : List ℕ) → is_name most t ≡ true → list_all is_in_name t ≡ true
    in_name most t h = (and_parts _ (list_all is_in_name t) (and_parts (nat_lt 0 (length t)) _ h).1).1

kind_plain : (kind : DsType) → IsPlain (kind_text kind)
kind_plain Absolute = refl
kind_plain Counter = refl
kind_plain Derive = refl
kind_plain Gauge = refl

digits_plain : (t : List ℕ) → are_digits t ≡ true → IsPlain t
digits_plain t h = all_wider is_ascii_digit is_plain digit_is_plain t h

fraction_plain : (n : ℕ) → IsPlain (fraction_text n)
fraction_plain n = by (n == 0)
  where
    by : (b : Bool) → IsPlain (cond b [] (46 ∷ decimals 6 n))
    by true = refl
    by false = digits_plain (decimals 6 n) (decimals_are_digits 6 n)

unsigned_plain : (n : ℕ) → n ≤ 10 ^ 30 → IsPlain (unsigned_text n)
unsigned_plain n small = all_both is_plain (units n) (fraction_text (n % 10 ^ 6)) (digits_plain (units n) (units_are n small).0) (fraction_plain (n % 10 ^ 6))

number_plain : (z : ℤ) → nat_abs z ≤ 10 ^ 30 → IsPlain (number_text z)
number_plain (pos n) small = unsigned_plain n small
number_plain (negsuc n) small = unsigned_plain (suc n) small

bound_plain : (bound : Option ℤ) → IsBound bound → IsPlain (bound_text bound)
bound_plain None small = refl
bound_plain (Some n) small = number_plain n small

-- the parts of a source's text are free of colons
record ArePlain (s : DataSource) : Type 0 where
  name : IsPlain s.name
  kind : IsPlain (kind_text s.kind)
  min : IsPlain (bound_text s.min)
  max : IsPlain (bound_text s.max)

parts_plain : (others : List DataSource) (s : DataSource) → IsSourceBehind others s → ArePlain s
parts_plain others s valid = record {
  name = name_plain SOURCE_NAME_LIMIT s.name valid.name;
  kind = kind_plain s.kind;
  min = bound_plain s.min valid.min;
  max = bound_plain s.max valid.max;
}

cut_at : (t rest : List ℕ) (parts : List (List ℕ)) → IsPlain t → slice_split is_colon rest ≡ parts → slice_split is_colon (t ++ 58 ∷ rest) ≡ t ∷ parts
cut_at t rest parts plain more = slice_split_at is_colon t 58 rest (each_byte is_colon is_plain no_colon t plain) refl ∙ ap (λ (ps : List (List ℕ)). t ∷ ps) more

-- the parts of a source's text, one behind the other
abbrev parts_text : DataSource → List ℕ
parts_text s = s.name ++ 58 ∷ (kind_text s.kind ++ 58 ∷ (bound_text s.min ++ 58 ∷ bound_text s.max))

regroup : (a b c d : List ℕ) → a ++ 58 ∷ [] ++ b ++ 58 ∷ [] ++ c ++ 58 ∷ [] ++ d ≡ a ++ 58 ∷ (b ++ 58 ∷ (c ++ 58 ∷ d))
regroup a b c d = simp append_assoc

pub text_is : (s : DataSource) → source_text s ≡ parts_text s
text_is s = regroup s.name (kind_text s.kind) (bound_text s.min) (bound_text s.max)

text_parts : (s : DataSource) → ArePlain s → slice_split is_colon (source_text s) ≡ s.name ∷ kind_text s.kind ∷ bound_text s.min ∷ bound_text s.max ∷ []
text_parts s plain =
    ap (slice_split is_colon) (text_is s)
    ∙ cut_at s.name _ _ plain.name (cut_at (kind_text s.kind) _ _ plain.kind (cut_at (bound_text s.min) _ _ plain.min
    (slice_split_none is_colon (bound_text s.max) (each_byte is_colon is_plain no_colon (bound_text s.max) plain.max))))

pub text_of_entry : (others : List DataSource) (s : DataSource) → IsSourceBehind others s → list_all is_of_entry (source_text s) ≡ true
text_of_entry others s valid =
    let plain = parts_plain others s valid in
    ap (list_all is_of_entry) (text_is s)
    ∙ part s.name _ plain.name (part (kind_text s.kind) _ plain.kind (part (bound_text s.min) _ plain.min (whole (bound_text s.max) plain.max)))
  where
    whole : (t : List ℕ) → IsPlain t → list_all is_of_entry t ≡ true
    whole t plain = all_wider is_plain is_of_entry entry_of_plain t plain

    part : (t rest : List ℕ) → IsPlain t → list_all is_of_entry rest ≡ true → list_all is_of_entry (t ++ 58 ∷ rest) ≡ true
    part t rest plain more = all_both is_of_entry t (58 ∷ rest) (whole t plain) more

-- ---- the comma behind an entry

pub last_is : (xs : List ℕ) (c : ℕ) → slice_index (xs ++ c ∷ []) (length xs) ≡ c
last_is [] c = refl
last_is (x ∷ xs) c = last_is xs c

-- an entry without the comma that was put behind it
pub comma_off : (t : List ℕ) → without_comma (t ++ 44 ∷ []) ≡ t
comma_off t =
    let long : length (t ++ 44 ∷ []) ≡ length t + 1 = length-append t (44 ∷ []) in
    let end : length (t ++ 44 ∷ []) - 1 ≡ length t = omega (arith, long) in
    ap (λ (n : ℕ). cond (is_comma (slice_index (t ++ 44 ∷ []) n)) (take n (t ++ 44 ∷ [])) (t ++ 44 ∷ [])) end
    ∙ ap (λ (c : ℕ). cond (is_comma c) (take (length t) (t ++ 44 ∷ [])) (t ++ 44 ∷ [])) (last_is t 44)
    ∙ take-append_seam t (44 ∷ [])

-- and one behind which there is none
pub no_comma_off : (t : List ℕ) → list_all is_of_entry t ≡ true → without_comma t ≡ t
no_comma_off t h =
    ap (λ (b : Bool). cond b (take (length t - 1) t) t) (other_at is_of_entry t (length t - 1) 44 h refl refl)

-- ---- its source

kind_reads : (kind : DsType) → kind_named (kind_text kind) ≡ Some kind
kind_reads Absolute = refl
kind_reads Counter = refl
kind_reads Derive = refl
kind_reads Gauge = refl

-- four parts that are good
good_parts : (name kind min max : List ℕ) (k : DsType) (least greatest : Option ℤ) → is_name SOURCE_NAME_LIMIT name ≡ true → kind_named kind ≡ Some k → bound_of min ≡ Some least → bound_of max ≡ Some greatest
    → are_in_order least greatest ≡ true
    → source_of false (name ∷ kind ∷ min ∷ max ∷ []) ≡ Ok (record { name = name; kind = k; min = least; max = greatest })
good_parts name kind min max k least greatest n e a b order = rw (n, e, a, b, order) refl

pub name_reads : (others : List DataSource) (s : DataSource) (entry : List ℕ) → IsSourceBehind others s → without_comma entry ≡ source_text s → name_of entry ≡ s.name
name_reads others s entry valid text =
    name_is_first is_colon (without_comma entry) s.name (kind_text s.kind ∷ bound_text s.min ∷ bound_text s.max ∷ [])
    (ap (slice_split is_colon) text ∙ text_parts s (parts_plain others s valid))

-- an entry with the text of a source is read as that source
pub entry_reads : (earlier : List (List ℕ)) (entry : List ℕ) (others : List DataSource) (s : DataSource) → map name_of earlier ≡ names_of others → IsSourceBehind others s
    → without_comma entry ≡ source_text s → source_behind earlier entry ≡ Ok s
unfolding source_behind
entry_reads earlier entry others s same valid text =
    ap₂ (λ (few comma : Bool). unless ((few, TooMany) ∷ (not comma, BadSource) ∷ []) entry >>= λ e. source_of (is_taken earlier (name_of e)) (parts_of e)) few plain
    ∙ ap₂ source_of free (ap (slice_split is_colon) text ∙ text_parts s (parts_plain others s valid))
    ∙ good_parts s.name (kind_text s.kind) (bound_text s.min) (bound_text s.max) s.kind s.min s.max valid.name (kind_reads s.kind) (bound_reads s.min valid.min) (bound_reads s.max valid.max) valid.in_order
  where
    few : nat_lt (length earlier) SOURCES_LIMIT ≡ true
    few = lt-ltb (length earlier) SOURCES_LIMIT (subst (λ (n : ℕ). n < SOURCES_LIMIT) (sym (as_many earlier others same)) valid.few)

    plain : list_any is_comma (without_comma entry) ≡ false
    plain =
        ap (list_any is_comma) text
        ∙ list_any_none is_comma (source_text s) (each_byte is_comma is_of_entry no_comma (source_text s) (text_of_entry others s valid))

    free : is_taken earlier (name_of entry) ≡ false
    free = ap (is_taken earlier) (name_reads others s entry valid text) ∙ taken_is s.name earlier others same ∙ valid.apart
