-- Sets that were read are valid.
use Rattle.cd_reading.specs.First.{all_or_first, each_after, unless, ◌>>=◌}
use Rattle.cd_text.specs.Millionths.{bounded_millionths, ones_limit}
use Rattle.cd_text.specs.Number.{denominator, is_number, number_of, numerator, parts_of, with_sign}
use Rattle.cd_text.specs.declared.fault.NumFault.TheVariants.{BadNumber, OutOfRange}
use Rattle.cd_text.specs.declared.fault.NumFault.{NumFault}
use Rattle.cd_text.specs.declared.numbers.TheConstants.{DIGITS_LIMIT}
use Rattle.cd_types.proofs.MergedSets.{all_with}
use Rattle.cd_types.specs.Entry.{are_in_order, bound_of, is_colon, is_comma, is_name, is_taken, kind_named, name_of, need, number_or_none, source_behind, source_of, without_comma}
use Rattle.cd_types.specs.Entry.{parts_of as parts_of_entry}
use Rattle.cd_types.specs.Faults.{at_line, fault_at}
use Rattle.cd_types.specs.Line.{runs_of, set_of, set_of_line, set_of_runs, some_set, sources_of, without_return}
use Rattle.cd_types.specs.Sets.{with_sets}
use Rattle.cd_types.specs.Text.{is_newline, put_sets, sets_from, sets_of_text}
use Rattle.cd_types.specs.Valid.{AreSourcesBehind, AreValid, IsBound, IsSourceBehind, IsValid, has_source}
use Rattle.cd_types.specs.declared.fault.TypesKind.TheVariants.{BadBound, BadKind, BadName, BadSource, NotText, TooLong, TooMany}
use Rattle.cd_types.specs.declared.fault.TypesKind.{TypesKind}
use Rattle.cd_types.specs.declared.limits.TheConstants.{FILE_LIMIT, NAME_LIMIT, SOURCES_LIMIT, SOURCE_NAME_LIMIT}
use Rattle.cd_value.specs.declared.data.DataSet.{DataSet}
use Rattle.cd_value.specs.declared.data.DataSource.{DataSource}
use Rattle.cd_value.specs.declared.data.DsType.{DsType}
use Rattle.cd_value.specs.declared.numbers.TheConstants.{NUMBER_LIMIT}
use Rattle.std.proofs.Common.{Bool, Err, List, None, Ok, Option, Result, Some, [], ap, arith, cond, false, length, map, refl, subst, suc, sym, take, true, zero, ℕ, ℤ, ◌*◌, ◌++◌, ◌+◌, ◌/◌, ◌<◌, ◌==◌, ◌^◌, ◌∙◌, ◌∷◌, ◌≡◌, ◌≤◌}
use Rattle.std.proofs.Math.Nat.{div-le_of_le-mul}
use Rattle.std.proofs.lemmas.Bool.{and_parts, ltb-false, ltb-true}
use Rattle.std.proofs.lemmas.List.{length-map, map-append}
use Rattle.std.specs.List.{AllByRecursion, before_first, list_any, onto_first, position_or_len, slice_split}
use Rattle.std.specs.Option.{option_to_list}
use Rattle.std.specs.Prelude.{nat_abs, nat_le, nat_lt, not, slice_index, ◌&&◌, ◌||◌}
use Rattle.std.specs.Str.{bytes_eq, is_utf8}

-- ---- what was read without a fault

-- each step was without a fault
went_on : {A B F : Type 0} (r : Result A F) (f : A → Result B F) (y : B) → (r >>= f) ≡ Ok y → (x : A) × (r ≡ Ok x) × (f x ≡ Ok y)
went_on (Ok x) f y h = (x, refl, h)
went_on (Err e) f y h = absurd (cc h)

abbrev ok_or_else : {A F : Type 0} → A → Result A F → A
ok_or_else other (Ok x) = x
ok_or_else other (Err e) = other

abbrev without_fault : {A : Type 0} (F : Type 0) → A → Result A F
without_fault F x = Ok x

the_same : {A F : Type 0} (x y : A) → without_fault F x ≡ Ok y → x ≡ y
the_same x y h = ap (ok_or_else x) h

one_held : {A F : Type 0} (b : Bool) (e : F) (x y : A) → unless ((b, e) ∷ []) x ≡ Ok y → (b ≡ true) × (x ≡ y)
one_held true e x y h = (refl, the_same x y h)
one_held false e x y h = absurd (cc h)

two_held : {A F : Type 0} (b d : Bool) (e f : F) (x y : A) → unless ((b, e) ∷ (d, f) ∷ []) x ≡ Ok y → (b ≡ true) × (d ≡ true) × (x ≡ y)
two_held true d e f x y h = let one = one_held d f x y h in (refl, one.0, one.1)
two_held false d e f x y h = absurd (cc h)

needed : {A : Type 0} (fault : TypesKind) (o : Option A) (x : A) → need fault o ≡ Ok x → o ≡ Some x
needed fault None x h = absurd (cc h)
needed fault (Some y) x h = ap Some (the_same y x h)

-- ---- a bound

abbrev IsSmall : Result ℤ NumFault → Type 0
IsSmall (Ok n) = nat_abs n ≤ NUMBER_LIMIT
IsSmall (Err fault) = Unit {0}

signed_small : (is_negative : Bool) (n : ℕ) → n ≤ NUMBER_LIMIT → IsSmall (with_sign is_negative (Some n))
signed_small true zero le = le
signed_small true (suc n) le = le
signed_small false n le = le

millionths_small : (is_negative : Bool) (n d : ℕ) → IsSmall (with_sign is_negative (bounded_millionths n d))
unfolding bounded_millionths
millionths_small is_negative n d = by (nat_lt (ones_limit * d) n) refl
  where
    by : (t : Bool) → nat_lt (ones_limit * d) n ≡ t → IsSmall (with_sign is_negative (cond t None (Some (n * 10 ^ 6 / d))))
    by true e = tt
    by false e =
        let le : n ≤ ones_limit * d = ltb-false (ones_limit * d) n e in
        signed_small is_negative (n * 10 ^ 6 / d) (div-le_of_le-mul d (omega arith))

-- a number that was read is at most the limit
number_small : (text : List ℕ) → IsSmall (number_of text)
unfolding number_of
number_small text = by (is_number (parts_of text)) (nat_lt DIGITS_LIMIT (length (parts_of text).whole + length (parts_of text).fraction))
  where
    by : (a b : Bool) → IsSmall (cond a (cond b (Err OutOfRange) (with_sign (parts_of text).is_negative (bounded_millionths (numerator (parts_of text)) (denominator (parts_of text))))) (Err BadNumber))
    by true true = tt
    by true false = millionths_small (parts_of text).is_negative (numerator (parts_of text)) (denominator (parts_of text))
    by false b = tt

abbrev IsSmallBound : Option (Option ℤ) → Type 0
IsSmallBound None = Unit {0}
IsSmallBound (Some bound) = IsBound bound

bound_small : (text : List ℕ) → IsSmallBound (bound_of text)
bound_small text = by (bytes_eq text (85 ∷ [])) (number_of text) (number_small text)
  where
    by : (b : Bool) (r : Result ℤ NumFault) → IsSmall r → IsSmallBound (cond b (Some None) (number_or_none r))
    by true r h = tt
    by false (Ok n) h = h
    by false (Err fault) h = tt

read_bound : (text : List ℕ) (bound : Option ℤ) → bound_of text ≡ Some bound → IsBound bound
read_bound text bound e = subst IsSmallBound e (bound_small text)

-- ---- an entry

-- what the parts of an entry say of its source
record IsOfParts (taken : Bool) (parts : List (List ℕ)) (s : DataSource) : Type 0 where
  rest : List (List ℕ)
  parts_are : parts ≡ s.name ∷ rest
  name : is_name SOURCE_NAME_LIMIT s.name ≡ true
  free : taken ≡ false
  min : IsBound s.min
  max : IsBound s.max
  in_order : are_in_order s.min s.max ≡ true

not_true : (b : Bool) → not b ≡ true → b ≡ false
not_true true h = absurd (cc h)
not_true false h = refl

-- what is read behind the name, the kind, and the bounds
abbrev source_with : List ℕ → DsType → Option ℤ → Option ℤ → DataSource
source_with name kind min max = record { name = name; kind = kind; min = min; max = max }

abbrev after_max : List ℕ → DsType → Option ℤ → Option ℤ → Result DataSource TypesKind
after_max name kind min max = unless ((are_in_order min max, BadBound) ∷ []) (source_with name kind min max)

abbrev after_min : List ℕ → List ℕ → DsType → Option ℤ → Result DataSource TypesKind
after_min b name kind min = need BadBound (bound_of b) >>= after_max name kind min

abbrev after_kind : List ℕ → List ℕ → List ℕ → DsType → Result DataSource TypesKind
after_kind a b name kind = need BadBound (bound_of a) >>= after_min b name kind

abbrev after_name : List ℕ → List ℕ → List ℕ → List ℕ → Result DataSource TypesKind
after_name k a b name = need BadKind (kind_named k) >>= after_kind a b name

of_parts : (taken : Bool) (parts : List (List ℕ)) (s : DataSource) → source_of taken parts ≡ Ok s → IsOfParts taken parts s
of_parts taken [] s h = absurd (cc h)
of_parts taken (n ∷ []) s h = absurd (cc h)
of_parts taken (n ∷ k ∷ []) s h = absurd (cc h)
of_parts taken (n ∷ k ∷ a ∷ []) s h = absurd (cc h)
of_parts taken (n ∷ k ∷ a ∷ b ∷ []) s h =
    let name = went_on (unless ((is_name SOURCE_NAME_LIMIT n && not taken, BadSource) ∷ []) n) (after_name k a b) s h in
    let good = one_held (is_name SOURCE_NAME_LIMIT n && not taken) BadSource n name.0 name.1 in
    let both = and_parts (is_name SOURCE_NAME_LIMIT n) (not taken) good.0 in
    let kind = went_on (need BadKind (kind_named k)) (after_kind a b name.0) s name.2 in
    let min = went_on (need BadBound (bound_of a)) (after_min b name.0 kind.0) s kind.2 in
    let max = went_on (need BadBound (bound_of b)) (after_max name.0 kind.0 min.0) s min.2 in
    let order = one_held (are_in_order min.0 max.0) BadBound (source_with name.0 kind.0 min.0 max.0) s max.2 in
    subst (IsOfParts taken (n ∷ k ∷ a ∷ b ∷ [])) order.1 (record {
      rest = k ∷ a ∷ b ∷ [];
      parts_are = ap (λ (t : List ℕ). t ∷ k ∷ a ∷ b ∷ []) good.1;
      name = ap (is_name SOURCE_NAME_LIMIT) (sym good.1) ∙ both.0;
      free = not_true taken both.1;
      min = read_bound a min.0 (needed BadBound (bound_of a) min.0 min.1);
      max = read_bound b max.0 (needed BadBound (bound_of b) max.0 max.1);
      in_order = order.0;
    })
of_parts taken (n ∷ k ∷ a ∷ b ∷ e ∷ more) s h = absurd (cc h)

-- the first part is what stands before the first cut
pub first_part : (p : ℕ → Bool) (xs : List ℕ) → (rest : List (List ℕ)) × (slice_split p xs ≡ before_first p xs ∷ rest)
first_part p [] = ([], refl)
first_part p (x ∷ xs) = by (p x) (first_part p xs)
  where
    by : (b : Bool) → (rest : List (List ℕ)) × (slice_split p xs ≡ before_first p xs ∷ rest)
        → (rest : List (List ℕ)) × (cond b ([] ∷ slice_split p xs) (onto_first x (slice_split p xs)) ≡ take (cond (not b) (1 + position_or_len p xs) 0) (x ∷ xs) ∷ rest)
    by true h = (slice_split p xs, refl)
    by false h =
        let place : 1 + position_or_len p xs ≡ suc (position_or_len p xs) = omega arith in
        (h.0, ap (onto_first x) h.1 ∙ ap (λ (n : ℕ). take n (x ∷ xs) ∷ h.0) (sym place))

abbrev head_or : List (List ℕ) → List ℕ
head_or [] = []
head_or (part ∷ parts) = part

pub name_is_first : (p : ℕ → Bool) (xs part : List ℕ) (parts : List (List ℕ)) → slice_split p xs ≡ part ∷ parts → before_first p xs ≡ part
name_is_first p xs part parts e = let first = first_part p xs in ap head_or (sym first.1 ∙ e)

-- the names of entries and of the sources that they give
abbrev pub names_of : List DataSource → List (List ℕ)
names_of sources = map (λ s. s.name) sources

pub taken_of : (name : List ℕ) (entries : List (List ℕ)) → is_taken entries name ≡ list_any (λ other. bytes_eq other name) (map name_of entries)
taken_of name [] = refl
taken_of name (entry ∷ entries) = ap (λ (b : Bool). bytes_eq (name_of entry) name || b) (taken_of name entries)

pub taken_is : (name : List ℕ) (earlier : List (List ℕ)) (others : List DataSource) → map name_of earlier ≡ names_of others → is_taken earlier name ≡ has_source name others
taken_is name earlier others same = taken_of name earlier ∙ ap (list_any (λ other. bytes_eq other name)) same

pub as_many : (earlier : List (List ℕ)) (others : List DataSource) → map name_of earlier ≡ names_of others → length earlier ≡ length others
as_many earlier others same = sym (length-map earlier name_of) ∙ ap length same ∙ length-map others (λ (s : DataSource). s.name)

-- an entry that was read gives a valid source, and its name
of_entry : (earlier : List (List ℕ)) (entry : List ℕ) (others : List DataSource) (s : DataSource) → map name_of earlier ≡ names_of others → source_behind earlier entry ≡ Ok s
    → IsSourceBehind others s × (name_of entry ≡ s.name)
unfolding source_behind
of_entry earlier entry others s same h =
    let few : Bool = nat_lt (length earlier) SOURCES_LIMIT in
    let plain : Bool = not (list_any is_comma (without_comma entry)) in
    let tests = went_on (unless ((few, TooMany) ∷ (plain, BadSource) ∷ []) entry) (λ e. source_of (is_taken earlier (name_of e)) (parts_of_entry e)) s h in
    let held = two_held few plain TooMany BadSource entry tests.0 tests.1 in
    let read : source_of (is_taken earlier (name_of entry)) (parts_of_entry entry) ≡ Ok s
    = ap (λ (e : List ℕ). source_of (is_taken earlier (name_of e)) (parts_of_entry e)) held.2 ∙ tests.2 in
    let parts = of_parts (is_taken earlier (name_of entry)) (parts_of_entry entry) s read in
    let name : name_of entry ≡ s.name = name_is_first is_colon (without_comma entry) s.name parts.rest parts.parts_are in (
      record {
        few = subst (λ (n : ℕ). n < SOURCES_LIMIT) (as_many earlier others same) (ltb-true (length earlier) SOURCES_LIMIT held.0);
        name = parts.name;
        apart = sym (taken_is s.name earlier others same) ∙ ap (is_taken earlier) (sym name) ∙ parts.free;
        min = parts.min;
        max = parts.max;
        in_order = parts.in_order;
      },
      name,
    )

pub names_with : (earlier : List (List ℕ)) (entry : List ℕ) (others : List DataSource) (s : DataSource) → map name_of earlier ≡ names_of others → name_of entry ≡ s.name
    → map name_of (earlier ++ entry ∷ []) ≡ names_of (others ++ s ∷ [])
names_with earlier entry others s same name =
    map-append name_of earlier (entry ∷ [])
    ∙ ap (λ (names : List (List ℕ)). names ++ name_of entry ∷ []) same
    ∙ ap (λ (t : List ℕ). names_of others ++ t ∷ []) name
    ∙ sym (map-append (λ (s : DataSource). s.name) others (s ∷ []))

of_entries : (earlier entries : List (List ℕ)) (others sources : List DataSource) → map name_of earlier ≡ names_of others → all_or_first (each_after source_behind earlier entries) ≡ Ok sources
    → AreSourcesBehind others sources × (length sources ≡ length entries)
unfolding all_or_first each_after
of_entries earlier [] others sources same h = subst (λ (ss : List DataSource). AreSourcesBehind others ss × (length ss ≡ 0)) (the_same [] sources h) (tt, refl)
of_entries earlier (entry ∷ entries) others sources same h =
    let one = went_on (source_behind earlier entry) (λ x. all_or_first (each_after source_behind (earlier ++ entry ∷ []) entries) >>= λ xs. Ok (x ∷ xs)) sources h in
    let rest = went_on (all_or_first (each_after source_behind (earlier ++ entry ∷ []) entries)) (λ xs. Ok (one.0 ∷ xs)) sources one.2 in
    let first = of_entry earlier entry others one.0 same one.1 in
    let more = of_entries (earlier ++ entry ∷ []) entries (others ++ one.0 ∷ []) rest.0 (names_with earlier entry others one.0 same first.1) rest.1 in
    subst (λ (ss : List DataSource). AreSourcesBehind others ss × (length ss ≡ suc (length entries))) (the_same (one.0 ∷ rest.0) sources rest.2)
    ((first.0, more.0), ap suc more.1)

-- ---- a line

set_with : List ℕ → List DataSource → DataSet
set_with name sources = record { name = name; sources = sources }

of_set : (name : List ℕ) (entries : List (List ℕ)) (set : DataSet) → set_of name entries ≡ Ok set → IsValid set
of_set name entries set h =
    let good : Bool = is_name NAME_LIMIT name in
    let some : Bool = nat_lt 0 (length entries) in
    let tests = went_on (unless ((good, BadName) ∷ (some, BadSource) ∷ []) entries) (λ es. sources_of es >>= λ sources. Ok (record { name = name; sources = sources })) set h in
    let held = two_held good some BadName BadSource entries tests.0 tests.1 in
    let read = went_on (sources_of tests.0) (λ sources. Ok (record { name = name; sources = sources })) set tests.2 in
    let sources = of_entries [] tests.0 [] read.0 refl read.1 in
    let there : 0 < length entries = ltb-true 0 (length entries) held.1 in
    let same : length entries ≡ length tests.0 = ap length held.2 in
    subst IsValid (the_same (record { name = name; sources = read.0 }) set read.2) (record {
      name = held.0;
      some = omega (arith, there, same, sources.1);
      sources = sources.0;
    })

of_runs : (runs : List (List ℕ)) (set : DataSet) → set_of_runs runs ≡ Ok (Some set) → IsValid set
of_runs [] set h = absurd (let never : None ≡ Some set = the_same None (Some set) h in cc never)
of_runs (run ∷ runs) set h = by (slice_index run 0 == 35) h
  where
    by : (b : Bool) → cond b (Ok None) (set_of run runs >>= some_set) ≡ Ok (Some set) → IsValid set
    by true e = absurd (let never : None ≡ Some set = the_same None (Some set) e in cc never)
    by false e =
        let read = went_on (set_of run runs) some_set (Some set) e in
        of_set run runs set (read.1 ∙ (let some : Some read.0 ≡ Some set = the_same (Some read.0) (Some set) read.2 in cc))

of_line : (line : List ℕ) (set : DataSet) → set_of_line line ≡ Ok (Some set) → IsValid set
unfolding set_of_line
of_line line set h =
    let read = went_on (unless ((is_utf8 line, NotText) ∷ []) line) (λ text. set_of_runs (runs_of (without_return text))) (Some set) h in
    of_runs (runs_of (without_return read.0)) set read.2

-- ---- a text

at_no_fault : {A : Type 0} (number : ℕ) (r : Result A TypesKind) (x : A) → at_line number r ≡ Ok x → r ≡ Ok x
at_no_fault number (Ok y) x h = ap Ok (the_same y x h)
at_no_fault number (Err kind) x h = absurd (cc h)

of_lines : (number : ℕ) (lines : List (List ℕ)) (sets : List DataSet) → sets_from number lines ≡ Ok sets → AllByRecursion IsValid sets
unfolding sets_from
of_lines number [] sets h = subst (AllByRecursion IsValid) (the_same [] sets h) tt
of_lines number (line ∷ lines) sets h =
    let one = went_on (at_line number (set_of_line line)) (λ set. sets_from (number + 1) lines >>= λ more. Ok (option_to_list set ++ more)) sets h in
    let rest = went_on (sets_from (number + 1) lines) (λ more. Ok (option_to_list one.0 ++ more)) sets one.2 in
    subst (AllByRecursion IsValid) (the_same (option_to_list one.0 ++ rest.0) sets rest.2)
    (with_one one.0 rest.0 (at_no_fault number (set_of_line line) one.0 one.1) (of_lines (number + 1) lines rest.0 rest.1))
  where
    with_one : (set : Option DataSet) (more : List DataSet) → set_of_line line ≡ Ok set → AllByRecursion IsValid more → AllByRecursion IsValid (option_to_list set ++ more)
    with_one None more e all = all
    with_one (Some set) more e all = (of_line line set e, all)

pub read_valid : (bytes : List ℕ) (sets : List DataSet) → sets_of_text bytes ≡ Ok sets → AreValid sets
unfolding sets_of_text
read_valid bytes sets h =
    let short = went_on (unless ((nat_le (length bytes) FILE_LIMIT, fault_at TooLong 0) ∷ []) bytes) (λ text. put_sets [] (sets_from 1 (slice_split is_newline text))) sets h in
    let read = went_on (sets_from 1 (slice_split is_newline short.0)) (λ others. Ok (with_sets others [])) sets short.2 in
    subst AreValid (the_same (with_sets read.0 []) sets read.2) (all_with read.0 [] (of_lines 1 (slice_split is_newline short.0) read.0 read.1) tt)
