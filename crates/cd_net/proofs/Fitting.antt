-- A values part that isn't refused has the fields of an identifier, and a list that fits the types.
use Rattle.byteorder.specs.Endian.{big_number}
use Rattle.cd_net.proofs.Cleaned.{field_clean, is_message-message_of, type_stays}
use Rattle.cd_net.proofs.Values.{coded_values, payload_values_are}
use Rattle.cd_net.specs.InForce.{InForce, in_force}
use Rattle.cd_net.specs.Items.{each_behind, is_sound, item_fits, item_in, items_of, list_of, list_outcome, note_of, note_outcome, or_refusal, outcome, outcome_behind}
use Rattle.cd_net.specs.Packet.{payload}
use Rattle.cd_net.specs.Payload.{code_of, coded_value, codes_of, numbers_of, payload_text}
use Rattle.cd_net.specs.Refusals.{are_texts, are_times, first_refusal, has_time, is_code_of, is_gauge_code, list_tests, note_tests, set_in_force, set_of_type, sources_of, texts_of}
use Rattle.cd_net.specs.declared.item.Item.TheVariants as items
use Rattle.cd_net.specs.declared.item.Item.{Item}
use Rattle.cd_net.specs.declared.item.ItemRefusal.TheVariants.{BadField, Gauge, NoTime, NotText, UnknownType, WrongCount, WrongKind}
use Rattle.cd_net.specs.declared.item.ItemRefusal.{ItemRefusal}
use Rattle.cd_net.specs.declared.numbers.TheConstants.{MESSAGE, VALUES}
use Rattle.cd_net.specs.declared.packet.Part.{Part}
use Rattle.cd_types.specs.Types.{fits, fits_set, fits_source, is_in_range, is_same_kind, kind_of, set_named}
use Rattle.cd_value.specs.Identifier.{Fields, has_bad_field, has_long_field, is_long}
use Rattle.cd_value.specs.declared.data.DataSet.{DataSet}
use Rattle.cd_value.specs.declared.data.DataSource.{DataSource}
use Rattle.cd_value.specs.declared.data.DsType.TheVariants as kinds
use Rattle.cd_value.specs.declared.data.DsType.{DsType}
use Rattle.cd_value.specs.declared.data.Value.TheVariants.{Absolute, Counter, Derive}
use Rattle.cd_value.specs.declared.data.Value.{Value}
use Rattle.cd_value.specs.declared.data.ValueList.{ValueList}
use Rattle.std.proofs.Common.{Bool, List, None, Option, Result, Some, [], ap, arith, cond, drop, false, length, not, refl, subst, suc, sym, true, zero, ℕ, ◌&&◌, ◌++◌, ◌==◌, ◌||◌, ◌∙◌, ◌∷◌, ◌≡◌}
use Rattle.std.proofs.lemmas.Bool.{and_from, and_parts, both_ways, eq-eqb, eqb-true, not-false, or_parts}
use Rattle.std.specs.Int.{cast_signed, w64}
use Rattle.std.specs.List.{cons_option, find, list_all, list_any, zip}
use Rattle.std.specs.Prelude.{IfSome, is_none, unwrap_or}
use Rattle.std.specs.Str.{bytes_eq}

-- ---- nothing is refused

passes : (test : Bool × ItemRefusal) (tests : List (Bool × ItemRefusal)) → first_refusal (test ∷ tests) ≡ None → (test.0 ≡ false) × (first_refusal tests ≡ None)
passes test tests h = by test.0 h
  where
    by : (t : Bool) → cond t (Some test.1) (first_refusal tests) ≡ None → (t ≡ false) × (first_refusal tests ≡ None)
    by true e = cc
    by false e = (refl, e)

-- what holds of a values part then
pub record Passes (set : Option DataSet) (texts : Fields) (codes : List ℕ) : Type 0 where
  pub good : has_bad_field texts ≡ false
  pub short : has_long_field texts ≡ false
  pub no_gauge : list_any is_gauge_code codes ≡ false
  pub known : is_none set ≡ false
  pub count : length codes ≡ length (sources_of set)
  pub kinds : list_all is_code_of (zip codes (sources_of set)) ≡ true

pub list_passes : (set : Option DataSet) (fields : InForce) (payload : List ℕ) → first_refusal (list_tests set fields payload) ≡ None → Passes set (texts_of fields) (codes_of payload)
list_passes set fields payload h =
    let tests = list_tests set fields payload in
    let texts = texts_of fields in
    let codes = codes_of payload in
    let sources = sources_of set in
    let first = passes (not (are_texts fields), NotText) (drop 1 tests) h in
    let second = passes (has_long_field texts || has_bad_field texts || not (are_times fields), BadField) (drop 2 tests) first.1 in
    let third = passes (list_any is_gauge_code codes, Gauge) (drop 3 tests) second.1 in
    let fourth = passes (is_none set, UnknownType) (drop 4 tests) third.1 in
    let fifth = passes (not (length codes == length sources), WrongCount) (drop 5 tests) fourth.1 in
    let sixth = passes (not (list_all is_code_of (zip codes sources)), WrongKind) (drop 6 tests) fifth.1 in
    let apart = or_parts (has_long_field texts || has_bad_field texts) (not (are_times fields)) second.0 in
    let both = or_parts (has_long_field texts) (has_bad_field texts) apart.0 in
    record {
      good = both.1;
      short = both.0;
      no_gauge = third.0;
      known = fourth.0;
      count = eqb-true (length codes) (length sources) (not-false (length codes == length sources) fifth.0);
      kinds = not-false (list_all is_code_of (zip codes sources)) sixth.0;
    }

-- ---- values

value_of_kind : (kind : DsType) (code : ℕ) (bytes : List ℕ) → (code == code_of kind) ≡ true → is_gauge_code code ≡ false
    → (value : Value) × (coded_value code bytes ≡ Some value) × ((is_same_kind kind (kind_of value) && is_in_range value) ≡ true)
value_of_kind kinds.Counter code bytes is plain = (Counter (big_number 8 bytes), rw (eqb-true code 0 is) refl, refl)
value_of_kind kinds.Gauge code bytes is plain = absurd (both_ways (is_gauge_code code) plain is)
value_of_kind kinds.Derive code bytes is plain = (Derive (cast_signed w64 (big_number 8 bytes)), rw (eqb-true code 2 is) refl, refl)
value_of_kind kinds.Absolute code bytes is plain = (Absolute (big_number 8 bytes), rw (eqb-true code 3 is) refl, refl)

abbrev pair_fits : DataSource × Value → Bool
pair_fits pair = fits_source pair.0 pair.1

record Fit (sources : List DataSource) (values : List Value) : Type 0 where
  count : length sources ≡ length values
  kinds : list_all pair_fits (zip sources values) ≡ true

values_fit : (codes : List ℕ) (sources : List DataSource) (bytes : List ℕ) → length codes ≡ length sources
    → list_all is_code_of (zip codes sources) ≡ true → list_any is_gauge_code codes ≡ false → Fit sources (coded_values codes bytes)
values_fit [] [] bytes count kinds plain = record { count = refl; kinds = refl }
values_fit [] (source ∷ sources) bytes count kinds plain = absurd (omega (arith, count))
values_fit (code ∷ codes) [] bytes count kinds plain = absurd (omega (arith, count))
values_fit (code ∷ codes) (source ∷ sources) bytes count kinds plain =
    let here = and_parts (is_code_of (code, source)) (list_all is_code_of (zip codes sources)) kinds in
    let none = or_parts (is_gauge_code code) (list_any is_gauge_code codes) plain in
    let value = value_of_kind source.kind code bytes here.0 none.0 in
    let later : length codes ≡ length sources = omega (arith, count) in
    let rest = values_fit codes sources (drop 8 bytes) later here.1 none.1 in
    let others = coded_values codes (drop 8 bytes) in
    let longer : length (source ∷ sources) ≡ length (value.0 ∷ others) = omega (arith, rest.count) in
    record {
      count = longer ∙ ap (λ (o : Option Value). length (cons_option o others)) (sym value.1);
      kinds =
          ap (λ (o : Option Value). list_all pair_fits (zip (source ∷ sources) (cons_option o others))) value.1
          ∙ and_from (pair_fits (source, value.0)) (list_all pair_fits (zip sources others)) value.2 rest.kinds;
    }

-- ---- the list

found : {X : Type 0} (p : X → Bool) (xs : List X) (x : X) → find p xs ≡ Some x → p x ≡ true
found p [] x h = cc
found {X} p (y ∷ ys) x h = by (p y) refl h (found p ys x)
  where
    by : (b : Bool) → p y ≡ b → cond b (Some y) (find p ys) ≡ Some x → (find p ys ≡ Some x → p x ≡ true) → p x ≡ true
    by true e k rest = let same : y ≡ x = cc in ap p (sym same) ∙ e
    by false e k rest = rest k

fits_named : (types : List DataSet) (list : ValueList) (set : DataSet) → set_named list.id.type_name types ≡ Some set → Fit set.sources list.values → fits types list ≡ true
unfolding fits_set
fits_named types list set is fit =
    let named : bytes_eq set.name list.id.type_name ≡ true = found (λ s. bytes_eq s.name list.id.type_name) types set is in
    let count : (length set.sources == length list.values) ≡ true = eq-eqb (length set.sources) (length list.values) fit.count in
    ap (λ (o : Option DataSet). elim o [ None ↦ false | Some s ↦ fits_set s list ]) is
    ∙ and_from (bytes_eq set.name list.id.type_name && length set.sources == length list.values) (list_all pair_fits (zip set.sources list.values))
    (and_from (bytes_eq set.name list.id.type_name) (length set.sources == length list.values) named count) fit.kinds

is_named : (types : List DataSet) (name : Option (List ℕ)) (set : DataSet) → set_of_type types name ≡ Some set → set_named (unwrap_or name []) types ≡ Some set
is_named types None set h = cc
is_named types (Some name) set h = by (is_long name) h
  where
    by : (t : Bool) → cond t None (set_named name types) ≡ Some set → set_named name types ≡ Some set
    by true e = cc
    by false e = e

list_fits : (types : List DataSet) (global : ℕ) (fields : InForce) (payload : List ℕ) → first_refusal (list_tests (set_in_force types fields) fields payload) ≡ None → fits types (list_of global fields payload) ≡ true
list_fits types global fields payload h = by (set_in_force types fields) refl (list_passes (set_in_force types fields) fields payload h)
  where
    by : (o : Option DataSet) → set_in_force types fields ≡ o → Passes (set_in_force types fields) (texts_of fields) (codes_of payload) → fits types (list_of global fields payload) ≡ true
    by None is pass = absurd (both_ways (is_none (set_in_force types fields)) pass.known (ap is_none is))
    by (Some set) is pass =
        let texts = texts_of fields in
        let codes = codes_of payload in
        let sources : sources_of (set_in_force types fields) ≡ set.sources = ap sources_of is in
        fits_named types (list_of global fields payload) set
        (ap (λ (name : List ℕ). set_named name types) (type_stays texts pass.good) ∙ is_named types fields.type_name set is)
        (subst (Fit set.sources) (payload_values_are payload) (values_fit codes set.sources (numbers_of payload) (pass.count ∙ ap length sources) (ap (λ (s : List DataSource). list_all is_code_of (zip codes s)) (sym sources) ∙ pass.kinds) pass.no_gauge))

-- ---- each item

-- what holds of each list and each notification that isn't refused holds of each item
outcome_holds : (P : Item → Bool) (set : Option DataSet) (global : ℕ) (fields : InForce) (kind : ℕ) (payload : List ℕ)
    → (first_refusal (list_tests set fields payload) ≡ None → P (items.List (list_of global fields payload)) ≡ true)
    → (first_refusal (note_tests fields (payload_text payload)) ≡ None → P (items.Note (note_of fields (unwrap_or (payload_text payload) []))) ≡ true)
    → IfSome (item_in (outcome set global fields kind payload)) (λ item. P item ≡ true)
unfolding list_outcome note_outcome
outcome_holds P set global fields kind payload of_list of_note = by (kind == VALUES) (kind == MESSAGE)
  where
    Holds : Option (Result Item ItemRefusal) → Type 0
    Holds gave = IfSome (item_in gave) (λ item. P item ≡ true)

    each : (o : Option ItemRefusal) (item : Item) → (o ≡ None → P item ≡ true) → Holds (Some (or_refusal item o))
    each None item holds = holds refl
    each (Some refusal) item holds = tt

    by : (values message : Bool) → Holds (cond values (Some (list_outcome set global fields payload)) (cond message (Some (note_outcome fields payload)) None))
    by true message = each (first_refusal (list_tests set fields payload)) (items.List (list_of global fields payload)) of_list
    by false true = each (first_refusal (note_tests fields (payload_text payload))) (items.Note (note_of fields (unwrap_or (payload_text payload) []))) of_note
    by false false = tt

all_behind : {A : Type 0} (P : A → Bool) (f : List Part → Part → Option A)
    → ((before : List Part) (part : Part) → IfSome (f before part) (λ x. P x ≡ true)) → (before parts : List Part) → list_all P (each_behind f before parts) ≡ true
unfolding each_behind
all_behind P f h before [] = refl
all_behind {A} P f h before (part ∷ parts) = by (f before part) (h before part) (all_behind P f h (before ++ part ∷ []) parts)
  where
    by : (o : Option A) → IfSome o (λ x. P x ≡ true) → list_all P (each_behind f (before ++ part ∷ []) parts) ≡ true
        → list_all P (cons_option o (each_behind f (before ++ part ∷ []) parts)) ≡ true
    by None i rest = rest
    by (Some x) i rest = and_from (P x) (list_all P (each_behind f (before ++ part ∷ []) parts)) i rest

pub each_item_fits : (types : List DataSet) (global : ℕ) (bytes : List ℕ) (parts : List Part) → list_all (item_fits types) (items_of types global bytes parts) ≡ true
each_item_fits types global bytes parts =
    all_behind (item_fits types) (λ before part. item_in (outcome_behind types global bytes before part)) (λ before part.
    let fields = in_force bytes before in
    let payload = payload bytes part in
    outcome_holds (item_fits types) (set_in_force types fields) global fields part.kind payload (list_fits types global fields payload) (λ h. refl)) [] parts

-- ---- each item is sound

later : (n : ℕ) (tests : List (Bool × ItemRefusal)) → first_refusal tests ≡ None → first_refusal (drop n tests) ≡ None
later zero tests h = h
later (suc n) [] h = h
later (suc n) (test ∷ tests) h = later n tests (passes test tests h).1

list_sound : (set : Option DataSet) (global : ℕ) (fields : InForce) (payload : List ℕ) → first_refusal (list_tests set fields payload) ≡ None → is_sound (items.List (list_of global fields payload)) ≡ true
list_sound set global fields payload h =
    not-false (has_time fields) (passes (not (has_time fields), NoTime) [] (later 6 (list_tests set fields payload) h)).0

note_sound : (fields : InForce) (message : Option (List ℕ)) → first_refusal (note_tests fields message) ≡ None → is_sound (items.Note (note_of fields (unwrap_or message []))) ≡ true
note_sound fields message h =
    let texts = texts_of fields in
    let tests = note_tests fields message in
    let time : has_time fields ≡ true = not-false (has_time fields) (passes (not (has_time fields), NoTime) [] (later 3 tests h)).0 in
    let second = passes (has_long_field texts || not (are_times fields), BadField) (drop 2 tests) (later 1 tests h) in
    let short = or_parts (has_long_field texts) (not (are_times fields)) second.0 in
    let long4 = or_parts (is_long texts.host || is_long texts.plugin || is_long texts.plugin_instance || is_long texts.type_name) (is_long texts.type_instance) short.0 in
    let long3 = or_parts (is_long texts.host || is_long texts.plugin || is_long texts.plugin_instance) (is_long texts.type_name) long4.0 in
    let long2 = or_parts (is_long texts.host || is_long texts.plugin) (is_long texts.plugin_instance) long3.0 in
    let long1 = or_parts (is_long texts.host) (is_long texts.plugin) long2.0 in
    rw (
      time,
      field_clean true texts.host long1.0,
      field_clean true texts.plugin long1.1,
      field_clean true texts.plugin_instance long2.1,
      field_clean false texts.type_name long3.1,
      field_clean false texts.type_instance long4.1,
    ) (is_message-message_of (unwrap_or message []))

pub each_item_is_sound : (types : List DataSet) (global : ℕ) (bytes : List ℕ) (parts : List Part) → list_all is_sound (items_of types global bytes parts) ≡ true
each_item_is_sound types global bytes parts =
    all_behind is_sound (λ before part. item_in (outcome_behind types global bytes before part)) (λ before part.
    let fields = in_force bytes before in
    let payload = payload bytes part in
    outcome_holds is_sound (set_in_force types fields) global fields part.kind payload (list_sound (set_in_force types fields) global fields payload) (note_sound fields (payload_text payload))) [] parts
