-- What the name of an identifier reads as.
use Rattle.cd_value.proofs.Cuts.{count_by_after_first, place_behind, place_none}
use Rattle.cd_value.proofs.Readable.{IsWhole, field_lengths, whole}
use Rattle.cd_value.specs.Identifier.{Fields, as_named, dashed, fields_of, has_bad_field, has_long_field, is_bad_text, is_control, is_dash, is_empty, is_identifier, is_slash, is_type_byte, name_of, plugin_part, read_identifier, read_of_name, type_part}
use Rattle.cd_value.specs.declared.identifier.IdFault.TheVariants.{BadIdentifier, FieldTooLong}
use Rattle.std.proofs.Common.{Bool, List, [], ap, append-nil, append_assoc, arith, cond, drop, false, length, not, refl, subst, suc, sym, take, true, ℕ, ◌++◌, ◌+◌, ◌<◌, ◌||◌, ◌∙◌, ◌∷◌, ◌≡◌, ◌≤◌}
use Rattle.std.proofs.Math.Bool.{or-false}
use Rattle.std.proofs.Math.ListN.{drop_of_length-le}
use Rattle.std.proofs.Math.Seq.{drop-append-add, take-append_seam, take-length}
use Rattle.std.proofs.lemmas.Bool.{and_parts, eqb-true, le-ltb}
use Rattle.std.proofs.lemmas.List.Folds.{list_any-append}
use Rattle.std.proofs.lemmas.List.{length-take, take-append-le}
use Rattle.std.specs.List.{after_first, before_first, list_all, list_any, position_or_len}
use Rattle.std.specs.Prelude.{Err, Ok, count_by, nat_lt}

-- ---- a text cut at a byte that passes

place_within : (p : ℕ → Bool) (xs ys : List ℕ) → list_any p xs ≡ true → (position_or_len p (xs ++ ys) ≡ position_or_len p xs) × (position_or_len p xs < length xs)
place_within p [] ys some = absurd (cc)
place_within p (x ∷ xs) ys some = step (p x) (place_within p xs ys) some
  where
    step : (b : Bool) → (list_any p xs ≡ true → (position_or_len p (xs ++ ys) ≡ position_or_len p xs) × (position_or_len p xs < length xs)) → (b || list_any p xs) ≡ true
        → (cond (not b) (1 + position_or_len p (xs ++ ys)) 0 ≡ cond (not b) (1 + position_or_len p xs) 0) × (cond (not b) (1 + position_or_len p xs) 0 < suc (length xs))
    step true rest h = (refl, omega arith)
    step false rest h = (ap (λ n. 1 + n) (rest h).0, omega (arith, (rest h).1))

before_behind : (p : ℕ → Bool) (xs : List ℕ) (y : ℕ) (ys : List ℕ) → list_any p xs ≡ false → p y ≡ true → before_first p (xs ++ y ∷ ys) ≡ xs
before_behind p xs y ys none e = ap (λ n. take n (xs ++ y ∷ ys)) (place_behind p xs y ys none e) ∙ take-append_seam xs (y ∷ ys)

after_behind : (p : ℕ → Bool) (xs : List ℕ) (y : ℕ) (ys : List ℕ) → list_any p xs ≡ false → p y ≡ true → after_first p (xs ++ y ∷ ys) ≡ ys
after_behind p xs y ys none e = ap (λ n. drop (n + 1) (xs ++ y ∷ ys)) (place_behind p xs y ys none e) ∙ drop-append-add xs (y ∷ ys) 1

before_none : (p : ℕ → Bool) (xs : List ℕ) → list_any p xs ≡ false → before_first p xs ≡ xs
before_none p xs none = ap (λ n. take n xs) (place_none p xs none) ∙ take-length xs

after_none : (p : ℕ → Bool) (xs : List ℕ) → list_any p xs ≡ false → after_first p xs ≡ []
after_none p xs none = ap (λ n. drop (n + 1) xs) (place_none p xs none) ∙ drop_of_length-le xs {i = length xs + 1} (omega arith)

count_behind : (p : ℕ → Bool) (xs : List ℕ) (y : ℕ) (ys : List ℕ) → list_any p xs ≡ false → p y ≡ true → count_by p (xs ++ y ∷ ys) ≡ 1 + count_by p ys
count_behind p xs y ys none e =
    count_by_after_first p (xs ++ y ∷ ys) (subst (λ n. n < length (xs ++ y ∷ ys)) (sym (place_behind p xs y ys none e)) (inside xs))
    ∙ ap (λ (rest : List ℕ). 1 + count_by p rest) (after_behind p xs y ys none e)
  where
    inside : (front : List ℕ) → length front < length (front ++ y ∷ ys)
    inside [] = omega arith
    inside (x ∷ front) = omega (arith, inside front)

-- ---- a part and its instance

dashed_passes_none : (p : ℕ → Bool) (instance : List ℕ) → p 45 ≡ false → list_any p instance ≡ false → list_any p (dashed instance) ≡ false
dashed_passes_none p [] e none = refl
dashed_passes_none p (b ∷ bs) e none = rw (e, none) refl

part_passes_none : (p : ℕ → Bool) (part instance : List ℕ) → p 45 ≡ false → list_any p part ≡ false → list_any p instance ≡ false → list_any p (part ++ dashed instance) ≡ false
part_passes_none p part instance e first second =
    list_any-append p part (dashed instance) ∙ (rw (first, dashed_passes_none p instance e second) refl)

before_dashed : (part instance : List ℕ) → list_any is_dash part ≡ false → before_first is_dash (part ++ dashed instance) ≡ part
before_dashed part [] none = ap (before_first is_dash) (append-nil part) ∙ before_none is_dash part none
before_dashed part (b ∷ bs) none = before_behind is_dash part 45 (b ∷ bs) none refl

after_dashed : (part instance : List ℕ) → list_any is_dash part ≡ false → after_first is_dash (part ++ dashed instance) ≡ instance
after_dashed part [] none = ap (after_first is_dash) (append-nil part) ∙ after_none is_dash part none
after_dashed part (b ∷ bs) none = after_behind is_dash part 45 (b ∷ bs) none refl

-- what stands before the first dash of a part doesn't depend on its instance
before_moved : (part instance : List ℕ) → before_first is_dash (part ++ dashed instance) ≡ before_first is_dash part
before_moved part instance = step (list_any is_dash part) refl
  where
    step : (b : Bool) → list_any is_dash part ≡ b → before_first is_dash (part ++ dashed instance) ≡ before_first is_dash part
    step false none = before_dashed part instance none ∙ sym (before_none is_dash part none)
    step true some =
        let place = place_within is_dash part (dashed instance) some in
        ap (λ n. take n (part ++ dashed instance)) place.0 ∙ take-append-le (position_or_len is_dash part) part (dashed instance) (omega (arith, place.1))

no_dash : (bytes : List ℕ) → list_all is_type_byte bytes ≡ true → list_any is_dash bytes ≡ false
no_dash [] h = refl
no_dash (b ∷ bs) h =
    let both = and_parts (is_type_byte b) (list_all is_type_byte bs) h in
    rw (type_byte b both.0, no_dash bs both.1) refl
  where
    type_byte : (byte : ℕ) → is_type_byte byte ≡ true → is_dash byte ≡ false
    type_byte byte e = step (is_dash byte) refl
      where
        step : (b : Bool) → is_dash byte ≡ b → b ≡ false
        step false h = refl
        step true h = absurd (let same : byte ≡ 45 = eqb-true byte 45 h in let at : is_type_byte 45 ≡ true = subst (λ n. is_type_byte n ≡ true) same e in cc)

-- ---- the name

-- what stands behind the first slash of the name
abbrev rest_of : Fields → List ℕ
rest_of id = (id.plugin ++ dashed id.plugin_instance) ++ 47 ∷ (id.type_name ++ dashed id.type_instance)

name_shape : (id : Fields) → name_of id ≡ id.host ++ 47 ∷ rest_of id
name_shape id = simp append_assoc

module _ (id : Fields) (w : IsWhole id) where
  plugin_part_slash : list_any is_slash (id.plugin ++ dashed id.plugin_instance) ≡ false
  plugin_part_slash = part_passes_none is_slash id.plugin id.plugin_instance refl w.plain.plugin_slash w.plain.plugin_instance_slash

  after_host : after_first is_slash (name_of id) ≡ rest_of id
  after_host = ap (after_first is_slash) (name_shape id) ∙ after_behind is_slash id.host 47 (rest_of id) w.plain.host_slash refl

  plugin_part_is : plugin_part (name_of id) ≡ id.plugin ++ dashed id.plugin_instance
  plugin_part_is =
      ap (before_first is_slash) after_host
      ∙ before_behind is_slash (id.plugin ++ dashed id.plugin_instance) 47 (id.type_name ++ dashed id.type_instance) plugin_part_slash refl

  type_part_is : type_part (name_of id) ≡ id.type_name ++ dashed id.type_instance
  type_part_is =
      ap (after_first is_slash) after_host
      ∙ after_behind is_slash (id.plugin ++ dashed id.plugin_instance) 47 (id.type_name ++ dashed id.type_instance) plugin_part_slash refl

  pub fields_of-name_of : fields_of (name_of id) ≡ as_named id
  fields_of-name_of =
      let host : before_first is_slash (name_of id) ≡ id.host = ap (before_first is_slash) (name_shape id) ∙ before_behind is_slash id.host 47 (rest_of id) w.plain.host_slash refl in
      let plugin : before_first is_dash (plugin_part (name_of id)) ≡ before_first is_dash id.plugin = ap (before_first is_dash) plugin_part_is ∙ before_moved id.plugin id.plugin_instance in
      let instance : after_first is_dash (plugin_part (name_of id)) ≡ after_first is_dash (id.plugin ++ dashed id.plugin_instance) = ap (after_first is_dash) plugin_part_is in
      let type_name : before_first is_dash (type_part (name_of id)) ≡ id.type_name = ap (before_first is_dash) type_part_is ∙ before_dashed id.type_name id.type_instance (no_dash id.type_name w.type_bytes) in
      let type_instance : after_first is_dash (type_part (name_of id)) ≡ id.type_instance = ap (after_first is_dash) type_part_is ∙ after_dashed id.type_name id.type_instance (no_dash id.type_name w.type_bytes) in
      cc

  two_slashes : nat_lt (count_by is_slash (name_of id)) 2 ≡ false
  two_slashes =
      let first : count_by is_slash (name_of id) ≡ 1 + count_by is_slash (rest_of id) = ap (count_by is_slash) (name_shape id) ∙ count_behind is_slash id.host 47 (rest_of id) w.plain.host_slash refl in
      let second : count_by is_slash (rest_of id) ≡ 1 + count_by is_slash (id.type_name ++ dashed id.type_instance) =
      count_behind is_slash (id.plugin ++ dashed id.plugin_instance) 47 (id.type_name ++ dashed id.type_instance) plugin_part_slash refl in
      le-ltb (count_by is_slash (name_of id)) 2 (omega arith)

  no_control : list_any is_control (name_of id) ≡ false
  no_control =
      let plugin : list_any is_control (id.plugin ++ dashed id.plugin_instance) ≡ false = part_passes_none is_control id.plugin id.plugin_instance refl w.plain.plugin_control w.plain.plugin_instance_control in
      let type_part : list_any is_control (id.type_name ++ dashed id.type_instance) ≡ false = part_passes_none is_control id.type_name id.type_instance refl w.plain.type_control w.plain.type_instance_control in
      let rest : list_any is_control (rest_of id) ≡ false =
      list_any-append is_control (id.plugin ++ dashed id.plugin_instance) (47 ∷ (id.type_name ++ dashed id.type_instance)) ∙ (rw (plugin, type_part) refl) in
      ap (list_any is_control) (name_shape id) ∙ list_any-append is_control id.host (47 ∷ rest_of id) ∙ (rw (w.plain.host_control, rest) refl)

short_enough : (bytes : List ℕ) → length bytes ≤ 127 → nat_lt 127 (length bytes) ≡ false
short_enough bytes h = le-ltb 127 (length bytes) h

bad_named : (id : Fields) → IsWhole id → has_bad_field (as_named id) ≡ is_empty (before_first is_dash id.plugin)
bad_named id w = rw (w.host, w.type_name, w.type_bytes, or-false (is_empty (before_first is_dash id.plugin)), or-false (is_empty (before_first is_dash id.plugin))) refl

long_named : (id : Fields) → is_identifier id ≡ true → has_long_field (as_named id) ≡ nat_lt 127 (length (as_named id).plugin_instance)
long_named id h =
    let short = field_lengths id h in
    let plugin : length (before_first is_dash id.plugin) ≤ 127 = omega (arith, length-take (position_or_len is_dash id.plugin) id.plugin, short.1) in
    let moved = nat_lt 127 (length (as_named id).plugin_instance) in
    rw (short_enough id.host short.0, short_enough (before_first is_dash id.plugin) plugin, short_enough id.type_name short.3, short_enough id.type_instance short.4, or-false moved, or-false moved) refl

-- the name of an identifier reads as the definition says
pub read_identifier-name_of : (id : Fields) → is_identifier id ≡ true → read_identifier (name_of id) ≡ read_of_name id
read_identifier-name_of id h =
    let w = whole id h in
    let same : fields_of (name_of id) ≡ as_named id = fields_of-name_of id w in
    let bad : is_bad_text (name_of id) ≡ is_empty (as_named id).plugin = rw (two_slashes id w, no_control id w) (ap has_bad_field same ∙ bad_named id w) in
    let long : has_long_field (fields_of (name_of id)) ≡ nat_lt 127 (length (as_named id).plugin_instance) = ap has_long_field same ∙ long_named id h in
    chosen (is_bad_text (name_of id)) (is_empty (as_named id).plugin) (has_long_field (fields_of (name_of id))) (nat_lt 127 (length (as_named id).plugin_instance)) (fields_of (name_of id)) (as_named id) bad long same
  where
    chosen : (b b' l l' : Bool) (f f' : Fields) → b ≡ b' → l ≡ l' → f ≡ f'
        → cond b (Err BadIdentifier) (cond l (Err FieldTooLong) (Ok f)) ≡ cond b' (Err BadIdentifier) (cond l' (Err FieldTooLong) (Ok f'))
    chosen b b' l l' f f' p q r = cc

abbrev with_plugin : Fields → List ℕ → List ℕ → Fields
with_plugin id part instance = record { host = id.host; plugin = part; plugin_instance = instance; type_name = id.type_name; type_instance = id.type_instance }

-- and as itself where the plugin has no dash
pub read_again : (id : Fields) → is_identifier id ≡ true → list_any is_dash id.plugin ≡ false → read_identifier (name_of id) ≡ Ok id
read_again id h none =
    let w = whole id h in
    let short = field_lengths id h in
    let plugin : before_first is_dash id.plugin ≡ id.plugin = before_none is_dash id.plugin none in
    let instance : after_first is_dash (id.plugin ++ dashed id.plugin_instance) ≡ id.plugin_instance = after_dashed id.plugin id.plugin_instance none in
    let same : as_named id ≡ id = ap (λ (part : List ℕ). with_plugin id part (as_named id).plugin_instance) plugin ∙ ap (with_plugin id id.plugin) instance in
    let empty : is_empty (as_named id).plugin ≡ false = ap is_empty plugin ∙ w.plugin in
    let long : nat_lt 127 (length (as_named id).plugin_instance) ≡ false = ap (λ (bytes : List ℕ). nat_lt 127 (length bytes)) instance ∙ short_enough id.plugin_instance short.2 in
    read_identifier-name_of id h ∙ chosen (is_empty (as_named id).plugin) (nat_lt 127 (length (as_named id).plugin_instance)) (as_named id) empty long same
  where
    chosen : (b l : Bool) (f : Fields) → b ≡ false → l ≡ false → f ≡ id → cond b (Err BadIdentifier) (cond l (Err FieldTooLong) (Ok f)) ≡ Ok id
    chosen b l f p q r = rw (p, q, r) refl
