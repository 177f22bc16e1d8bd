-- Value words, read value by value.
use Rattle.cd_sock.proofs.AllOrNone.{none_cond, some_cond}
use Rattle.cd_sock.specs.Meaning.{list_at}
use Rattle.cd_sock.specs.Values.{has_count, has_time, has_values, is_colon, is_now, is_whole, reading, texts_in, time_at, time_text, value_at, value_of, value_texts, values_in}
use Rattle.cd_text.specs.Time.{time_of}
use Rattle.cd_text.specs.declared.word.Word.{Word}
use Rattle.cd_value.specs.Identifier.{Fields}
use Rattle.cd_value.specs.declared.data.DataSource.{DataSource}
use Rattle.cd_value.specs.declared.data.Value.{Value}
use Rattle.cd_value.specs.declared.data.ValueList.{ValueList}
use Rattle.std.proofs.Common.{Bool, Bor, Err, List, None, Ok, Option, Result, Some, [], add-one, ap, append_assoc, arith, cond, drop, drop-cons, false, get_or, inl, inr, length, option_copied, refl, suc, sym, true, ℕ, ◌&&◌, ◌++◌, ◌+◌, ◌<◌, ◌||◌, ◌∙◌, ◌∷◌, ◌≡◌, ◌≤◌}
use Rattle.std.proofs.lemmas.Bool.{and_right, cases_eq, cond-false, cond-true, eq-eqb, ne_eqb}
use Rattle.std.proofs.lemmas.List.Splits.{length-slice_split}
use Rattle.std.proofs.lemmas.List.{append-nil, drop_all}
use Rattle.std.specs.List.{cons_option, filter_map, list_all, slice_split, zip}
use Rattle.std.specs.Prelude.{is_ok, is_some, unwrap_or, ◌==◌}
use Rattle.std.specs.Result.{result_ok}

abbrev onto_value : Option Value → Option (List Value) → Option (List Value)
onto_value None values = None
onto_value (Some value) None = None
onto_value (Some value) (Some values) = Some (value ∷ values)

-- the values, pair by pair
abbrev pub pairwise : List DataSource → List (List ℕ) → Option (List Value)
pairwise [] [] = Some []
pairwise [] (text ∷ texts) = None
pairwise (source ∷ sources) [] = None
pairwise (source ∷ sources) (text ∷ texts) = onto_value (value_of source.kind text) (pairwise sources texts)

abbrev all_values : Bool → List Value → Option (List Value)
all_values b values = cond b (Some values) None

same_count : (a b : ℕ) → (suc a == suc b) ≡ (a == b)
same_count a b = elim (cases_eq a b) [ inl same ↦ eq_eqb_both same | inr other ↦ ne_eqb (suc a) (suc b) (λ h. other (omega arith)) ∙ sym (ne_eqb a b other) ]
  where
    eq_eqb_both : a ≡ b → (suc a == suc b) ≡ (a == b)
    eq_eqb_both same = eq-eqb (suc a) (suc b) (ap suc same) ∙ sym (eq-eqb a b same)

onto_cond : (b : Bool) (value : Value) (values : List Value) → cond b (Some (value ∷ values)) None ≡ onto_value (Some value) (cond b (Some values) None)
onto_cond true value values = refl
onto_cond false value values = refl

pub by_pairs : (sources : List DataSource) (texts : List (List ℕ)) → values_in sources texts ≡ pairwise sources texts
unfolding values_in
by_pairs [] [] = refl
by_pairs [] (text ∷ texts) = ap (λ (b : Bool). all_values (b && true) []) (ne_eqb (suc (length texts)) 0 (λ h. omega arith))
by_pairs (source ∷ sources) [] = ap (λ (b : Bool). all_values (b && true) []) (ne_eqb 0 (suc (length sources)) (λ h. omega arith))
by_pairs (source ∷ sources) (text ∷ texts) = by (value_of source.kind text) refl (by_pairs sources texts)
  where
    by : (o : Option Value) → value_of source.kind text ≡ o → values_in sources texts ≡ pairwise sources texts → values_in (source ∷ sources) (text ∷ texts) ≡ onto_value o (pairwise sources texts)
    by None e more =
        let count : Bool = length (text ∷ texts) == length (source ∷ sources) in
        let rest : List Value = filter_map value_at (zip (source ∷ sources) (text ∷ texts)) in
        ap (λ (o : Option Value). all_values (count && (is_some o && list_all (λ pair. is_some (value_at pair)) (zip sources texts))) rest) e
        ∙ ap (λ (b : Bool). all_values b rest) (and_right count false refl)
    by (Some value) e more =
        let fit : Bool = list_all (λ pair. is_some (value_at pair)) (zip sources texts) in
        let rest : List Value = filter_map value_at (zip sources texts) in
        ap (λ (o : Option Value). all_values ((length (text ∷ texts) == length (source ∷ sources)) && (is_some o && fit)) (cons_option o rest)) e
        ∙ ap (λ (b : Bool). all_values (b && fit) (value ∷ rest)) (same_count (length texts) (length sources))
        ∙ onto_cond (length texts == length sources && fit) value rest ∙ ap (onto_value (Some value)) more

-- values that were read before those that still come
abbrev pub onto_front : List Value → Option (List Value) → Option (List Value)
onto_front front None = None
onto_front front (Some values) = Some (front ++ values)

next_source : (sources : List DataSource) (i : ℕ) (source : DataSource) → i < length sources → source ≡ get_or sources i source → drop i sources ≡ source ∷ drop (i + 1) sources
next_source sources i source lt at =
    let cut : drop i sources ≡ get_or sources i source ∷ drop (i + 1) sources = rw add-one (drop-cons sources i source lt) in
    cut ∙ ap (λ (s : DataSource). s ∷ drop (i + 1) sources) (sym at)

-- at a source: what is still read
at_source : (sources : List DataSource) (i : ℕ) (source : DataSource) (front : List Value) (texts : List (List ℕ)) (total : Option (List Value)) → i < length sources
    → source ≡ get_or sources i source → onto_front front (pairwise (drop i sources) texts) ≡ total → onto_front front (pairwise (source ∷ drop (i + 1) sources) texts) ≡ total
at_source sources i source front texts total lt at so_far = ap (λ (ss : List DataSource). onto_front front (pairwise ss texts)) (sym (next_source sources i source lt at)) ∙ so_far

one_more : (front : List Value) (value : Value) (more : Option (List Value)) → onto_front (front ++ value ∷ []) more ≡ onto_front front (onto_value (Some value) more)
one_more front value None = refl
one_more front value (Some values) = ap (λ (vs : List Value). Some vs) (append_assoc front (value ∷ []) values)

pub goes_on : (sources : List DataSource) (i : ℕ) (source : DataSource) (front : List Value) (texts more : List (List ℕ)) (text : List ℕ) (value : Value) (total : Option (List Value)) → i < length sources
    → source ≡ get_or sources i source → texts ≡ text ∷ more → value_of source.kind text ≡ Some value → onto_front front (pairwise (drop i sources) texts) ≡ total
    → onto_front (front ++ value ∷ []) (pairwise (drop (i + 1) sources) more) ≡ total
goes_on sources i source front texts more text value total lt at cut is so_far =
    one_more front value (pairwise (drop (i + 1) sources) more)
    ∙ ap (λ (o : Option Value). onto_front front (onto_value o (pairwise (drop (i + 1) sources) more))) (sym is)
    ∙ ap (λ (ts : List (List ℕ)). onto_front front (pairwise (source ∷ drop (i + 1) sources) ts)) (sym cut)
    ∙ at_source sources i source front texts total lt at so_far

pub stops : (sources : List DataSource) (i : ℕ) (source : DataSource) (front : List Value) (texts more : List (List ℕ)) (text : List ℕ) (total : Option (List Value)) → i < length sources
    → source ≡ get_or sources i source → texts ≡ text ∷ more → value_of source.kind text ≡ None → onto_front front (pairwise (drop i sources) texts) ≡ total → None ≡ total
stops sources i source front texts more text total lt at cut is so_far =
    ap (λ (o : Option Value). onto_front front (onto_value o (pairwise (drop (i + 1) sources) more))) (sym is)
    ∙ ap (λ (ts : List (List ℕ)). onto_front front (pairwise (source ∷ drop (i + 1) sources) ts)) (sym cut)
    ∙ at_source sources i source front texts total lt at so_far

pub lacks_one : (sources : List DataSource) (i : ℕ) (source : DataSource) (front : List Value) (total : Option (List Value)) → i < length sources
    → source ≡ get_or sources i source → onto_front front (pairwise (drop i sources) []) ≡ total → None ≡ total
lacks_one sources i source front total lt at so_far = at_source sources i source front [] total lt at so_far

-- after the last source
at_end : (sources : List DataSource) (i : ℕ) (front : List Value) (texts : List (List ℕ)) (total : Option (List Value)) → length sources ≤ i
    → onto_front front (pairwise (drop i sources) texts) ≡ total → onto_front front (pairwise [] texts) ≡ total
at_end sources i front texts total le so_far = ap (λ (ss : List DataSource). onto_front front (pairwise ss texts)) (sym (drop_all i sources le)) ∙ so_far

none_left : (texts : List (List ℕ)) → 0 < length texts → pairwise [] texts ≡ None
none_left [] some = absurd (omega arith)
none_left (text ∷ texts) some = refl

has_one_more : (sources : List DataSource) (i : ℕ) (front : List Value) (rest : List ℕ) (total : Option (List Value)) → length sources ≤ i
    → onto_front front (pairwise (drop i sources) (slice_split is_colon rest)) ≡ total → None ≡ total
has_one_more sources i front rest total le so_far =
    ap (onto_front front) (sym (none_left (slice_split is_colon rest) (omega (arith, length-slice_split is_colon rest)))) ∙ at_end sources i front (slice_split is_colon rest) total le so_far

ends : (sources : List DataSource) (i : ℕ) (front : List Value) (total : Option (List Value)) → length sources ≤ i
    → onto_front front (pairwise (drop i sources) []) ≡ total → Some front ≡ total
ends sources i front total le so_far = ap (λ (vs : List Value). Some vs) (sym (append-nil front)) ∙ at_end sources i front [] total le so_far

pub begins : (front : List Value) (total : Option (List Value)) → front ≡ [] → onto_front front total ≡ total
begins front None e = refl
begins front (Some values) e = ap (λ (vs : List Value). Some (vs ++ values)) e

-- after the last source no text may be left
pub at_last : (sources : List DataSource) (i : ℕ) (front : List Value) (left : Option (Bor (List ℕ))) (total : Option (List Value)) → length sources ≤ i
    → onto_front front (pairwise (drop i sources) (texts_in (option_copied left))) ≡ total → (is_some left ≡ true → None ≡ total) × (is_some left ≡ false → Some front ≡ total)
at_last sources i front None total le so_far = (λ e. cc, λ e. ends sources i front total le so_far)
at_last sources i front (Some rest) total le so_far = (λ e. has_one_more sources i front rest.now total le so_far, λ e. cc)

-- ---- a word

-- a time that was read is one, and is the time of the word
pub time_read : {E : Type 0} (now t : ℕ) (is_moment : Bool) (read : Result ℕ E) → cond is_moment (Some now) (result_ok read) ≡ Some t
    → ((is_moment || is_ok read) ≡ true) × (t ≡ unwrap_or (cond is_moment None (result_ok read)) now)
time_read {E} now t true read e = (refl, cc)
time_read {E} now t false (Ok x) e = (refl, cc)
time_read {E} now t false (Err f) e = (cc, cc)

not_whole : (a b c : Bool) → (b && c) ≡ false → ((a && b) && c) ≡ false
not_whole true b c e = e
not_whole false b c e = refl

are_whole : (a b c : Bool) → a ≡ true → (b && c) ≡ true → ((a && b) && c) ≡ true
are_whole a b c h e = ap (λ (x : Bool). (x && b) && c) h ∙ e

-- a word whose values have a fault gives no list
pub no_list : (sources : List DataSource) (word : Word) (list : ValueList) (texts : List (List ℕ)) → value_texts word.text ≡ texts → None ≡ values_in sources texts
    → None ≡ cond (is_whole sources word) (Some list) None
unfolding values_in
no_list sources word list texts same e =
    let bad : (has_count sources word && has_values sources word) ≡ false = none_cond _ _ (ap (values_in sources) same ∙ sym e) in
    sym (cond-false _ (Some list) None (not_whole (has_time word) (has_count sources word) (has_values sources word) bad))

-- a word with a time and values gives its list
pub whole_list : (sources : List DataSource) (word : Word) (id : Fields) (now interval time : ℕ) (values : List Value) (texts : List (List ℕ)) → value_texts word.text ≡ texts → Some time ≡ time_at now (time_text word.text) → Some values ≡ values_in sources texts
    → Some (record { id = id; time = time; interval = interval; values = values }) ≡ cond (is_whole sources word) (Some (list_at now interval id (reading sources word))) None
unfolding values_in
whole_list sources word id now interval time values texts same t e =
    let all = some_cond (has_count sources word && has_values sources word) (filter_map value_at (zip sources (value_texts word.text))) values (ap (values_in sources) same ∙ sym e) in
    let moment = time_read now time (is_now (time_text word.text)) (time_of (time_text word.text)) (sym t) in
    ap (λ (v : List Value). Some (record { id = id; time = time; interval = interval; values = v })) (sym all.1)
    ∙ ap (λ (t : ℕ). Some (record { id = id; time = t; interval = interval; values = filter_map value_at (zip sources (value_texts word.text)) })) moment.1
    ∙ sym (cond-true _ (Some (list_at now interval id (reading sources word))) None (are_whole (has_time word) (has_count sources word) (has_values sources word) moment.0 all.0))
