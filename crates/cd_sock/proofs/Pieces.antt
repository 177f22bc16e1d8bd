-- Lines of a stream that comes in pieces.
use Rattle.cd_sock.proofs.AllOrNone.{none_cond, some_cond}
use Rattle.cd_sock.specs.Lines.{BeginsWith, Cut, Finishes, HasCut, IsInLine, IsUnfinished, Takes, TakesAll, but_last, cut, cut_lines, if_not_empty, is_newline, last_part, lines, none, takes, through_newline, unfinished, used_up, whole_lines}
use Rattle.cd_sock.specs.declared.lines.TheConstants.{HELD_LIMIT, LINE_LIMIT}
use Rattle.std.proofs.Common.{Bool, List, None, Option, Some, [], add-one, add_comm, ap, append_assoc, arith, cond, drop, false, get_or, inl, inr, length, length-append, length-take, map, refl, subst, suc, sym, take, true, zero, ℕ, ◌++◌, ◌+◌, ◌<◌, ◌∙◌, ◌∷◌, ◌≡◌, ◌≤◌}
use Rattle.std.proofs.Math.Seq.{take-append-add, take-suc}
use Rattle.std.proofs.lemmas.Bool.{cases_lt, cond-false, cond-true, eqb-true, le-ltb, lt-ltb, ltb-false}
use Rattle.std.proofs.lemmas.List.Quantifiers.{position-Some}
use Rattle.std.proofs.lemmas.List.Splits.{length-slice_split, slice_split_at, slice_split_none}
use Rattle.std.proofs.lemmas.List.Sums.{fails_before_first}
use Rattle.std.proofs.lemmas.List.{append-nil, get_or-take, map-append, take-append-drop, take_all}
use Rattle.std.specs.List.{concat, onto_first, position, position_or_len, slice_split}
use Rattle.std.specs.Option.{option_to_list}

-- ---- bytes of one line

pub empty_in : IsInLine []
empty_in k d lt = absurd (omega arith)

pub cons_in : (b : ℕ) (bs : List ℕ) → is_newline b ≡ false → IsInLine bs → IsInLine (b ∷ bs)
cons_in b bs h t zero d lt = h
cons_in b bs h t (suc k) d lt = t k d (omega arith)

tail_in : (b : ℕ) (bs : List ℕ) → IsInLine (b ∷ bs) → IsInLine bs
tail_in b bs h k d lt = h (suc k) d (omega arith)

append_in : (xs ys : List ℕ) → IsInLine xs → IsInLine ys → IsInLine (xs ++ ys)
append_in [] ys p q = q
append_in (x ∷ xs) ys p q = cons_in x (xs ++ ys) (p 0 0 (omega arith)) (append_in xs ys (tail_in x xs p) q)

take_in : (n : ℕ) (xs : List ℕ) → IsInLine xs → IsInLine (take n xs)
take_in zero xs p = empty_in
take_in (suc n) [] p = empty_in
take_in (suc n) (x ∷ xs) p = cons_in x (take n xs) (p 0 0 (omega arith)) (take_in n xs (tail_in x xs p))

-- ---- the parts between newlines

some_parts : (bytes : List ℕ) → 0 < length (slice_split is_newline bytes)
some_parts bytes = omega (arith, length-slice_split is_newline bytes)

parts_of_cons : (b : ℕ) (bs : List ℕ) (t : Bool) → is_newline b ≡ t → slice_split is_newline (b ∷ bs) ≡ cond t ([] ∷ slice_split is_newline bs) (onto_first b (slice_split is_newline bs))
parts_of_cons b bs t e = ap (λ (u : Bool). cond u ([] ∷ slice_split is_newline bs) (onto_first b (slice_split is_newline bs))) e

-- more parts, of which the first goes on with the last of these
onward : List (List ℕ) → (List ℕ → List (List ℕ)) → List (List ℕ)
onward ps more = but_last ps ++ more (last_part ps)

-- a part before all others
onward_cons : (x : List ℕ) (ps : List (List ℕ)) (more : List ℕ → List (List ℕ)) → 0 < length ps → x ∷ onward ps more ≡ onward (x ∷ ps) more
unfolding onward
onward_cons x [] more some = absurd (omega arith)
onward_cons x (p ∷ ps) more some = refl

-- what comes after some bytes goes on with their last part
parts_joined : (bytes more : List ℕ) → slice_split is_newline (bytes ++ more) ≡ onward (slice_split is_newline bytes) (λ last. slice_split is_newline (last ++ more))
unfolding onward
parts_joined [] more = refl
parts_joined (b ∷ bs) more = by (parts_joined bs more) (is_newline b) refl
  where
    rest : List ℕ → List (List ℕ)
    rest last = slice_split is_newline (last ++ more)

    onto : (ps : List (List ℕ)) → is_newline b ≡ false → 0 < length ps → onto_first b (onward ps rest) ≡ onward (onto_first b ps) rest
    onto [] e some = absurd (omega arith)
    onto (p ∷ []) e some = sym (parts_of_cons b (p ++ more) false e)
    onto (p ∷ q ∷ ps) e some = refl

    by : slice_split is_newline (bs ++ more) ≡ onward (slice_split is_newline bs) rest → (t : Bool) → is_newline b ≡ t
        → slice_split is_newline (b ∷ (bs ++ more)) ≡ onward (slice_split is_newline (b ∷ bs)) rest
    by same true e =
        parts_of_cons b (bs ++ more) true e ∙ ap (λ (ps : List (List ℕ)). [] ∷ ps) same ∙ onward_cons [] (slice_split is_newline bs) rest (some_parts bs)
        ∙ ap (λ (ps : List (List ℕ)). onward ps rest) (sym (parts_of_cons b bs true e))
    by same false e =
        parts_of_cons b (bs ++ more) false e ∙ ap (onto_first b) same ∙ onto (slice_split is_newline bs) e (some_parts bs)
        ∙ ap (λ (ps : List (List ℕ)). onward ps rest) (sym (parts_of_cons b bs false e))

but_last_joined : (ps qs : List (List ℕ)) → 0 < length qs → but_last (ps ++ qs) ≡ ps ++ but_last qs
but_last_joined [] qs some = refl
but_last_joined (p ∷ []) [] some = absurd (omega arith)
but_last_joined (p ∷ []) (q ∷ qs) some = refl
but_last_joined (p ∷ r ∷ ps) qs some = ap (λ (xs : List (List ℕ)). p ∷ xs) (but_last_joined (r ∷ ps) qs some)

last_joined : (ps qs : List (List ℕ)) → 0 < length qs → last_part (ps ++ qs) ≡ last_part qs
last_joined [] qs some = refl
last_joined (p ∷ []) [] some = absurd (omega arith)
last_joined (p ∷ []) (q ∷ qs) some = refl
last_joined (p ∷ r ∷ ps) qs some = last_joined (r ∷ ps) qs some

-- ---- bytes after others

pub whole_joined : (heard more : List ℕ) → whole_lines (heard ++ more) ≡ whole_lines heard ++ whole_lines (unfinished heard ++ more)
unfolding whole_lines unfinished onward
whole_joined heard more =
    ap but_last (parts_joined heard more)
    ∙ but_last_joined (but_last (slice_split is_newline heard)) (slice_split is_newline (last_part (slice_split is_newline heard) ++ more)) (some_parts (last_part (slice_split is_newline heard) ++ more))

unfinished_joined : (heard more : List ℕ) → unfinished (heard ++ more) ≡ unfinished (unfinished heard ++ more)
unfolding unfinished onward
unfinished_joined heard more =
    ap last_part (parts_joined heard more)
    ∙ last_joined (but_last (slice_split is_newline heard)) (slice_split is_newline (last_part (slice_split is_newline heard) ++ more)) (some_parts (last_part (slice_split is_newline heard) ++ more))

-- the lines of a stream begin with the whole lines of each of its beginnings
lines_joined : (heard more : List ℕ) → lines (heard ++ more) ≡ whole_lines heard ++ lines (unfinished heard ++ more)
unfolding lines
lines_joined heard more =
    ap (λ (ls : List (List ℕ)). ls ++ if_not_empty (unfinished (heard ++ more))) (whole_joined heard more)
    ∙ ap (λ (bytes : List ℕ). (whole_lines heard ++ whole_lines (unfinished heard ++ more)) ++ if_not_empty bytes) (unfinished_joined heard more)
    ∙ append_assoc (whole_lines heard) (whole_lines (unfinished heard ++ more)) (if_not_empty (unfinished (unfinished heard ++ more)))

-- bytes of one line end none
whole_none : (bytes : List ℕ) → IsInLine bytes → whole_lines bytes ≡ []
unfolding whole_lines
whole_none bytes a = ap but_last (slice_split_none is_newline bytes a)

unfinished_none : (bytes : List ℕ) → IsInLine bytes → unfinished bytes ≡ bytes
unfolding unfinished
unfinished_none bytes a = ap last_part (slice_split_none is_newline bytes a)

-- and with a newline they end one
whole_one : (bytes : List ℕ) → IsInLine bytes → whole_lines (bytes ++ 10 ∷ []) ≡ bytes ∷ []
unfolding whole_lines
whole_one bytes a = ap but_last (slice_split_at is_newline bytes 10 [] a refl)

unfinished_one : (bytes : List ℕ) → IsInLine bytes → unfinished (bytes ++ 10 ∷ []) ≡ []
unfolding unfinished
unfinished_one bytes a = ap last_part (slice_split_at is_newline bytes 10 [] a refl)

-- what stands after the last newline has none
rest_in_line : (bytes : List ℕ) → IsInLine (unfinished bytes)
unfolding unfinished
rest_in_line [] = empty_in
rest_in_line (b ∷ bs) = by (rest_in_line bs) (is_newline b) refl
  where
    later : (x : List ℕ) (ps : List (List ℕ)) → 0 < length ps → last_part (x ∷ ps) ≡ last_part ps
    later x [] some = absurd (omega arith)
    later x (p ∷ ps) some = refl

    onto : (ps : List (List ℕ)) → is_newline b ≡ false → 0 < length ps → IsInLine (last_part ps) → IsInLine (last_part (onto_first b ps))
    onto [] e some a = absurd (omega arith)
    onto (p ∷ []) e some a = cons_in b p e a
    onto (p ∷ q ∷ ps) e some a = a

    by : IsInLine (last_part (slice_split is_newline bs)) → (t : Bool) → is_newline b ≡ t → IsInLine (last_part (slice_split is_newline (b ∷ bs)))
    by a true e = subst IsInLine (sym (ap last_part (parts_of_cons b bs true e) ∙ later [] (slice_split is_newline bs) (some_parts bs))) a
    by a false e = subst IsInLine (sym (ap last_part (parts_of_cons b bs false e))) (onto (slice_split is_newline bs) e (some_parts bs) a)

-- bytes of one line before a newline are a line, and the others come after it
pub lines_at : (bytes more : List ℕ) → IsInLine bytes → lines (bytes ++ 10 ∷ more) ≡ bytes ∷ lines more
lines_at bytes more a =
    ap lines (sym (append_assoc bytes (10 ∷ []) more)) ∙ lines_joined (bytes ++ 10 ∷ []) more
    ∙ ap (λ (ls : List (List ℕ)). ls ++ lines (unfinished (bytes ++ 10 ∷ []) ++ more)) (whole_one bytes a)
    ∙ ap (λ (rest : List ℕ). bytes ∷ lines (rest ++ more)) (unfinished_one bytes a)

pub unfinished_at : (bytes more : List ℕ) → IsInLine bytes → unfinished (bytes ++ 10 ∷ more) ≡ unfinished more
unfinished_at bytes more a =
    ap unfinished (sym (append_assoc bytes (10 ∷ []) more)) ∙ unfinished_joined (bytes ++ 10 ∷ []) more
    ∙ ap (λ (rest : List ℕ). unfinished (rest ++ more)) (unfinished_one bytes a)

-- ---- lines as they are handed on

cut_long : (bytes : List ℕ) → LINE_LIMIT < length bytes → cut bytes ≡ None
cut_long bytes long = cond-true _ _ _ (lt-ltb LINE_LIMIT (length bytes) long)

cut_short : (bytes : List ℕ) → length bytes ≤ LINE_LIMIT → cut bytes ≡ Some bytes
cut_short bytes short = cond-false _ _ _ (le-ltb LINE_LIMIT (length bytes) short)

-- bytes past the limit do not count
cut_held : (bytes : List ℕ) → cut (take HELD_LIMIT bytes) ≡ cut bytes
cut_held bytes = elim (cases_lt LINE_LIMIT (length bytes)) [
  | inl long ↦ cut_long (take HELD_LIMIT bytes) (omega (arith, length-take HELD_LIMIT bytes)) ∙ sym (cut_long bytes long)
  | inr short ↦ ap cut (take_all HELD_LIMIT bytes (omega arith))
]

-- lines that are handed on as one are so with more bytes too
cut_grown : (xs ys more : List ℕ) → cut xs ≡ cut ys → cut (xs ++ more) ≡ cut (ys ++ more)
cut_grown xs ys more e = elim (cases_lt LINE_LIMIT (length xs)) [
  | inl long ↦ elim (cases_lt LINE_LIMIT (length ys)) [
    | inl other ↦ cut_long (xs ++ more) (omega (arith, length-append xs more)) ∙ sym (cut_long (ys ++ more) (omega (arith, length-append ys more)))
    | inr short ↦ absurd (differ (sym (cut_long xs long) ∙ e ∙ cut_short ys short))
  ]
  | inr short ↦ elim (cases_lt LINE_LIMIT (length ys)) [
    | inl long ↦ absurd (differ (sym (cut_long ys long) ∙ sym e ∙ cut_short xs short))
    | inr other ↦ ap (λ (zs : List ℕ). cut (zs ++ more)) (same (sym (cut_short xs short) ∙ e ∙ cut_short ys other))
  ]
]
  where
    differ : {zs : List ℕ} → None ≡ Some zs → ⊥
    differ h = cc

    same : Some xs ≡ Some ys → xs ≡ ys
    same h = cc

-- and are both a last line or both none
cut_last : (xs ys : List ℕ) → cut xs ≡ cut ys → map cut (if_not_empty xs) ≡ map cut (if_not_empty ys)
cut_last [] [] e = refl
cut_last [] (y ∷ ys) e = absurd (elim (cases_lt LINE_LIMIT (length (y ∷ ys))) [
  | inl long ↦ let h : Some [] ≡ None = e ∙ cut_long (y ∷ ys) long in cc
  | inr short ↦ let h : Some [] ≡ Some (y ∷ ys) = e ∙ cut_short (y ∷ ys) short in cc
])
cut_last (x ∷ xs) [] e = absurd (elim (cases_lt LINE_LIMIT (length (x ∷ xs))) [
  | inl long ↦ let h : Some [] ≡ None = sym e ∙ cut_long (x ∷ xs) long in cc
  | inr short ↦ let h : Some [] ≡ Some (x ∷ xs) = sym e ∙ cut_short (x ∷ xs) short in cc
])
cut_last (x ∷ xs) (y ∷ ys) e = ap (λ (c : Cut). c ∷ []) e

-- ---- the first newline of a piece

some_place : (piece : List ℕ) (i : ℕ) → position is_newline piece ≡ Some i → (i + 1 ≡ through_newline piece) × IsInLine (take i piece) × (take (i + 1) piece ≡ take i piece ++ 10 ∷ [])
some_place piece i e =
    let at : (d : ℕ) → (i < length piece) × (is_newline (get_or piece i d) ≡ true) × ((k : ℕ) → k < i → is_newline (get_or piece k d) ≡ false) = λ d. position-Some is_newline piece i d e in
    let place : position_or_len is_newline piece ≡ i = (some_cond _ (position_or_len is_newline piece) i e).1 in
    let newline : get_or piece i 0 ≡ 10 = eqb-true (get_or piece i 0) 10 (at 0).1 in
    let within : i < length piece = (at 0).0 in (
      omega (arith, place, within),
      λ k d lt. let below : k < i = omega (arith, length-take i piece) in rw get_or-take ((at d).2 k below),
      rw add-one (take-suc piece i 0 within) ∙ ap (λ (b : ℕ). take i piece ++ b ∷ []) newline,
    )

no_place : (piece : List ℕ) → position is_newline piece ≡ None → (length piece ≡ through_newline piece) × IsInLine piece
no_place piece e =
    let beyond : length piece ≤ position_or_len is_newline piece = ltb-false (position_or_len is_newline piece) (length piece) (none_cond _ (position_or_len is_newline piece) e) in (
      omega (arith, beyond),
      λ k d lt. fails_before_first is_newline piece k d (omega (arith, beyond)),
    )

piece_in_line : (piece : List ℕ) → None ≡ position is_newline piece → IsInLine piece
piece_in_line piece e = (no_place piece (sym e)).1

-- ---- what a cutter holds

pub held_more : (held piece now : List ℕ) → IsUnfinished held → None ≡ position is_newline piece → now ≡ take HELD_LIMIT (held ++ piece) → IsUnfinished now
held_more held piece now h e is = subst IsUnfinished (sym is) (record {
  in_line = take_in HELD_LIMIT (held ++ piece) (append_in held piece h.in_line (piece_in_line piece e));
  few = omega (arith, length-take HELD_LIMIT (held ++ piece));
})

pub added : (held bytes few : List ℕ) (room : ℕ) → room + length held ≡ HELD_LIMIT → few ≡ take room bytes → held ++ few ≡ take HELD_LIMIT (held ++ bytes)
added held bytes few room fit f =
    ap (λ (ys : List ℕ). held ++ ys) f ∙ sym (rw (← fit) (ap (λ (n : ℕ). take n (held ++ bytes)) (add_comm room (length held)) ∙ take-append-add held bytes room))

-- ---- what was cut of the bytes heard

first_whole_lines : (heard more : List ℕ) → BeginsWith (map cut (whole_lines (heard ++ more))) (map cut (whole_lines heard))
first_whole_lines heard more =
    (map cut (whole_lines (unfinished heard ++ more)), ap (map cut) (whole_joined heard more) ∙ map-append cut (whole_lines heard) (whole_lines (unfinished heard ++ more)))

first_lines : (heard more : List ℕ) → BeginsWith (cut_lines (heard ++ more)) (map cut (whole_lines heard))
unfolding cut_lines
first_lines heard more =
    (map cut (lines (unfinished heard ++ more)), ap (map cut) (lines_joined heard more) ∙ map-append cut (whole_lines heard) (lines (unfinished heard ++ more)))

has_cut : (heard : List ℕ) (given : List Cut) (cutter : Cut) → given ≡ map cut (whole_lines heard) → cutter ≡ cut (unfinished heard) → HasCut heard given cutter
has_cut heard given cutter whole rest = record {
  whole = whole;
  rest = rest;
  first = λ more. let B : List Cut → Type 0 = BeginsWith (cut_lines (heard ++ more)) in subst B (sym whole) (first_lines heard more);
  first_whole = λ more. let B : List Cut → Type 0 = BeginsWith (map cut (whole_lines (heard ++ more))) in subst B (sym whole) (first_whole_lines heard more);
}

pub begins : (cutter : Cut) → cutter ≡ cut [] → HasCut [] [] cutter
unfolding whole_lines unfinished
begins cutter e = has_cut [] [] cutter refl e

-- a piece without a newline is held
pub takes_none : (old new : Cut) (held now piece : List ℕ) → cut held ≡ old → new ≡ cut now → None ≡ position is_newline piece → now ≡ take HELD_LIMIT (held ++ piece) → Takes old piece (length piece) None new
takes_none old new held now piece was is e more = record {
  through = (no_place piece (sym e)).0;
  cuts = λ heard given h. let H : List ℕ → Type 0 = λ bytes. HasCut (heard ++ bytes) (given ++ []) new in
      subst H (sym (take_all (length piece) piece (omega arith))) (cuts heard given h);
}
  where
    in_line : IsInLine piece
    in_line = piece_in_line piece e

    cuts : (heard : List ℕ) (given : List Cut) → HasCut heard given old → HasCut (heard ++ piece) (given ++ []) new
    cuts heard given h =
        let open_line : IsInLine (unfinished heard ++ piece) = append_in (unfinished heard) piece (rest_in_line heard) in_line in
        has_cut (heard ++ piece) (given ++ []) new
        (append-nil given ∙ h.whole ∙ ap (map cut) (sym (whole_joined heard piece ∙ ap (λ (ls : List (List ℕ)). whole_lines heard ++ ls) (whole_none (unfinished heard ++ piece) open_line) ∙ append-nil (whole_lines heard))))
        (is ∙ ap cut more ∙ cut_held (held ++ piece) ∙ cut_grown held (unfinished heard) piece (was ∙ h.rest) ∙ ap cut (sym (unfinished_joined heard piece ∙ unfinished_none (unfinished heard ++ piece) open_line)))

-- a newline ends the line
pub takes_some : (old new : Cut) (held now piece : List ℕ) (i : ℕ) (line : Cut) → cut held ≡ old → new ≡ cut now → Some i ≡ position is_newline piece → line ≡ cut (held ++ take i piece) → now ≡ []
    → Takes old piece (i + 1) (Some line) new
takes_some old new held now piece i line was is e ended none_left = record {
  through = at.0;
  cuts = λ heard given h. let H : List ℕ → Type 0 = λ bytes. HasCut (heard ++ bytes) (given ++ line ∷ []) new in subst H (sym at.2) (cuts heard given h);
}
  where
    front : List ℕ
    front = take i piece

    at : (i + 1 ≡ through_newline piece) × IsInLine front × (take (i + 1) piece ≡ front ++ 10 ∷ [])
    at = some_place piece i (sym e)

    cuts : (heard : List ℕ) (given : List Cut) → HasCut heard given old → HasCut (heard ++ (front ++ 10 ∷ [])) (given ++ line ∷ []) new
    cuts heard given h =
        let rest : List ℕ = unfinished heard in
        let open_line : IsInLine (rest ++ front) = append_in rest front (rest_in_line heard) at.1 in
        let bytes : rest ++ (front ++ 10 ∷ []) ≡ (rest ++ front) ++ 10 ∷ [] = sym (append_assoc rest front (10 ∷ [])) in
        let whole : whole_lines (heard ++ (front ++ 10 ∷ [])) ≡ whole_lines heard ++ (rest ++ front) ∷ []
        = whole_joined heard (front ++ 10 ∷ []) ∙ ap (λ (ls : List (List ℕ)). whole_lines heard ++ ls) (ap whole_lines bytes ∙ whole_one (rest ++ front) open_line) in
        let line_is : line ≡ cut (rest ++ front) = ended ∙ cut_grown held rest front (was ∙ h.rest) in
        has_cut (heard ++ (front ++ 10 ∷ [])) (given ++ line ∷ []) new
        (ap (λ (ls : List Cut). ls ++ line ∷ []) h.whole ∙ ap (λ (c : Cut). map cut (whole_lines heard) ++ c ∷ []) line_is ∙ sym (map-append cut (whole_lines heard) ((rest ++ front) ∷ [])) ∙ ap (map cut) (sym whole))
        (is ∙ ap cut none_left ∙ ap cut (sym (unfinished_joined heard (front ++ 10 ∷ []) ∙ ap unfinished bytes ∙ unfinished_one (rest ++ front) open_line)))

-- at the end of a stream the held bytes are its last line
pub finishes : (old new : Cut) (held now : List ℕ) (line : Option Cut) → cut held ≡ old → new ≡ cut now → option_to_list line ≡ map cut (if_not_empty held) → now ≡ [] → Finishes old line new
unfolding cut_lines lines
finishes old new held now line was is last none_left = record { last = all; begins = begins new (is ∙ ap cut none_left) }
  where
    all : (heard : List ℕ) (given : List Cut) → HasCut heard given old → given ++ option_to_list line ≡ cut_lines heard
    all heard given h =
        ap (λ (ls : List Cut). ls ++ option_to_list line) h.whole
        ∙ ap (λ (ls : List Cut). map cut (whole_lines heard) ++ ls) (last ∙ cut_last held (unfinished heard) (was ∙ h.rest))
        ∙ sym (map-append cut (whole_lines heard) (if_not_empty (unfinished heard)))

-- ---- all pieces

taken_all : (pieces : List (List ℕ)) (old new : Cut) (given : List Cut) → TakesAll pieces old given new → (heard : List ℕ) (before : List Cut) → HasCut heard before old → HasCut (heard ++ concat pieces) (before ++ given) new
taken_all pieces old new given none heard before h =
    let H : List ℕ → List Cut → Type 0 = λ bytes ls. HasCut bytes ls new in
    let B : List ℕ → Type 0 = λ bytes. HasCut bytes (before ++ []) new in
    let L : List Cut → Type 0 = H heard in subst B (sym (append-nil heard)) (subst L (sym (append-nil before)) h)
taken_all pieces old new given (used_up more) heard before h = taken_all _ old new given more heard before h
taken_all pieces old new given (takes {piece = piece} {pieces = others} {used = used} {line = line} {mid = mid} {given = later} first more) heard before h =
    let then : HasCut ((heard ++ take used piece) ++ (drop used piece ++ concat others)) ((before ++ option_to_list line) ++ later) new
    = taken_all _ mid new later more (heard ++ take used piece) (before ++ option_to_list line) (first.cuts heard before h) in
    let bytes : (heard ++ take used piece) ++ (drop used piece ++ concat others) ≡ heard ++ (piece ++ concat others)
    = append_assoc heard (take used piece) (drop used piece ++ concat others)
    ∙ ap (λ (p : List ℕ). heard ++ p) (sym (append_assoc (take used piece) (drop used piece) (concat others)) ∙ ap (λ (p : List ℕ). p ++ concat others) (take-append-drop used piece)) in
    let B : List ℕ → Type 0 = λ bs. HasCut bs ((before ++ option_to_list line) ++ later) new in
    let L : List Cut → Type 0 = λ ls. HasCut (heard ++ (piece ++ concat others)) ls new in
    subst L (append_assoc before (option_to_list line) later) (subst B bytes then)

pub any_pieces : (pieces : List (List ℕ)) (first last end : Cut) (given : List Cut) (line : Option Cut) → HasCut [] [] first → TakesAll pieces first given last → Finishes last line end → given ++ option_to_list line ≡ cut_lines (concat pieces)
any_pieces pieces first last end given line h all f = f.last (concat pieces) given (taken_all pieces first last given all [] [] h)
