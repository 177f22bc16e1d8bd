-- Feeding the characters of a line one by one gives the words of its runs.
use Rattle.cd_text.specs.Cutting.{State, fed, grown, longer}
use Rattle.cd_text.specs.Quoting.{Character, Position, added, adds, character, is_blank, next, start, word, words_from, words_of}
use Rattle.cd_text.specs.declared.cutter.Quoting.TheVariants.{Outside}
use Rattle.cd_text.specs.declared.word.Word.{Word}
use Rattle.std.proofs.Common.{List, None, Ok, Option, Some, [], ap, append_assoc, cond, is_none, refl, sym, ℕ, ◌++◌, ◌∙◌, ◌∷◌, ◌≡◌}
use Rattle.std.proofs.lemmas.List.Concat.{flat_map-append}
use Rattle.std.proofs.lemmas.List.{append-nil}
use Rattle.std.specs.List.{cons_option, filter_map, flat_map, fold, onto_first, scan, slice_split}
use Rattle.std.specs.Option.{option_to_list}
use Rattle.std.specs.Str.{chars}

-- a run in front of the first part
abbrev pub prepend : List Character → List (List Character) → List (List Character)
prepend run [] = run ∷ []
prepend run (p ∷ ps) = (run ++ p) ∷ ps

prepend-nil : (parts : List (List Character)) → filter_map word (prepend [] parts) ≡ filter_map word parts
prepend-nil [] = refl
prepend-nil (p ∷ ps) = refl

prepend_onto : (run : List Character) (s : Character) (parts : List (List Character)) → prepend run (onto_first s parts) ≡ prepend (run ++ s ∷ []) parts
prepend_onto run s [] = refl
prepend_onto run s (p ∷ ps) = ap (λ (xs : List Character). xs ∷ ps) (sym (append_assoc run (s ∷ []) p))

cons_to_list : (o : Option Word) (es : List Word) → cons_option o es ≡ option_to_list o ++ es
cons_to_list None es = refl
cons_to_list (Some e) es = refl

-- a longer run is a longer word
word-longer : (run : List Character) (place : ℕ) (t : List ℕ) → word (run ++ record { place = place; adds = Some t } ∷ []) ≡ Some (longer place (word run) t)
word-longer [] place t = ap (λ (xs : List ℕ). Some (record { text = xs; start = place })) (append-nil t)
word-longer (r ∷ rs) place t =
    let s : Character = record { place = place; adds = Some t } in
    let e : flat_map added (r ∷ rs ++ s ∷ []) ≡ flat_map added (r ∷ rs) ++ t
    = flat_map-append added (r ∷ rs) (s ∷ []) ∙ ap (λ (xs : List ℕ). flat_map added (r ∷ rs) ++ xs) (append-nil t) in
    ap (λ (xs : List ℕ). Some (record { text = xs; start = r.place })) e

-- what is open, and the parts to come
abbrev pub whole : State → List Character → List (List Character) → List Word
whole s run parts = s.words ++ filter_map word (prepend run parts)

step : (s : State) (run : List Character) (o : Option (List ℕ)) (a : Position) (parts : List (List Character)) → s.current ≡ word run
    → (more : List Character) × ((grown s o a).current ≡ word more)
    × (whole (grown s o a) more parts ≡ whole s run (cond (is_none o) ([] ∷ parts) (onto_first (record { place = s.position.place; adds = o }) parts)))
step s run None a parts e =
    let nil : filter_map word (prepend run ([] ∷ parts)) ≡ option_to_list s.current ++ filter_map word parts
    = ap (λ (xs : List Character). cons_option (word xs) (filter_map word parts)) (append-nil run) ∙ cons_to_list (word run) (filter_map word parts)
    ∙ ap (λ (o : Option Word). option_to_list o ++ filter_map word parts) (sym e) in (
      [],
      refl,
      append_assoc s.words (option_to_list s.current) (filter_map word (prepend [] parts))
          ∙ ap (λ (xs : List Word). s.words ++ (option_to_list s.current ++ xs)) (prepend-nil parts) ∙ ap (λ (xs : List Word). s.words ++ xs) (sym nil),
    )
step s run (Some t) a parts e =
    let sp : Character = record { place = s.position.place; adds = Some t } in (
      run ++ sp ∷ [],
      ap (λ (o : Option Word). Some (longer s.position.place o t)) e ∙ sym (word-longer run s.position.place t),
      ap (λ (ps : List (List Character)). s.words ++ filter_map word ps) (sym (prepend_onto run sp parts)),
    )

at_grow : (s : State) (o : Option (List ℕ)) (a : Position) → (grown s o a).position ≡ a
at_grow s None a = refl
at_grow s (Some t) a = refl

at_fed : (s : State) (c : ℕ) → (fed s c).position ≡ next s.position c
unfolding fed
at_fed s c = at_grow s (adds s.position.quoting c) (next s.position c)

pub at_fold : (cs : List ℕ) (s : State) → (fold fed s cs).position ≡ fold next s.position cs
at_fold [] s = refl
at_fold (c ∷ cs) s = at_fold cs (fed s c) ∙ ap (λ (a : Position). fold next a cs) (at_fed s c)

fed_all : (cs : List ℕ) (s : State) (run : List Character) → s.current ≡ word run
    → (fold fed s cs).words ++ option_to_list (fold fed s cs).current ≡ whole s run (slice_split is_blank (scan next character s.position cs))
unfolding fed
fed_all [] s run e =
    ap (λ (o : Option Word). s.words ++ option_to_list o) e
    ∙ ap (λ (xs : List Word). s.words ++ xs) (sym (append-nil (option_to_list (word run))) ∙ sym (cons_to_list (word run) []) ∙ ap (λ (xs : List Character). cons_option (word xs) []) (sym (append-nil run)))
fed_all (c ∷ cs) s run e =
    let o = adds s.position.quoting c in
    let a = next s.position c in
    let k = step s run o a (slice_split is_blank (scan next character a cs)) e in
    fed_all cs (grown s o a) k.0 k.1 ∙ ap (λ (b : Position). whole (grown s o a) k.0 (slice_split is_blank (scan next character b cs))) (at_grow s o a) ∙ k.2

abbrev pub nothing : State
nothing = record { words = []; current = None; position = start }

pub all_words : (cs : List ℕ) → (fold fed nothing cs).words ++ option_to_list (fold fed nothing cs).current ≡ words_from start cs
unfolding words_from
all_words cs = fed_all cs nothing [] refl ∙ prepend-nil (slice_split is_blank (scan next character start cs))

pub is_words : (line : List ℕ) (s t : State) → s ≡ fold fed nothing (chars line) → s.position.quoting ≡ Outside → t ≡ grown s None s.position → words_of line ≡ Ok t.words
unfolding words_of
is_words line s t is out closed =
    let m : Outside ≡ (fold next start (chars line)).quoting = sym out ∙ ap (λ (x : State). x.position.quoting) is ∙ ap (λ (a : Position). a.quoting) (at_fold (chars line) nothing) in
    let w : t.words ≡ words_from start (chars line) = ap (λ (x : State). x.words) closed ∙ ap (λ (x : State). x.words ++ option_to_list x.current) is ∙ all_words (chars line) in
    rw (← m, w) refl
