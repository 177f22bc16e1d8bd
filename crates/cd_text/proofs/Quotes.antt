-- A text in quotes is one word.
use Rattle.cd_text.proofs.Runs.{is_words, nothing}
use Rattle.cd_text.specs.Cutting.{State, fed, grown}
use Rattle.cd_text.specs.Quoting.{adds, escaped, first_word, quoted_of, quoting_after, words_of}
use Rattle.cd_text.specs.declared.cutter.Quoting.TheVariants.{Inside, Outside}
use Rattle.cd_text.specs.declared.cutter.Quoting.{Quoting}
use Rattle.cd_text.specs.declared.word.Word.{Word}
use Rattle.cd_text.specs.declared.word.WordFault.{WordFault}
use Rattle.std.proofs.Common.{Bool, List, None, Ok, Option, Result, Some, [], ap, append_assoc, cond, false, inl, inr, refl, subst, sym, true, ℕ, ◌++◌, ◌+◌, ◌∙◌, ◌∷◌, ◌≡◌}
use Rattle.std.proofs.Math.Utf8.{scalar, scalars}
use Rattle.std.proofs.lemmas.Bool.{and_parts, cases_eq, ne_eqb}
use Rattle.std.proofs.lemmas.List.Concat.{flat_map-append}
use Rattle.std.proofs.lemmas.List.Sums.{fold-append}
use Rattle.std.proofs.lemmas.List.{append-nil}
use Rattle.std.proofs.lemmas.Str.{chars-encodes, encodes-append, encodes-chars, scalars-chars}
use Rattle.std.specs.Char.{len_utf8}
use Rattle.std.specs.List.{flat_map, fold}
use Rattle.std.specs.Prelude.{encode_utf8 as encode, ◌==◌, ◌||◌}
use Rattle.std.specs.Str.{IsUtf8, chars, encode_utf8_all}

-- the state in a word that began the line
abbrev pub in_word : List ℕ → ℕ → Quoting → State
in_word t p q = record { words = []; current = Some (first_word t); position = record { place = p; quoting = q } }

-- a character that isn't a quote or a backslash stands for itself
plain : (t : List ℕ) (p c : ℕ) → (c ≡ 34 → ⊥) → (c ≡ 92 → ⊥) → fold fed (in_word t p Inside) (escaped c) ≡ in_word (t ++ encode c) (p + len_utf8 c) Inside
unfolding fed
plain t p c a b =
    let x : (c == 34) ≡ false = ne_eqb c 34 a in
    let y : (c == 92) ≡ false = ne_eqb c 92 b in
    let alone : escaped c ≡ c ∷ [] = rw (x, y) refl in
    let text : adds Inside c ≡ Some (encode c) = rw (x, y) refl in
    let stays : quoting_after Inside c ≡ Inside = rw (x, y) refl in
    let after : Option (List ℕ) → Quoting → State = λ o q. grown (in_word t p Inside) o (record { place = p + len_utf8 c; quoting = q }) in
    ap (fold fed (in_word t p Inside)) alone
    ∙ ap (λ (o : Option (List ℕ)). after o (quoting_after Inside c)) text
    ∙ ap (λ (q : Quoting). after (Some (encode c)) q) stays

-- one with a backslash before it stands for itself too
behind_backslash : (t : List ℕ) (p c : ℕ) → escaped c ≡ 92 ∷ c ∷ [] → fold fed (in_word t p Inside) (escaped c) ≡ in_word (t ++ encode c) (p + len_utf8 92 + len_utf8 c) Inside
unfolding fed
behind_backslash t p c e =
    ap (fold fed (in_word t p Inside)) e
    ∙ ap (λ (xs : List ℕ). in_word (xs ++ encode c) (p + len_utf8 92 + len_utf8 c) Inside) (append-nil t)

stepped : (t : List ℕ) (p c : ℕ) → (q : ℕ) × (fold fed (in_word t p Inside) (escaped c) ≡ in_word (t ++ encode c) q Inside)
stepped t p c =
    elim (cases_eq c 34) [
      | inl e ↦ (p + len_utf8 92 + len_utf8 c, behind_backslash t p c (subst (λ (x : ℕ). escaped x ≡ 92 ∷ x ∷ []) (sym e) refl))
      | inr a ↦ elim (cases_eq c 92) [
        | inl e ↦ (p + len_utf8 92 + len_utf8 c, behind_backslash t p c (subst (λ (x : ℕ). escaped x ≡ 92 ∷ x ∷ []) (sym e) refl))
        | inr b ↦ (p + len_utf8 c, plain t p c a b)
      ]
    ]

inside : (cs t : List ℕ) (p : ℕ) → (q : ℕ) × (fold fed (in_word t p Inside) (flat_map escaped cs) ≡ in_word (t ++ encode_utf8_all cs) q Inside)
inside [] t p = (p, ap (λ (xs : List ℕ). in_word xs p Inside) (sym (append-nil t)))
inside (c ∷ cs) t p =
    let one = stepped t p c in
    let rest = inside cs (t ++ encode c) one.0 in (
      rest.0,
      fold-append fed (in_word t p Inside) (escaped c) (flat_map escaped cs)
          ∙ ap (λ (s : State). fold fed s (flat_map escaped cs)) one.1 ∙ rest.1
          ∙ ap (λ (xs : List ℕ). in_word xs rest.0 Inside) (append_assoc t (encode c) (encode_utf8_all cs)),
    )

-- the whole of a text in quotes
abbrev pub in_quotes : List ℕ → List ℕ
in_quotes cs = 34 ∷ flat_map escaped cs ++ 34 ∷ []

all_quoted : (cs : List ℕ) → (q : ℕ) × (fold fed nothing (in_quotes cs) ≡ in_word (encode_utf8_all cs) q Outside)
unfolding fed
all_quoted cs =
    let body = inside cs [] (0 + len_utf8 34) in (
      body.0 + len_utf8 34,
      fold-append fed (in_word [] (0 + len_utf8 34) Inside) (flat_map escaped cs) (34 ∷ [])
          ∙ ap (λ (s : State). fed s 34) body.1
          ∙ ap (λ (xs : List ℕ). in_word xs (body.0 + len_utf8 34) Outside) (append-nil (encode_utf8_all cs)),
    )

-- what is written in quotes are characters
scalars_one : (is_marked : Bool) (c : ℕ) (rest last : List ℕ) → scalar c ≡ true → scalars (rest ++ last) ≡ true
    → scalars ((cond is_marked (92 ∷ c ∷ []) (c ∷ []) ++ rest) ++ last) ≡ true
scalars_one true c rest last one others = rw (one, others) refl
scalars_one false c rest last one others = rw (one, others) refl

scalars_escaped : (cs : List ℕ) → scalars cs ≡ true → scalars (flat_map escaped cs ++ 34 ∷ []) ≡ true
scalars_escaped [] good = refl
scalars_escaped (c ∷ cs) good =
    let both = and_parts (scalar c) (scalars cs) good in
    scalars_one (c == 34 || c == 92) c (flat_map escaped cs) (34 ∷ []) both.0 (scalars_escaped cs both.1)

abbrev alone : List ℕ → Result (List Word) WordFault
alone t = Ok (first_word t ∷ [])

pub quoted_is_one_word : (content : List ℕ) → IsUtf8 content → words_of (quoted_of content) ≡ Ok (first_word content ∷ [])
unfolding quoted_of
quoted_is_one_word content utf8 =
    let cs : List ℕ = chars content in
    let all = all_quoted cs in
    let read : chars (encode_utf8_all (in_quotes cs)) ≡ in_quotes cs = chars-encodes (in_quotes cs) (scalars_escaped cs (scalars-chars content utf8)) in
    let s : State = in_word (encode_utf8_all cs) all.0 Outside in
    is_words (encode_utf8_all (in_quotes cs)) s (grown s None s.position) (sym (ap (fold fed nothing) read ∙ all.1)) refl refl
    ∙ ap (λ (t : List ℕ). alone t) (encodes-chars content utf8)

-- the text as it grows
pub one_more : (bs cs : List ℕ) (c : ℕ) → bs ≡ encode_utf8_all (34 ∷ flat_map escaped cs)
    → bs ++ encode_utf8_all (escaped c) ≡ encode_utf8_all (34 ∷ flat_map escaped (cs ++ c ∷ []))
one_more bs cs c e =
    let more : flat_map escaped (cs ++ c ∷ []) ≡ flat_map escaped cs ++ escaped c
    = flat_map-append escaped cs (c ∷ []) ∙ ap (λ (xs : List ℕ). flat_map escaped cs ++ xs) (append-nil (escaped c)) in
    ap (λ (xs : List ℕ). xs ++ encode_utf8_all (escaped c)) e
    ∙ sym (encodes-append (34 ∷ flat_map escaped cs) (escaped c))
    ∙ ap (λ (xs : List ℕ). encode_utf8_all (34 ∷ xs)) (sym more)

pub closed : (bs cs content : List ℕ) → bs ≡ encode_utf8_all (34 ∷ flat_map escaped cs) → cs ≡ chars content → bs ++ encode 34 ≡ quoted_of content
unfolding quoted_of
closed bs cs content e is =
    ap (λ (xs : List ℕ). xs ++ encode 34) e
    ∙ ap (λ (xs : List ℕ). encode_utf8_all (34 ∷ flat_map escaped cs) ++ xs) (sym (append-nil (encode 34)))
    ∙ sym (encodes-append (34 ∷ flat_map escaped cs) (34 ∷ []))
    ∙ ap (λ (xs : List ℕ). encode_utf8_all (in_quotes xs)) is
