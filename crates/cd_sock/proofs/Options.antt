-- The arguments of the options of a name, read one after the other.
use Rattle.cd_reading.specs.First.{all_or_first, ◌>>=◌}
use Rattle.cd_sock.specs.Arguments.{argument_of, arguments_of}
use Rattle.cd_text.specs.declared.word.Word.{Word}
use Rattle.std.proofs.Common.{Err, List, None, Ok, Option, Result, Some, [], ap, drop, get_or, length, map, refl, sym, take, ℕ, ◌++◌, ◌+◌, ◌<◌, ◌∙◌, ◌∷◌, ◌≡◌, ◌≤◌}
use Rattle.std.proofs.lemmas.List.Elements.{filter_map-append}
use Rattle.std.proofs.lemmas.List.{append-nil, drop_more, map-append, map_push, take-append-drop, take_all, take_more}
use Rattle.std.specs.List.{cons_option}

-- ---- all values, or the first fault

pub all_append : {A F : Type 0} (xs ys : List (Result A F)) → all_or_first (xs ++ ys) ≡ (all_or_first xs >>= λ front. all_or_first ys >>= λ back. Ok (front ++ back))
unfolding all_or_first
all_append {A} {F} [] ys = by (all_or_first ys)
  where
    by : (r : Result (List A) F) → r ≡ (r >>= λ back. Ok back)
    by (Ok back) = refl
    by (Err e) = refl
all_append {A} {F} (Ok x ∷ rs) ys = ap (λ (r : Result (List A) F). r >>= λ xs. Ok (x ∷ xs)) (all_append rs ys) ∙ by (all_or_first rs) (all_or_first ys)
  where
    by : (r s : Result (List A) F) → ((r >>= λ front. s >>= λ back. Ok (front ++ back)) >>= λ xs. Ok (x ∷ xs)) ≡ ((r >>= λ xs. Ok (x ∷ xs)) >>= λ front. s >>= λ back. Ok (front ++ back))
    by (Ok front) (Ok back) = refl
    by (Ok front) (Err e) = refl
    by (Err e) s = refl
all_append {A} {F} (Err e ∷ rs) ys = refl

-- ---- the arguments of the words so far, and what f reads of them

module _ {A F : Type 0} (f : List ℕ → Result A F) (name : List ℕ) where
  abbrev pub read_all : List Word → Result (List A) F
  read_all words = all_or_first (map f (arguments_of name words))

module _ (name : List ℕ) (words : List Word) (i : ℕ) (word : Word) (lt : i < length words) (at : word ≡ get_or words i word) where
  arguments_more : arguments_of name (take (i + 1) words) ≡ arguments_of name (take i words) ++ cons_option (argument_of name word) []
  arguments_more =
      ap (arguments_of name) (take_more words i word lt) ∙ filter_map-append (argument_of name) (take i words) (get_or words i word ∷ [])
      ∙ ap (λ (w : Word). arguments_of name (take i words) ++ cons_option (argument_of name w) []) (sym at)

  -- the word is no such option
  pub arguments_pass : None ≡ argument_of name word → arguments_of name (take (i + 1) words) ≡ arguments_of name (take i words)
  arguments_pass is =
      arguments_more ∙ ap (λ (o : Option (List ℕ)). arguments_of name (take i words) ++ cons_option o []) (sym is) ∙ append-nil (arguments_of name (take i words))

  -- the word is one
  pub arguments_add : (text : List ℕ) → Some text ≡ argument_of name word → arguments_of name (take (i + 1) words) ≡ arguments_of name (take i words) ++ text ∷ []
  arguments_add text is = arguments_more ∙ ap (λ (o : Option (List ℕ)). arguments_of name (take i words) ++ cons_option o []) (sym is)

  arguments_around : (text : List ℕ) → Some text ≡ argument_of name word → arguments_of name words ≡ arguments_of name (take i words) ++ text ∷ arguments_of name (drop (i + 1) words)
  arguments_around text is =
      ap (arguments_of name) (sym (take-append-drop i words)) ∙ ap (λ (rest : List Word). arguments_of name (take i words ++ rest)) (drop_more words i word lt)
      ∙ filter_map-append (argument_of name) (take i words) (get_or words i word ∷ drop (i + 1) words)
      ∙ ap (λ (w : Word). arguments_of name (take i words) ++ cons_option (argument_of name w) (arguments_of name (drop (i + 1) words))) (sym at)
      ∙ ap (λ (o : Option (List ℕ)). arguments_of name (take i words) ++ cons_option o (arguments_of name (drop (i + 1) words))) (sym is)

module _ {A F : Type 0} (f : List ℕ → Result A F) (name : List ℕ) (words : List Word) (i : ℕ) (word : Word) (lt : i < length words) (at : word ≡ get_or words i word) where
  pub reads_pass : None ≡ argument_of name word → read_all f name (take (i + 1) words) ≡ read_all f name (take i words)
  reads_pass is = ap (λ (texts : List (List ℕ)). all_or_first (map f texts)) (arguments_pass name words i word lt at is)

  pub reads_on : (text : List ℕ) (front : List A) (x : A) → Some text ≡ argument_of name word → read_all f name (take i words) ≡ Ok front → Ok x ≡ f text
      → read_all f name (take (i + 1) words) ≡ Ok (front ++ x ∷ [])
  unfolding all_or_first
  reads_on text front x is so_far here =
      let before : List (List ℕ) = arguments_of name (take i words) in
      ap (λ (texts : List (List ℕ)). all_or_first (map f texts)) (arguments_add name words i word lt at text is) ∙ ap all_or_first (map_push f before text) ∙ all_append (map f before) (f text ∷ [])
      ∙ ap (λ (r : Result (List A) F). r >>= λ front. all_or_first (f text ∷ []) >>= λ back. Ok (front ++ back)) so_far
      ∙ ap (λ (r : Result A F). all_or_first (r ∷ []) >>= λ back. Ok (front ++ back)) (sym here)

  pub reads_stop : (text : List ℕ) (front : List A) (e : F) → Some text ≡ argument_of name word → read_all f name (take i words) ≡ Ok front → Err e ≡ f text → read_all f name words ≡ Err e
  unfolding all_or_first
  reads_stop text front e is so_far here =
      let before : List (List ℕ) = arguments_of name (take i words) in
      let behind : List (List ℕ) = arguments_of name (drop (i + 1) words) in
      ap (λ (texts : List (List ℕ)). all_or_first (map f texts)) (arguments_around name words i word lt at text is) ∙ ap all_or_first (map-append f before (text ∷ behind))
      ∙ all_append (map f before) (f text ∷ map f behind)
      ∙ ap (λ (r : Result (List A) F). r >>= λ front. all_or_first (f text ∷ map f behind) >>= λ back. Ok (front ++ back)) so_far
      ∙ ap (λ (r : Result A F). all_or_first (r ∷ map f behind) >>= λ back. Ok (front ++ back)) (sym here)

pub reads_end : {A F : Type 0} (f : List ℕ → Result A F) (name : List ℕ) (words : List Word) (i : ℕ) → length words ≤ i → read_all f name (take i words) ≡ read_all f name words
reads_end {A} {F} f name words i le = ap (read_all f name) (take_all i words le)
