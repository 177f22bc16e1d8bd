-- Writes to the writers that are named, each once.
use Rattle.cd_daemon.proofs.Lists.{filter_append}
use Rattle.cd_chain.specs.declared.data.Action.TheVariants as actions
use Rattle.cd_daemon.specs.Performing.{Effects, each_once, perform, write_to, writer_named}
use Rattle.cd_history.specs.Registrations.{Registration, is_text}
use Rattle.cd_value.specs.declared.data.ValueList.{ValueList}
use Rattle.std.proofs.Common.{Bool, List, [], ap, append-nil, cond, false, get_or, length, map, not, refl, sym, take, true, ℕ, ◌++◌, ◌+◌, ◌<◌, ◌==◌, ◌∙◌, ◌∷◌, ◌≡◌, ◌||◌}
use Rattle.std.proofs.lemmas.List.Sums.{fold-append}
use Rattle.std.proofs.lemmas.List.{map-append, take_more}
use Rattle.std.specs.List.{filter, fold, list_any}
use Rattle.std.specs.Prelude.{IsSomeAnd, IsTrue, None, Option, Some, ◌↔◌}
use Rattle.std.specs.Str.{bytes_eq}

-- a name behind the others, by whether it is among them
each_once_more : (xs : List (List ℕ)) (x : List ℕ) (b : Bool) → list_any (bytes_eq x) xs ≡ b → each_once (xs ++ x ∷ []) ≡ cond b (each_once xs) (each_once xs ++ x ∷ [])
each_once_more [] x true is = absurd (cc)
each_once_more [] x false is = refl
each_once_more (y ∷ xs) x b is = by (λ t i. each_once_more xs x t i) (bytes_eq x y) refl (list_any (bytes_eq x) xs) refl b is
  where
    by : ((t : Bool) → list_any (bytes_eq x) xs ≡ t → each_once (xs ++ x ∷ []) ≡ cond t (each_once xs) (each_once xs ++ x ∷ [])) → (s : Bool) → bytes_eq x y ≡ s → (t : Bool) → list_any (bytes_eq x) xs ≡ t → (b : Bool) → (s || t) ≡ b
        → y ∷ filter (λ other. not (is_text other y)) (each_once (xs ++ x ∷ [])) ≡ cond b (y ∷ filter (λ other. not (is_text other y)) (each_once xs)) (y ∷ filter (λ other. not (is_text other y)) (each_once xs) ++ x ∷ [])
    by rest true s true t true e = ap (λ (ns : List (List ℕ)). y ∷ filter (λ other. not (is_text other y)) ns) (rest true t)
    by rest false s true t true e = ap (λ (ns : List (List ℕ)). y ∷ filter (λ other. not (is_text other y)) ns) (rest true t)
    by rest true s false t true e =
        ap (λ (ns : List (List ℕ)). y ∷ filter (λ other. not (is_text other y)) ns) (rest false t)
        ∙ ap (λ (ns : List (List ℕ)). y ∷ ns) (filter_append (λ other. not (is_text other y)) (each_once xs) (x ∷ []))
        ∙ ap (λ (c : Bool). y ∷ (filter (λ other. not (is_text other y)) (each_once xs) ++ cond (not c) (x ∷ []) [])) s
        ∙ ap (λ (ns : List (List ℕ)). y ∷ ns) (append-nil (filter (λ other. not (is_text other y)) (each_once xs)))
    by rest false s false t false e =
        ap (λ (ns : List (List ℕ)). y ∷ filter (λ other. not (is_text other y)) ns) (rest false t)
        ∙ ap (λ (ns : List (List ℕ)). y ∷ ns) (filter_append (λ other. not (is_text other y)) (each_once xs) (x ∷ []))
        ∙ ap (λ (c : Bool). y ∷ (filter (λ other. not (is_text other y)) (each_once xs) ++ cond (not c) (x ∷ []) [])) s
    by rest true s true t false e = absurd (cc)
    by rest false s true t false e = absurd (cc)
    by rest true s false t false e = absurd (cc)
    by rest false s false t true e = absurd (cc)

module _ (regs : List Registration) (list : ValueList) where
  -- the writers of names, each once
  abbrev pub written : Effects → List (List ℕ) → Effects
  written start names = fold (write_to list) start (map (writer_named regs) (each_once names))

  written_more : (start : Effects) (names : List (List ℕ)) (name : List ℕ) (b : Bool) → list_any (bytes_eq name) names ≡ b
      → written start (names ++ name ∷ []) ≡ cond b (written start names) (write_to list (written start names) (writer_named regs name))
  written_more start names name true is = ap (λ (ns : List (List ℕ)). fold (write_to list) start (map (writer_named regs) ns)) (each_once_more names name true is)
  written_more start names name false is =
      ap (λ (ns : List (List ℕ)). fold (write_to list) start (map (writer_named regs) ns)) (each_once_more names name false is)
      ∙ ap (fold (write_to list) start) (map-append (writer_named regs) (each_once names) (name ∷ []))
      ∙ fold-append (write_to list) start (map (writer_named regs) (each_once names)) (writer_named regs name ∷ [])

  pub written_next : (start old new : Effects) (names : List (List ℕ)) (at : ℕ) (name : List ℕ) → at < length names → name ≡ get_or names at name
      → old ≡ written start (take at names)
      → new ≡ cond (list_any (bytes_eq name) (take at names)) old (write_to list old (writer_named regs name))
      → new ≡ written start (take (at + 1) names)
  written_next start old new names at name within is before then =
      let W : Effects → Effects = λ done. cond (list_any (bytes_eq name) (take at names)) done (write_to list done (writer_named regs name)) in
      then ∙ ap W before
      ∙ sym (written_more start (take at names) name (list_any (bytes_eq name) (take at names)) refl)
      ∙ ap (λ (n : List ℕ). written start (take at names ++ n ∷ [])) is
      ∙ ap (written start) (sym (take_more names at name within))

-- some names are given
pub performed_named : (regs : List Registration) (done : Effects) (list : ValueList) (names : List (List ℕ)) → (length names == 0) ≡ false
    → perform regs done (actions.Write names list) ≡ written regs list done names
performed_named regs done list [] some = absurd (cc)
performed_named regs done list (name ∷ names) some = refl

-- ---- who has a name

-- a test that holds exactly where there is an element that passes
pub test_there : {A : Type 0} (o : Option A) (test : A → Bool) (b : Bool) → IsTrue b ↔ IsSomeAnd o (λ x. IsTrue (test x)) → b ≡ elim o [ None ↦ false | Some x ↦ test x ]
test_there None test true says = absurd (says.0 refl)
test_there None test false says = refl
test_there (Some x) test true says = sym (says.0 refl)
test_there (Some x) test false says = by (test x) says.1
  where
    by : (t : Bool) → (t ≡ true → false ≡ true) → false ≡ t
    by true back = back refl
    by false back = refl
