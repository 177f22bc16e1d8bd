-- A list that is made value by value where each passes a test.
use Rattle.std.proofs.Common.{Bool, List, None, Option, Some, [], ap, cond, false, get_or, length, map, refl, sym, take, true, ℕ, ◌&&◌, ◌++◌, ◌+◌, ◌<◌, ◌∙◌, ◌∷◌, ◌≡◌, ◌≤◌}
use Rattle.std.proofs.lemmas.Bool.{and_right, cond-false, cond-true}
use Rattle.std.proofs.lemmas.List.Folds.{list_all-append, list_all_at}
use Rattle.std.proofs.lemmas.List.{map_push, take_all, take_more}
use Rattle.std.specs.List.{list_all}

pub some_cond : {A : Type 0} (b : Bool) (x y : A) → cond b (Some x) None ≡ Some y → (b ≡ true) × (x ≡ y)
some_cond {A} true x y e = (refl, cc)
some_cond {A} false x y e = (cc, cc)

pub none_cond : {A : Type 0} (b : Bool) (x : A) → cond b (Some x) None ≡ None → b ≡ false
none_cond {A} true x e = cc
none_cond {A} false x e = refl

module _ {X Y : Type 0} (p : X → Bool) (f : X → Y) where
  abbrev pub all_of : List X → Option (List Y)
  all_of xs = cond (list_all p xs) (Some (map f xs)) None

  abbrev pub one_of : X → Option Y
  one_of x = cond (p x) (Some (f x)) None

  pub one_more : (xs : List X) (x : X) (items : List Y) (y : Y) → Some items ≡ all_of xs → Some y ≡ one_of x → Some (items ++ y ∷ []) ≡ all_of (xs ++ x ∷ [])
  one_more xs x items y so_far next =
      let before = some_cond (list_all p xs) (map f xs) items (sym so_far) in
      let here = some_cond (p x) (f x) y (sym next) in
      let pass : list_all p (xs ++ x ∷ []) ≡ true
      = list_all-append p xs (x ∷ []) ∙ ap (λ (b : Bool). b && (p x && true)) before.0 ∙ ap (λ (b : Bool). b && true) here.0 in
      ap (λ (ys : List Y). Some (ys ++ y ∷ [])) (sym before.1) ∙ ap (λ (z : Y). Some (map f xs ++ z ∷ [])) (sym here.1)
      ∙ ap (λ (ys : List Y). Some ys) (sym (map_push f xs x)) ∙ sym (cond-true _ (Some (map f (xs ++ x ∷ []))) None pass)

  pub fails_at : (xs : List X) (i : ℕ) (x : X) → i < length xs → x ≡ get_or xs i x → None ≡ one_of x → None ≡ all_of xs
  fails_at xs i x lt at fail =
      sym (cond-false _ (Some (map f xs)) None (list_all_at p xs i x lt (ap p (sym at) ∙ none_cond (p x) (f x) (sym fail))))

  pub goes_on : (xs : List X) (i : ℕ) (x : X) (items now : List Y) (y : Y) → i < length xs → x ≡ get_or xs i x → Some items ≡ all_of (take i xs) → Some y ≡ one_of x
      → now ≡ items ++ y ∷ [] → Some now ≡ all_of (take (i + 1) xs)
  goes_on xs i x items now y lt at so_far next new =
      ap (λ (ys : List Y). Some ys) new ∙ one_more (take i xs) x items y so_far next
      ∙ ap (λ (z : X). all_of (take i xs ++ z ∷ [])) at ∙ ap all_of (sym (take_more xs i x lt))

  pub ends : (xs : List X) (i : ℕ) (items : List Y) → length xs ≤ i → Some items ≡ all_of (take i xs) → Some items ≡ all_of xs
  ends xs i items le so_far = so_far ∙ ap all_of (take_all i xs le)

  pub with_last : (xs front : List X) (x : X) (items now : List Y) (y : Y) → xs ≡ front ++ x ∷ [] → Some items ≡ all_of front → Some y ≡ one_of x → now ≡ items ++ y ∷ []
      → Some now ≡ all_of xs
  with_last xs front x items now y same so_far next new = ap (λ (ys : List Y). Some ys) new ∙ one_more front x items y so_far next ∙ ap all_of (sym same)

  pub fails_before_last : (xs front : List X) (x : X) → xs ≡ front ++ x ∷ [] → None ≡ all_of front → None ≡ all_of xs
  fails_before_last xs front x same fail =
      let some_fails : list_all p (front ++ x ∷ []) ≡ false
      = list_all-append p front (x ∷ []) ∙ ap (λ (b : Bool). b && (p x && true)) (none_cond (list_all p front) (map f front) (sym fail)) in
      sym (cond-false _ (Some (map f xs)) None (ap (list_all p) same ∙ some_fails))

  pub fails_at_last : (xs front : List X) (x : X) → xs ≡ front ++ x ∷ [] → None ≡ one_of x → None ≡ all_of xs
  fails_at_last xs front x same fail =
      let last_fails : (p x && true) ≡ false = ap (λ (b : Bool). b && true) (none_cond (p x) (f x) (sym fail)) in
      let some_fails : list_all p (front ++ x ∷ []) ≡ false = list_all-append p front (x ∷ []) ∙ and_right (list_all p front) (p x && true) last_fails in
      sym (cond-false _ (Some (map f xs)) None (ap (list_all p) same ∙ some_fails))
