-- Lists that grow by the next element of another.
use Rattle.std.proofs.Common.{◌≡◌, ℕ, ◌+◌, ◌<◌, List, [], ◌∷◌, ◌++◌, length, take, get_or, Option, sym, ap, ◌∙◌, append_assoc}
use Rattle.std.proofs.lemmas.List.{append-nil, take_more}
use Rattle.std.proofs.lemmas.List.Elements.{filter_map-append}
use Rattle.std.specs.List.{filter_map, flat_map}

taken : {X : Type 0} (xs : List X) (i : ℕ) (x : X) → i < length xs → x ≡ get_or xs i x → take (i + 1) xs ≡ take i xs ++ x ∷ []
taken xs i x below read = take_more xs i x below ∙ ap (λ y. take i xs ++ y ∷ []) (sym read)

pub mapped_more : {X Y : Type 0} (h : X → Option Y) (old new before : List Y) (xs : List X) (i : ℕ) (x : X) → i < length xs → x ≡ get_or xs i x
    → before ≡ old ++ filter_map h (take i xs) → new ≡ before ++ filter_map h (x ∷ []) → new ≡ old ++ filter_map h (take (i + 1) xs)
mapped_more h old new before xs i x below read so_far more =
    more ∙ ap (λ ys. ys ++ filter_map h (x ∷ [])) so_far
    ∙ append_assoc old (filter_map h (take i xs)) (filter_map h (x ∷ []))
    ∙ ap (λ ys. old ++ ys) (sym (filter_map-append h (take i xs) (x ∷ [])) ∙ ap (filter_map h) (sym (taken xs i x below read)))

pub flat_append : {X Y : Type 0} (f : X → List Y) (xs : List X) (x : X) → flat_map f (xs ++ x ∷ []) ≡ flat_map f xs ++ f x
flat_append f [] x = append-nil (f x)
flat_append f (y ∷ xs) x = ap (λ ys. f y ++ ys) (flat_append f xs x) ∙ sym (append_assoc (f y) (flat_map f xs) (f x))

pub flat_more : {X Y Z : Type 0} (f : X → List Y) (h : Y → Option Z) (new before : List Z) (xs : List X) (i : ℕ) (x : X) → i < length xs → x ≡ get_or xs i x
    → before ≡ filter_map h (flat_map f (take i xs)) → new ≡ before ++ filter_map h (f x) → new ≡ filter_map h (flat_map f (take (i + 1) xs))
flat_more f h new before xs i x below read so_far more =
    more ∙ ap (λ ys. ys ++ filter_map h (f x)) so_far
    ∙ sym (filter_map-append h (flat_map f (take i xs)) (f x))
    ∙ ap (filter_map h) (sym (flat_append f (take i xs) x) ∙ ap (flat_map f) (sym (taken xs i x below read)))
