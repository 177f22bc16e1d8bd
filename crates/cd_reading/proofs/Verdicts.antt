-- Reading one after the other gives all values, or the first fault.
use Rattle.cd_reading.specs.First.{all_or_first, each_after, ◌>>=◌}
use Rattle.cd_reading.specs.Gives.{Refuses}
use Rattle.std.proofs.Common.{Err, List, None, Ok, Option, Result, Some, [], add-one, ap, append_assoc, drop, drop-cons, get_or, length, refl, sym, take, ℕ, ◌++◌, ◌+◌, ◌<◌, ◌∙◌, ◌∷◌, ◌≡◌, ◌≤◌}
use Rattle.std.proofs.lemmas.List.{append-nil, drop_all, take_more}

-- what was read before, and what is still read
abbrev pub with_front : {A F : Type 0} → List A → Result (List A) F → Result (List A) F
with_front front read = read >>= λ xs. Ok (front ++ xs)

-- the verdicts from place i on
abbrev pub from_place : {X A F : Type 0} → (List X → X → Result A F) → List X → ℕ → Result (List A) F
from_place f ps i = all_or_first (each_after f (take i ps) (drop i ps))

opened : {X A F : Type 0} (f : List X → X → Result A F) (ps : List X) (i : ℕ) (d : X) → i < length ps
    → from_place f ps i ≡ (f (take i ps) (get_or ps i d) >>= λ x. from_place f ps (i + 1) >>= λ xs. Ok (x ∷ xs))
unfolding all_or_first each_after
opened {X} {A} {F} f ps i d lt =
    let at : drop i ps ≡ get_or ps i d ∷ drop (i + 1) ps = rw add-one (drop-cons ps i d lt) in
    ap (λ (rest : List X). all_or_first (each_after f (take i ps) rest)) at
    ∙ ap (λ (before : List X). f (take i ps) (get_or ps i d) >>= λ x. all_or_first (each_after f before (drop (i + 1) ps)) >>= λ xs. Ok (x ∷ xs)) (sym (take_more ps i d lt))

-- an answer with no fault
abbrev pub no_fault : {A : Type 0} (F : Type 0) → List A → Result (List A) F
no_fault F xs = Ok xs

regroup : {A F : Type 0} (front : List A) (x : A) (read : Result (List A) F) → with_front front (read >>= λ xs. Ok (x ∷ xs)) ≡ with_front (front ++ x ∷ []) read
regroup {A} {F} front x (Ok xs) = ap (no_fault F) (sym (append_assoc front (x ∷ []) xs))
regroup {A} {F} front x (Err k) = refl

pub goes_on : {X A F : Type 0} (f : List X → X → Result A F) (ps : List X) (i : ℕ) (d : X) (front now : List A) (x : A) (total : Result (List A) F) → i < length ps
    → f (take i ps) (get_or ps i d) ≡ Ok x → now ≡ front ++ x ∷ [] → with_front front (from_place f ps i) ≡ total → with_front now (from_place f ps (i + 1)) ≡ total
goes_on {X} {A} {F} f ps i d front now x total lt h n so_far =
    ap (λ (ys : List A). with_front ys (from_place f ps (i + 1))) n ∙ sym (regroup front x (from_place f ps (i + 1)))
    ∙ ap (λ (r : Result A F). with_front front (r >>= λ y. from_place f ps (i + 1) >>= λ xs. Ok (y ∷ xs))) (sym h) ∙ ap (with_front front) (sym (opened f ps i d lt)) ∙ so_far

pub ends : {X A F : Type 0} (f : List X → X → Result A F) (ps : List X) (i : ℕ) (d : X) (front : List A) (e : Option F) (total : Result (List A) F) → i < length ps
    → Refuses e (f (take i ps) (get_or ps i d)) → with_front front (from_place f ps i) ≡ total → Refuses e total
ends {X} {A} {F} f ps i d front None total lt h so_far = tt
ends {X} {A} {F} f ps i d front (Some k) total lt h so_far =
    sym so_far ∙ ap (with_front front) (opened f ps i d lt) ∙ ap (λ (r : Result A F). with_front front (r >>= λ y. from_place f ps (i + 1) >>= λ xs. Ok (y ∷ xs))) h

pub is_done : {X A F : Type 0} (f : List X → X → Result A F) (ps : List X) (i : ℕ) (front : List A) (total : Result (List A) F) → length ps ≤ i
    → with_front front (from_place f ps i) ≡ total → total ≡ Ok front
unfolding all_or_first each_after
is_done {X} {A} {F} f ps i front total le so_far =
    sym so_far ∙ ap (λ (rest : List X). with_front front (all_or_first (each_after f (take i ps) rest))) (drop_all i ps le) ∙ ap (no_fault F) (append-nil front)

pub begins : {X A F : Type 0} (f : List X → X → Result A F) (ps : List X) (front : List A) → front ≡ [] → with_front front (from_place f ps 0) ≡ all_or_first (each_after f [] ps)
begins {X} {A} {F} f ps front e = ap (λ (ys : List A). with_front ys (from_place f ps 0)) e ∙ plain (from_place f ps 0)
  where
    plain : (r : Result (List A) F) → with_front [] r ≡ r
    plain (Ok xs) = refl
    plain (Err k) = refl
