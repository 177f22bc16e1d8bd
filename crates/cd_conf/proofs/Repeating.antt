-- A step that is taken again and again, one time after the other.
use Rattle.cd_conf.specs.Repeated.{go_on, in_front, repeated}
use Rattle.cd_reading.specs.First.{◌>>=◌}
use Rattle.cd_reading.specs.Gives.{Refuses}
use Rattle.std.proofs.Common.{Err, List, None, Ok, Option, Result, Some, [], ap, append_assoc, arith, refl, suc, sym, zero, ℕ, ◌++◌, ◌<◌, ◌∙◌, ◌≡◌}
use Rattle.std.proofs.lemmas.List.{append-nil}

-- what was given so far, and what the state that was reached gives, are all that is given
pub record Going {S A F : Type 0} (size : S → ℕ) (step : S → Result (Option (List A × S)) F) (front : List A) (s : S) (total : Result (List A × S) F) : Type 0 where
  pub times : ℕ
  pub enough : size s < times
  pub same : in_front front (repeated step times s) ≡ total

opened : {S A F : Type 0} (step : S → Result (Option (List A × S)) F) (n : ℕ) (s : S) (found : Result (Option (List A × S)) F) → step s ≡ found
    → repeated step (suc n) s ≡ (found >>= go_on s (repeated step n))
unfolding repeated
opened {S} {A} {F} step n s found e = ap (λ (r : Result (Option (List A × S)) F). r >>= go_on s (repeated step n)) e

regroup : {S A F : Type 0} (front more : List A) (read : Result (List A × S) F) → in_front front (in_front more read) ≡ in_front (front ++ more) read
regroup {S} {A} {F} front more (Ok r) = ap (λ (xs : List A). Ok (xs, r.1)) (sym (append_assoc front more r.0))
regroup {S} {A} {F} front more (Err f) = refl

pub begins : {S A F : Type 0} (size : S → ℕ) (step : S → Result (Option (List A × S)) F) (front : List A) (s : S) → front ≡ [] → Going size step front s (repeated step (suc (size s)) s)
begins {S} {A} {F} size step front s e = record {
  times = suc (size s);
  enough = omega arith;
  same = ap (λ (xs : List A). in_front xs (repeated step (suc (size s)) s)) e ∙ plain (repeated step (suc (size s)) s);
}
  where
    plain : (r : Result (List A × S) F) → in_front [] r ≡ r
    plain (Ok r) = refl
    plain (Err f) = refl

pub goes_on : {S A F : Type 0} (size : S → ℕ) (step : S → Result (Option (List A × S)) F) (front now more : List A) (s t : S) (total : Result (List A × S) F)
    → Going size step front s total → step s ≡ Ok (Some (more, t)) → size t < size s → now ≡ front ++ more → Going size step now t total
goes_on {S} {A} {F} size step front now more s t total g e less n = by g.times g.enough g.same
  where
    by : (k : ℕ) → size s < k → in_front front (repeated step k s) ≡ total → Going size step now t total
    by zero lt same = absurd (omega arith)
    by (suc k) lt same = record {
      times = k;
      enough = omega arith;
      same = ap (λ (xs : List A). in_front xs (repeated step k t)) n ∙ sym (regroup front more (repeated step k t))
          ∙ ap (in_front front) (sym (opened step k s (Ok (Some (more, t))) e)) ∙ same;
    }

pub stops : {S A F : Type 0} (size : S → ℕ) (step : S → Result (Option (List A × S)) F) (front : List A) (s : S) (total : Result (List A × S) F)
    → Going size step front s total → step s ≡ Ok None → total ≡ Ok (front, s)
stops {S} {A} {F} size step front s total g e = by g.times g.enough g.same
  where
    by : (k : ℕ) → size s < k → in_front front (repeated step k s) ≡ total → total ≡ Ok (front, s)
    by zero lt same = absurd (omega arith)
    by (suc k) lt same = sym same ∙ ap (in_front front) (opened step k s (Ok None) e) ∙ ap (λ (xs : List A). Ok (xs, s)) (append-nil front)

pub faults : {S A F : Type 0} (size : S → ℕ) (step : S → Result (Option (List A × S)) F) (front : List A) (s : S) (f : Option F) (total : Result (List A × S) F)
    → Going size step front s total → Refuses f (step s) → Refuses f total
faults {S} {A} {F} size step front s None total g e = tt
faults {S} {A} {F} size step front s (Some f) total g e = by g.times g.enough g.same
  where
    by : (k : ℕ) → size s < k → in_front front (repeated step k s) ≡ total → total ≡ Err f
    by zero lt same = absurd (omega arith)
    by (suc k) lt same = sym same ∙ ap (in_front front) (opened step k s (Err f) e)
