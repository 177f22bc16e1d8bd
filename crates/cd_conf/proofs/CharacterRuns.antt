-- Keys and words, one character after the other.
use Rattle.cd_conf.proofs.Skips.{skipped}
use Rattle.cd_conf.specs.Blanks.{skip_while}
use Rattle.cd_conf.specs.Characters.{after_run, front_run, may_stand}
use Rattle.cd_conf.specs.declared.runs.Kind.{Kind}
use Rattle.std.proofs.Common.{Bool, List, [], add-one, add_comm, ap, arith, false, length, length-append, refl, sym, take, true, ℕ, ◌++◌, ◌-◌, ◌<◌, ◌∙◌, ◌∷◌, ◌≡◌}
use Rattle.std.proofs.Math.Seq.{take-append_seam}
use Rattle.std.proofs.lemmas.Str.{encodes-append, encodes-chars}
use Rattle.std.specs.Char.{encode_utf8}
use Rattle.std.specs.List.{prefix_len, take_while}
use Rattle.std.specs.Str.{IsUtf8, chars, encode_utf8_all}

while_more : (p : ℕ → Bool) (c : ℕ) (cs : List ℕ) → p c ≡ true → take_while p (c ∷ cs) ≡ c ∷ take_while p cs
while_more p c cs h = rw (h, add_comm 1 (prefix_len p cs), add-one) refl

pub front_more : (kind : Kind) (c : ℕ) (cs : List ℕ) → may_stand kind c ≡ true → front_run kind (c ∷ cs) ≡ encode_utf8 c ++ front_run kind cs
front_more kind c cs h = ap encode_utf8_all (while_more (may_stand kind) c cs h)

pub after_more : (kind : Kind) (c : ℕ) (cs : List ℕ) → may_stand kind c ≡ true → after_run kind (c ∷ cs) ≡ after_run kind cs
unfolding skip_while
after_more kind c cs h = rw h refl

pub front_none : (kind : Kind) (c : ℕ) (cs : List ℕ) → may_stand kind c ≡ false → front_run kind (c ∷ cs) ≡ []
front_none kind c cs h = rw h refl

pub after_none : (kind : Kind) (c : ℕ) (cs : List ℕ) → may_stand kind c ≡ false → after_run kind (c ∷ cs) ≡ c ∷ cs
unfolding skip_while
after_none kind c cs h = rw h refl

pub after_end : (kind : Kind) → after_run kind [] ≡ []
unfolding skip_while
after_end kind = refl

-- one more character of the run is passed over
pub after_goes_on : (kind : Kind) (c : ℕ) (text cs total : List ℕ) → may_stand kind c ≡ true → text ≡ c ∷ cs → after_run kind text ≡ total → after_run kind cs ≡ total
after_goes_on kind c text cs total h t so_far = sym (ap (after_run kind) t ∙ after_more kind c cs h) ∙ so_far

pub after_all : (kind : Kind) (text : List ℕ) → text ≡ [] → after_run kind text ≡ text
after_all kind text e = ap (after_run kind) e ∙ after_end kind ∙ sym e

pub after_other : (kind : Kind) (c : ℕ) (text cs : List ℕ) → may_stand kind c ≡ false → text ≡ c ∷ cs → after_run kind text ≡ text
after_other kind c text cs h e = ap (after_run kind) e ∙ after_none kind c cs h ∙ sym e

-- a run that has a character ends behind it
pub run_shorter : (kind : Kind) (c : ℕ) (text cs : List ℕ) → may_stand kind c ≡ true → text ≡ c ∷ cs → length (after_run kind text) < length text
run_shorter kind c text cs h e =
    let s = skipped (may_stand kind) cs in
    let l : length (after_run kind text) ≡ length (after_run kind cs) = ap length (ap (after_run kind) e ∙ after_more kind c cs h) in
    let m : length text ≡ length (c ∷ cs) = ap length e in
    omega (arith, s, l, m)

-- the run and what follows it are the text
split : (p : ℕ → Bool) (cs : List ℕ) → cs ≡ take_while p cs ++ skip_while p cs
unfolding skip_while
split p [] = refl
split p (c ∷ cs) = by (p c) refl (split p cs)
  where
    by : (t : Bool) → p c ≡ t → cs ≡ take_while p cs ++ skip_while p cs → c ∷ cs ≡ take_while p (c ∷ cs) ++ skip_while p (c ∷ cs)
    by true e h =
        let on : skip_while p (c ∷ cs) ≡ skip_while p cs = rw e refl in
        ap (λ (xs : List ℕ). c ∷ xs) h ∙ ap (λ (xs : List ℕ). xs ++ skip_while p cs) (sym (while_more p c cs e))
        ∙ ap (λ (xs : List ℕ). take_while p (c ∷ cs) ++ xs) (sym on)
    by false e h =
        let none : take_while p (c ∷ cs) ≡ [] = rw e refl in
        let on : skip_while p (c ∷ cs) ≡ c ∷ cs = rw e refl in
        sym (ap (λ (xs : List ℕ). xs ++ skip_while p (c ∷ cs)) none ∙ on)

pub whole : (kind : Kind) (text rest : List ℕ) → IsUtf8 text → IsUtf8 rest → chars rest ≡ after_run kind (chars text) → text ≡ front_run kind (chars text) ++ rest
whole kind text rest t r e =
    sym (encodes-chars text t) ∙ ap encode_utf8_all (split (may_stand kind) (chars text))
    ∙ encodes-append (take_while (may_stand kind) (chars text)) (skip_while (may_stand kind) (chars text))
    ∙ ap (λ (xs : List ℕ). front_run kind (chars text) ++ xs) (sym (ap encode_utf8_all e) ∙ encodes-chars rest r)

-- where what follows a front begins
pub front_length : (text front rest : List ℕ) → text ≡ front ++ rest → length front ≡ length text - length rest
front_length text front rest e = omega (arith, ap length e, length-append front rest)

pub front_taken : (text front rest : List ℕ) → text ≡ front ++ rest → take (length text - length rest) text ≡ front
front_taken text front rest e =
    ap (λ (n : ℕ). take n text) (sym (front_length text front rest e)) ∙ ap (take (length front)) e ∙ take-append_seam front rest
