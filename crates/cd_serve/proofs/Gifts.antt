-- What the clock and the dice gave, one gift after the other.
use Rattle.cd_history.specs.declared.given.Given.TheVariants.{Answered, Now, Read, Word}
use Rattle.cd_history.specs.declared.given.Given.{Given}
use Rattle.cd_io.specs.Told.{clock_after, dice_after}
use Rattle.cd_registry.specs.declared.calls.Answer.{Answer}
use Rattle.cd_serve.specs.Tells.{Gave, GaveAll, Pairs, moments, words}
use Rattle.cd_serve.specs.Working.Outside.{GaveAllUpTo, GaveUpTo}
use Rattle.std.proofs.Common.{IfSome, List, Option, [], ap, map, refl, subst, sym, ℕ, ◌++◌, ◌∙◌, ◌∷◌, ◌≡◌}
use Rattle.std.proofs.lemmas.List.{append-nil}
use Rattle.std.specs.Option.{option_map}

moments-append : (xs ys : List Given) → moments (xs ++ ys) ≡ moments xs ++ moments ys
moments-append [] ys = refl
moments-append (Now now ∷ xs) ys = ap (λ (ns : List ℕ). now ∷ ns) (moments-append xs ys)
moments-append (Word word ∷ xs) ys = moments-append xs ys
moments-append (Answered answer ∷ xs) ys = moments-append xs ys
moments-append (Read lists ∷ xs) ys = moments-append xs ys

words-append : (xs ys : List Given) → words (xs ++ ys) ≡ words xs ++ words ys
words-append [] ys = refl
words-append (Now now ∷ xs) ys = words-append xs ys
words-append (Word word ∷ xs) ys = ap (λ (ns : List ℕ). word ∷ ns) (words-append xs ys)
words-append (Answered answer ∷ xs) ys = words-append xs ys
words-append (Read lists ∷ xs) ys = words-append xs ys

moments-words : (rolled : List ℕ) → moments (map Word rolled) ≡ []
moments-words [] = refl
moments-words (word ∷ rolled) = moments-words rolled

words-words : (rolled : List ℕ) → words (map Word rolled) ≡ rolled
words-words [] = refl
words-words (word ∷ rolled) = ap (λ (ns : List ℕ). word ∷ ns) (words-words rolled)

-- numbers after numbers
gave_more : (after : ℕ × ℕ → ℕ × ℕ) (begun mid last : Option (ℕ × ℕ)) (xs ys : List ℕ) → GaveUpTo after begun xs mid → GaveUpTo after mid ys last → GaveUpTo after begun (xs ++ ys) last
gave_more after begun mid last [] ys is more = let P : Option (ℕ × ℕ) → Type 0 = λ o. GaveUpTo after o ys last in subst P is more
gave_more after begun mid last (x ∷ xs) ys is more = (is.0, gave_more after (option_map after begun) mid last xs ys is.1 more)

along : (after : ℕ × ℕ → ℕ × ℕ) (begun last : Option (ℕ × ℕ)) (xs ys : List ℕ) → xs ≡ ys → GaveUpTo after begun xs last → GaveUpTo after begun ys last
along after begun last xs ys e g = let P : List ℕ → Type 0 = λ ns. GaveUpTo after begun ns last in subst P e g

pub gave_nothing : (pairs : Pairs) → GaveAllUpTo pairs pairs []
gave_nothing pairs = record { moments = refl; words = refl }

pub gave_moment : (begun pairs : Pairs) (given : List Given) (now : ℕ) → GaveAllUpTo begun pairs given → IfSome pairs.clock (λ pair. now ≡ pair.0)
    → GaveAllUpTo begun (record { clock = option_map clock_after pairs.clock; dice = pairs.dice }) (given ++ Now now ∷ [])
gave_moment begun pairs given now g is = record {
  moments = along _ _ _ _ _ (sym (moments-append given (Now now ∷ []))) (gave_more clock_after begun.clock pairs.clock _ (moments given) (now ∷ []) g.moments (is, refl));
  words = along _ _ _ _ _ (sym (append-nil (words given)) ∙ sym (words-append given (Now now ∷ []))) g.words;
}

pub gave_answer : (begun pairs : Pairs) (given : List Given) (answer : Answer) → GaveAllUpTo begun pairs given → GaveAllUpTo begun pairs (given ++ Answered answer ∷ [])
gave_answer begun pairs given answer g = record {
  moments = along _ _ _ _ _ (sym (append-nil (moments given)) ∙ sym (moments-append given (Answered answer ∷ []))) g.moments;
  words = along _ _ _ _ _ (sym (append-nil (words given)) ∙ sym (words-append given (Answered answer ∷ []))) g.words;
}

-- where the same was told and given
pub gave_as : {begun pairs others : Pairs} {given more : List Given} → others ≡ pairs → more ≡ given → GaveAllUpTo begun pairs given → GaveAllUpTo begun others more
gave_as {begun = begun} {pairs = pairs} {more = more} same is g =
    let A : List Given → Type 0 = λ gifts. GaveAllUpTo begun pairs gifts in
    let B : Pairs → Type 0 = λ told. GaveAllUpTo begun told more in
    subst B (sym same) (subst A (sym is) g)

pub gave_words : (begun pairs : Pairs) (last : Option (ℕ × ℕ)) (given : List Given) (rolled : List ℕ) → GaveAllUpTo begun pairs given → GaveUpTo dice_after pairs.dice rolled last
    → GaveAllUpTo begun (record { clock = pairs.clock; dice = last }) (given ++ map Word rolled)
gave_words begun pairs last given rolled g more = record {
  moments = along _ _ _ _ _ (sym (append-nil (moments given)) ∙ ap (λ (ns : List ℕ). moments given ++ ns) (sym (moments-words rolled)) ∙ sym (moments-append given (map Word rolled))) g.moments;
  words = along _ _ _ _ _ (ap (λ (ns : List ℕ). words given ++ ns) (sym (words-words rolled)) ∙ sym (words-append given (map Word rolled)))
      (gave_more dice_after begun.dice pairs.dice last (words given) rolled g.words more);
}

-- one word after others
pub one_more_word : (begun mid : Option (ℕ × ℕ)) (rolled : List ℕ) (word : ℕ) → GaveUpTo dice_after begun rolled mid → IfSome mid (λ pair. word ≡ pair.0)
    → GaveUpTo dice_after begun (rolled ++ word ∷ []) (option_map dice_after mid)
one_more_word begun mid rolled word g is = gave_more dice_after begun mid _ rolled (word ∷ []) g (is, refl)

-- ---- what is told at last is left out

gave_first : (after : ℕ × ℕ → ℕ × ℕ) (begun last : Option (ℕ × ℕ)) (numbers : List ℕ) → GaveUpTo after begun numbers last → Gave after begun numbers
gave_first after begun last [] g = tt
gave_first after begun last (n ∷ numbers) g = (g.0, gave_first after (option_map after begun) last numbers g.1)

pub gave_all_first : (begun last : Pairs) (given : List Given) → GaveAllUpTo begun last given → GaveAll begun given
gave_all_first begun last given g = record {
  moments = gave_first clock_after begun.clock last.clock (moments given) g.moments;
  words = gave_first dice_after begun.dice last.dice (words given) g.words;
}
