-- Words of the dice are rolled, one after the other.
use Rattle.cd_history.specs.declared.given.Given.TheVariants.{Word}
use Rattle.cd_io.specs.Told.{dice_after}
use Rattle.cd_serve.proofs.Gifts.{one_more_word}
use Rattle.cd_serve.specs.Working.Outside.{GaveUpTo}
use Rattle.cd_serve.specs.Working.Progress.{Rolled, Seen, with_word}
use Rattle.std.proofs.Common.{IfSome, List, Option, [], ap, append_assoc, arith, length-append, map, refl, subst, sym, ℕ, ◌++◌, ◌+◌, ◌∙◌, ◌∷◌, ◌≡◌}
use Rattle.std.proofs.lemmas.List.{append-nil, map-append}
use Rattle.std.specs.Option.{option_map}

pub rolled_nothing : (old : Seen) → Rolled [] 0 old old
rolled_nothing old = record { many = refl; gave = refl; seen = seen_same }
  where
    seen_same : old ≡ record old { given = old.given ++ []; pairs = record { clock = old.pairs.clock; dice = old.pairs.dice } }
    seen_same = rw (append-nil old.given) refl

one_more : (old mid new : Seen) (rolled : List ℕ) (count word : ℕ) → Rolled rolled count old mid → IfSome mid.pairs.dice (λ pair. word ≡ pair.0) → new ≡ with_word word mid
    → Rolled (rolled ++ word ∷ []) (count + 1) old new
one_more old mid new rolled count word r at is = record {
  many = omega (arith, length-append rolled (word ∷ []), r.many);
  gave = let G : Option (ℕ × ℕ) → Type 0 = λ last. GaveUpTo dice_after old.pairs.dice (rolled ++ word ∷ []) last in
      subst G (sym (ap (λ (s : Seen). s.pairs.dice) is)) (one_more_word old.pairs.dice mid.pairs.dice rolled word r.gave at);
  seen = is ∙ ap (with_word word) r.seen ∙ seen_then ∙ sym (ap (λ (s : Seen). record old { given = old.given ++ map Word (rolled ++ word ∷ []); pairs = record { clock = old.pairs.clock; dice = s.pairs.dice } }) is);
}
  where
    seen_then : with_word word (record old { given = old.given ++ map Word rolled; pairs = record { clock = old.pairs.clock; dice = mid.pairs.dice } })
        ≡ record old { given = old.given ++ map Word (rolled ++ word ∷ []); pairs = record { clock = old.pairs.clock; dice = option_map dice_after mid.pairs.dice } }
    seen_then = rw (map-append Word rolled (word ∷ []), append_assoc old.given (map Word rolled) (Word word ∷ [])) refl

pub rolled_more : (old mid new : Seen) (rolled all : List ℕ) (count word : ℕ) → Rolled rolled count old mid → IfSome mid.pairs.dice (λ pair. word ≡ pair.0) → all ≡ rolled ++ word ∷ []
    → new ≡ with_word word mid → Rolled all (count + 1) old new
rolled_more old mid new rolled all count word r at last is =
    let R : List ℕ → Type 0 = λ words. Rolled words (count + 1) old new in
    subst R (sym last) (one_more old mid new rolled count word r at is)

-- so many as there are
pub rolled_for : (rolled : List ℕ) (count many : ℕ) (old new : Seen) → count ≡ many → Rolled rolled count old new → Rolled rolled many old new
rolled_for rolled count many old new is r = let R : ℕ → Type 0 = λ n. Rolled rolled n old new in subst R is r
