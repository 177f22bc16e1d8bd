-- Laws of lists that are offered one after another.
use Rattle.cd_queue.specs.Drops.{Limits, after_offer, after_offers, fate_of, fates_of, more_of}
use Rattle.cd_value.specs.declared.data.Offered.TheVariants.{Dropped, Kept}
use Rattle.cd_value.specs.declared.data.Offered.{Offered}
use Rattle.cd_value.specs.declared.data.ValueList.{ValueList}
use Rattle.std.proofs.Common.{List, [], add-zero, ap, length, length-append, sym, ℕ, ◌+◌, ◌∙◌, ◌∷◌, ◌≡◌}

-- a list more waits where it was kept
pub length-after_offer : (waiting : List ValueList) (list : ValueList) (fate : Offered) → length (after_offer waiting list fate) ≡ length waiting + more_of fate
length-after_offer waiting list Kept = length-append waiting (list ∷ [])
length-after_offer waiting list Dropped = sym (add-zero (length waiting))

-- the fates of the rest, once one was offered
pub fates_step : (limits : Limits) (waiting new : List ValueList) (list : ValueList) (fate : Offered) (word : ℕ) (words : List ℕ)
    → fate ≡ fate_of limits (length waiting) word → new ≡ after_offer waiting list fate
    → fate ∷ fates_of limits (length new) words ≡ fates_of limits (length waiting) (word ∷ words)
fates_step limits waiting new list fate word words told is =
    ap (λ n. fate ∷ fates_of limits n words) (ap length is ∙ length-after_offer waiting list fate)
    ∙ ap (λ f. f ∷ fates_of limits (length waiting + more_of f) words) told

-- what waits after the rest, once one was offered
pub offers_step : (limits : Limits) (waiting new : List ValueList) (list : ValueList) (lists : List ValueList) (fate : Offered) (word : ℕ) (words : List ℕ)
    → fate ≡ fate_of limits (length waiting) word → new ≡ after_offer waiting list fate
    → after_offers new lists (fates_of limits (length new) words) ≡ after_offers waiting (list ∷ lists) (fates_of limits (length waiting) (word ∷ words))
offers_step limits waiting new list lists fate word words told is =
    ap (λ w. after_offers w lists (fates_of limits (length new) words)) is
    ∙ ap (λ fates. after_offers waiting (list ∷ lists) fates) (fates_step limits waiting new list fate word words told is)
