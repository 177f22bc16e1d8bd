-- What a preview tells of the update that would follow.
use Rattle.cd_cache.proofs.Updates.{stands_after}
use Rattle.cd_cache.specs.Cache.{CacheMap, cached, cached_rates, is_old, outcome, preview_of, updated}
use Rattle.cd_cache.specs.Rates.{rates_against}
use Rattle.cd_cache.specs.declared.entry.CacheEntry.{CacheEntry}
use Rattle.cd_cache.specs.declared.entry.Updated.TheVariants.{Old, Stored}
use Rattle.cd_value.specs.Identifier.{name_of}
use Rattle.cd_value.specs.declared.data.DataSet.{DataSet}
use Rattle.cd_value.specs.declared.data.Rate.{Rate}
use Rattle.cd_value.specs.declared.data.ValueList.{ValueList}
use Rattle.std.proofs.Common.{Bool, IsNone, List, None, Option, Some, ap, cond, false, refl, subst, sym, true, ℕ, ◌∙◌, ◌≡◌, ◌↔◌}
use Rattle.std.specs.Option.{option_map}

-- by what stands under the name
pub preview_at : (set : DataSet) (list : ValueList) (cache : CacheMap) (before : Option CacheEntry) → cached (name_of list.id) cache ≡ before
    → cond (is_old before list) None (Some (rates_against set before list)) ≡ preview_of set list cache
preview_at set list cache before there = ap (λ (o : Option CacheEntry). cond (is_old o list) None (Some (rates_against set o list))) (sym there)

old_at : (b : Bool) (rates : List Rate) → IsNone (cond b None (Some rates)) ↔ (cond b Old Stored ≡ Old)
old_at true rates = (λ _. refl, λ _. refl)
old_at false rates = (λ e. absurd (cc), λ e. absurd (cc))

pub old_preview : (set : DataSet) (list : ValueList) (cache : CacheMap) (rates : Option (List Rate)) → rates ≡ preview_of set list cache → IsNone rates ↔ (outcome list cache ≡ Old)
old_preview set list cache rates is =
    subst (λ (r : Option (List Rate)). IsNone r ↔ (outcome list cache ≡ Old)) (sym is)
    (old_at (is_old (cached (name_of list.id) cache) list) (rates_against set (cached (name_of list.id) cache) list))

pub stored_preview : (set : DataSet) (list : ValueList) (cache : CacheMap) (rates : List Rate) → Some rates ≡ preview_of set list cache
    → (now : ℕ) → cached_rates (updated set list now cache) (name_of list.id) ≡ Some rates
stored_preview set list cache rates is now =
    elim (is_old (cached (name_of list.id) cache) list) as (λ b. cond b Old Stored ≡ outcome list cache
    → cond b None (Some (rates_against set (cached (name_of list.id) cache) list)) ≡ Some rates
    → cached_rates (updated set list now cache) (name_of list.id) ≡ Some rates) [
      | true ↦ λ _ e. absurd (cc)
      | false ↦ λ how e. ap (option_map (λ (entry : CacheEntry). entry.rates)) (stands_after set list now cache (updated set list now cache) refl (sym how)) ∙ e
    ] refl (sym is)
