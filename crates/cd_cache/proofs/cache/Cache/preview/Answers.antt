-- What is previewed is what stands under the name afterwards.
use Rattle.cd_cache.proofs.Previews.{preview_at, stored_preview}
use Rattle.cd_cache.proofs.cache.Cache.preview.Goals as goal
use Rattle.cd_cache.specs.Cache.{cached}
use Rattle.cd_cache.specs.Rates.{rates_against}
use Rattle.cd_cache.specs.declared.entry.CacheEntry.{CacheEntry}
use Rattle.cd_value.specs.Identifier.{name_of}
use Rattle.cd_value.specs.declared.data.Rate.{Rate}
use Rattle.std.proofs.Common.{Bool, List, None, Some, ap, cond, sym, ℕ, ◌∙◌, ◌≡◌}
use Rattle.std.specs.Option.{option_copied}

pub returns-in_default-clause-stored : goal.returns-in_default-clause-stored
returns-in_default-clause-stored c =
    let list = c.args.list.now in
    let cache = c.args.self.now in
    let absent : cached (name_of list.id) cache ≡ None = ap (λ (n : List ℕ). cached n cache) (sym c.in_ok-name.ensures.value) ∙ sym c.get.ensures ∙ ap option_copied c.in_default.is in
    stored_preview c.args.set.now list cache c.in_ok-first.first
    (ap (λ (rates : List Rate). Some rates) c.in_ok-first.ensures ∙ preview_at c.args.set.now list cache None absent)

pub returns-clause-stored : goal.returns-clause-stored
returns-clause-stored c =
    let list = c.args.list.now in
    let cache = c.args.self.now in
    let before : CacheEntry = c.in-Some.before.now in
    let there : cached (name_of list.id) cache ≡ Some before = ap (λ (n : List ℕ). cached n cache) (sym c.in_ok-name.ensures.value) ∙ sym c.get.ensures ∙ ap option_copied c.in-Some.is in
    stored_preview c.args.set.now list cache c.in_ok-rates.rates
    (ap (λ (rates : List Rate). Some rates) c.in_ok-rates.ensures
    ∙ sym (ap (λ (b : Bool). cond b None (Some (rates_against c.args.set.now (Some before) list))) (sym c.is_as_new_as.ensures ∙ c.if-is_as_new_as.false))
    ∙ preview_at c.args.set.now list cache (Some before) there)
