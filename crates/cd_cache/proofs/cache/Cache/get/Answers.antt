-- The map in no order has the entry that the cache has.
use Rattle.cd_cache.proofs.ByName.{lookup_by_name}
use Rattle.cd_cache.proofs.cache.Cache.get.Goals as goal
use Rattle.cd_cache.specs.Cache.{cached}
use Rattle.std.proofs.Common.{ap, sym, ◌∙◌}

pub returns : goal.returns
returns c =
    c.get.ensures.value
    ∙ sym (lookup_by_name c.args.name.now c.self.inside.entries.entries)
    ∙ ap (cached c.args.name.now) c.self.view_is
