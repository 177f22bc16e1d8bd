use Rattle.cd_conf.specs.declared.item.Item.{Item}
use Rattle.cd_opening.proofs.Defaults.{default_settings}
use Rattle.cd_opening.proofs.opening.open_defaults.Goals as goal
use Rattle.cd_settings.specs.Settings.{settings_of}
use Rattle.std.proofs.Common.{List, Ok, [], subst, ◌≡◌}

pub returns-in-Ok : goal.returns-in-Ok
returns-in-Ok c =
    let is : settings_of [] ≡ Ok c.in-Ok.settings = subst (λ (items : List Item). settings_of items ≡ Ok c.in-Ok.settings) c.new-items.ensures c.in-Ok.ensures in
    record { items = c.new-items.ensures; types = c.in_ok-types.ensures; settings = is; globals = default_settings c.in-Ok.settings is }
