-- What a pass that takes no further turn knew.
use Rattle.cd_turn.specs.declared.past.Past.{Past}
use Rattle.cd_turn.specs.declared.view.View.{View}
use Rattle.std.specs.Prelude.{List}

-- the one view that it had
abbrev pub past_views : {K E : Type 0} → Past K E → List (View K E)
past_views p = p.badge.views
