-- The answers that the plug-in that keeps its calls has still to give.
use Rattle.cd_registry.specs.declared.calls.Answer.{Answer}
use Rattle.cd_plugins.specs.declared.telling.Telling.{Telling}
use Rattle.std.specs.Prelude.{List, drop}

-- those of its list that it hasn't given, in order
abbrev pub answers_left : Telling → List Answer
answers_left plug = drop plug.entered plug.answers.items
