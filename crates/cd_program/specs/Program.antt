-- The shelf of the program.
use Rattle.cd_registry.specs.declared.kinds.TheConstants.Kinds.{WRITE}
use Rattle.cd_registry.specs.declared.plug.PlugTells.{PlugTells}
use Rattle.cd_transcript.specs.LineRuns.{OnShelf}
use Rattle.std.specs.Prelude.{List, [], codes, ◌∷◌}

-- one plug-in, called with value lists
abbrev pub writer : PlugTells → List OnShelf
writer tells = record { name = codes "w"; kinds = WRITE; tells = tells } ∷ []
