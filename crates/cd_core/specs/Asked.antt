-- Whom a flush means, by the rows of the registry: words of private contracts and of proofs. No public clause cites them.
use Rattle.cd_registry.specs.Rows.{Row, listening, live_number_with}
use Rattle.cd_registry.specs.declared.kinds.TheConstants.Kinds.{FLUSH}
use Rattle.cd_value.specs.declared.data.FlushRequest.{FlushRequest}
use Rattle.std.specs.Prelude.{List, Option, Some, [], map, ℕ, ◌∷◌}

abbrev pub flusher_in : List Row → List ℕ → Option ℕ
flusher_in rows name = live_number_with FLUSH.0 name rows

abbrev pub plugins_in : List Row → FlushRequest → List (Option ℕ)
plugins_in rows request = elim request.plugins [
  | [] ↦ map Some (listening FLUSH.0 rows)
  | name ∷ more ↦ map (flusher_in rows) (name ∷ more)
]
