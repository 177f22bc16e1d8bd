-- The patterns are as they were, and those so far are found.
use Rattle.cd_match.proofs.compiled.all_found.Given as goal
use Rattle.cd_match.specs.Matches.{are_found}
use Rattle.std.proofs.Common.{drop, ◌≡◌}

abbrev pub invariant-loop-pair : goal.invariant-loop-pair
invariant-loop-pair l =
    (l.patterns ≡ l.initial.patterns) × (are_found l.id (drop l.pair-index l.patterns) ≡ are_found l.id l.patterns)
