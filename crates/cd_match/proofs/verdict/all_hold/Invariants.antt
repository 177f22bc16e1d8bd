-- The matches are as they were, and those so far hold.
use Rattle.cd_match.proofs.verdict.all_hold.Given as goal
use Rattle.cd_match.specs.Matches.{match_holds}
use Rattle.cd_match.specs.declared.data.Match.{Match}
use Rattle.std.proofs.Common.{Bool, drop, ◌≡◌}
use Rattle.std.specs.List.{list_all}
use Rattle.std.specs.Option.{option_copied}

abbrev pub invariant-loop-test : goal.invariant-loop-test
invariant-loop-test l =
    let holds : Match → Bool = λ test. match_holds test l.set (option_copied l.rates) l.now l.list in
    (l.matches ≡ l.initial.matches)
    × (list_all holds (drop l.test-index l.matches) ≡ list_all holds l.matches)
