use Rattle.cd_turn_tests.proofs.count_all.+family.Given as goal

abbrev pub decreases-family : goal.decreases-family
decreases-family g l = l.threads
