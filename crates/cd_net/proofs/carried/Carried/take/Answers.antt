use Rattle.cd_net.proofs.carried.Carried.take.Goals as goal
use Rattle.cd_net.specs.Carried.{with_field}
use Rattle.std.proofs.Common.{arith, refl}
use Rattle.std.proofs.lemmas.Bool.{ne_eqb}

-- a part of another kind changes none
pub returns-in_default : goal.returns-in_default
unfolding with_field
returns-in_default c = rw (ne_eqb c.args.kind 0 (λ e. omega arith), ne_eqb c.args.kind 2 (λ e. omega arith), ne_eqb c.args.kind 3 (λ e. omega arith), ne_eqb c.args.kind 4 (λ e. omega arith), ne_eqb c.args.kind 5 (λ e. omega arith), ne_eqb c.args.kind 1 (λ e. omega arith), ne_eqb c.args.kind 8 (λ e. omega arith), ne_eqb c.args.kind 7 (λ e. omega arith), ne_eqb c.args.kind 9 (λ e. omega arith), ne_eqb c.args.kind 257 (λ e. omega arith)) refl
