use Rattle.cd_net.proofs.Texts.{at_position, no_position}
use Rattle.cd_net.proofs.payload.before_zero.Goals as goal
use Rattle.cd_net.specs.Payload.{is_zero}
use Rattle.std.proofs.Common.{ap, sym, take, ℕ}

pub returns-in-Some : goal.returns-in-Some
returns-in-Some c =
    ap (λ (n : ℕ). take n c.args.payload.now) (sym (at_position is_zero c.args.payload.now c.in-Some.end (sym c.in-Some.ensures)))

pub returns-in-None : goal.returns-in-None
returns-in-None c = no_position is_zero c.args.payload.now (sym c.in-None.ensures)
