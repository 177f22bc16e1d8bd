use Rattle.cd_io.proofs.Speaking.{said_more}
use Rattle.cd_io.proofs.traits.Link.say_whole.Goals as goal
use Rattle.std.proofs.Common.{arith, drop, length, length-drop, length-take, take, ◌-◌, ◌≡◌}
use Rattle.std.proofs.lemmas.Grind.{common_steps}

pub loop-said-preserved : goal.loop-said-preserved
loop-said-preserved g c =
    let text = c.args.text.now in
    let said = c.loop-said.said in
    let rest : take (length text - said) (drop said text) ≡ drop said text = grind (arith, common_steps) in
    record {
      within = omega (arith, c.in-Ok.ensures.bound, length-take (length text - said) (drop said text), length-drop said text);
      says = said_more text _ said c.in-Ok.count _ _ _ rest c.loop-said.invariant.says c.in-Ok.ensures.says;
    }
