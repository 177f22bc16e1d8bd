use Rattle.cd_net.proofs.Texts.{no_text, text_is}
use Rattle.cd_net.proofs.payload.text.Goals as goal
use Rattle.std.proofs.Common.{List, Some, ap, sym, ℕ, ◌∙◌}

pub returns-in_default : goal.returns-in_default
returns-in_default c = sym (no_text c.args.payload.now c.before_zero-text.result.now c.before_zero-text.ensures c.in_default.ensures.cases.0)

pub returns : goal.returns
returns c =
    let before = c.before_zero-text.result.now in
    ap (λ (text : List ℕ). Some text) c.in-Ok.ensures.cases.0
    ∙ sym (text_is c.args.payload.now before c.before_zero-text.ensures c.if-text-payload.false c.in-Ok.ensures.cases.1)
