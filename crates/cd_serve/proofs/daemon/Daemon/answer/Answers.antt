use Rattle.cd_serve.proofs.Keeping.{keeps_same}
use Rattle.cd_serve.proofs.Obeying.{serves_blank_as}
use Rattle.cd_serve.proofs.daemon.Daemon.answer.Goals as goal
use Rattle.cd_sock.specs.Lines.{content}
use Rattle.std.proofs.Common.{Some, ap, refl, sym, ◌∙◌}

pub returns-then-is_blank_line-clause-ok : goal.returns-then-is_blank_line-clause-ok
returns-then-is_blank_line-clause-ok g c = record {
  serves = serves_blank_as _ c.deref.result.now (content c.args.line.now) c.new.result
      (ap content c.in-Whole.is ∙ ap Some (sym c.deref.ensures.value)) c.new.ensures
      (λ types now interval. (c.if-is_blank_line.ensures.blank types now interval).0 refl);
  keeps = keeps_same _ _ refl;
}
