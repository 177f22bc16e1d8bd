use Rattle.cd_sock.proofs.Flushes.{no_timeout, timeout_on, timeout_pass, timeout_stop}
use Rattle.cd_sock.proofs.flush.read_timeout.Goals as goal
use Rattle.std.proofs.Common.{sym, ◌∙◌}
use Rattle.std.proofs.lemmas.Result.{err_from_is_err_and}

pub loop-word-init : goal.loop-word-init
loop-word-init c = no_timeout

pub loop-word-preserved-in_default : goal.loop-word-preserved-in_default
loop-word-preserved-in_default c =
    timeout_pass c.args.options.now c.loop-word.word-index c.word-item.result c.loop-word-test.true c.word-item.is c.in_default.ensures
    ∙ c.loop-word.invariant

pub loop-word-preserved : goal.loop-word-preserved
loop-word-preserved c =
    timeout_on c.args.options.now c.loop-word.word-index c.word-item.result c.loop-word-test.true c.word-item.is
    c.in-Some.text.now c.loop-word.timeout c.in_ok-timeout.timeout c.in-Some.ensures c.loop-word.invariant c.in_ok-timeout.ensures

pub returns-in_err-timeout : goal.returns-in_err-timeout
returns-in_err-timeout c =
    let p = err_from_is_err_and c.from_residual.result c.from_residual.ensures.1 in
    rw (p.1, p.2)
    (sym (timeout_stop c.args.options.now c.loop-word.word-index c.word-item.result c.loop-word-test.true c.word-item.is
    c.in-Some.text.now c.loop-word.timeout c.in_err-timeout.field-0.0 c.in-Some.ensures c.loop-word.invariant c.in_err-timeout.ensures))
