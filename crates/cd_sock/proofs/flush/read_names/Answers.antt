use Rattle.cd_sock.proofs.Flushes.{names_on, names_pass, names_refuse, no_names}
use Rattle.cd_sock.proofs.flush.read_names.Goals as goal
use Rattle.cd_sock.specs.Faults.{line_fault}
use Rattle.std.proofs.Common.{List, Ok, ap, sym, ℕ, ◌∙◌}
use Rattle.std.proofs.lemmas.Result.{err_from_is_err_and}

pub loop-word-init : goal.loop-word-init
loop-word-init c = no_names ∙ ap (λ (names : List (List ℕ)). Ok names) (sym c.new-names.ensures)

pub loop-word-preserved-in_default : goal.loop-word-preserved-in_default
loop-word-preserved-in_default c =
    names_pass c.args.options.now c.loop-word.word-index c.word-item.result c.loop-word-test.true c.word-item.is c.in_default.ensures
    ∙ c.loop-word.invariant

pub loop-word-preserved : goal.loop-word-preserved
loop-word-preserved c =
    names_on c.args.options.now c.loop-word.word-index c.word-item.result c.loop-word-test.true c.word-item.is
    c.in-Some.text.now c.loop-word.names c.in_ok-name_in.field-0 c.in-Some.ensures c.loop-word.invariant c.in_ok-name_in.ensures
    ∙ ap (λ (names : List (List ℕ)). Ok names) (sym c.in_ok-push.ensures.ok)

pub returns-in_err-name_in : goal.returns-in_err-name_in
returns-in_err-name_in c =
    let p = err_from_is_err_and c.from_residual.result c.from_residual.ensures.1 in
    rw (p.1, p.2)
    (names_refuse c.args.options.now c.loop-word.word-index c.word-item.result c.loop-word-test.true c.word-item.is
    c.in-Some.text.now c.loop-word.names (line_fault c.in_err-name_in.field-0.0) c.in-Some.ensures c.loop-word.invariant c.in_err-name_in.ensures)
