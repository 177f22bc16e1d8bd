use Rattle.cd_conf.proofs.LineRuns.{end_fault, nesting_fault, said, values_fault}
use Rattle.cd_conf.proofs.text.take_behind.Goals as goal
use Rattle.cd_conf.specs.Faults.{conf_fault}
use Rattle.cd_conf.specs.Pile.{opens_in}
use Rattle.cd_conf.specs.Place.{position}
use Rattle.std.proofs.lemmas.Result.{err_from_is_err_and}

pub returns-in_err-allows-clause-fault : goal.returns-in_err-allows-clause-fault
returns-in_err-allows-clause-fault c =
    let p = err_from_is_err_and c.from_residual.result c.from_residual.ensures.1 in
    rw (p.1, p.2) (nesting_fault (opens_in c.args.pile.now) c.args.line c.args.head (position c.args.place) c.in_err-allows.field-0.0 c.in_err-allows.ensures)

pub returns-in_err-args-clause-fault : goal.returns-in_err-args-clause-fault
returns-in_err-args-clause-fault c =
    let p = err_from_is_err_and c.from_residual-in_err-args.result c.from_residual-in_err-args.ensures.1 in
    rw (p.1, p.2)
    (values_fault (opens_in c.args.pile.now) c.args.line c.args.head (position c.args.place) (conf_fault c.in_err-args.field-0.0) c.in_ok-allows.ensures c.in_err-args.ensures.value)

pub returns-in_err-next-clause-fault : goal.returns-in_err-next-clause-fault
returns-in_err-next-clause-fault c =
    let p = err_from_is_err_and c.from_residual-in_err-next.result c.from_residual-in_err-next.ensures.1 in
    rw (p.1, p.2)
    (end_fault (opens_in c.args.pile.now) c.args.line c.args.head (position c.args.place) c.in_ok-args.args c.as_slice.result.now (position c.in_ok-args.end)
    (conf_fault c.in_err-next.field-0.0) c.in_ok-allows.ensures c.in_ok-args.ensures.value c.as_slice.ensures c.in_err-next.ensures.value)

pub returns-clause-took : goal.returns-clause-took
returns-clause-took c =
    said c.args.pile.now c.put.new.self c.args.line c.args.head (position c.args.place) c.in_ok-args.args c.as_slice.result.now (position c.in_ok-args.end)
    (position c.in_ok-next.next) c.in_ok-allows.ensures c.in_ok-args.ensures.value c.as_slice.ensures c.in_ok-next.ensures.value c.in_ok-put.ensures
