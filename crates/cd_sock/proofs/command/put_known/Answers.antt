use Rattle.cd_reading.specs.First.{◌>>=◌}
use Rattle.cd_sock.proofs.Meanings.{put_lists, refuses_on}
use Rattle.cd_sock.proofs.command.put_known.Goals as goal
use Rattle.cd_sock.specs.Faults.{line_fault}
use Rattle.cd_sock.specs.Meaning.{at_moment, lists_or_fault, put_known}
use Rattle.cd_sock.specs.declared.command.Command.TheVariants.{PutVal}
use Rattle.cd_sock.specs.declared.fault.LineFault.{LineFault}
use Rattle.cd_value.specs.declared.data.ValueList.{ValueList}
use Rattle.std.proofs.Common.{List, Ok, Result, ap, sym, ◌∙◌}
use Rattle.std.proofs.lemmas.Result.{err_from_is_err_and}

pub returns-in_err-lists : goal.returns-in_err-lists
returns-in_err-lists c =
    let p = err_from_is_err_and c.from_residual-in_err-lists.result c.from_residual-in_err-lists.ensures.1 in
    rw (p.1, p.2)
    (refuses_on (line_fault c.in_err-lists.field-0.0) (lists_or_fault c.args.sources.now c.args.id c.args.now c.in_ok-interval.interval c.args.values.now) (λ lists. Ok (PutVal lists))
    (at_moment c.args.now c.args.interval (put_known c.args.id c.args.sources.now c.args.options.now c.args.values.now)) c.in_err-lists.ensures
    (put_lists c.args.id c.args.sources.now c.args.options.now c.args.values.now c.args.now c.args.interval c.in_ok-interval.interval (sym c.in_ok-interval.ensures)))

pub returns : goal.returns
returns c =
    put_lists c.args.id c.args.sources.now c.args.options.now c.args.values.now c.args.now c.args.interval c.in_ok-interval.interval (sym c.in_ok-interval.ensures)
    ∙ ap (λ (r : Result (List ValueList) LineFault). r >>= λ lists. Ok (PutVal lists)) c.in_ok-lists.ensures
