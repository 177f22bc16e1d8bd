-- The lines, one after the other.
use Rattle.cd_types.proofs.TextRuns.{line_ends, line_goes_on, lines_done, sets_left}
use Rattle.cd_types.proofs.text.read_lines.Goals as goal
use Rattle.cd_types.specs.Faults.{types_fault}
use Rattle.std.proofs.Common.{[]}
use Rattle.std.proofs.lemmas.Result.{err_from_is_err_and}

pub returns-in_err-set : goal.returns-in_err-set
returns-in_err-set c =
    let p = err_from_is_err_and c.from_residual.result c.from_residual.ensures.1 in
    rw (p.1, p.2)
    (line_ends c.loop-i.db c.args.lines.now c.loop-i.i _ (types_fault c.in_err-set.field-0.0) (sets_left [] c.args.lines.now 0) c.loop-i-test.true c.in_err-set.ensures c.loop-i.invariant)

pub loop-i-preserved : goal.loop-i-preserved
loop-i-preserved c =
    line_goes_on c.loop-i.db c.put_line.new.self c.args.lines.now c.loop-i.i _ c.in_ok-set.set (sets_left [] c.args.lines.now 0) c.loop-i-test.true c.in_ok-set.ensures c.in_ok-put_line.ensures.ok c.loop-i.invariant

pub returns : goal.returns
returns c = lines_done c.loop-i.db c.args.lines.now c.loop-i.i (sets_left [] c.args.lines.now 0) c.loop-i-test.false c.loop-i.invariant
