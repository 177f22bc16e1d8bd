use Rattle.cd_conf.proofs.LineRuns.{not_whole}
use Rattle.cd_conf.proofs.TextFaults.{no_source_line, of_given, of_text}
use Rattle.cd_conf.proofs.source.read.Goals as goal
use Rattle.cd_conf.specs.Statements.{statements_of_text}
use Rattle.cd_conf.specs.Tree.{statements_of_items}
use Rattle.cd_io.specs.declared.source.ReadAllFault.{ReadAllFault}
use Rattle.std.proofs.Common.{Err, ap}

pub returns-in-Ok-clause-faults : goal.returns-in-Ok-clause-faults
returns-in-Ok-clause-faults g c =
    let no = of_given statements_of_items c.read_text.result (statements_of_text c.as_slice.result.now) (of_text c.as_slice.result.now) c.read_text.ensures in
    rw no c.in-Ok.ensures.faults

pub returns-in-Ok-clause-line : goal.returns-in-Ok-clause-line
returns-in-Ok-clause-line g c =
    no_source_line c.read_text.result
    (of_given statements_of_items c.read_text.result (statements_of_text c.as_slice.result.now) (of_text c.as_slice.result.now) c.read_text.ensures)

pub returns-in-Err-clause-value : goal.returns-in-Err-clause-value
returns-in-Err-clause-value g c =
    rw c.source_fault.ensures
    (not_whole statements_of_items (g.S.Source.source_tells c.args.source.now).left c.in-Err.fault (λ e. c.in-Err.ensures.too_long (ap (λ (f : ReadAllFault). Err f) e)))
