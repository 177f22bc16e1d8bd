-- The text of a source.
use Rattle.cd_io.specs.declared.source.ReadAllFault.{ReadAllFault}
use Rattle.cd_types.proofs.TextFaults.{not_whole, of_given, of_text}
use Rattle.cd_types.proofs.types_db.TypesDb.read.Goals as goal
use Rattle.cd_types.specs.Text.{sets_of_text}
use Rattle.cd_value.specs.declared.data.DataSet.{DataSet}
use Rattle.std.proofs.Common.{Err, List, ap}

pub returns-in-Ok-clause-faults : goal.returns-in-Ok-clause-faults
returns-in-Ok-clause-faults g c =
    let no = of_given (λ (db : List DataSet). db) c.read_text.result (sets_of_text c.as_slice.result.now) (of_text c.as_slice.result.now) c.read_text.ensures.value in
    rw no c.in-Ok.ensures.faults

pub returns-in-Err-clause-value : goal.returns-in-Err-clause-value
returns-in-Err-clause-value g c =
    rw c.source_fault.ensures
    (not_whole (λ (db : List DataSet). db) (g.S.Source.source_tells c.args.source.now).left c.in-Err.fault (λ e. c.in-Err.ensures.too_long (ap (λ (f : ReadAllFault). Err f) e)))
