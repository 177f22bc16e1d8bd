-- The line of a fault that is at no line.
use Rattle.cd_types.proofs.TextFaults.{line_of_given, of_text}
use Rattle.cd_types.proofs.types_db.TypesDb.read_text.Goals as goal
use Rattle.cd_types.specs.Text.{sets_of_text}
use Rattle.cd_value.specs.declared.data.DataSet.{DataSet}
use Rattle.std.proofs.Common.{List}

pub returns-clause-line : goal.returns-clause-line
returns-clause-line c =
    line_of_given (λ (db : List DataSet). db) c.read_short.result (sets_of_text c.args.bytes.now) (of_text c.args.bytes.now) c.read_short.ensures
