-- A text has at most one line more than bytes.
use Rattle.cd_types.proofs.TextRuns.{few_lines}
use Rattle.cd_types.proofs.text.read_short.Goals as goal
use Rattle.cd_types.specs.declared.limits.TheConstants.{FILE_LIMIT}
use Rattle.std.proofs.Common.{rules}

pub read_lines-requires : goal.read_lines-requires
read_lines-requires c =
    few_lines c.args.bytes.now c.deref.result.now FILE_LIMIT c.if-bytes-gt-FILE_LIMIT.false
    (search rules)
