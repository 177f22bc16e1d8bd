use Rattle.cd_chain.proofs.Cycles.{of_fault}
use Rattle.cd_chain.proofs.table.ChainTable.build.Goals as goal
use Rattle.cd_chain.specs.Tables.{fault_of}
use Rattle.std.proofs.Common.{ap, sym, ◌∙◌}

pub returns-in-Ok-Some-clause-least : goal.returns-in-Ok-Some-clause-least
returns-in-Ok-Some-clause-least c =
    of_fault c.args.chains c.in-Ok-Some.why (ap fault_of (sym c.as_slice.ensures) ∙ sym c.in-Ok-Some.ensures ∙ c.in-Ok-Some.field-0-is)
