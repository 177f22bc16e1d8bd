-- A name is ASCII.
use Rattle.cd_types.proofs.Entries.{name_is_utf8}
use Rattle.cd_types.proofs.entry.name_text.Goals as goal

pub unreachable-requires : goal.unreachable-requires
unreachable-requires c = c.in-Err.ensures.cases.0 (name_is_utf8 c.args.name.now c.args.most c.requires)
