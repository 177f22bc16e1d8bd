-- The map keeps each set under its name.
use Rattle.cd_types.proofs.Named.{named_with, values_with}
use Rattle.cd_types.proofs.types_db.TypesDb.put.Goals as goal
use Rattle.cd_types.specs.Sets.{with_set}
use Rattle.std.proofs.Common.{ap, rules, ◌∙◌, ◌≡◌}
use Rattle.std.specs.Prelude.{string_bytes}

pub invariant_of-self-2 : goal.invariant_of-self-2
invariant_of-self-2 c =
    let name : string_bytes c.in_ok-name.name ≡ c.args.set.name = search rules in
    rw c.in_ok-insert.ensures.entries (named_with c.in_ok-name.name c.args.set c.self.inside.sets.entries name c.self.invariant)

pub returns-clause-ok : goal.returns-clause-ok
returns-clause-ok c =
    let name : string_bytes c.in_ok-name.name ≡ c.args.set.name = search rules in
    rw c.in_ok-insert.ensures.entries
    (values_with c.in_ok-name.name c.args.set c.self.inside.sets.entries name c.self.invariant ∙ ap (with_set c.args.set) c.self.view_is)
