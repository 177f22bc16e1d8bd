-- The sets are put in the order in which they stand.
use Rattle.cd_types.proofs.Ascending.{put_again}
use Rattle.cd_types.proofs.types_db.TypesDbTryCopy.copy.Goals as goal
use Rattle.cd_types.specs.Sets.{with_sets}
use Rattle.std.proofs.Common.{[], rules, ◌∙◌, ◌≡◌}
use Rattle.std.specs.Map.{values_of}

pub returns : goal.returns
returns c =
    let again : with_sets (values_of c.self.inside.sets.entries) [] ≡ values_of c.self.inside.sets.entries
    = put_again c.self.inside.sets.entries c.self.invariant c.len.ensures.ordered in
    let same : with_sets c.args.self.now [] ≡ c.args.self.now = rw (← c.self.view_is) again in
    let put : c.put_all.new.self ≡ with_sets c.args.self.now [] = search rules in
    put ∙ same
