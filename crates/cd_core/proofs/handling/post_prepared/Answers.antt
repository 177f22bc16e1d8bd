use Rattle.cd_core.proofs.Room.{posted_append}
use Rattle.cd_core.proofs.handling.post_prepared.Goals as goal
use Rattle.cd_core.specs.Posting.{HasRoom, posted_live, write_if_any}
use Rattle.cd_core.specs.Prepared.{prepared_posts}
use Rattle.cd_daemon.specs.Performing.{Post}
use Rattle.cd_registry.specs.Registry.{rows}
use Rattle.cd_value.specs.declared.data.ValueList.{ValueList}
use Rattle.std.proofs.Common.{List, ap, subst, sym, ◌++◌, ◌∙◌, ◌≡◌}

pub write-requires : goal.write-requires
write-requires g c =
    let posts : List Post = c.into_posts-in-Passed.result.items in
    let more : List Post = write_if_any c.unwrap_or.result c.in-Passed.last in
    let all : posts ++ more ≡ prepared_posts c.args.list c.args.prepared =
    ap (λ (xs : List Post). xs ++ more) c.into_posts-in-Passed.ensures
    ∙ ap (λ (list : ValueList). c.in-Passed.effects.posts ++ write_if_any list c.in-Passed.last) c.unwrap_or.ensures
    ∙ ap (prepared_posts c.args.list) (sym c.in-Passed.is) in
    let H : List Post → Type 0 = λ xs. HasRoom g.P.TellsCalls.plug_tells g.Q.TellsReadings.probe_tells xs c.args.registry.now in
    c.post_all-in-Passed.ensures.rest more (subst H (sym all) c.requires)

pub returns-in-Passed-clause-rows : goal.returns-in-Passed-clause-rows
returns-in-Passed-clause-rows g c =
    let posts : List Post = c.into_posts-in-Passed.result.items in
    let more : List Post = write_if_any c.unwrap_or.result c.in-Passed.last in
    let before = rows g.P.TellsCalls.plug_tells g.Q.TellsReadings.probe_tells c.args.registry.now in
    let all : posts ++ more ≡ prepared_posts c.args.list c.args.prepared =
    ap (λ (xs : List Post). xs ++ more) c.into_posts-in-Passed.ensures
    ∙ ap (λ (list : ValueList). c.in-Passed.effects.posts ++ write_if_any list c.in-Passed.last) c.unwrap_or.ensures
    ∙ ap (prepared_posts c.args.list) (sym c.in-Passed.is) in
    c.write.ensures ∙ ap (posted_live more) c.post_all-in-Passed.ensures.rows ∙ sym (posted_append posts more before) ∙ ap (λ (xs : List Post). posted_live xs before) all
