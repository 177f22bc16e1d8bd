use Rattle.cd_core.proofs.Room.{last_room, next_bare, next_room, next_rows}
use Rattle.cd_core.proofs.posting.post_all.Goals as goal
use Rattle.cd_core.specs.Posting.{HasRoom}
use Rattle.cd_daemon.specs.Performing.{Post}
use Rattle.std.proofs.Common.{List, ap, subst, sym, ◌++◌, ◌∙◌, ◌∷◌, ◌≡◌}
use Rattle.std.proofs.lemmas.List.{nil_from_length}

pub loop-one-preserved : goal.loop-one-preserved
loop-one-preserved g c =
    let plug = g.P.TellsCalls.plug_tells in
    let probe = g.Q.TellsReadings.probe_tells in
    let items : List Post = c.loop-one.one-iterator.rest.items in
    let rest : List Post = c.next.new.self.rest.items in
    let p : Post = record { reg = c.one.inside.reg; call = c.one.inside.call } in
    let front : items ≡ p ∷ rest = c.in-Some.ensures.steps.0 ∙ ap (λ (q : Post). q ∷ rest) (sym c.one.view_is) in
    record {
      room = next_bare plug probe p items rest c.loop-one.registry c.post.new.registry front c.loop-one.invariant.room c.post.ensures.rows c.post.ensures.spare;
      rows = next_rows plug probe p items rest c.loop-one.registry c.post.new.registry front c.post.ensures.rows ∙ c.loop-one.invariant.rows;
      more = λ more has. next_room plug probe p items rest more c.loop-one.registry c.post.new.registry front (c.loop-one.invariant.more more has) c.post.ensures.rows c.post.ensures.spare;
    }

pub returns-clause-rest : goal.returns-clause-rest
returns-clause-rest g c = λ more has.
    let start : c.into_iter-one-iterator.result.rest.items ≡ c.args.posts.items = c.into_iter-one-iterator.ensures.into_iter_gives.0 in
    let H : List Post → Type 0 = λ xs. HasRoom g.P.TellsCalls.plug_tells g.Q.TellsReadings.probe_tells (xs ++ more) c.args.registry.now in
    last_room g.P.TellsCalls.plug_tells g.Q.TellsReadings.probe_tells c.loop-one.one-iterator.rest.items more c.loop-one.registry
    (nil_from_length c.loop-one.one-iterator.rest.items (sym c.loop-one.one-iterator.rest.ok.0 ∙ c.in-None.ensures.steps.0))
    (c.loop-one.invariant.more more (subst H (sym start) has))
