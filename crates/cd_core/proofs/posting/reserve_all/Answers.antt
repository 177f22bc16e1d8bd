use Rattle.cd_core.proofs.Room.{reserved_more, room_for_all}
use Rattle.cd_core.proofs.posting.reserve_all.Goals as goal
use Rattle.cd_core.specs.Posting.{IsAmong}
use Rattle.cd_daemon.specs.Performing.{Post}
use Rattle.std.proofs.Common.{List, get_or, subst, sym, ◌∙◌, ◌≡◌}
use Rattle.std.proofs.lemmas.List.{take_all}

pub loop-at-preserved : goal.loop-at-preserved
loop-at-preserved g c =
    let p : Post = record { reg = c.post.inside.reg; call = c.post.inside.call } in
    let G : Post → Type 0 = λ q. q ≡ get_or c.args.posts.now c.loop-at.at q in
    record {
      room = reserved_more g.P.TellsCalls.plug_tells g.Q.TellsReadings.probe_tells c.args.posts.now c.loop-at.at p c.loop-at.registry c.reserve_at.new.registry
          c.loop-at-test.true (subst G (sym c.post.view_is) c.index-posts-at.is)
          c.in_ok-reserve_at.ensures.rows c.in_ok-reserve_at.ensures.spare c.in_ok-reserve_at.ensures.ok c.loop-at.invariant.room;
      rows = c.in_ok-reserve_at.ensures.rows ∙ c.loop-at.invariant.rows;
    }

pub returns-clause-room : goal.returns-clause-room
returns-clause-room g c =
    room_for_all g.P.TellsCalls.plug_tells g.Q.TellsReadings.probe_tells c.args.posts.now c.loop-at.registry
    (λ r among live.
    let I : List Post → Type 0 = λ xs. IsAmong xs r in
    c.loop-at.invariant.room r (subst I (sym (take_all c.loop-at.at c.args.posts.now c.loop-at-test.false)) among) live)
