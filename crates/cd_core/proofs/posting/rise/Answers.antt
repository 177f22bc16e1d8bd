use Rattle.cd_core.proofs.Room.{none_yet, rises_more}
use Rattle.cd_core.proofs.posting.rise.Goals as goal
use Rattle.cd_core.specs.Posting.{AreToEachOnce}
use Rattle.cd_daemon.specs.Performing.{Post}
use Rattle.std.proofs.Common.{List, get_or, subst, sym, ◌∙◌, ◌≡◌}
use Rattle.std.proofs.lemmas.List.{take_all}

pub loop-post-init : goal.loop-post-init
loop-post-init c = none_yet

pub loop-post-preserved : goal.loop-post-preserved
loop-post-preserved c =
    let p : Post = record { reg = c.post.inside.reg; call = c.post.inside.call } in
    let G : Post → Type 0 = λ q. q ≡ get_or c.args.posts.now c.loop-post.post-index q in
    rises_more c.args.posts.now c.loop-post.post-index p c.loop-post.last c.loop-post-test.true (subst G (sym c.post.view_is) c.post-item.is) c.loop-post.invariant
    (sym c.is_above.ensures ∙ c.if-not-is_above.false)

pub returns : goal.returns
returns c = λ is.
    let A : List Post → Type 0 = AreToEachOnce in
    subst A (take_all c.loop-post.post-index c.args.posts.now c.loop-post-test.false) c.loop-post.invariant.once
