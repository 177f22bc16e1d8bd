use Rattle.cd_serve.proofs.Orders.{named_next, unnamed_next}
use Rattle.cd_serve.proofs.places.push_named.Goals as goal
use Rattle.cd_serve.proofs.places.push_named.Goals.{else-eq, then-eq+in_ok-push}
use Rattle.cd_serve.specs.Shelf.{on_shelf}
use Rattle.std.proofs.Common.{ap, map, refl, slice_get, sym, ◌∙◌}

pub loop-index-preserved : goal.loop-index-preserved
loop-index-preserved g c =
    let tells = g.P.TellsCalls.plug_tells in
    let shelf = on_shelf tells c.args.shelf.now in
    elim c.if-eq.branch [
      | then-eq+in_ok-push w ↦
          ap (λ order. map (slice_get shelf) order.items) w.order-is
          ∙ named_next tells c.args.shelf.now c.args.name.now (map (slice_get shelf) c.args.order.now.items) (map (slice_get shelf) c.loop-index.order.items) c.loop-index.index
          c.index-shelf-index.result c.loop-index-test.true c.index-shelf-index.is c.loop-index.invariant c.loop-index.order.items w.push.new.self.items refl
          w.in_ok-push.ensures.items (sym c.eq.ensures ∙ w.if-eq.true)
      | else-eq w ↦
          ap (λ order. map (slice_get shelf) order.items) w.order-is
          ∙ unnamed_next tells c.args.shelf.now c.args.name.now (map (slice_get shelf) c.args.order.now.items) (map (slice_get shelf) c.loop-index.order.items) c.loop-index.index
          c.index-shelf-index.result c.loop-index-test.true c.index-shelf-index.is c.loop-index.invariant c.loop-index.order.items refl (sym c.eq.ensures ∙ w.if-eq.false)
    ]
