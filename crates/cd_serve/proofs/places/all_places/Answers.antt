use Rattle.cd_serve.proofs.Orders.{place_next}
use Rattle.cd_serve.proofs.places.all_places.Goals as goal

pub loop-index-preserved : goal.loop-index-preserved
loop-index-preserved g c =
    place_next g.P.TellsCalls.plug_tells c.args.shelf.now c.loop-index.order.items c.push.new.self.items c.loop-index.index c.loop-index-test.true
    c.in_ok-push.ensures.items c.loop-index.invariant
