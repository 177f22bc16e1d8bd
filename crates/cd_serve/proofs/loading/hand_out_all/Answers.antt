use borrow.Author.Rules.{scaled_Fits}
use Rattle.cd_serve.proofs.HandingOut.{nobody_is_back}
use Rattle.cd_serve.proofs.OneByOne.{all_back, hand_out_within, hands_on, is_next}
use Rattle.cd_serve.proofs.loading.hand_out_all.Goals as goal
use Rattle.std.proofs.Common.{arith, get_or, length, ◌<◌}

pub loop-index-init : goal.loop-index-init
loop-index-init g c = λ K H shelf loaded can. nobody_is_back can

pub bounds-places-index : goal.bounds-places-index
bounds-places-index g c =
    let e = c.requires in
    hand_out_within g.P.TellsCalls.plug_tells c.loop-index.places c.args.order.now c.loop-index.index-index c.loop-index-test.true e.can (c.loop-index.invariant e.opening e.past e.shelf e.loaded e.can)

pub offset_bounds-places-index : goal.offset_bounds-places-index
offset_bounds-places-index g c =
    let e = c.requires in
    let below : get_or c.args.order.now c.loop-index.index-index 0 < length c.loop-index.places =
    hand_out_within g.P.TellsCalls.plug_tells c.loop-index.places c.args.order.now c.loop-index.index-index c.loop-index-test.true e.can (c.loop-index.invariant e.opening e.past e.shelf e.loaded e.can) in
    let within : get_or c.args.order.now c.loop-index.index-index 0 < length c.args.places.now =
    omega (arith, below, c.loop-index.auto.places) in
    search (scaled_Fits, within)

pub hand_out-requires : goal.hand_out-requires
hand_out-requires g c =
    let e = c.requires in
    is_next g.P.TellsCalls.plug_tells c.loop-index.places c.args.order.now c.loop-index.index-index c.loop-index-test.true e.can (c.loop-index.invariant e.opening e.past e.shelf e.loaded e.can)
    c.index-places-index.result

pub loop-index-preserved : goal.loop-index-preserved
loop-index-preserved g c = λ K H shelf loaded can.
    hands_on g.P.TellsCalls.plug_tells c.loop-index.places c.args.order.now c.loop-index.index-index c.loop-index-test.true can (c.loop-index.invariant K H shelf loaded can)
    c.index-places-index.result c.hand_out.new.place _ c.hand_out.ensures

pub returns : goal.returns
returns g c = λ K H shelf loaded can. all_back can c.loop-index.index-index (c.loop-index.invariant K H shelf loaded can) c.loop-index-test.false
