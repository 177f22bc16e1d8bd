use Rattle.cd_serve.proofs.OneByOne.{all_loaded, is_to_register, load_within, loads_none, loads_on}
use Rattle.cd_serve.proofs.Registering.{nothing_loaded}
use Rattle.cd_serve.proofs.loading.load_all.Goals as goal
use Rattle.std.proofs.Common.{get_or, length, refl, rules, ◌<◌}

pub loop-count-init : goal.loop-count-init
loop-count-init g c = λ K shelf loaded can. nothing_loaded K shelf _ _ can.stands can.places

pub bounds-places-index : goal.bounds-places-index
bounds-places-index g c =
    let e = c.requires in
    load_within g.P.TellsCalls.plug_tells c.loop-count.places c.args.order.now c.loop-count.count c.loop-count-test.true e.can (c.loop-count.invariant e.opening e.shelf e.loaded e.can)

pub offset_bounds-places-index : goal.offset_bounds-places-index
offset_bounds-places-index g c =
    let e = c.requires in
    let below : get_or c.args.order.now c.loop-count.count 0 < length c.loop-count.places =
    load_within g.P.TellsCalls.plug_tells c.loop-count.places c.args.order.now c.loop-count.count c.loop-count-test.true e.can (c.loop-count.invariant e.opening e.shelf e.loaded e.can) in
    search rules

pub load-requires : goal.load-requires
load-requires g c =
    let e = c.requires in
    is_to_register g.P.TellsCalls.plug_tells c.loop-count.places c.args.order.now c.loop-count.count c.loop-count-test.true e.can (c.loop-count.invariant e.opening e.shelf e.loaded e.can)
    c.index-places-index.result

pub returns-in-Err-clause-loads : goal.returns-in-Err-clause-loads
returns-in-Err-clause-loads g c = λ K shelf loaded can.
    loads_none g.P.TellsCalls.plug_tells c.loop-count.places c.args.order.now c.loop-count.count c.loop-count-test.true can (c.loop-count.invariant K shelf loaded can)
    c.index-places-index.result c.load.new.place _ c.in-Err.ensures.core c.in-Err.ensures.back

pub loop-count-preserved : goal.loop-count-preserved
loop-count-preserved g c = λ K shelf loaded can.
    loads_on g.P.TellsCalls.plug_tells c.loop-count.places c.args.order.now c.loop-count.count c.loop-count-test.true can (c.loop-count.invariant K shelf loaded can)
    c.index-places-index.result c.load.new.place _ c.in-Ok.ensures.ok

pub returns-clause-loads : goal.returns-clause-loads
returns-clause-loads g c = λ K shelf loaded can. all_loaded can c.loop-count.count _ (c.loop-count.invariant K shelf loaded can) c.loop-count-test.false refl
