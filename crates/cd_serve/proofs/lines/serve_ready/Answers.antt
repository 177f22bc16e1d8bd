use Rattle.cd_core.specs.Seen.{seen}
use Rattle.cd_serve.proofs.Readied.{all_full, back_in_places, can_load, loaded_into, ready_promised, room_for, same_count, same_places, some_handed_out}
use Rattle.cd_serve.proofs.lines.serve_ready.Goals as goal
use Rattle.cd_serve.specs.Working.Ended.{around_seen}
use Rattle.cd_serve.specs.Working.Loading.{place_seen, standing, with_blocks}
use Rattle.cd_serve.specs.Working.Progress.{Seen}
use Rattle.std.proofs.Common.{ap, arith, length, map, nat_eq, refl, sym, take, ◌∙◌, ◌≡◌}
use Rattle.std.proofs.lemmas.List.{with_items_is}
use Rattle.std.specs.Vec.{with_items}

pub load_all-count-requires : goal.load_all-count-requires
load_all-count-requires g c =
    let tells = g.P.TellsCalls.plug_tells in
    record {
      opening = c.requires.0;
      shelf = c.requires.1;
      loaded = with_blocks c.args.blocks.now c.requires.2;
      can = can_load tells c.args.blocks.now c.requires.3 _ _ c.as_slice.ensures.value (ap (map (place_seen tells)) c.as_mut_slice.ensures.value);
    }

pub hand_out_all-requires : goal.hand_out_all-requires
hand_out_all-requires g c =
    let r = c.requires.3 in
    let tells = g.P.TellsCalls.plug_tells in
    let reads = g.Q.TellsReadings.probe_tells in
    let view = around_seen g.C.Clock.clock_pair g.D.Dice.dice_pair tells reads in
    let blocks = c.args.blocks.now in
    let first : Seen = record {
      pairs = record { clock = g.C.Clock.clock_pair c.args.daemon.outside.clock; dice = g.D.Dice.dice_pair c.args.daemon.outside.dice };
      core = seen tells reads c.load_all-count.new.core;
      given = c.new.result;
    } in
    let loaded_len = c.load_all-count.auto.places ∙ ap length c.as_mut_slice.ensures.value ∙ sym c.args.ready.places.ok.0 in
    let same : c.as_mut_slice-2.result.now ≡ c.load_all-count.new.places =
    c.as_mut_slice-2.ensures.value ∙ with_items_is c.args.ready.places c.load_all-count.new.places loaded_len in
    let h = loaded_into tells blocks r c.as_slice.result.now c.as_slice.ensures.value c.as_mut_slice.result.now c.as_mut_slice.ensures.value
    c.load_all-count.result _ c.load_all-count.new.places c.load_all-count.ensures.loads c.as_mut_slice-2.result.now same in
    some_handed_out tells blocks r c.load_all-count.result _ _ h first (view c.serve_input-end.new.daemon) c.new.ensures refl
    (g.L.Link.link_tells c.args.input.now) (g.L.Link.link_tells c.serve_input-end.new.input) c.serve_input-end.result (c.serve_input-end.ensures.ends _ _ _)
    _ (ap (take c.load_all-count.result) c.as_slice-2.ensures.value)

pub shelved-requires-clause-room : goal.shelved-requires-clause-room
shelved-requires-clause-room g c =
    let r = c.requires.3 in
    let tells = g.P.TellsCalls.plug_tells in
    let reads = g.Q.TellsReadings.probe_tells in
    let view = around_seen g.C.Clock.clock_pair g.D.Dice.dice_pair tells reads in
    let blocks = c.args.blocks.now in
    let first : Seen = record {
      pairs = record { clock = g.C.Clock.clock_pair c.args.daemon.outside.clock; dice = g.D.Dice.dice_pair c.args.daemon.outside.dice };
      core = seen tells reads c.load_all-count.new.core;
      given = c.new.result;
    } in
    let loaded_len = c.load_all-count.auto.places ∙ ap length c.as_mut_slice.ensures.value ∙ sym c.args.ready.places.ok.0 in
    let same : c.as_mut_slice-2.result.now ≡ c.load_all-count.new.places =
    c.as_mut_slice-2.ensures.value ∙ with_items_is c.args.ready.places c.load_all-count.new.places loaded_len in
    let h = loaded_into tells blocks r c.as_slice.result.now c.as_slice.ensures.value c.as_mut_slice.result.now c.as_mut_slice.ensures.value
    c.load_all-count.result _ c.load_all-count.new.places c.load_all-count.ensures.loads c.as_mut_slice-2.result.now same in
    let back_len = c.hand_out_all.auto.places ∙ ap length same ∙ loaded_len in
    let back = with_items_is (with_items c.args.ready.places c.load_all-count.new.places) c.hand_out_all.new.places back_len in
    let many = ap length back ∙ back_len in
    let shelf_len = room_for tells c.requires.1 c.args.ready.places.items standing r.is_ready.places in
    let len = c.args.ready.places.ok.0 in
    let room = r.is_ready.room in
    omega (arith, many, shelf_len, len, room)

pub shelved-requires-clause-full : goal.shelved-requires-clause-full
shelved-requires-clause-full g c =
    let r = c.requires.3 in
    let tells = g.P.TellsCalls.plug_tells in
    let reads = g.Q.TellsReadings.probe_tells in
    let view = around_seen g.C.Clock.clock_pair g.D.Dice.dice_pair tells reads in
    let blocks = c.args.blocks.now in
    let first : Seen = record {
      pairs = record { clock = g.C.Clock.clock_pair c.args.daemon.outside.clock; dice = g.D.Dice.dice_pair c.args.daemon.outside.dice };
      core = seen tells reads c.load_all-count.new.core;
      given = c.new.result;
    } in
    let loaded_len = c.load_all-count.auto.places ∙ ap length c.as_mut_slice.ensures.value ∙ sym c.args.ready.places.ok.0 in
    let same : c.as_mut_slice-2.result.now ≡ c.load_all-count.new.places =
    c.as_mut_slice-2.ensures.value ∙ with_items_is c.args.ready.places c.load_all-count.new.places loaded_len in
    let h = loaded_into tells blocks r c.as_slice.result.now c.as_slice.ensures.value c.as_mut_slice.result.now c.as_mut_slice.ensures.value
    c.load_all-count.result _ c.load_all-count.new.places c.load_all-count.ensures.loads c.as_mut_slice-2.result.now same in
    let back_len = c.hand_out_all.auto.places ∙ ap length same ∙ loaded_len in
    let back = with_items_is (with_items c.args.ready.places c.load_all-count.new.places) c.hand_out_all.new.places back_len in
    let there = back_in_places tells blocks r c.load_all-count.result _ _ h first (view c.serve_input-end.new.daemon) c.new.ensures refl
    (g.L.Link.link_tells c.args.input.now) (g.L.Link.link_tells c.serve_input-end.new.input) c.serve_input-end.result (c.serve_input-end.ensures.ends _ _ _)
    _ (ap (take c.load_all-count.result) c.as_slice-2.ensures.value) (map (place_seen tells) c.hand_out_all.new.places) c.hand_out_all.ensures in
    all_full there.0 c.requires.1 _ (ap (map (place_seen tells)) back ∙ there.1)

pub returns-clause-serves : goal.returns-clause-serves
returns-clause-serves g c = λ K loads shelf plugs is none r.
    let tells = g.P.TellsCalls.plug_tells in
    let reads = g.Q.TellsReadings.probe_tells in
    let view = around_seen g.C.Clock.clock_pair g.D.Dice.dice_pair tells reads in
    let blocks = c.args.blocks.now in
    let first : Seen = record {
      pairs = record { clock = g.C.Clock.clock_pair c.args.daemon.outside.clock; dice = g.D.Dice.dice_pair c.args.daemon.outside.dice };
      core = seen tells reads c.load_all-count.new.core;
      given = c.new.result;
    } in
    let loaded_len = c.load_all-count.auto.places ∙ ap length c.as_mut_slice.ensures.value ∙ sym c.args.ready.places.ok.0 in
    let same : c.as_mut_slice-2.result.now ≡ c.load_all-count.new.places =
    c.as_mut_slice-2.ensures.value ∙ with_items_is c.args.ready.places c.load_all-count.new.places loaded_len in
    let h = loaded_into tells blocks r c.as_slice.result.now c.as_slice.ensures.value c.as_mut_slice.result.now c.as_mut_slice.ensures.value
    c.load_all-count.result _ c.load_all-count.new.places c.load_all-count.ensures.loads c.as_mut_slice-2.result.now same in
    let back_len = c.hand_out_all.auto.places ∙ ap length same ∙ loaded_len in
    let back = with_items_is (with_items c.args.ready.places c.load_all-count.new.places) c.hand_out_all.new.places back_len in
    ready_promised tells blocks r c.load_all-count.result _ _ h first (view c.serve_input-end.new.daemon) c.new.ensures refl
    (g.L.Link.link_tells c.args.input.now) (g.L.Link.link_tells c.serve_input-end.new.input) c.serve_input-end.result (c.serve_input-end.ensures.ends _ _ _)
    _ (ap (take c.load_all-count.result) c.as_slice-2.ensures.value) (map (place_seen tells) c.hand_out_all.new.places) c.hand_out_all.ensures
    loads is _ (c.shelved.ensures ∙ ap (map (place_seen tells)) back) (nat_eq c.load_all-count.result c.len.result)
    (λ e. let count = same_count c.load_all-count.result c.len.result e in let len = c.len.ensures in omega (arith, count, len))
    c.serve_input-end.ensures.memory (λ e. ap g.L.Link.link_tells (c.serve_input-end.ensures.unheard e))

pub returns-clause-back : goal.returns-clause-back
returns-clause-back g c = λ K shelf plugs r.
    let tells = g.P.TellsCalls.plug_tells in
    let reads = g.Q.TellsReadings.probe_tells in
    let view = around_seen g.C.Clock.clock_pair g.D.Dice.dice_pair tells reads in
    let blocks = c.args.blocks.now in
    let first : Seen = record {
      pairs = record { clock = g.C.Clock.clock_pair c.args.daemon.outside.clock; dice = g.D.Dice.dice_pair c.args.daemon.outside.dice };
      core = seen tells reads c.load_all-count.new.core;
      given = c.new.result;
    } in
    let loaded_len = c.load_all-count.auto.places ∙ ap length c.as_mut_slice.ensures.value ∙ sym c.args.ready.places.ok.0 in
    let same : c.as_mut_slice-2.result.now ≡ c.load_all-count.new.places =
    c.as_mut_slice-2.ensures.value ∙ with_items_is c.args.ready.places c.load_all-count.new.places loaded_len in
    let h = loaded_into tells blocks r c.as_slice.result.now c.as_slice.ensures.value c.as_mut_slice.result.now c.as_mut_slice.ensures.value
    c.load_all-count.result _ c.load_all-count.new.places c.load_all-count.ensures.loads c.as_mut_slice-2.result.now same in
    let back_len = c.hand_out_all.auto.places ∙ ap length same ∙ loaded_len in
    let back = with_items_is (with_items c.args.ready.places c.load_all-count.new.places) c.hand_out_all.new.places back_len in
    same_places tells blocks r c.load_all-count.result _ _ h first (view c.serve_input-end.new.daemon) c.new.ensures refl
    (g.L.Link.link_tells c.args.input.now) (g.L.Link.link_tells c.serve_input-end.new.input) c.serve_input-end.result (c.serve_input-end.ensures.ends _ _ _)
    _ (ap (take c.load_all-count.result) c.as_slice-2.ensures.value) (map (place_seen tells) c.hand_out_all.new.places) c.hand_out_all.ensures
    _ (c.shelved.ensures ∙ ap (map (place_seen tells)) back)
