use Rattle.cd_net.proofs.Decoding.{decoded_once, reads_all, reads_more, reads_none}
use Rattle.cd_net.proofs.Fields.{set_is_in_force}
use Rattle.cd_net.proofs.Fitting.{each_item_fits, each_item_is_sound}
use Rattle.cd_net.proofs.decode.items.Goals as goal
use Rattle.cd_net.specs.Carried.{shown, with_field}
use Rattle.cd_net.specs.Items.{is_sound, item_fits, outcome}
use Rattle.cd_net.specs.Packet.{payload}
use Rattle.cd_net.specs.declared.packet.Part.{Part}
use Rattle.cd_value.specs.declared.data.DataSet.{DataSet}
use Rattle.std.proofs.Common.{List, Option, ap, arith, length, ℕ, ◌+◌, ◌∙◌, ◌≡◌, ◌≤◌}
use Rattle.std.specs.List.{list_all}
use Rattle.std.specs.Option.{option_copied}

pub loop-part-init : goal.loop-part-init
loop-part-init c = record {
  within = omega arith;
  set_is = c.set_in-set.ensures;
  reads = reads_none _ _ _ _ _ _ (c.new-fields.ensures c.args.bytes.now) c.new-items.ensures c.new-refused.ensures;
}

pub loop-part-preserved : goal.loop-part-preserved
loop-part-preserved c =
    let part = c.in-Ok.part in
    let bytes = c.args.bytes.now in
    let fields = shown c.loop-part.fields in
    let at : part.place ≡ c.loop-part.place = ap (λ (p : Part). p.place) c.in-Ok.ensures.part in
    let inside : part.place + part.length ≤ length bytes = c.in-Ok.ensures.whole.within in
    let payload_is : c.payload_of-payload.result.now ≡ payload bytes part = c.payload_of-payload.ensures.value in
    record {
      within = omega arith;
      set_is =
          set_is_in_force c.args.types.now part.kind (payload bytes part) fields (shown c.take.new.self) _ _ c.loop-part.invariant.set_is
          (c.take.ensures ∙ ap (λ (p : List ℕ). with_field part.kind p fields) payload_is) c.set_behind-set.ensures;
      reads =
          reads_more c.args.types.now c.args.interval bytes c.loop-part.place fields (shown c.take.new.self)
          c.loop-part.items c.keep.new.items c.loop-part.refused c.keep.new.refused part c.in_ok-gave.gave
          c.loop-part.invariant.reads c.in-Ok.ensures.goes_on c.in-Ok.ensures.part
          (c.in_ok-gave.ensures ∙ ap (λ (p : List ℕ). outcome (option_copied c.loop-part.set) c.args.interval fields part.kind p) payload_is
          ∙ ap (λ (s : Option DataSet). outcome s c.args.interval fields part.kind (payload bytes part)) c.loop-part.invariant.set_is)
          (c.take.ensures ∙ ap (λ (p : List ℕ). with_field part.kind p fields) payload_is)
          c.in_ok-keep.ensures.items c.in_ok-keep.ensures.refused;
    }

pub returns-in-Err-clause-decoded : goal.returns-in-Err-clause-decoded
returns-in-Err-clause-decoded c = reads_all _ _ _ _ _ _ _ _ c.loop-part.invariant.reads c.in-Err.ensures.end

pub returns-in-Err-clause-only : goal.returns-in-Err-clause-only
returns-in-Err-clause-only c = λ other decoded.
    decoded_once _ _ _ _ _ decoded (reads_all _ _ _ _ _ _ _ _ c.loop-part.invariant.reads c.in-Err.ensures.end)

pub returns-in-Err-clause-fits : goal.returns-in-Err-clause-fits
returns-in-Err-clause-fits c =
    let reads = c.loop-part.invariant.reads in
    ap (list_all (item_fits c.args.types.now)) reads.items_are ∙ each_item_fits c.args.types.now c.args.interval c.args.bytes.now reads.before

pub returns-in-Err-clause-sound : goal.returns-in-Err-clause-sound
returns-in-Err-clause-sound c =
    let reads = c.loop-part.invariant.reads in
    ap (list_all is_sound) reads.items_are ∙ each_item_is_sound c.args.types.now c.args.interval c.args.bytes.now reads.before
