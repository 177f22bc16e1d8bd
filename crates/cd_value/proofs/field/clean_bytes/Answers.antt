use Rattle.cd_value.proofs.field.clean_bytes.Goals as goal
use Rattle.cd_value.specs.Clean.{clean_byte}
use Rattle.std.proofs.Common.{arith, get_or, length, ◌<◌, ◌≡◌}
use Rattle.std.proofs.lemmas.List.Edits.{map_over_more}
use Rattle.std.proofs.lemmas.List.{get_or_default}

pub loop-byte-preserved : goal.loop-byte-preserved
loop-byte-preserved c =
    let at = get_or c.loop-byte.byte-items c.loop-byte.byte-index 0 in
    let inside : c.loop-byte.byte-index < length c.loop-byte.byte-items = omega arith in
    let same : at ≡ get_or c.loop-byte.byte-items c.loop-byte.byte-index at = get_or_default c.loop-byte.byte-items c.loop-byte.byte-index 0 at inside in
    rw c.clean_byte.ensures
    (map_over_more (clean_byte c.args.slash) c.deref_mut-byte-items.result.now c.loop-byte.byte-items c.loop-byte.byte-index at c.loop-byte-test.true c.loop-byte.invariant same)
