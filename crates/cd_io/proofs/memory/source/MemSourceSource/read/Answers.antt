use Rattle.cd_io.proofs.Taken.{taken_rest}
use Rattle.cd_io.proofs.memory.source.MemSourceSource.read.Goals as goal
use Rattle.std.proofs.Common.{Some, ap, arith, drop, length, length-append, length-drop, refl, ◌≡◌, ◌≤◌}
use Rattle.std.proofs.lemmas.Grind.{common_steps}
use Rattle.std.proofs.lemmas.List.{nil_from_length}

pub returns-clause-reads : goal.returns-clause-reads
returns-clause-reads c =
    let count = c.min-count.result in
    let front = c.copy_from_slice.new.self in
    let behind = drop count c.args.buf.now in
    let bytes = c.args.self.now.bytes.items in
    let taken = c.args.self.now.taken in
    let within : count ≤ length (drop taken bytes) = omega (arith, length-drop taken bytes) in
    record {
      takes = ap Some (taken_rest bytes front behind taken count within (grind (arith, common_steps)));
      ended = λ is room.
          let none : count ≡ 0 = cc in
          nil_from_length (drop taken bytes)
          (omega (arith, none, room, length-append front behind, length-drop count c.args.buf.now, length-drop taken bytes, c.copy_from_slice.ensures.len));
      faults = refl;
    }
