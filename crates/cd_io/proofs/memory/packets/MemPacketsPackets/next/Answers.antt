use Rattle.cd_io.proofs.Coming.{one_came}
use Rattle.cd_io.proofs.memory.packets.MemPacketsPackets.next.Goals as goal
use Rattle.cd_io.specs.Datagrams.{as_datagram}
use Rattle.std.proofs.Common.{ap, arith, get_or, length, refl, ◌<◌, ◌∙◌}

pub returns-clause-nexts : goal.returns-clause-nexts
returns-clause-nexts c =
    let look = c.in-Some.ensures.lookup in
    let all = c.deref-3.ensures.value in
    let xs = c.args.self.now.datagrams.items in
    let place = c.args.self.now.taken in
    let datagram = c.in-Some.datagram.now in
    let inside : place < length xs = omega (arith, ap length all, look.3.0) in
    let both =
    one_came (λ v. as_datagram v.items) xs place datagram _ inside
    (look.1 ∙ ap (λ ys. get_or ys place datagram) all)
    (c.copy_datagram-count.ensures.front ∙ ap as_datagram c.deref-4.ensures.value) in
    record {
      came = record { given = both.0; left = both.1; faults = search arith; quiets = search arith };
      ended = λ is. cc;
      quiets = refl;
      faults = refl;
    }
