use Rattle.cd_io.proofs.memory.packets.copy_datagram.Goals as goal
use Rattle.std.proofs.Common.{ap, arith, drop, length, length-take, take, ℕ, ◌∙◌, ◌≡◌}
use Rattle.std.proofs.Math.Nat.{min_comm}
use Rattle.std.proofs.lemmas.List.{take_at, take_min}

pub returns-clause-front : goal.returns-clause-front
returns-clause-front c =
    let count = c.min-count.result in
    let front = c.copy_from_slice.new.self in
    let long : length front ≡ count = omega (arith, c.copy_from_slice.ensures.len, length-take count c.args.buf.now) in
    take_at front (drop count c.args.buf.now) count long ∙ c.copy_from_slice.ensures.after
    ∙ ap (λ (n : ℕ). take n c.args.bytes.now) (c.min-count.ensures ∙ min_comm (length c.args.bytes.now) 65535)
    ∙ take_min 65535 c.args.bytes.now
