-- There are no more reads than readers.
use Rattle.cd_sched.proofs.Resting.{reads_within}
use Rattle.cd_sched.proofs.schedule.Schedule.reserve.Goals as goal
use Rattle.std.proofs.Common.{arith, length, vec_len, ◌≡◌, ◌≤◌}

pub make_room-requires : goal.make_room-requires
make_room-requires c =
    let within : length c.self.inside.next_reads.reads ≤ length c.self.inside.readers.items = reads_within c.self.inside.readers.items c.self.inside.next_reads.reads c.self.invariant.1 in
    let counted : vec_len c.self.inside.readers ≡ length c.self.inside.readers.items = c.self.inside.readers.ok.0 in
    let same : vec_len c.reserve.new.self ≡ vec_len c.self.inside.readers = c.reserve.ensures.len in
    omega arith
