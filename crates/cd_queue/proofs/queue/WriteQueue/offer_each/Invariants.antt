-- what was told and what is told of the rest is what is told of all; so with what waits
use Rattle.cd_queue.proofs.queue.WriteQueue.offer_each.Given as goal
use Rattle.cd_queue.specs.Drops.{after_offers, fates_of}
use Rattle.std.proofs.Common.{drop, length, vec_len, ◌++◌, ◌+◌, ◌≡◌, ◌≤◌}
use Rattle.std.specs.Vec.{vec_capacity}

abbrev pub invariant-loop-word : goal.invariant-loop-word
invariant-loop-word l =
    let start = l.initial.self in
    let rest = fates_of l.self.limits (length l.self.lists) (drop l.word-index l.words) in
    record {
      limits : l.self.limits ≡ start.limits;
      fates : l.fates.items ++ rest ≡ fates_of start.limits (length start.lists) l.words;
      lists : after_offers l.self.lists l.rest.rest.items rest
          ≡ after_offers start.lists l.initial.rest.rest.items (fates_of start.limits (length start.lists) l.words);
      left : length l.rest.rest.items ≡ length (drop l.word-index l.words);
      room : length l.rest.rest.items ≤ l.self.spare;
      capacity : vec_len l.fates + length l.rest.rest.items ≤ vec_capacity l.fates;
    }
