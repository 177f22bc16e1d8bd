-- A step of the loop offers the first of the lists with the next word.
use Rattle.cd_queue.proofs.queue.WriteQueue.offer_each.Goals as goal
use Rattle.cd_queue.proofs.Offers.{fates_step, offers_step}
use Rattle.cd_queue.specs.Drops.{fates_of}
use Rattle.std.proofs.Common.{[], add-one, ap, append_assoc, arith, drop, drop-cons, get_or, length, pred, sym, vec_len, ◌++◌, ◌+◌, ◌∙◌, ◌∷◌, ◌≡◌, ◌≤◌}
use Rattle.std.specs.Vec.{vec_capacity}

pub loop-word-preserved : goal.loop-word-preserved
loop-word-preserved c =
    let i = c.loop-word.word-index in
    let words = c.args.words.now in
    let next : drop i words ≡ get_or words i 0 ∷ drop (i + 1) words = drop-cons words i 0 (omega arith) ∙ ap (λ n. get_or words i 0 ∷ drop n words) (sym (add-one i)) in
    let limits = c.loop-word.self.limits in
    let waiting = c.loop-word.self.lists in
    let list = c.in-Some.list in
    let lists = c.next.new.self.rest.items in
    let rest = drop (i + 1) words in
    let front : c.loop-word.rest.rest.items ≡ list ∷ lists = c.in-Some.ensures.items in
    let told = c.in-Ok.ensures.fate in
    let is = c.in-Ok.ensures.lists in
    let pushed : c.push_reserved.new.self.items ≡ c.loop-word.fates.items ++ c.in-Ok.fate ∷ [] = c.push_reserved.ensures.items in
    let before = c.loop-word.invariant.room in
    let spare = c.in-Ok.ensures.spare in
    let fewer : length c.loop-word.rest.rest.items ≡ length lists + 1 = ap length front ∙ sym (add-one (length lists)) in
    rw c.in-Ok.ensures.limits (record {
      limits = c.loop-word.invariant.limits;
      fates = rw pushed (append_assoc c.loop-word.fates.items _ _
          ∙ ap (λ fates. c.loop-word.fates.items ++ fates) (fates_step limits waiting _ list _ (get_or words i 0) rest told is)
          ∙ (rw next at c.loop-word.invariant.fates));
      lists = offers_step limits waiting _ list lists _ (get_or words i 0) rest told is ∙ (rw (front, next) at c.loop-word.invariant.lists);
      left = ap pred (sym (ap length front) ∙ c.loop-word.invariant.left ∙ ap length next);
      room = omega (arith, before, spare, fewer);
      capacity = let fit = c.loop-word.invariant.capacity in omega (arith, fit, fewer, c.push_reserved.ensures.len, c.push_reserved.ensures.capacity);
    })
