use Rattle.std.proofs.Common.{◌∙◌, Bool, false, true, ap, arith, drop, get_or}
use Rattle.cd_chain.proofs.Places.{none_left, went_on}
use Rattle.cd_chain.proofs.place.next_rule.Goals as goal
use Rattle.cd_chain.specs.Frames.{behind_first, meets, runs}
use Rattle.cd_chain.specs.declared.data.Chain.{Chain}
use Rattle.cd_chain.specs.declared.data.Rule.{Rule}
use Rattle.std.specs.Option.{option_copied}

pub loop-number-preserved : goal.loop-number-preserved
loop-number-preserved c =
    let passes : Rule → Bool = runs (meets c.args.set.now (option_copied c.args.rates) c.args.now c.args.list.now) in
    let rules = c.args.chain.now.rules in
    let before = c.loop-number.invariant in
    record {
      same = c.does_run_at.ensures.same ∙ before.same;
      next = went_on passes rules c.loop-number.number (behind_first passes c.args.begun (drop c.args.begun rules)) c.in_ok-does_run.does_run false (omega arith)
          (λ rule. c.in_ok-does_run.ensures.runs rule ∙ ap (λ (chain : Chain). passes (get_or chain.rules c.loop-number.number rule)) before.same)
          c.if-does_run.false before.next;
    }

pub returns-then-does_run-clause-next : goal.returns-then-does_run-clause-next
returns-then-does_run-clause-next c =
    let passes : Rule → Bool = runs (meets c.args.set.now (option_copied c.args.rates) c.args.now c.args.list.now) in
    let rules = c.args.chain.now.rules in
    let before = c.loop-number.invariant in
    went_on passes rules c.loop-number.number (behind_first passes c.args.begun (drop c.args.begun rules)) c.in_ok-does_run.does_run true (omega arith)
    (λ rule. c.in_ok-does_run.ensures.runs rule ∙ ap (λ (chain : Chain). passes (get_or chain.rules c.loop-number.number rule)) before.same)
    c.if-does_run.true before.next

pub returns-clause-next : goal.returns-clause-next
returns-clause-next c =
    let passes : Rule → Bool = runs (meets c.args.set.now (option_copied c.args.rates) c.args.now c.args.list.now) in
    let rules = c.args.chain.now.rules in
    none_left passes rules c.loop-number.number (behind_first passes c.args.begun (drop c.args.begun rules)) (omega arith) c.loop-number.invariant.next
