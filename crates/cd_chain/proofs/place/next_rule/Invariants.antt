use Rattle.std.proofs.Common.{◌≡◌, drop}
use Rattle.std.specs.Option.{option_copied}
use Rattle.cd_chain.specs.Frames.{behind_first, meets, runs}
use Rattle.cd_chain.proofs.place.next_rule.Given as goal

abbrev pub invariant-loop-number : goal.invariant-loop-number
invariant-loop-number l =
    record {
      same : l.chain ≡ l.fn.chain;
      next : behind_first (runs (meets l.set (option_copied l.rates) l.now l.list)) l.number (drop l.number l.fn.chain.rules) ≡ behind_first (runs (meets l.set (option_copied l.rates) l.now l.list)) l.begun (drop l.begun l.fn.chain.rules);
    }
