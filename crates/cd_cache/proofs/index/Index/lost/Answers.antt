-- Pairs in order: behind one whose moment hasn't come none is due.
use Rattle.cd_cache.proofs.Due.{due_from_late, due_now, sorted_behind}
use Rattle.cd_cache.proofs.Shown.{has_put, or_false, or_move, shown_key}
use Rattle.cd_cache.proofs.index.Index.lost.Goals as goal
use Rattle.cd_cache.specs.Index.{due, has_name, names_in, pair_order}
use Rattle.std.proofs.Common.{Bool, List, [], ap, arith, length, map, subst, suc, sym, ℕ, ◌<◌, ◌∙◌, ◌∷◌, ◌≡◌, ◌≤◌}
use Rattle.std.proofs.lemmas.Map.Iter.{rest_all, rest_more}
use Rattle.std.specs.List.Sorted.{IsStrictlySortedBy}
use Rattle.std.specs.Map.Iter.{deref}
use Rattle.std.specs.Prelude.{◌||◌}

pub returns-then-pair-from-clause-names : goal.returns-then-pair-from-clause-names
returns-then-pair-from-clause-names c = λ q.
    let left = c.loop-pair.pair-iterator in
    let rest : left ≡ c.in-Some.pair.now ∷ c.next.new.self = rest_more deref left c.next.new.self c.next.result c.in-Some.pair c.in-Some.is c.next.ensures.steps in
    let late : c.args.now < c.in-Some.pair.now.0 = omega arith in
    let none : due c.args.now left ≡ [] = ap (due c.args.now) rest ∙ due_from_late c.args.now c.in-Some.pair.now c.next.new.self late (subst (IsStrictlySortedBy pair_order) rest c.loop-pair.invariant.ordered) in
    let had : Bool = has_name (map deref c.loop-pair.lost.keys) q in
    sym (or_false had) ∙ ap (λ (ps : List (ℕ × List ℕ)). had || has_name (names_in ps) q) (sym none) ∙ c.loop-pair.invariant.names q

pub returns-then-pair-from-clause-met : goal.returns-then-pair-from-clause-met
returns-then-pair-from-clause-met c =
    let left = c.loop-pair.pair-iterator in
    let rest : left ≡ c.in-Some.pair.now ∷ c.next.new.self = rest_more deref left c.next.new.self c.next.result c.in-Some.pair c.in-Some.is c.next.ensures.steps in
    let late : c.args.now < c.in-Some.pair.now.0 = omega arith in
    let none : length (due c.args.now left) ≡ 0 =
    ap (λ (ps : List (ℕ × List ℕ)). length (due c.args.now ps)) rest
    ∙ ap length (due_from_late c.args.now c.in-Some.pair.now c.next.new.self late (subst (IsStrictlySortedBy pair_order) rest c.loop-pair.invariant.ordered)) in
    let met = c.loop-pair.invariant.found in
    omega arith

pub returns-clause-met : goal.returns-clause-met
returns-clause-met c =
    let left : c.loop-pair.pair-iterator ≡ [] = rest_all deref c.loop-pair.pair-iterator c.next.new.self c.next.result c.in-None.is c.next.ensures.steps in
    let none : length (due c.args.now c.loop-pair.pair-iterator) ≡ 0 = ap (λ (ps : List (ℕ × List ℕ)). length (due c.args.now ps)) left in
    let met = c.loop-pair.invariant.found in
    omega arith

pub loop-pair-preserved : goal.loop-pair-preserved
loop-pair-preserved c =
    let now : ℕ = c.args.now in
    let left = c.loop-pair.pair-iterator in
    let pair : ℕ × List ℕ = c.in-Some.pair.now in
    let rest : left ≡ pair ∷ c.next.new.self = rest_more deref left c.next.new.self c.next.result c.in-Some.pair c.in-Some.is c.next.ensures.steps in
    let come : pair.0 ≤ now = omega arith in
    let more : due now left ≡ pair ∷ due now c.next.new.self = ap (due now) rest ∙ due_now now pair c.next.new.self come in
    let more_due : length (due now left) ≡ suc (length (due now c.next.new.self)) = ap length more in
    let more_left : length left ≡ suc (length c.next.new.self) = ap length rest in
    record {
      ordered = sorted_behind pair c.next.new.self (subst (IsStrictlySortedBy pair_order) rest c.loop-pair.invariant.ordered);
      names = λ q.
          let had : Bool = has_name (map deref c.loop-pair.lost.keys) q in
          ap (λ (names : List (List ℕ)). has_name names q || has_name (names_in (due now c.next.new.self)) q) (ap (map deref) c.in_ok-insert.ensures.keys ∙ shown_key c.loop-pair.lost.keys _)
          ∙ ap (λ (b : Bool). b || has_name (names_in (due now c.next.new.self)) q) (has_put pair.1 q (map deref c.loop-pair.lost.keys))
          ∙ or_move _ had _
          ∙ ap (λ (ps : List (ℕ × List ℕ)). had || has_name (names_in ps) q) (sym more)
          ∙ c.loop-pair.invariant.names q;
      found = omega arith;
      met = omega arith;
    }
