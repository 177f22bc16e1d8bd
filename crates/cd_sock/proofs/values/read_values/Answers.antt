use Rattle.cd_sock.proofs.Readings.{at_last, begins, by_pairs, goes_on, lacks_one, onto_front, pairwise, stops}
use Rattle.cd_sock.proofs.values.read_values.Goals as goal
use Rattle.cd_sock.specs.Values.{texts_in}
use Rattle.cd_value.specs.declared.data.Value.{Value}
use Rattle.std.proofs.Common.{Bor, List, Option, Some, ap, drop, option_copied, sym, ℕ, ◌+◌, ◌∙◌}

abbrev all : Option (Bor (List ℕ)) → List (List ℕ)
all rest = texts_in (option_copied rest)

pub loop-source-init : goal.loop-source-init
loop-source-init c = begins c.in_ok-values.values.items (pairwise c.args.sources.now (all c.args.rest)) c.in_ok-values.ensures.items

pub returns-in_default : goal.returns-in_default
returns-in_default c =
    lacks_one c.args.sources.now c.loop-source.source-index c.source-item.result c.loop-source.values.items (pairwise c.args.sources.now (all c.args.rest)) c.loop-source-test.true c.source-item.is
    (ap (λ (left : Option (Bor (List ℕ))). onto_front c.loop-source.values.items (pairwise (drop c.loop-source.source-index c.args.sources.now) (all left))) (sym c.in_default.is) ∙ c.loop-source.invariant)
    ∙ sym (by_pairs c.args.sources.now (all c.args.rest))

pub returns-in_default-read_value : goal.returns-in_default-read_value
returns-in_default-read_value c =
    stops c.args.sources.now c.loop-source.source-index c.source-item.result c.loop-source.values.items (all c.loop-source.left) (all c.at_colon.result.1) c.at_colon.result.0.now
    (pairwise c.args.sources.now (all c.args.rest)) c.loop-source-test.true c.source-item.is (ap all c.in-Some.is ∙ c.at_colon.ensures.texts) (sym c.in_default-read_value.ensures) c.loop-source.invariant
    ∙ sym (by_pairs c.args.sources.now (all c.args.rest))

pub loop-source-preserved : goal.loop-source-preserved
loop-source-preserved c =
    ap (λ (values : List Value). onto_front values (pairwise (drop (c.loop-source.source-index + 1) c.args.sources.now) (all c.at_colon.result.1))) c.in_ok-push.ensures.items
    ∙ goes_on c.args.sources.now c.loop-source.source-index c.source-item.result c.loop-source.values.items (all c.loop-source.left) (all c.at_colon.result.1) c.at_colon.result.0.now c.in-Some-read_value.value
    (pairwise c.args.sources.now (all c.args.rest)) c.loop-source-test.true c.source-item.is (ap all c.in-Some.is ∙ c.at_colon.ensures.texts) (sym c.in-Some-read_value.ensures) c.loop-source.invariant

pub returns-then-is_some : goal.returns-then-is_some
returns-then-is_some c =
    (at_last c.args.sources.now c.loop-source.source-index c.loop-source.values.items c.loop-source.left (pairwise c.args.sources.now (all c.args.rest)) c.loop-source-test.false c.loop-source.invariant).0
    (sym c.is_some.ensures ∙ c.if-is_some.true)
    ∙ sym (by_pairs c.args.sources.now (all c.args.rest))

pub returns : goal.returns
returns c =
    ap (λ (values : List Value). Some values) c.from_vec.ensures
    ∙ (at_last c.args.sources.now c.loop-source.source-index c.loop-source.values.items c.loop-source.left (pairwise c.args.sources.now (all c.args.rest)) c.loop-source-test.false c.loop-source.invariant).1
    (sym c.is_some.ensures ∙ c.if-is_some.false)
    ∙ sym (by_pairs c.args.sources.now (all c.args.rest))
