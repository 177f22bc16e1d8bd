use Rattle.std.proofs.Common.{◌∙◌, ◌<◌, [], map, length, sym, ap, arith}
use Rattle.std.proofs.lemmas.List.{get_or-map, length-map}
use Rattle.cd_chain.specs.Chains.{number_of}
use Rattle.cd_chain.proofs.Jumping.{mapped_more}
use Rattle.cd_chain.proofs.jumps.numbers_of.Goals as goal

pub loop-name-preserved : goal.loop-name-preserved
loop-name-preserved c =
    let below : c.loop-name.name-index < length (map (λ name. name.now) c.args.names.now) = (let e = length-map c.args.names.now (λ name. name.now) in let t = c.loop-name-test.true in omega arith) in
    mapped_more (λ name. number_of name c.args.chains.now) [] c.push_number.new.numbers.items c.loop-name.numbers.items (map (λ name. name.now) c.args.names.now) c.loop-name.name-index c.name-item.result.now below
    (ap (λ name. name.now) c.name-item.is ∙ sym (get_or-map (λ name. name.now) c.args.names.now c.loop-name.name-index c.name-item.result c.name-item.result.now c.loop-name-test.true))
    c.loop-name.invariant c.in_ok-push_number.ensures
