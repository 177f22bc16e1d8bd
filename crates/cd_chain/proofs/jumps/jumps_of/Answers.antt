use Rattle.std.proofs.Common.{◌∙◌, ◌++◌, map, sym, ap, arith}
use Rattle.std.proofs.lemmas.List.{take_all}
use Rattle.std.proofs.lemmas.List.Elements.{filter_map-append}
use Rattle.std.specs.List.{filter_map, flat_map}
use Rattle.cd_chain.specs.Tables.{jump_of}
use Rattle.cd_chain.proofs.Jumping.{flat_more}
use Rattle.cd_chain.proofs.jumps.jumps_of.Goals as goal

pub loop-rule-preserved : goal.loop-rule-preserved
loop-rule-preserved c = flat_more (λ rule. rule.targets) jump_of (map (λ name. name.now) c.push_jumps.new.names.items) (map (λ name. name.now) c.loop-rule.names.items) c.as_slice-rule-items.result.now c.loop-rule.rule-index c.rule-item.result c.loop-rule-test.true c.rule-item.is c.loop-rule.invariant
    (c.in_ok-push_jumps.ensures ∙ ap (λ ts. map (λ name. name.now) c.loop-rule.names.items ++ filter_map jump_of ts) c.as_slice.ensures)

pub returns : goal.returns
returns c =
    let rules = c.as_slice-rule-items.result.now in
    let all = take_all c.loop-rule.rule-index rules (omega arith) in
    c.in_ok-push_jumps-2.ensures
    ∙ ap (λ ts. map (λ name. name.now) c.loop-rule.names.items ++ filter_map jump_of ts) c.as_slice-2.ensures
    ∙ ap (λ names. names ++ filter_map jump_of c.args.chain.now.defaults) (c.loop-rule.invariant ∙ ap (λ rules. filter_map jump_of (flat_map (λ rule. rule.targets) rules)) (all ∙ c.as_slice-rule-items.ensures))
    ∙ sym (filter_map-append jump_of (flat_map (λ rule. rule.targets) c.args.chain.now.rules) c.args.chain.now.defaults)
