use Rattle.cd_net.proofs.Values.{coded_values, payload_values_are}
use Rattle.cd_net.proofs.list.payload_values.Goals as goal
use Rattle.cd_net.specs.Payload.{codes_of, value_count}
use Rattle.cd_value.specs.declared.data.Value.{Value}
use Rattle.std.proofs.Common.{List, ap, arith, drop, length, ℕ, ◌++◌, ◌+◌, ◌∙◌}
use Rattle.std.proofs.lemmas.List.{length-drop, length-take}

pub loop-code-init : goal.loop-code-init
loop-code-init c = record {
  room = omega (arith, ap length c.codes_and_numbers.ensures.codes, ap length c.codes_and_numbers.ensures.numbers, length-take (value_count c.args.payload.now) (drop 2 c.args.payload.now), length-drop (2 + value_count c.args.payload.now) c.args.payload.now, c.requires);
  goes_on =
      ap (λ (values : List Value). values ++ coded_values c.codes_and_numbers.result.0.now c.codes_and_numbers.result.1.now) c.in_ok-values.ensures.items
      ∙ ap (λ (codes : List ℕ). coded_values codes c.codes_and_numbers.result.1.now) c.codes_and_numbers.ensures.codes
      ∙ ap (coded_values (codes_of c.args.payload.now)) c.codes_and_numbers.ensures.numbers
      ∙ payload_values_are c.args.payload.now;
}
