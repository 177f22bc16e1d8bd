use Rattle.cd_laws.proofs.Reading.{number_of-millionths_text}
use Rattle.cd_laws.proofs.print.print_readable.Goals as goal
use Rattle.cd_laws.specs.ReadBack.{read_back}
use Rattle.cd_text.specs.Number.{number_of}
use Rattle.cd_value.specs.Print.{millionths_text}
use Rattle.std.proofs.Common.{List, ap, arith, rules, ℕ, ◌<◌, ◌^◌, ◌∙◌, ◌≡◌, ◌≤◌}
use Rattle.std.proofs.lemmas.Result.{IfOk-weaker}
use Rattle.std.specs.Int.Signed.{nat_abs-le}
use Rattle.std.specs.Prelude.{IfOk, nat_abs}

pub returns-clause-reads : goal.returns-clause-reads
returns-clause-reads c =
    let within : nat_abs c.args.value ≤ 2 ^ 127 = nat_abs-le c.args.value {H = 2 ^ 127} c.ranges.value.sfits in
    let small : nat_abs c.args.value < 10 ^ 64 = omega arith in
    let value : IfOk c.print_millionths.result (λ (text : List ℕ). text ≡ millionths_text c.args.value) = search rules in
    IfOk-weaker c.print_millionths.result (λ (text : List ℕ). text ≡ millionths_text c.args.value) (λ (text : List ℕ). number_of text ≡ read_back c.args.value)
    (λ text e. ap number_of e ∙ number_of-millionths_text c.args.value small) value
