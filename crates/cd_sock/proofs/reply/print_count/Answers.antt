use Rattle.cd_sock.proofs.Printed.{one_value, other_values}
use Rattle.cd_sock.proofs.reply.print_count.Goals as goal
use Rattle.cd_sock.specs.Replies.{values_found}
use Rattle.std.proofs.Common.{Global, String, string_bytes, ◌++◌, ◌∙◌, ◌≡◌}
use Rattle.std.proofs.lemmas.Result.{IfOk-weaker}
use Rattle.std.specs.Fmt.{decimal}
use Rattle.std.specs.Prelude.{codes}

pub returns-then-count-eq1-clause-text : goal.returns-then-count-eq1-clause-text
returns-then-count-eq1-clause-text c =
    IfOk-weaker c.format.result (λ (text : String Global). string_bytes text ≡ decimal c.args.count ++ codes " Value found\n") (λ (text : String Global). string_bytes text ≡ values_found c.args.count)
    (λ text h. h ∙ one_value c.args.count c.if-count-eq1.true) c.format.ensures.ok

pub returns-else-count-eq1-clause-text : goal.returns-else-count-eq1-clause-text
returns-else-count-eq1-clause-text c =
    IfOk-weaker c.format-else-count-eq1.result (λ (text : String Global). string_bytes text ≡ decimal c.args.count ++ codes " Values found\n") (λ (text : String Global). string_bytes text ≡ values_found c.args.count)
    (λ text h. h ∙ other_values c.args.count c.if-count-eq1.false) c.format-else-count-eq1.ensures.ok
