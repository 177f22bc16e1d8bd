use Rattle.cd_sock.proofs.Cuts.{count_of_values}
use Rattle.cd_sock.proofs.values.has_count.Goals as goal
use Rattle.cd_sock.specs.Values.{is_colon}
use Rattle.std.proofs.Common.{List, ap, sym, ℕ, ◌∙◌}
use Rattle.std.specs.Prelude.{count_by, length, ◌==◌}

pub returns : goal.returns
returns c =
    ap (λ (n : ℕ). n == length c.args.sources.now)
    (c.number_of_colons.ensures ∙ ap (λ (text : List ℕ). count_by is_colon text) c.text.ensures ∙ sym (count_of_values c.args.word.now.text))
