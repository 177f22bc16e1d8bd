use Rattle.cd_text.proofs.Cuts.{cut_run}
use Rattle.cd_text.proofs.Slices.{run_boundary}
use Rattle.cd_text.proofs.cutter.cut_word.Goals as goal
use Rattle.cd_text.specs.Cutting.{ends_run}
use Rattle.std.proofs.Common.{IsCharBoundary, IsUtf8, List, ap, refl, subst, sym, ℕ, ◌∙◌}
use Rattle.std.specs.List.{position_or_len}

pub split_at-requires : goal.split_at-requires
split_at-requires c =
    let same = c.run_len-run.ensures ∙ ap (position_or_len ends_run) c.as_bytes.ensures.value in
    subst (λ (n : ℕ). IsCharBoundary c.args.rest.text.now n) (sym same) (run_boundary c.args.rest.text.now)

pub returns-clause-ok : goal.returns-clause-ok
returns-clause-ok c =
    let same = c.run_len-run.ensures ∙ ap (position_or_len ends_run) c.as_bytes.ensures.value in
    cut_run c.args.rest _ c.borrowed.result c.run_len-run.result (subst IsUtf8 c.as_bytes.ensures.value c.as_bytes.ensures.utf8) c.requires.begins same
    (c.borrowed.ensures ∙ ap (λ (xs : List ℕ). record { text = xs; start = c.args.rest.place }) c.split_at.ensures.front)
    c.split_at.ensures.back refl c.split_at.ensures.back_len (sym c.begins_with_quote.ensures ∙ c.if-begins_with_quote.false)
