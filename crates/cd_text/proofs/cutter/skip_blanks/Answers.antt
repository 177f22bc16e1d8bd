use Rattle.cd_text.proofs.Cuts.{at_word}
use Rattle.cd_text.proofs.Slices.{blanks_boundary}
use Rattle.cd_text.proofs.cutter.skip_blanks.Goals as goal
use Rattle.cd_text.specs.Cutting.{begins_word}
use Rattle.std.proofs.Common.{IsCharBoundary, IsUtf8, ap, refl, subst, sym, ℕ, ◌∙◌}
use Rattle.std.specs.List.{position_or_len}

pub split_at-requires : goal.split_at-requires
split_at-requires c =
    let same = c.count_blanks-count.ensures ∙ ap (position_or_len begins_word) c.as_bytes.ensures.value in
    subst (λ (n : ℕ). IsCharBoundary c.args.rest.text.now n) (sym same) (blanks_boundary c.args.rest.text.now (subst IsUtf8 c.as_bytes.ensures.value c.as_bytes.ensures.utf8))

pub returns : goal.returns
returns c =
    let same = c.count_blanks-count.ensures ∙ ap (position_or_len begins_word) c.as_bytes.ensures.value in
    at_word c.args.rest _ c.count_blanks-count.result same c.split_at.ensures.back refl c.split_at.ensures.back_len
