use Rattle.cd_text.proofs.Cuts.{nothing_left, whole_left}
use Rattle.cd_text.proofs.cutter.line_words.Goals as goal
use Rattle.std.proofs.Common.{refl, sym, zero-add, ◌∙◌}
use Rattle.std.proofs.lemmas.Bool.{eqb-true}

pub loop-rest-init : goal.loop-rest-init
loop-rest-init c = record {
  same = whole_left _ (record { text = c.args.line; place = 0 }) c.skip_blanks-rest.result c.new-words.ensures refl c.skip_blanks-rest.ensures;
  sum = c.skip_blanks-rest.ensures.sum ∙ zero-add _;
  begins = c.skip_blanks-rest.ensures.begins;
}

pub returns : goal.returns
returns c = sym c.loop-rest.invariant.same ∙ nothing_left c.loop-rest.words c.loop-rest.rest (eqb-true _ _ (sym c.loop-rest-test.ensures))
