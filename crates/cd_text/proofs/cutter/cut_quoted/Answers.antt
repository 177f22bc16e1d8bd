use Rattle.cd_text.proofs.Cuts.{cut_quotes, open_quotes}
use Rattle.cd_text.proofs.Slices.{seam}
use Rattle.cd_text.proofs.cutter.cut_quoted.Goals as goal
use Rattle.std.proofs.Common.{refl}

pub split_at-requires : goal.split_at-requires
split_at-requires c =
    let read = c.in_ok-word.ensures in
    (seam c.args.rest.text.now read.taken read.left c.in_ok-word.word.used read.utf8 read.parts read.used).boundary

pub returns-in-Outside-clause-ok : goal.returns-in-Outside-clause-ok
returns-in-Outside-clause-ok c =
    cut_quotes c.args.rest _ c.owned.result c.in_ok-word.word c.requires.begins c.in_ok-word.ensures c.in-Outside.is c.owned.ensures
    c.split_at.ensures.back refl c.split_at.ensures.back_len

pub returns-in_default : goal.returns-in_default
returns-in_default c = record { ok = tt; err = open_quotes c.args.rest c.in_ok-word.word c.requires.begins c.in_ok-word.ensures c.in_default.not-Outside }
