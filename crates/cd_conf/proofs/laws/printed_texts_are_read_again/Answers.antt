use Rattle.cd_conf.proofs.PrintedQuotes.{text_reads}
use Rattle.cd_conf.proofs.laws.printed_texts_are_read_again.Goals as goal

pub returns : goal.returns
returns c t rest line utf8 h = text_reads t rest line utf8 h
