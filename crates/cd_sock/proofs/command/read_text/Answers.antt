use Rattle.cd_reading.specs.First.{◌>>=◌}
use Rattle.cd_reading.specs.Gives.{Gives}
use Rattle.cd_sock.proofs.Meanings.{not_utf8, of_its_words, refuses_words}
use Rattle.cd_sock.proofs.command.read_text.Goals as goal
use Rattle.cd_sock.specs.Faults.{line_fault, of_words, with_fault}
use Rattle.cd_sock.specs.Meaning.{at_moment, request_of_text, request_of_words}
use Rattle.cd_sock.specs.declared.command.Command.{Command}
use Rattle.cd_sock.specs.declared.fault.LineFault.{LineFault}
use Rattle.cd_text.specs.Quoting.{words_of}
use Rattle.cd_text.specs.declared.word.Word.{Word}
use Rattle.cd_text.specs.declared.word.WordFault.{WordFault}
use Rattle.std.proofs.Common.{List, Result, ap, subst, sym, ◌∙◌, ◌≡◌}
use Rattle.std.proofs.lemmas.Result.{err_from_is_err_and}

pub returns-in_default : goal.returns-in_default
returns-in_default c = ap (at_moment c.args.now c.args.interval) (not_utf8 c.args.types.now c.args.text.now (sym c.are_blank.ensures ∙ c.if-are_blank.false) c.in_default.ensures.cases.0)

pub returns-in_err-words : goal.returns-in_err-words
returns-in_err-words c =
    let p = err_from_is_err_and c.from_residual.result c.from_residual.ensures.1 in
    rw (p.1, p.2)
    (refuses_words c.in_err-words.field-0.0 (words_of c.in-Ok.text.now) (λ words. at_moment c.args.now c.args.interval (request_of_words c.args.types.now words))
    (at_moment c.args.now c.args.interval (request_of_text c.args.types.now c.args.text.now)) c.in_err-words.ensures
    (of_its_words c.args.types.now c.args.text.now c.in-Ok.text.now c.args.now c.args.interval (sym c.are_blank.ensures ∙ c.if-are_blank.false) c.in-Ok.ensures.cases))

pub returns : goal.returns
returns c =
    let total : at_moment c.args.now c.args.interval (request_of_words c.args.types.now c.as_slice.result.now) ≡ at_moment c.args.now c.args.interval (request_of_text c.args.types.now c.args.text.now)
    = ap (λ (words : List Word). at_moment c.args.now c.args.interval (request_of_words c.args.types.now words)) c.as_slice.ensures
    ∙ ap (λ (read : Result (List Word) WordFault). with_fault of_words read >>= λ words. at_moment c.args.now c.args.interval (request_of_words c.args.types.now words)) (sym c.in_ok-words.ensures)
    ∙ sym (of_its_words c.args.types.now c.args.text.now c.in-Ok.text.now c.args.now c.args.interval (sym c.are_blank.ensures ∙ c.if-are_blank.false) c.in-Ok.ensures.cases) in
    subst (λ (r : Result Command LineFault). Gives (λ command. command) line_fault c.read_words.result r) total c.read_words.ensures
