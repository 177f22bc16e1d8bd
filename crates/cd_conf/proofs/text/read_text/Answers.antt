use Rattle.cd_conf.proofs.LineRuns.{good_text, not_text}
use Rattle.cd_conf.proofs.text.read_text.Goals as goal
use Rattle.cd_conf.specs.Blanks.{behind_blanks, is_newline}
use Rattle.cd_conf.specs.Faults.{conf_fault, fault_at}
use Rattle.cd_conf.specs.Place.{position}
use Rattle.cd_conf.specs.Position.{at}
use Rattle.cd_conf.specs.Statements.{Statement, statements_at, statements_of_text}
use Rattle.cd_conf.specs.Tree.{statements_of_items}
use Rattle.cd_conf.specs.declared.fault.ConfFault.{ConfFault}
use Rattle.cd_conf.specs.declared.fault.ConfKind.TheVariants as kinds
use Rattle.cd_reading.specs.Gives.{Gives}
use Rattle.std.proofs.Common.{Err, List, Result, ap, subst, sym, take, ℕ, ◌+◌, ◌∙◌, ◌≡◌}
use Rattle.std.proofs.lemmas.Bool.{false_from_ne_true}
use Rattle.std.proofs.lemmas.Str.{IsUtf8-from_is_utf8}
use Rattle.std.specs.List.{count_by}
use Rattle.std.specs.Str.{chars, is_utf8}

pub returns-in-Ok : goal.returns-in-Ok
returns-in-Ok c =
    let start : position c.skip_blanks.result ≡ behind_blanks (at 1 (chars c.args.bytes.now))
    = c.skip_blanks.ensures.place ∙ ap (λ (text : List ℕ). behind_blanks (at 1 (chars text))) c.in-Ok.ensures.cases.0 in
    let read : statements_at (position c.skip_blanks.result) ≡ statements_of_text c.args.bytes.now
    = ap statements_at start ∙ sym (good_text c.args.bytes.now c.if-bytes-gt-FILE_LIMIT.false c.in-Ok.ensures.cases.1) in
    subst (λ (r : Result (List Statement) ConfFault). Gives statements_of_items conf_fault c.lines.result r) read c.lines.ensures

pub returns-in-Err : goal.returns-in-Err
returns-in-Err c =
    let bad = false_from_ne_true (is_utf8 c.args.bytes.now) (λ e. c.in-Err.ensures.cases.0 (IsUtf8-from_is_utf8 c.args.bytes.now e)) in
    not_text c.args.bytes.now c.if-bytes-gt-FILE_LIMIT.false bad
    ∙ ap (λ (line : ℕ). Err (fault_at kinds.NotText line))
    (sym (c.bad_line-line.ensures ∙ ap (λ (n : ℕ). 1 + count_by is_newline (take n c.args.bytes.now)) (c.valid_up_to.ensures ∙ c.in-Err.ensures.valid_len)))
