use Rattle.cd_conf.proofs.LineRuns.{all_lines, failed, finished}
use Rattle.cd_conf.proofs.Repeating.{faults, goes_on, stops}
use Rattle.cd_conf.proofs.text.lines.Goals as goal
use Rattle.cd_conf.specs.Faults.{conf_fault}
use Rattle.cd_conf.specs.Pile.{opens_in, statements_in}
use Rattle.cd_conf.specs.Place.{position}
use Rattle.cd_conf.specs.Statements.{Stand, Statement, closed, line_at, stand, statements_at}
use Rattle.cd_conf.specs.Tree.{statements_of_items}
use Rattle.cd_conf.specs.declared.fault.ConfFault.{ConfFault}
use Rattle.cd_conf.specs.declared.pile.Pile.{Pile}
use Rattle.cd_reading.specs.Gives.{Gives}
use Rattle.std.proofs.Common.{List, Result, ap, length, subst, sym, ◌∙◌, ◌≡◌}
use Rattle.std.proofs.lemmas.Result.{err_from_is_err_and}

pub returns-in_err-next : goal.returns-in_err-next
returns-in_err-next c =
    let p = err_from_is_err_and c.from_residual.result c.from_residual.ensures.1 in
    rw (p.1, p.2)
    (failed (position c.args.place) (conf_fault c.in_err-next.field-0.0)
    (faults (λ (s : Stand). length s.place.rest) line_at (statements_in c.loop-pile.pile) (stand (opens_in c.loop-pile.pile) (position c.loop-pile.place))
    (conf_fault c.in_err-next.field-0.0) (all_lines (position c.args.place)) c.loop-pile.invariant c.in_err-next.ensures.fault))

pub loop-pile-preserved : goal.loop-pile-preserved
loop-pile-preserved c =
    let took = rw c.in-Some.is at c.in_ok-next.ensures.took in
    let later = rw c.in-Some.is at c.in_ok-next.ensures.later in
    goes_on (λ (s : Stand). length s.place.rest) line_at (statements_in c.loop-pile.pile) (statements_in c.take_line.new.pile) took.0
    (stand (opens_in c.loop-pile.pile) (position c.loop-pile.place)) (stand (opens_in c.take_line.new.pile) (position c.in-Some.next))
    (all_lines (position c.args.place)) c.loop-pile.invariant took.1 later took.2

pub returns : goal.returns
returns c =
    let ended = rw c.in_default.is at c.in_ok-next.ensures.ended in
    let stays = rw c.in_default.is at c.in_ok-next.ensures.stays in
    let all = stops (λ (s : Stand). length s.place.rest) line_at (statements_in c.loop-pile.pile) (stand (opens_in c.loop-pile.pile) (position c.loop-pile.place))
    (all_lines (position c.args.place)) c.loop-pile.invariant ended in
    let read : statements_at (position c.args.place) ≡ closed (opens_in c.take_line.new.pile) (statements_in c.take_line.new.pile)
    = finished (position c.args.place) (statements_in c.loop-pile.pile) (stand (opens_in c.loop-pile.pile) (position c.loop-pile.place)) all
    ∙ ap (λ (p : Pile). closed (opens_in p) (statements_in p)) (sym stays) in
    subst (λ (r : Result (List Statement) ConfFault). Gives statements_of_items conf_fault c.finish.result r) (sym read) c.finish.ensures
