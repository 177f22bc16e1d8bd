use Rattle.cd_dialogue.proofs.Going.{went_none}
use Rattle.cd_dialogue.proofs.Inputs.{closed_early, closed_last, exceeded, finished_as, handed_input, left_off, left_off_last, more_heard, none_heard, served_all, step_waited, step_was}
use Rattle.cd_dialogue.proofs.input.serve_all.Goals as goal
use Rattle.std.proofs.Common.{[], arith}

pub returns-in_err-dialogue : goal.returns-in_err-dialogue
returns-in_err-dialogue g c = handed_input g.S.Server.serves_line g.S.Server.gives_up _ _ _ _ _ _ _ c.from_residual.ensures.1 (none_heard _ _ _ _ _)

pub loop-dialogue-init : goal.loop-dialogue-init
loop-dialogue-init g c = record { begins = c.in_ok-dialogue.ensures; done = []; size = search arith; went = went_none _ _ _ _ }

pub returns-in_err-count : goal.returns-in_err-count
returns-in_err-count g c =
    let i = c.loop-dialogue.invariant in
    handed_input g.S.Server.serves_line g.S.Server.gives_up _ _ _ _ _ _ _ c.from_residual-in_err-count.ensures.1
    (left_off _ _ _ i.begins _ _ _ _ i.done _ _ i.size i.went _ _ _ _ c.in_err-count.ensures.broke)

pub loop-dialogue-preserved : goal.loop-dialogue-preserved
loop-dialogue-preserved g c =
    let i = c.loop-dialogue.invariant in
    let more = more_heard _ _ _ i.begins _ _ _ _ i.done _ _ i.size i.went _ _ _ _ (step_was _ _ _ _ _ _ _ _ _ _ c.in-Heard.is c.in_ok-count.ensures.ok) in
    record { begins = i.begins; done = more.0; size = more.1; went = more.2 }

pub returns-in-TooLong : goal.returns-in-TooLong
returns-in-TooLong g c =
    let i = c.loop-dialogue.invariant in
    exceeded _ _ _ i.begins _ _ _ _ i.done _ _ i.size i.went _ _ _ (step_was _ _ _ _ _ _ _ _ _ _ c.in-TooLong.is c.in_ok-count.ensures.ok)

pub returns-in_err-finish-in-Ended : goal.returns-in_err-finish-in-Ended
returns-in_err-finish-in-Ended g c =
    let i = c.loop-dialogue.invariant in
    let waited = step_waited _ _ _ _ _ _ _ _ _ c.in-Ended.is c.in_ok-count.ensures.ok in
    handed_input g.S.Server.serves_line g.S.Server.gives_up _ _ _ _ _ _ _ c.from_residual-in_err-finish-in-Ended.ensures.1
    (left_off_last _ _ _ i.begins _ _ _ _ i.done _ _ i.size i.went _ _ _ waited.0 waited.1 _ _ _ _ c.in_err-finish-in-Ended.ensures.broke)

pub returns-in-Closed : goal.returns-in-Closed
returns-in-Closed g c =
    let i = c.loop-dialogue.invariant in
    closed_early _ _ _ i.begins _ _ _ _ i.done _ _ i.size i.went _ _ _ (step_was _ _ _ _ _ _ _ _ _ _ c.in-Closed.is c.in_ok-count.ensures.ok)

pub returns-in-GoOn : goal.returns-in-GoOn
returns-in-GoOn g c =
    let i = c.loop-dialogue.invariant in
    let waited = step_waited _ _ _ _ _ _ _ _ _ c.in-Ended.is c.in_ok-count.ensures.ok in
    served_all _ _ _ i.begins _ _ _ _ i.done _ _ i.size i.went _ _ _ waited.0 waited.1 _ _ _ (finished_as _ _ _ _ _ _ _ _ _ c.in-GoOn.is c.in_ok-finish-in-Ended.ensures.ok)

pub returns-in-Close : goal.returns-in-Close
returns-in-Close g c =
    let i = c.loop-dialogue.invariant in
    let waited = step_waited _ _ _ _ _ _ _ _ _ c.in-Ended.is c.in_ok-count.ensures.ok in
    closed_last _ _ _ i.begins _ _ _ _ i.done _ _ i.size i.went _ _ _ waited.0 waited.1 _ _ _ (finished_as _ _ _ _ _ _ _ _ _ c.in-Close.is c.in_ok-finish-in-Ended.ensures.ok)
