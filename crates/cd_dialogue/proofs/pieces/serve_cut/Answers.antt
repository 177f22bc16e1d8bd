use Rattle.cd_dialogue.proofs.Breaking.{at_cut, handed_on, line_given_up, reply_cut_short}
use Rattle.cd_dialogue.proofs.Serving.{reply_said}
use Rattle.cd_dialogue.proofs.pieces.serve_cut.Goals as goal
use Rattle.cd_dialogue.specs.declared.ends.DialogueFault.TheVariants.{Link, Memory}
use Rattle.cd_io.specs.Link.{SaidInPart}
use Rattle.cd_sock.specs.Lines.{content}
use Rattle.std.proofs.Common.{List, ap, subst, ℕ, ◌∙◌}
use Rattle.std.specs.Option.{option_map}

pub returns-in_err-response-clause-broke : goal.returns-in_err-response-clause-broke
returns-in_err-response-clause-broke g c =
    handed_on _ _ _ c.from_residual.ensures.1
    (at_cut _ _ Memory _ _ _ _ _ _ (ap (option_map content) c.in-Some.is) (line_given_up _ _ _ _ _ _ c.in_err-response.ensures.gave_up))

pub returns-in_err-say_all-clause-broke : goal.returns-in_err-say_all-clause-broke
returns-in_err-say_all-clause-broke g c =
    let said : SaidInPart c.in_ok-response.response.reply (g.L.Link.link_tells c.args.link.now) (g.L.Link.link_tells c.say_all.new.link) =
    let P : List ℕ → Type 0 = λ w. SaidInPart w (g.L.Link.link_tells c.args.link.now) (g.L.Link.link_tells c.say_all.new.link) in
    subst P (c.as_bytes.ensures.value ∙ c.as_str.ensures) c.in_err-say_all.ensures.err in
    handed_on _ _ _ c.from_residual-in_err-say_all.ensures.1
    (at_cut _ _ Link _ _ _ _ _ _ (ap (option_map content) c.in-Some.is) (reply_cut_short _ _ _ _ _ _ _ _ _ c.in_ok-response.ensures.served said c.in_err-say_all.ensures.quiets))

pub returns-clause-ok : goal.returns-clause-ok
returns-clause-ok g c =
    reply_said g.S.Server.serves_line _ _ _ _ _ c.args.server.now c.serve.new.self _ _ (ap (option_map content) c.in-Some.is) (c.as_bytes.ensures.value ∙ c.as_str.ensures) c.in_ok-response.ensures.served
    (record { spoke = c.in_ok-say_all.ensures.ok; faults = c.in_ok-say_all.ensures.faults; quiets = c.in_ok-say_all.ensures.quiets })
