use Rattle.cd_sock.proofs.Frames.{done_framed, fault_framed, flushed_framed, rates_framed, refusal_framed}
use Rattle.cd_sock.proofs.reply.print_reply.Goals as goal
use Rattle.cd_sock.specs.Framing.{HasPlainNames, IsFramed, is_one_line}
use Rattle.cd_sock.specs.Replies.{flushed_line, rate_lines, values_found, with_newline}
use Rattle.cd_sock.specs.declared.reply.Reply.TheVariants.{Listed}
use Rattle.cd_sock.specs.declared.reply.Reply.{Reply}
use Rattle.std.proofs.Common.{List, ap, length, refl, subst, sym, ℕ, ◌++◌, ◌∙◌, ◌≡◌}
use Rattle.std.proofs.lemmas.Result.{IfOk-weaker}
use Rattle.std.specs.List.{list_all}
use Rattle.std.specs.Prelude.{codes}

-- a text that is framed
abbrev at : {text other : List ℕ} → text ≡ other → IsFramed other → IsFramed text
at {text} {other} same framed = subst (λ (t : List ℕ). IsFramed t) (sym same) framed

pub returns-in-Success-clause-framed : goal.returns-in-Success-clause-framed
returns-in-Success-clause-framed c =
    IfOk-weaker c.of.result (λ (text : List ℕ). text ≡ with_newline (codes "0 Success")) (λ (text : List ℕ). HasPlainNames c.args.reply.now → IsFramed text) (λ text same plain. at same (done_framed (codes "Success") refl)) c.of.ensures

pub returns-in-Got-clause-framed : goal.returns-in-Got-clause-framed
returns-in-Got-clause-framed c =
    IfOk-weaker c.print_rates.result (λ (text : List ℕ). text ≡ values_found (length c.as_slice.result.now) ++ rate_lines c.as_slice.result.now c.as_slice-in-Got.result.now)
    (λ (text : List ℕ). HasPlainNames c.args.reply.now → IsFramed text)
    (λ text same plain. at same (rates_framed c.as_slice.result.now c.as_slice-in-Got.result.now c.print_rates.ensures.few
    (ap (list_all is_one_line) c.as_slice.ensures ∙ subst (λ (reply : Reply). HasPlainNames reply) c.in-Got.is plain))) c.print_rates.ensures.text

pub returns-in-Listed-clause-framed : goal.returns-in-Listed-clause-framed
returns-in-Listed-clause-framed c =
    IfOk-weaker c.print_listed.result (λ (text : List ℕ). HasPlainNames (Listed c.as_slice-in-Listed.result.now) → IsFramed text) (λ (text : List ℕ). HasPlainNames c.args.reply.now → IsFramed text)
    (λ text framed plain. framed (ap (list_all (λ row. is_one_line row.1)) c.as_slice-in-Listed.ensures ∙ subst (λ (reply : Reply). HasPlainNames reply) c.in-Listed.is plain)) c.print_listed.ensures.framed

pub returns-in-Fault-clause-framed : goal.returns-in-Fault-clause-framed
returns-in-Fault-clause-framed c =
    IfOk-weaker c.of-in-Fault.result (λ (text : List ℕ). text ≡ c.fault_line.result.now) (λ (text : List ℕ). HasPlainNames c.args.reply.now → IsFramed text)
    (λ text same plain. at (same ∙ c.fault_line.ensures) (fault_framed c.in-Fault.fault)) c.of-in-Fault.ensures

pub returns-in-NoSuchValue-clause-framed : goal.returns-in-NoSuchValue-clause-framed
returns-in-NoSuchValue-clause-framed c =
    IfOk-weaker c.of-in-NoSuchValue.result (λ (text : List ℕ). text ≡ with_newline (codes "-1 No such value")) (λ (text : List ℕ). HasPlainNames c.args.reply.now → IsFramed text)
    (λ text same plain. at same (refusal_framed (codes "No such value") refl)) c.of-in-NoSuchValue.ensures

pub returns-in-Flushed-clause-framed : goal.returns-in-Flushed-clause-framed
returns-in-Flushed-clause-framed c =
    IfOk-weaker c.print_flushed.result (λ (text : List ℕ). text ≡ flushed_line c.in-Flushed.successful c.in-Flushed.errors) (λ (text : List ℕ). HasPlainNames c.args.reply.now → IsFramed text)
    (λ text same plain. at same (flushed_framed c.in-Flushed.successful c.in-Flushed.errors)) c.print_flushed.ensures

pub returns-in-Stopping-clause-framed : goal.returns-in-Stopping-clause-framed
returns-in-Stopping-clause-framed c =
    IfOk-weaker c.of-in-Stopping.result (λ (text : List ℕ). text ≡ with_newline (codes "-1 Stopping")) (λ (text : List ℕ). HasPlainNames c.args.reply.now → IsFramed text)
    (λ text same plain. at same (refusal_framed (codes "Stopping") refl)) c.of-in-Stopping.ensures
