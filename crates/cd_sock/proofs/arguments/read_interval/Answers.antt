use Rattle.cd_sock.proofs.Intervals.{interval_at_last}
use Rattle.cd_sock.proofs.arguments.read_interval.Goals as goal
use Rattle.cd_sock.specs.declared.fault.LineFault.TheVariants.{BadTime}
use Rattle.std.proofs.Common.{Option, ap, sym, ℕ, ◌∙◌}
use Rattle.std.specs.Prelude.{ok_or}

pub returns : goal.returns
returns c =
    c.ok_or.ensures.value ∙ ap (λ (o : Option ℕ). ok_or o BadTime) c.interval_of.ensures
    ∙ interval_at_last c.args.options.now c.in-Some.earlier.now c.in-Some.last.now c.args.global c.in-Some.ensures.cases.0
    (sym c.all_intervals.ensures ∙ c.if-not-all_intervals.false) (sym c.all_give_intervals.ensures ∙ c.if-not-all_give_intervals.false)
