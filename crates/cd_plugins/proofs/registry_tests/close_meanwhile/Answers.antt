use Rattle.cd_registry.proofs.Ats.{at_kept}
use Rattle.cd_plugins.proofs.registry_tests.close_meanwhile.Goals as goal
use Rattle.cd_registry.specs.Faults.{retire_fault}
use Rattle.cd_registry.specs.Registry.{rows}
use Rattle.cd_registry.specs.Rows.{At, IsPlugOut, Row, after_close, with_row}
use Rattle.cd_registry.specs.declared.faults.NotRegistered.{NotRegistered}
use Rattle.cd_registry.specs.declared.faults.RetireFault.{RetireFault}
use Rattle.std.proofs.Common.{Bool, Err, IfOk, IsSomeAnd, List, None, Ok, OnErr, Option, Result, Some, false, refl, slice_get, subst, sym, true, ℕ, ◌≡◌}
use Rattle.std.specs.Result.{result_err}

kept_by_close : (r : Result ℕ NotRegistered) (old new : List Row) (i : ℕ) → IfOk r (λ n. new ≡ with_row n after_close old) → OnErr r (new ≡ old) → At old i IsPlugOut → At new i IsPlugOut
kept_by_close (Ok n) old new i closed same at =
    let P : List Row → Type 0 = λ rows. At rows i IsPlugOut in
    subst P (sym closed) (at_kept old n i after_close IsPlugOut (λ row out. record { actor = out.actor; out = out.out }) at)
kept_by_close (Err why) old new i closed same at = let P : List Row → Type 0 = λ rows. At rows i IsPlugOut in subst P (sym same) at

by_life : (live : Bool) (row : Row) → IsPlugOut row → row.live ≡ live → None ≡ retire_fault (Some row) → ⊥
by_life true row out life none = cc (rw life at none)
by_life false row out life none = cc (rw (life, out.out) at none)

refused : (found : Option Row) → IsSomeAnd found IsPlugOut → None ≡ retire_fault found → ⊥
refused (Some row) out none = by_life row.live row out refl none
refused None out none = out

kept_by_retire : {M : Type 0} (r : Result M RetireFault) (old new : List Row) (i : ℕ) → result_err r ≡ retire_fault (slice_get old i) → OnErr r (new ≡ old) → At old i IsPlugOut → At new i IsPlugOut
kept_by_retire (Ok member) old new i fault same at = absurd (refused (slice_get old i) at fault)
kept_by_retire (Err why) old new i fault same at = let P : List Row → Type 0 = λ rows. At rows i IsPlugOut in subst P (sym same) at

pub returns : goal.returns
returns g c =
    let old = rows g.P.TellsCalls.plug_tells g.Q.TellsReadings.probe_tells c.args.registry.now in
    let closed = rows g.P.TellsCalls.plug_tells g.Q.TellsReadings.probe_tells c.close-closed.new.self in
    let new = rows g.P.TellsCalls.plug_tells g.Q.TellsReadings.probe_tells c.retire.new.self in
    kept_by_retire c.retire.result closed new c.args.reg c.retire.ensures.fault c.retire.ensures.err
    (kept_by_close c.close-closed.result old closed c.args.reg c.close-closed.ensures.ok c.close-closed.ensures.err c.requires)
