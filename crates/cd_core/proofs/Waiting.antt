-- How many calls wait after a step.
use Rattle.cd_core.specs.Seen.{calls_waiting}
use Rattle.cd_registry.specs.Rows.{At, IsReady, Row, after_give, after_take, is_plug_home, with_row}
use Rattle.cd_registry.specs.declared.plug.PlugTells.{PlugTells}
use Rattle.std.proofs.Common.{List, [], arith, length, length-drop, nat_eq, not, refl, suc, zero, ℕ, ◌+◌, ◌∷◌, ◌≡◌, ◌≢◌}
use Rattle.std.proofs.lemmas.Bool.{and_parts, eqb-false, not-true}
use Rattle.std.proofs.lemmas.List.Sums.{sum_by-cons}

abbrev waits : Row → ℕ
waits row = length row.waiting

-- a call was taken
pub waiting_fewer : (rows : List Row) (reg actor : ℕ) → At rows reg IsReady → calls_waiting rows ≡ calls_waiting (with_row reg (after_take actor) rows) + 1
waiting_fewer [] reg actor at = absurd at
waiting_fewer (row ∷ rows) zero actor at =
    let some : length row.waiting ≢ 0 = eqb-false (length row.waiting) 0 (not-true (nat_eq (length row.waiting) 0) (and_parts (is_plug_home row.place) (not (nat_eq (length row.waiting) 0)) at).1) in
    omega (arith, some, sum_by-cons waits row rows, sum_by-cons waits (after_take actor row) rows, length-drop 1 row.waiting)
waiting_fewer (row ∷ rows) (suc reg) actor at =
    omega (arith, sum_by-cons waits row rows, sum_by-cons waits row (with_row reg (after_take actor) rows), waiting_fewer rows reg actor at)

-- a plug-in came home
pub waiting_same : (rows : List Row) (reg : ℕ) (told : PlugTells) → calls_waiting (with_row reg (after_give told) rows) ≡ calls_waiting rows
waiting_same [] reg told = refl
waiting_same (row ∷ rows) zero told = refl
waiting_same (row ∷ rows) (suc reg) told =
    omega (arith, sum_by-cons waits row rows, sum_by-cons waits row (with_row reg (after_give told) rows), waiting_same rows reg told)
