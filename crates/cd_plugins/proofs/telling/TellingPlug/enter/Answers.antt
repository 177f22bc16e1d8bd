use Rattle.cd_plugins.proofs.telling.TellingPlug.enter.Goals as goal
use Rattle.cd_registry.specs.declared.calls.Answer.{Answer}
use Rattle.std.proofs.Common.{List, ap, arith, drop, inl, inr, length, min, sym, ℕ, ◌+◌, ◌-◌, ◌<◌, ◌^◌, ◌∙◌, ◌≡◌, ◌≤◌, ◌⊎◌}
use Rattle.std.proofs.lemmas.Bool.{cases_lt}
use Rattle.std.proofs.lemmas.List.{drop-drop, drop_all}

-- one more answer given leaves those behind it, also where the count of given ones stands still, far behind them
one_fewer : (answers : List Answer) (given next : ℕ) → length answers < 2 ^ 64 → next ≡ min (given + 1) (2 ^ 64 - 1) → drop next answers ≡ drop 1 (drop given answers)
one_fewer answers given next few e = step (cases_lt given (2 ^ 64 - 1)) ∙ sym (drop-drop 1 given answers)
  where
    step : (given < 2 ^ 64 - 1) ⊎ (2 ^ 64 - 1 ≤ given) → drop next answers ≡ drop (given + 1) answers
    step (inl below) = let same : next ≡ given + 1 = omega arith in ap (λ n. drop n answers) same
    step (inr at) = drop_all next answers (omega arith) ∙ sym (drop_all (given + 1) answers (omega arith))

pub returns-clause-order : goal.returns-clause-order
returns-clause-order c =
    let few : length c.args.self.now.answers.items < 2 ^ 64 = omega arith in
    one_fewer c.args.self.now.answers.items c.args.self.now.entered c.saturating_add-self.result few c.saturating_add-self.ensures
