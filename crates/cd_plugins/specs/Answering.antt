-- The answers of a plug-in that gives those of its list.
use Rattle.cd_registry.specs.declared.calls.Answer.TheVariants.{Done}
use Rattle.cd_registry.specs.declared.calls.Answer.{Answer}
use Rattle.std.specs.Prelude.{List, slice_get, unwrap_or, ℕ}

-- the answer of the list at a place, and Done behind its end
abbrev pub answer_at : List Answer → ℕ → Answer
answer_at answers place = unwrap_or (slice_get answers place) Done
