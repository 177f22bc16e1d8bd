use Rattle.cd_core.proofs.Begun.{began, not_begun}
use Rattle.cd_core.proofs.state.Core.flush_begin.Goals as goal
use Rattle.cd_daemon.specs.Flushes.{counted, flush_calls_to, names_meant}
use Rattle.cd_core.specs.Posting.{posted_live}
use Rattle.cd_core.specs.declared.flush.Flush.{Flush}
use Rattle.cd_daemon.specs.Performing.{Post}
use Rattle.std.proofs.Common.{List, Option, [], ap, length, not, is_some, refl, rules, ℕ, ◌*◌, ◌++◌, ◌+◌, ◌∙◌, ◌∷◌, ◌≡◌}
use Rattle.std.specs.List.{filter, flat_map}

pub returns-then-self-clause-step : goal.returns-then-self-clause-step
returns-then-self-clause-step g c = λ actor. not_begun _ actor c.args.request.now c.if-self.true

pub returns-clause-step : goal.returns-clause-step
returns-clause-step g c = λ actor.
    let number : ℕ = c.args.self.now.begun in
    let posts : List Post = c.in-Ok-calls_of.posts.items in
    let next : c.in-Some.next ≡ number + 1 = search rules in
    began _ _ _ actor number c.in-Some.next c.args.request.now c.in-Ok.plugins.items posts c.missed.result c.if-self.false refl next c.in-Ok.ensures
    (c.in-Ok-calls_of.ensures ∙ ap (flat_map (flush_calls_to number c.args.request.now)) c.as_slice.ensures.value)
    (c.missed.ensures ∙ ap (λ (plugins : List (Option ℕ)). counted (length (filter (λ plugin. not (is_some plugin)) plugins) * length (names_meant c.args.request.now))) c.as_slice-3.ensures.value)
    (c.post_all.ensures.rows ∙ ap (posted_live posts) c.reserve_all.ensures.rows)
    (c.push_reserved.ensures.items
    ∙ ap (λ (flushes : List Flush). flushes ++ record { number = number; unanswered = c.len-unanswered.result; successful = 0; errors = c.missed.result } ∷ []) c.reserve.ensures.items
    ∙ ap (λ (n : ℕ). c.args.self.now.flushes.items ++ record { number = number; unanswered = n; successful = 0; errors = c.missed.result } ∷ []) (c.len-unanswered.ensures ∙ c.in-Ok-calls_of.posts.ok.0))
