use Rattle.cd_dialogue.proofs.Breaking.{handed_on}
use Rattle.cd_dialogue.proofs.Closing.{went_as}
use Rattle.cd_dialogue.proofs.Stepping.{heard_bytes, step_broke, step_closed, step_heard, step_too_long}
use Rattle.cd_dialogue.proofs.dialogue.Dialogue.step.Goals as goal
use Rattle.cd_dialogue.specs.declared.dialogue.TheConstants.{PIECE}
use Rattle.std.proofs.Common.{Ok, Vec, ap, arith, inl, length, refl, vec_len, ℕ, ◌∙◌, ◌≡◌, ◌≤◌}

vec_len_is : {A : Type 0} (v : Vec ℕ A) → length v.items ≡ PIECE → vec_len v ≡ PIECE
vec_len_is v full = let is = v.ok.0 in omega (arith, is, full)

pub returns-in_err-count-clause-broke : goal.returns-in_err-count-clause-broke
returns-in_err-count-clause-broke g c =
    handed_on _ _ _ c.from_residual.ensures.1
    (inl (record { server = refl; spoke = c.in_err-count.ensures.hears.spoke; rose = c.in_err-count.ensures.hears.faults.1; quiets = c.in_err-count.ensures.hears.quiets }))

pub returns-in_err-serve_piece-in-Got-clause-broke : goal.returns-in_err-serve_piece-in-Got-clause-broke
returns-in_err-serve_piece-in-Got-clause-broke g c =
    let within : c.in-Got.count ≤ length c.hear.new.buf = rw c.in-Got.is at c.in_ok-count.ensures.got in
    let full : vec_len c.self.inside.buffer ≡ PIECE = vec_len_is c.self.inside.buffer c.self.invariant in
    handed_on _ _ _ c.from_residual-in_err-serve_piece-in-Got.ensures.1
    (step_broke c.hear.new.buf _ _ _ c.in-Got.count _ _ (c.hear.auto.buf ∙ c.as_mut_slice.ensures.len) c.deref.ensures.value within c.min-taken.ensures full _ _ _ c.self.view_is _ _ _ _ _
    (heard_bytes _ _ _ _ _ c.in-Got.is c.in_ok-count.ensures.hears) _ _ c.in_err-serve_piece-in-Got.ensures.broke)

pub returns-in-Close-clause-ok : goal.returns-in-Close-clause-ok
returns-in-Close-clause-ok g c =
    let within : c.in-Got.count ≤ length c.hear.new.buf = rw c.in-Got.is at c.in_ok-count.ensures.got in
    let full : vec_len c.self.inside.buffer ≡ PIECE = vec_len_is c.self.inside.buffer c.self.invariant in
    step_closed c.hear.new.buf _ _ _ c.in-Got.count _ _ (c.hear.auto.buf ∙ c.as_mut_slice.ensures.len) c.deref.ensures.value within c.min-taken.ensures full _ _ _ c.self.view_is _ _ _ _ _
    (heard_bytes _ _ _ _ _ c.in-Got.is c.in_ok-count.ensures.hears) _ (went_as _ _ _ _ _ _ _ _ _ _ _ c.in-Close.is c.in_ok-serve_piece-in-Got.ensures.ok)

pub returns-then-taken-count-clause-ok : goal.returns-then-taken-count-clause-ok
returns-then-taken-count-clause-ok g c =
    let within : c.in-Got.count ≤ length c.hear.new.buf = rw c.in-Got.is at c.in_ok-count.ensures.got in
    let full : vec_len c.self.inside.buffer ≡ PIECE = vec_len_is c.self.inside.buffer c.self.invariant in
    step_too_long c.hear.new.buf _ _ _ c.in-Got.count _ _ (c.hear.auto.buf ∙ c.as_mut_slice.ensures.len) c.deref.ensures.value within c.min-taken.ensures full _ _ _ c.self.view_is _ _ _ _ _
    (heard_bytes _ _ _ _ _ c.in-Got.is c.in_ok-count.ensures.hears) _ (went_as _ _ _ _ _ _ _ _ _ _ _ c.in-GoOn.is c.in_ok-serve_piece-in-Got.ensures.ok) c.if-taken-count.true

pub returns-else-taken-count-clause-ok : goal.returns-else-taken-count-clause-ok
returns-else-taken-count-clause-ok g c =
    let within : c.in-Got.count ≤ length c.hear.new.buf = rw c.in-Got.is at c.in_ok-count.ensures.got in
    let full : vec_len c.self.inside.buffer ≡ PIECE = vec_len_is c.self.inside.buffer c.self.invariant in
    step_heard c.hear.new.buf _ _ _ c.in-Got.count _ _ (c.hear.auto.buf ∙ c.as_mut_slice.ensures.len) c.deref.ensures.value within c.min-taken.ensures full _ _ _ c.self.view_is _ _ _ _ _
    (heard_bytes _ _ _ _ _ c.in-Got.is c.in_ok-count.ensures.hears) _ (went_as _ _ _ _ _ _ _ _ _ _ _ c.in-GoOn.is c.in_ok-serve_piece-in-Got.ensures.ok) (c.in_ok-count.ensures.some _ (ap Ok c.in-Got.is)) c.if-taken-count.false
