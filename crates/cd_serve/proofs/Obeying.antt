-- What a line says is done, and so it is served.
use Rattle.cd_daemon.specs.declared.Opening.{Opening}
use Rattle.cd_history.specs.History.{History}
use Rattle.cd_reading.specs.Gives.{Gives, Refuses}
use Rattle.cd_serve.proofs.Serving.{served_blank, served_flushed, served_got, served_listed, served_put, served_refused}
use Rattle.cd_serve.specs.Tells.{Pairs}
use Rattle.cd_serve.specs.Working.Progress.{HasServed, HasServedOneMore, IsNotBlank, IsRefused, Obeys, Seen, Serves, with_moment}
use Rattle.cd_sock.specs.Faults.{line_fault}
use Rattle.cd_sock.specs.Lines.{Cut}
use Rattle.cd_sock.specs.Meaning.{IsSameButTimes, meaning}
use Rattle.cd_sock.specs.declared.command.Command.TheVariants as command
use Rattle.cd_sock.specs.declared.command.Command.{Command}
use Rattle.cd_sock.specs.declared.fault.LineFault.TheVariants as faults
use Rattle.cd_sock.specs.declared.fault.LineFault.{LineFault}
use Rattle.cd_transcript.specs.Transcripts.{Said}
use Rattle.cd_value.specs.declared.data.DataSet.{DataSet}
use Rattle.cd_value.specs.declared.data.ValueList.{ValueList}
use Rattle.std.proofs.Common.{Err, IfSome, List, None, Ok, Option, Result, Some, [], ap, refl, subst, sym, ℕ, ◌∙◌, ◌≡◌}
use Rattle.std.specs.Prelude.{IsOkAnd}

-- what a line that offers lists, or asks for something, says at another moment
some_command : (command : Command) (read : Said) → IsOkAnd read (IsSameButTimes command) → (other : Command) × (read ≡ Ok other) × IsSameButTimes command other
some_command command (Ok other) h = (other, refl, h)
some_command command (Err e) h = absurd h

put_at_zero : (lists : List ValueList) (read : Said) → IsOkAnd read (IsSameButTimes (command.PutVal lists)) → (at_zero : List ValueList) × (read ≡ Ok (command.PutVal at_zero))
put_at_zero lists (Ok command.Blank) h = absurd (cc)
put_at_zero lists (Ok (command.PutVal others)) h = (others, refl)
put_at_zero lists (Ok (command.GetVal id)) h = absurd (cc)
put_at_zero lists (Ok command.ListVal) h = absurd (cc)
put_at_zero lists (Ok (command.Flush request)) h = absurd (cc)
put_at_zero lists (Err e) h = absurd h

module _ (K : Opening) (begun : Pairs) (opened : History) (lines : List Cut) (text : List ℕ) (old : Seen) (h : HasServed K begun opened lines text old) (bytes : List ℕ) (now : ℕ)
    (at : IfSome old.pairs.clock (λ pair. now ≡ pair.0)) where
  -- what the line says
  abbrev says : ℕ → Said
  says moment = meaning K.types moment K.globals.interval bytes

  obeyed : (said : Command) (answer : List ℕ) (new : Seen) → IsNotBlank bytes → says now ≡ Ok said → IsOkAnd (says 0) (IsSameButTimes said)
      → Obeys said now answer (with_moment now old) new → HasServedOneMore h (Some bytes) answer new
  obeyed command.Blank answer new not is zero obeys = absurd (not K.types now K.globals.interval is)
  obeyed (command.PutVal lists) answer new not is zero obeys =
      let first = put_at_zero lists (says 0) zero in
      served_put K begun opened lines text old h (Some bytes) now at lists first.0 answer new obeys first.1 is
  obeyed (command.GetVal id) answer new not is zero obeys =
      let first = some_command (command.GetVal id) (says 0) zero in
      served_got K begun opened lines text old h (Some bytes) now at id answer new (first.1 ∙ ap Ok (sym first.2)) obeys
  obeyed command.ListVal answer new not is zero obeys =
      let first = some_command command.ListVal (says 0) zero in
      served_listed K begun opened lines text old h (Some bytes) now at answer new (first.1 ∙ ap Ok (sym first.2)) obeys
  obeyed (command.Flush request) answer new not is zero obeys =
      let first = some_command (command.Flush request) (says 0) zero in
      served_flushed K begun opened lines text old h (Some bytes) now at request answer new obeys (first.1 ∙ ap Ok (sym first.2))

refuses_known : {A : Type 0} (fault : LineFault) (read : Result A LineFault) → line_fault fault ≡ Some fault → Refuses (line_fault fault) read → read ≡ Err fault
refuses_known fault read known is = let R : Option LineFault → Type 0 = λ f. Refuses f read in subst R known is

module _ (old at_moment : Seen) (now : ℕ) (at : IfSome old.pairs.clock (λ pair. now ≡ pair.0)) (then : at_moment ≡ with_moment now old) where
  -- what was in force when the line was read
  force : {K : Opening} {begun : Pairs} {opened : History} {lines : List Cut} {text : List ℕ} → HasServed K begun opened lines text old → at_moment.core.opening ≡ K
  force h = ap (λ (s : Seen). s.core.opening) then ∙ h.runs.stands.opening

  -- a line that was read by that
  module _ (bytes : List ℕ) where
    pub serves_command : (said : Command) (answer : List ℕ) (new : Seen) → IsNotBlank bytes
        → Gives (λ (c : Command). c) line_fault (Ok said) (meaning at_moment.core.opening.types now at_moment.core.opening.globals.interval bytes)
        → ((later other : ℕ) → IsOkAnd (meaning at_moment.core.opening.types later other bytes) (IsSameButTimes said))
        → Obeys said now answer at_moment new → Serves (Some bytes) answer old new
    serves_command said answer new not is zero obeys K begun opened lines text h =
        let Z : Opening → Type 0 = λ of. IsOkAnd (meaning of.types 0 K.globals.interval bytes) (IsSameButTimes said) in
        let O : Seen → Type 0 = λ s. Obeys said now answer s new in
        obeyed K begun opened lines text old h bytes now at said answer new not
        (sym (ap (λ (of : Opening). meaning of.types now of.globals.interval bytes) (force h)) ∙ is)
        (subst Z (force h) (zero 0 K.globals.interval))
        (subst O then obeys)

    pub serves_fault : (fault : LineFault) (answer : List ℕ) (new : Seen)
        → ((later other : ℕ) → Refuses (line_fault fault) (meaning at_moment.core.opening.types later other bytes))
        → IsRefused fault answer at_moment new → Serves (Some bytes) answer old new
    serves_fault fault answer new refuses refused K begun opened lines text h =
        let R : Seen → Type 0 = λ s. IsRefused fault answer s new in
        let is : meaning at_moment.core.opening.types 0 K.globals.interval bytes ≡ Err fault =
        refuses_known fault (meaning at_moment.core.opening.types 0 K.globals.interval bytes) refused.known (refuses 0 K.globals.interval) in
        served_refused K begun opened lines text old h (Some bytes) now at fault answer new
        (sym (ap (λ (of : Opening). meaning of.types 0 K.globals.interval bytes) (force h)) ∙ is)
        (subst R then refused)

  pub serves_too_long : (answer : List ℕ) (new : Seen) → IsRefused faults.LineTooLong answer at_moment new → Serves None answer old new
  serves_too_long answer new refused K begun opened lines text h =
      let R : Seen → Type 0 = λ s. IsRefused faults.LineTooLong answer s new in
      served_refused K begun opened lines text old h None now at faults.LineTooLong answer new refl (subst R then refused)

serves_blank : (old : Seen) (bytes : List ℕ) → ((types : List DataSet) (now interval : ℕ) → meaning types now interval bytes ≡ Ok command.Blank) → Serves (Some bytes) [] old old
serves_blank old bytes is K begun opened lines text h = served_blank K begun opened lines text old h (Some bytes) (is K.types 0 K.globals.interval)

-- a line that is blank at each moment
pub serves_blank_as : (old : Seen) (bytes : List ℕ) (line : Cut) (reply : List ℕ) → line ≡ Some bytes → reply ≡ []
    → ((types : List DataSet) (now interval : ℕ) → meaning types now interval bytes ≡ Ok command.Blank) → Serves line reply old old
serves_blank_as old bytes line reply is empty are =
    let L : Cut → Type 0 = λ l. Serves l reply old old in
    let R : List ℕ → Type 0 = λ r. Serves (Some bytes) r old old in
    subst L (sym is) (subst R (sym empty) (serves_blank old bytes are))
