-- What one step of a dialogue hears, and what it takes of that.
use Rattle.cd_dialogue.proofs.Breaking.{broke_heard, broke_in_step}
use Rattle.cd_dialogue.proofs.Closing.{closed_heard}
use Rattle.cd_dialogue.proofs.Going.{went_heard}
use Rattle.cd_dialogue.specs.Dialogues.{Broke, StepBroke, Steps, WasClosed, WentOn, ended_in}
use Rattle.cd_dialogue.specs.Exchanges.{Exchanged}
use Rattle.cd_dialogue.specs.declared.dialogue.TheConstants.{PIECE}
use Rattle.cd_dialogue.specs.declared.ends.DialogueFault.{DialogueFault}
use Rattle.cd_dialogue.specs.declared.ends.Step.TheVariants.{Closed, Heard as Hear, TooLong}
use Rattle.cd_dialogue.specs.declared.server.Next.{Next}
use Rattle.cd_io.specs.Link.{Hears, LinkTells}
use Rattle.cd_io.specs.declared.traits.Heard.TheVariants.{Got}
use Rattle.cd_io.specs.declared.traits.Heard.{Heard}
use Rattle.cd_sock.specs.Lines.{Cut}
use Rattle.std.proofs.Common.{List, Ok, [], ap, arith, drop, inl, inr, length, length-take, min, subst, sym, take, ℕ, ◌++◌, ◌<◌, ◌∙◌, ◌≡◌, ◌≤◌}
use Rattle.std.proofs.lemmas.Bool.{cases_lt}
use Rattle.std.proofs.lemmas.List.{take-append-le, take-take, take_all}

-- the bytes that a link put into a buffer
pub heard_bytes : (answer : Heard) (count : ℕ) (buffer : List ℕ) (before after : LinkTells) → answer ≡ Got count
    → Hears (Ok answer) buffer before after → Exchanged (take count buffer) [] before after
heard_bytes answer count buffer before after is h =
    let P : Heard → Type 0 = λ a. Hears (Ok a) buffer before after in
    let g : Hears (Ok (Got count)) buffer before after = subst P is h in
    record { spoke = g.spoke; faults = g.faults; quiets = g.quiets }

-- the buffer is read again as the link left it
buffer_as_left : (buffer read items : List ℕ) (len : ℕ) → length buffer ≡ len → read ≡ take len (buffer ++ drop (length buffer) items) → read ≡ buffer
buffer_as_left buffer read items len same is =
    is ∙ take-append-le len buffer (drop (length buffer) items) (omega (arith, same)) ∙ take_all len buffer (omega (arith, same))

-- of what was heard the first bytes are taken
taken_of : (buffer : List ℕ) (count room taken : ℕ) → count ≤ length buffer → taken ≡ min count room → take taken buffer ≡ take room (take count buffer)
taken_of buffer count room taken within fit = elim (cases_lt room count) [
  | inl less ↦
      let at : taken ≡ room = omega (arith, fit, less) in
      ap (λ (n : ℕ). take n buffer) at ∙ sym (take-take room count buffer (omega (arith, less)))
  | inr all ↦
      let at : taken ≡ count = omega (arith, fit, all) in
      ap (λ (n : ℕ). take n buffer) at ∙ sym (take_all room (take count buffer) (omega (arith, all, length-take count buffer)))
]

module _ (buffer read items : List ℕ) (len count room taken : ℕ)
    (same : length buffer ≡ len) (is : read ≡ take len (buffer ++ drop (length buffer) items))
    (within : count ≤ length buffer) (fit : taken ≡ min count room)
    (piece : len ≡ PIECE) {S : Type 0} (serves : Next → Cut → List ℕ → S → S → Type 0) (held inside : Cut) (at_first : inside ≡ held) (old new : S) (before then after : LinkTells)
    (p : Exchanged (take count buffer) [] before then) where
  taken_is : take taken read ≡ take room (take count buffer)
  taken_is = ap (take taken) (buffer_as_left buffer read items len same is) ∙ taken_of buffer count room taken within fit

  many : length (take count buffer) ≡ count
  many = omega (arith, within, length-take count buffer)

  in_piece : length (take count buffer) ≤ PIECE
  in_piece = omega (arith, within, same, piece, many)

  -- it broke off
  pub step_broke : (gives_up : Cut → S → S → Type 0) (fault : DialogueFault) → Broke serves gives_up fault (ended_in (take taken read)) inside old new then after []
      → StepBroke serves gives_up held old new before after room fault
  step_broke gives_up fault b =
      let C : Cut → Type 0 = λ c. Broke serves gives_up fault (ended_in (take taken read)) c old new then after [] in
      let B : List ℕ → Type 0 = λ bytes. Broke serves gives_up fault (ended_in bytes) held old new then after [] in
      broke_in_step serves gives_up fault held old new before after room
      (take count buffer, broke_heard serves gives_up fault held old new before then after (take count buffer) _ p (subst B taken_is (subst C at_first b)))

  -- the server closed it
  pub step_closed : (held' : Cut) → WasClosed serves inside held' old new then after (ended_in (take taken read)) []
      → Steps serves held held' old new before after room Closed
  step_closed held' c =
      let C : Cut → Type 0 = λ at. WasClosed serves at held' old new then after (ended_in (take taken read)) [] in
      let B : List ℕ → Type 0 = λ bytes. WasClosed serves held held' old new then after (ended_in bytes) [] in
      (take count buffer, in_piece, closed_heard serves held held' _ old new before then after (take count buffer) p (subst B taken_is (subst C at_first c)))

  module _ (held' : Cut) (w : WentOn serves inside held' old new then after [] (take taken read)) where
    went : WentOn serves held held' old new before after (take count buffer) (take room (take count buffer))
    went =
        let C : Cut → Type 0 = λ c. WentOn serves c held' old new then after [] (take taken read) in
        let B : List ℕ → Type 0 = λ bytes. WentOn serves held held' old new then after [] bytes in
        went_heard serves held held' old new before then after (take count buffer) _ p (subst B taken_is (subst C at_first w))

    -- more came than is taken
    pub step_too_long : taken < count → Steps serves held held' old new before after room TooLong
    step_too_long less = (take count buffer, omega (arith, less, fit, many), in_piece, went)

    -- all that was heard was taken
    pub step_heard : 0 < count → count ≤ taken → Steps serves held held' old new before after room (Hear count)
    step_heard some all = (
      take count buffer,
      many,
      some,
      omega (arith, all, fit),
      omega (arith, in_piece, many),
      let B : List ℕ → Type 0 = λ bytes. WentOn serves held held' old new before after (take count buffer) bytes in
          subst B (take_all room (take count buffer) (omega (arith, all, fit, many))) went,
    )
