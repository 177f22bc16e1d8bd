-- What moments, words and calls do to what the outside of a daemon tells.
use Rattle.cd_core.specs.Seen.{CoreSeen}
use Rattle.cd_core.specs.Stands.{Stands}
use Rattle.cd_daemon.specs.Answers.{next_call, ready}
use Rattle.cd_daemon.specs.declared.Opening.{Opening}
use Rattle.cd_history.specs.History.{History, ◌▸◌}
use Rattle.cd_history.specs.declared.entry.Entry.TheVariants as entry
use Rattle.cd_history.specs.declared.given.Given.{Given}
use Rattle.cd_io.specs.Told.{clock_after, dice_after}
use Rattle.cd_registry.specs.declared.calls.Answer.{Answer}
use Rattle.cd_registry.specs.declared.calls.Call.{Call}
use Rattle.cd_serve.specs.Tells.{Pairs, moments, words}
use Rattle.std.specs.Option.{option_map}
use Rattle.std.specs.Prelude.{IfSome, List, Option, Some, [], ℕ, ◌∷◌, ◌≡◌}

abbrev pub after_moment : Pairs → Pairs
after_moment pairs = record { clock = option_map clock_after pairs.clock; dice = pairs.dice }

abbrev pub after_word : Pairs → Pairs
after_word pairs = record { clock = pairs.clock; dice = option_map dice_after pairs.dice }

-- these are the first numbers of what tells, and then it tells the last pair
abbrev pub GaveUpTo : (ℕ × ℕ → ℕ × ℕ) → Option (ℕ × ℕ) → List ℕ → Option (ℕ × ℕ) → Type 0
GaveUpTo after begun [] last = last ≡ begun
GaveUpTo after begun (n ∷ numbers) last =
    IfSome begun (λ pair. n ≡ pair.0) × GaveUpTo after (option_map after begun) numbers last

-- a clock and dice gave what was given, in order, and then tell the last pairs
pub record GaveAllUpTo (begun last : Pairs) (given : List Given) : Type 0 where
  pub moments : GaveUpTo clock_after begun.clock (moments given) last.clock
  pub words : GaveUpTo dice_after begun.dice (words given) last.dice

-- the least plug-in that was ready was taken for its oldest call, entered, and brought home with this answer
pub record Calls (K : Opening) (P : History) (answer : Answer) (new : CoreSeen) : Type 0 where
  pub reg : ℕ
  pub call : Call
  pub was_ready : ready K P ≡ Some reg
  pub its_call : next_call K P reg ≡ Some call
  pub stands : Stands K new (P ▸ entry.Take 0 reg call ▸ entry.Done 0 reg answer)

-- .. whatever is in force, and after any history
abbrev pub WasCalled : Answer → CoreSeen → CoreSeen → Type 0
WasCalled answer old new = (K : Opening) (P : History) → Stands K old P → Calls K P answer new
