-- What a source of datagrams tells, and what a call on it does to that.
use Rattle.cd_io.specs.Causes.{Counts}
use Rattle.cd_io.specs.Link.{is_quiet}
use Rattle.cd_io.specs.Told.{Adds, Loses}
use Rattle.cd_io.specs.declared.traits.Failed.{Failed}
use Rattle.cd_io.specs.declared.traits.Heard.TheVariants.{End, Got, Quiet}
use Rattle.cd_io.specs.declared.traits.Heard.{Heard}
use Rattle.std.specs.Prelude.{Err, IfSome, List, Ok, Option, Result, [], is_err, take, ℕ, ◌∷◌, ◌≡◌, ◌≤◌}

-- What a source of datagrams tells: the datagrams that it gave and those that it has left, where it tells them; how
-- many calls failed, and how many times none came within its limit of waiting.
pub record PacketsTell : Type 0 where
  pub given : Option (List (List ℕ))
  pub left : Option (List (List ℕ))
  pub faults : ℕ
  pub quiets : ℕ

-- in some calls these datagrams came
pub record Came (datagrams : List (List ℕ)) (before after : PacketsTell) : Type 0 where
  pub given : Adds datagrams before.given after.given
  pub left : Loses datagrams before.left after.left
  pub faults : before.faults ≤ after.faults
  pub quiets : before.quiets ≤ after.quiets

-- none is left, where the source tells it
abbrev pub HasNoMore : PacketsTell → Type 0
HasNoMore source = IfSome source.left (λ datagrams. datagrams ≡ [])

-- the datagram that came: the first bytes of the buffer; none at the end, in the quiet and at a fault
abbrev pub datagrams_in : Result Heard Failed → List ℕ → List (List ℕ)
datagrams_in (Ok (Got n)) buffer = take n buffer ∷ []
datagrams_in (Ok End) buffer = []
datagrams_in (Ok Quiet) buffer = []
datagrams_in (Err fault) buffer = []

-- what a call of `next` does that had this answer, and left these bytes in the buffer
pub record Nexts (answer : Result Heard Failed) (buffer : List ℕ) (before after : PacketsTell) : Type 0 where
  pub came : Came (datagrams_in answer buffer) before after
  pub ended : answer ≡ Ok End → HasNoMore before
  pub quiets : Counts (is_quiet answer) before.quiets after.quiets
  pub faults : Counts (is_err answer) before.faults after.faults
