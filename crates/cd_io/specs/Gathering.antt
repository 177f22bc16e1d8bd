-- What a gathering link keeps.
use Rattle.cd_io.specs.declared.gathering.Gathering.{Gathering}
use Rattle.cd_io.specs.declared.traits.Failed.{Failed}
use Rattle.cd_io.specs.declared.traits.Heard.TheVariants.{End, Got, Quiet}
use Rattle.cd_io.specs.declared.traits.Heard.{Heard}
use Rattle.std.specs.Prelude.{Bool, Err, List, Ok, Result, false, length, nat_le, not, true, ℕ, ◌&&◌, ◌-◌}

-- what was said to it and not yet to the inner link
abbrev pub kept_of : {L : Type 0} → Gathering L → List ℕ
kept_of link = link.kept.items

-- the inner link
abbrev pub inner_of : {L : Type 0} → Gathering L → L
inner_of link = link.link

-- whether it says all at once, since the end or a quiet was heard
abbrev pub is_through : {L : Type 0} → Gathering L → Bool
is_through link = link.through

-- how many bytes it keeps at most
abbrev pub room_of : {L : Type 0} → Gathering L → ℕ
room_of link = link.room

-- a text is to be kept, and there is room for it behind what is kept
abbrev pub has_room : {L : Type 0} → Gathering L → List ℕ → Bool
has_room link text = not link.through && nat_le (length text) (link.room - length link.kept.items)

-- a text is to be kept, and there is room for it once nothing else is kept
abbrev pub fits_empty : {L : Type 0} → Gathering L → List ℕ → Bool
fits_empty link text = not link.through && nat_le (length text) link.room

-- the end or a quiet was heard
abbrev pub has_stopped : Result Heard Failed → Bool
has_stopped (Ok (Got n)) = false
has_stopped (Ok End) = true
has_stopped (Ok Quiet) = true
has_stopped (Err fault) = false
