-- What a link in memory tells, and which calls on it go through.
use Rattle.cd_io.specs.Link.{LinkTells}
use Rattle.cd_io.specs.declared.memory.link.LinkPlan.{LinkPlan}
use Rattle.cd_io.specs.declared.memory.link.MemLink.{MemLink}
use Rattle.std.specs.List.{list_any}
use Rattle.std.specs.Option.{option_map}
use Rattle.std.specs.Prelude.{Bool, List, Some, [], drop, if◌then◌else◌, length, max, min, not, take, ℕ, ◌&&◌, ◌+◌, ◌-◌, ◌==◌, ◌^◌, ◌||◌}

-- what a link in memory tells; what was said is told as long as there was memory to keep it
abbrev pub tells_of : MemLink → LinkTells
tells_of link = record {
  given = Some (take link.taken link.input.items);
  left = Some (drop link.taken link.input.items);
  said = option_map (λ v. v.items) link.output;
  faults = link.faults;
  quiets = link.quiets;
}

-- what it tells before the first call, where the peer has sent these bytes
abbrev pub told_first : List ℕ → LinkTells
told_first input = record { given = Some []; left = Some input; said = Some []; faults = 0; quiets = 0 }

-- which calls don't go through
abbrev pub plan_of : MemLink → LinkPlan
plan_of link = link.plan

-- the number of the next call of `hear`
abbrev pub hears_of : MemLink → ℕ
hears_of link = link.hears

-- the number of the next call of `say`
abbrev pub says_of : MemLink → ℕ
says_of link = link.says

-- the number that follows a call's number
abbrev pub next_number : ℕ → ℕ
next_number number = min (number + 1) (2 ^ 64 - 1)

-- a number is among some
abbrev pub is_among : ℕ → List ℕ → Bool
is_among number numbers = list_any (λ one. one == number) numbers

-- a call of `hear` with this number fails
abbrev pub fails_to_hear : LinkPlan → ℕ → Bool
fails_to_hear plan number = is_among number plan.failing_hears.items

-- a call of `hear` with this number brings nothing, and doesn't fail
abbrev pub is_planned_quiet : LinkPlan → ℕ → Bool
is_planned_quiet plan number = not (fails_to_hear plan number) && is_among number plan.quiet_hears.items

-- how many bytes the next call of `hear` gives for a buffer of this length
abbrev pub planned_count : MemLink → ℕ → ℕ
planned_count link room =
    if fails_to_hear link.plan link.hears || is_planned_quiet link.plan link.hears then 0
    else min (length (drop link.taken link.input.items)) (min room (max link.plan.piece_limit 1))

-- a call of `say` with this number fails
abbrev pub fails_to_say : LinkPlan → ℕ → Bool
fails_to_say plan number = is_among number plan.failing_says.items
