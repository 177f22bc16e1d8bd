-- A fraction in millionths.
use Rattle.cd_value.specs.declared.numbers.TheConstants.{MILLIONTHS, NUMBER_LIMIT}
use Rattle.std.specs.Prelude.{None, Option, Some, if◌then◌else◌, nat_lt, ℕ, ◌*◌, ◌/◌, ◌^◌}

-- a number is in range up to so many whole ones
abbrev pub ones_limit : ℕ
ones_limit = NUMBER_LIMIT / MILLIONTHS

-- the whole millionths in numerator / denominator, and none where that fraction is out of range
unfoldable pub bounded_millionths : ℕ → ℕ → Option ℕ
bounded_millionths numerator denominator =
    if nat_lt (ones_limit * denominator) numerator then None
    else Some (numerator * MILLIONTHS / denominator)

-- the same of n * 10^up / 10^down
abbrev pub scaled_millionths : ℕ → ℕ → ℕ → Option ℕ
scaled_millionths n up down = bounded_millionths (n * 10 ^ up) (10 ^ down)
