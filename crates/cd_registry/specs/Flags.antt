-- Flags in order as contracts see them.
use Rattle.std.specs.Prelude.{Bool, List, ℕ}

-- the flags, and for how many more there is room
pub record FlagList : Type 0 where
  pub flags : List Bool
  pub spare : ℕ
