-- The write queue as contracts see it, and the rule for what it drops.
use Rattle.cd_value.specs.declared.data.Offered.TheVariants.{Dropped, Kept}
use Rattle.cd_value.specs.declared.data.Offered.{Offered}
use Rattle.cd_value.specs.declared.data.ValueList.{ValueList}
use Rattle.std.specs.Prelude.{Bool, List, [], if◌then◌else◌, nat_eq, nat_le, nat_lt, not, ℕ, ◌%◌, ◌&&◌, ◌++◌, ◌+◌, ◌-◌, ◌||◌, ◌∷◌, ◌≢◌, ◌≤◌}

-- from `low` lists on some are dropped, and from `high` lists on all; a `high` of 0 is no limit
pub record Limits : Type 0 where
  pub high : ℕ
  pub low : ℕ

-- the low limit isn't above the high one, where there is one
abbrev pub AreInOrder : Limits → Type 0
AreInOrder limits = limits.high ≢ 0 → limits.low ≤ limits.high

-- the queue: its limits, the lists that wait, the first to be handled first, and for how many more there is room
pub record Queue : Type 0 where
  pub limits : Limits
  pub lists : List ValueList
  pub spare : ℕ

-- Whether a list is dropped where so many wait and the dice gave it this word: always from the high limit on, and
-- between the limits the likelier the more of them wait.
abbrev pub is_dropped : Limits → ℕ → ℕ → Bool
is_dropped limits waiting word =
    not (nat_eq limits.high 0)
    && (nat_le limits.high waiting
    || nat_le limits.low waiting
    && nat_lt (word % (1 + limits.high - limits.low)) (1 + waiting - limits.low))

abbrev pub fate_of : Limits → ℕ → ℕ → Offered
fate_of limits waiting word = if is_dropped limits waiting word then Dropped else Kept

-- the lists that wait once one more was offered: one that is kept comes last
abbrev pub after_offer : List ValueList → ValueList → Offered → List ValueList
after_offer lists list Kept = lists ++ list ∷ []
after_offer lists list Dropped = lists

-- how many more wait then
abbrev pub more_of : Offered → ℕ
more_of Kept = 1
more_of Dropped = 0

-- The fates of lists that are offered in order, by their words: each meets those that wait, the ones kept before it
-- among them.
abbrev pub fates_of : Limits → ℕ → List ℕ → List Offered
fates_of limits waiting [] = []
fates_of limits waiting (word ∷ words) =
    fate_of limits waiting word ∷ fates_of limits (waiting + more_of (fate_of limits waiting word)) words

-- the lists that wait once all of these were offered in order
abbrev pub after_offers : List ValueList → List ValueList → List Offered → List ValueList
after_offers waiting (list ∷ lists) (fate ∷ fates) = after_offers (after_offer waiting list fate) lists fates
after_offers waiting lists fates = waiting
