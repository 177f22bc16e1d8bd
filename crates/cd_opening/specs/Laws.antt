-- Laws of what files come to.
use Rattle.cd_io.specs.World.{FileTells}
use Rattle.cd_opening.specs.Opened.{ComesTo, MayHaveBigPattern}
use Rattle.cd_opening.specs.declared.fault.OpeningFault.TheVariants as faults
use Rattle.cd_opening.specs.declared.fault.OpeningFault.{OpeningFault}
use Rattle.cd_opening.specs.declared.opening.Opened.{Opened}
use Rattle.std.specs.Prelude.{Err, List, Ok, Result, Some, ℕ, ◌≡◌}

-- The texts of files decide the answer: no call failed, memory was enough, and it isn't a bad pattern at the line of
-- one that may be too big.
abbrev pub IsOfTexts : List ℕ → List FileTells → Result Opened OpeningFault → Type 0
IsOfTexts path told (Ok found) = Unit {0}
IsOfTexts path told (Err (faults.Conf fault)) = Unit {0}
IsOfTexts path told (Err (faults.Types at fault)) = Unit {0}
IsOfTexts path told (Err (faults.Settings fault)) = MayHaveBigPattern path (Some told) fault → ⊥
IsOfTexts path told (Err _) = ⊥

-- where the files are told, that is one answer
abbrev pub TextsHaveOneAnswer : Type 0
TextsHaveOneAnswer = (path : List ℕ) (told : List FileTells) (a b : Result Opened OpeningFault)
    → ComesTo path (Some told) a → ComesTo path (Some told) b
    → IsOfTexts path told a → IsOfTexts path told b → a ≡ b
