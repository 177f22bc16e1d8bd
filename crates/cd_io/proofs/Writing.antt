-- What a writer holds over calls of `write` that fail.
use Rattle.std.proofs.Common.{List, None, Option, Some, refl, ℕ}
use Rattle.std.specs.Io.KnownBytes.{Keeps}

-- no call
pub keeps_none : (told : Option (List ℕ)) → Keeps told told
keeps_none None = tt
keeps_none (Some x) = refl
