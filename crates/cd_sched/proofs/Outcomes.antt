-- What follows from an outcome that is known.
use Rattle.std.proofs.Common.{Err, None, Ok, Option, Result, Some}
use Rattle.std.specs.Prelude.{IfSome, IsOk, IsSome, OnOk}

pub ok_then : {T E : Type 0} (r : Result T E) (P : Type 0) → IsOk r → OnOk r P → P
ok_then (Ok x) P is h = h
ok_then (Err e) P is h = absurd (cc)

pub some_then : {T : Type 0} (o : Option T) (P Q : T → Type 0) → IsSome o → IfSome o P → IfSome o Q → (x : T) × P x × Q x
some_then None P Q is p q = absurd (cc)
some_then (Some x) P Q is p q = (x, p, q)
