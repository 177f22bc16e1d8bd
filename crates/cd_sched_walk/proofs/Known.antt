-- What is known of a reader that was looked for.
use Rattle.cd_sched.specs.declared.reader.Reader.{Reader}
use Rattle.std.proofs.Common.{None, Option, Some, false, is_some, refl, ◌≡◌}

pub none_from : (o : Option Reader) → is_some o ≡ false → o ≡ None
none_from None h = refl
none_from (Some reader) h = absurd (cc)
