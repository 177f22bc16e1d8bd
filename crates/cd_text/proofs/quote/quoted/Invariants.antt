use Rattle.cd_text.proofs.quote.quoted.Given as goal
use Rattle.cd_text.specs.Quoting.{escaped}
use Rattle.std.proofs.Common.{◌∷◌, ◌≡◌}
use Rattle.std.specs.List.{flat_map}
use Rattle.std.specs.Str.{encode_utf8_all}
use Rattle.std.specs.String.{string_bytes}

abbrev pub invariant-loop-c : goal.invariant-loop-c
invariant-loop-c l = string_bytes l.text ≡ encode_utf8_all (34 ∷ flat_map escaped l.yielded)
