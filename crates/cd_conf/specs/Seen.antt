-- What the code holds, as definitions see it.
use Rattle.cd_conf.specs.Place.{position}
use Rattle.cd_conf.specs.Position.{Position}
use Rattle.cd_conf.specs.declared.head.Head.{Head}
use Rattle.cd_conf.specs.declared.item.Arg.{Arg}
use Rattle.cd_conf.specs.declared.place.Place.{Place}
use Rattle.std.specs.Prelude.{List, [], ℕ, ◌∷◌}
use Rattle.std.specs.Str.{chars}
use denote.Ref.{Bor}

abbrev pub seen_head : Head × Bor (List ℕ) → Head × List ℕ
seen_head cut = (cut.0, chars cut.1.now)

abbrev pub seen_value : Arg × Place → Arg × Position
seen_value v = (v.0, position v.1)

abbrev pub seen_one : Arg × Place → List Arg × Position
seen_one v = (v.0 ∷ [], position v.1)

abbrev pub seen_values : List Arg × Place → List Arg × Position
seen_values v = (v.0, position v.1)
