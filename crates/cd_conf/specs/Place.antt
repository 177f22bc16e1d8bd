-- A place in a text.
use Rattle.cd_conf.specs.Position.{Position}
use Rattle.cd_conf.specs.declared.place.Place.{Place}
use Rattle.std.specs.Prelude.{length, ℕ}
use Rattle.std.specs.Str.{chars}

-- the line of a place, and the characters that follow
abbrev pub position : Place → Position
position p = record { line = p.line; rest = chars p.rest.now }

abbrev pub characters_left : Place → ℕ
characters_left p = length (position p).rest
