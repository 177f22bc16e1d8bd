-- The characters of keys and words.
use Rattle.cd_conf.specs.Blanks.{skip_while}
use Rattle.cd_conf.specs.declared.runs.Kind.TheVariants.{Key, Word}
use Rattle.cd_conf.specs.declared.runs.Kind.{Kind}
use Rattle.std.specs.Char.{is_ascii_alphanumeric}
use Rattle.std.specs.List.{take_while}
use Rattle.std.specs.Prelude.{Bool, List, encode_utf8_all, ℕ, ◌==◌, ◌||◌}

-- letters, digits and _
abbrev pub is_in_key : ℕ → Bool
is_in_key c = is_ascii_alphanumeric c || c == 95

-- the same, and . / : - +
abbrev pub is_in_word : ℕ → Bool
is_in_word c = is_in_key c || (c == 46 || (c == 47 || (c == 58 || (c == 45 || c == 43))))

-- a character may stand in a key, or in a word without quotes
abbrev pub may_stand : Kind → ℕ → Bool
may_stand Key c = is_in_key c
may_stand Word c = is_in_word c

-- the key or word at the front of a text, and what follows it
abbrev pub front_run : Kind → List ℕ → List ℕ
front_run kind cs = encode_utf8_all (take_while (may_stand kind) cs)

abbrev pub after_run : Kind → List ℕ → List ℕ
after_run kind cs = skip_while (may_stand kind) cs
