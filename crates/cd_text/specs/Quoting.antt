-- The words of a line, with quotes.
use Rattle.cd_text.specs.declared.cutter.Quoting.TheVariants.{Escaped, Inside, Outside}
use Rattle.cd_text.specs.declared.cutter.Quoting.{Quoting}
use Rattle.cd_text.specs.declared.word.Word.{Word}
use Rattle.cd_text.specs.declared.word.WordFault.TheVariants.{Memory, Unterminated}
use Rattle.cd_text.specs.declared.word.WordFault.{WordFault}
use Rattle.std.specs.Char.{len_utf8}
use Rattle.std.specs.List.{filter_map, flat_map, scan, slice_split}
use Rattle.std.specs.Prelude.{Bool, Err, List, None, Ok, Option, Result, Some, [], encode_utf8, encode_utf8_all, false, fold, if◌then◌else◌, is_none, true, unwrap_or, ℕ, ◌++◌, ◌+◌, ◌==◌, ◌||◌, ◌∷◌}
use Rattle.std.specs.Str.{chars}

-- the quoting after a character: a quote switches it, and inside a backslash lets the next
-- character stand for itself
abbrev pub quoting_after : Quoting → ℕ → Quoting
quoting_after Outside c = if c == 34 then Inside else Outside
quoting_after Inside c = if c == 34 then Outside else if c == 92 then Escaped else Inside
quoting_after Escaped c = Inside

-- what a character adds to its word; none for a blank between words
abbrev pub adds : Quoting → ℕ → Option (List ℕ)
adds Outside c =
    if c == 32 || c == 9 then None else if c == 34 then Some [] else Some (encode_utf8 c)
adds Inside c = if c == 34 || c == 92 then Some [] else Some (encode_utf8 c)
adds Escaped c = Some (encode_utf8 c)

-- where a character stands: its byte place in the line, and the quoting before it
pub record Position : Type 0 where
  pub place : ℕ
  pub quoting : Quoting

abbrev pub start : Position
start = record { place = 0; quoting = Outside }

abbrev pub next : Position → ℕ → Position
next p c = record { place = p.place + len_utf8 c; quoting = quoting_after p.quoting c }

-- a character of a line, as its place and what it adds
pub record Character : Type 0 where
  pub place : ℕ
  pub adds : Option (List ℕ)

abbrev pub character : Position → ℕ → Character
character p c = record { place = p.place; adds = adds p.quoting c }

abbrev pub is_blank : Character → Bool
is_blank c = is_none c.adds

abbrev pub added : Character → List ℕ
added c = unwrap_or c.adds []

-- the word of a run of characters between blanks; an empty run is none
abbrev pub word : List Character → Option Word
word [] = None
word (c ∷ cs) = Some (record { text = flat_map added (c ∷ cs); start = c.place })

-- the words of a text that begins at a position
unfoldable pub words_from : Position → List ℕ → List Word
words_from p cs = filter_map word (slice_split is_blank (scan next character p cs))

abbrev pub is_outside : Quoting → Bool
is_outside Outside = true
is_outside Inside = false
is_outside Escaped = false

-- the words of a line, unless it ends inside quotes
unfoldable pub words_of : List ℕ → Result (List Word) WordFault
words_of line =
    if is_outside (fold next start (chars line)).quoting then Ok (words_from start (chars line))
    else Err Unterminated

-- the fault of an error, and none for want of memory
abbrev pub fault : WordFault → Option WordFault
fault Unterminated = Some Unterminated
fault Memory = None

-- a character as it is written in quotes
abbrev pub escaped : ℕ → List ℕ
escaped c = if c == 34 || c == 92 then 92 ∷ c ∷ [] else c ∷ []

-- a text in quotes
unfoldable pub quoted_of : List ℕ → List ℕ
quoted_of text = encode_utf8_all (34 ∷ flat_map escaped (chars text) ++ 34 ∷ [])

-- a word that begins its line
abbrev pub first_word : List ℕ → Word
first_word t = record { text = t; start = 0 }
