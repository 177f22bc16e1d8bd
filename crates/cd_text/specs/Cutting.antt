-- A line cut into words, one character after the other, and cut at once where no quote stands.
use Rattle.cd_text.specs.Quoting.{Position, adds, is_outside, next}
use Rattle.cd_text.specs.declared.cutter.OpenWord.{OpenWord}
use Rattle.cd_text.specs.declared.cutter.Part.TheVariants.{Blank, Letter, Mark}
use Rattle.cd_text.specs.declared.cutter.Part.{Part}
use Rattle.cd_text.specs.declared.cutter.Quoting.TheVariants.{Outside}
use Rattle.cd_text.specs.declared.cutter.Rest.{Rest}
use Rattle.cd_text.specs.declared.word.Word.{Word}
use Rattle.cd_text.specs.declared.word.WordFault.TheVariants.{Unterminated}
use Rattle.cd_text.specs.declared.word.WordFault.{WordFault}
use Rattle.std.specs.List.{fold}
use Rattle.std.specs.Option.{option_to_list}
use Rattle.std.specs.Prelude.{Bool, Err, List, None, Ok, Option, Result, Some, [], encode_utf8, encode_utf8_all, false, if◌then◌else◌, length, not, true, ℕ, ◌++◌, ◌+◌, ◌<◌, ◌==◌, ◌||◌, ◌∷◌, ◌≡◌, ◌≤◌}
use Rattle.std.specs.Str.{IsUtf8, chars}
use Rattle.std.specs.String.{string_bytes}

-- the words so far, the one that goes on, and where the next character stands
pub record State : Type 0 where
  pub words : List Word
  pub current : Option Word
  pub position : Position

-- the current word with more text; a new one begins at the place
abbrev pub longer : ℕ → Option Word → List ℕ → Word
longer place None t = record { text = t; start = place }
longer place (Some w) t = record { text = w.text ++ t; start = w.start }

-- the state after a character that adds this to its word
abbrev pub grown : State → Option (List ℕ) → Position → State
grown s None p =
    record { words = s.words ++ option_to_list s.current; current = None; position = p }
grown s (Some t) p =
    record { words = s.words; current = Some (longer s.position.place s.current t); position = p }

abbrev pub part_adds : Part → ℕ → Option (List ℕ)
part_adds Blank c = None
part_adds Mark c = Some []
part_adds Letter c = Some (encode_utf8 c)

-- the state after the next character
unfoldable pub fed : State → ℕ → State
fed s c = grown s (adds s.position.quoting c) (next s.position c)

abbrev pub outside : ℕ → Position
outside place = record { place = place; quoting = Outside }

-- between words
abbrev pub between : List Word → ℕ → State
between words place = record { words = words; current = None; position = outside place }

-- in a word
abbrev pub within : List Word → Word → Position → State
within words word position =
    record { words = words; current = Some word; position = position }

-- the words of a line of which these characters are left, unless it ends inside quotes
unfoldable pub outcome : State → List ℕ → Result (List Word) WordFault
outcome s cs =
    if is_outside (fold fed s cs).position.quoting
    then Ok ((fold fed s cs).words ++ option_to_list (fold fed s cs).current) else Err Unterminated

-- ---- bytes

-- a space or a tab
abbrev pub is_blank_byte : ℕ → Bool
is_blank_byte byte = byte == 32 || byte == 9

-- what begins a word
abbrev pub begins_word : ℕ → Bool
begins_word byte = not (is_blank_byte byte)

-- what ends a run of characters that stand for themselves outside quotes
abbrev pub ends_run : ℕ → Bool
ends_run byte = is_blank_byte byte || byte == 34

-- the first of some bytes or characters is blank, or there is none
abbrev pub EndsWord : List ℕ → Type 0
EndsWord [] = Unit {0}
EndsWord (c ∷ cs) = is_blank_byte c ≡ true

-- the first one isn't blank
abbrev pub BeginsWord : List ℕ → Type 0
BeginsWord [] = ⊥
BeginsWord (c ∷ cs) = is_blank_byte c ≡ false

-- ---- what is left of a line

-- the words of the line are those so far and those of what is left, whichever the former are
abbrev pub left : List Word → Rest → Result (List Word) WordFault
left words rest = outcome (between words rest.place) (chars rest.text.now)

-- blanks were left out, and a word begins where something is left
pub record IsAtWord (old new : Rest) : Type 0 where
  pub same : (words : List Word) → left words old ≡ left words new
  pub sum : new.place + length new.text.now ≡ old.place + length old.text.now
  pub shorter : length new.text.now ≤ length old.text.now
  pub begins : (length new.text.now ≡ 0 → ⊥) → BeginsWord new.text.now

-- a word was cut off
pub record IsCutOff (old : Rest) (word : Word) (new : Rest) : Type 0 where
  pub same : (words : List Word) → left words old ≡ left (words ++ word ∷ []) new
  pub sum : new.place + length new.text.now ≡ old.place + length old.text.now
  pub shorter : length new.text.now < length old.text.now

-- an open word, of which so many bytes were used from a place on
abbrev pub opened : ℕ → OpenWord → Word
opened place word = record { text = string_bytes word.text; start = place }

abbrev pub used_up : ℕ → OpenWord → Position
used_up place word = record { place = place + word.used; quoting = word.quoting }

abbrev pub empty_word : ℕ → Word
empty_word place = record { text = []; start = place }

-- characters were read into a word
abbrev pub Reads : OpenWord → List ℕ → Type 0
Reads word taken =
    (words : List Word) (place : ℕ) →
    fold fed (within words (empty_word place) (outside place)) taken
    ≡ within words (opened place word) (used_up place word)

-- the front of a text was read into a word, up to the word's end
pub record IsReadOn (text : List ℕ) (word : OpenWord) : Type 0 where
  pub utf8 : IsUtf8 text
  pub taken : List ℕ
  pub left : List ℕ
  pub parts : chars text ≡ taken ++ left
  pub used : word.used ≡ length (encode_utf8_all taken)
  pub reads : Reads word taken
  pub unended : (word.quoting ≡ Outside → ⊥) → left ≡ []
  pub ends : EndsWord left
