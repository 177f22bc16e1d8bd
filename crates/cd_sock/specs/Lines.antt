-- The lines of a stream of bytes, and what a cutter does with the pieces of one.
use Rattle.cd_sock.specs.declared.lines.Line.TheVariants.{TooLong, Whole}
use Rattle.cd_sock.specs.declared.lines.Line.{Line}
use Rattle.cd_sock.specs.declared.lines.TheConstants.{HELD_LIMIT, LINE_LIMIT}
use Rattle.std.specs.Cow.{cow_slice_items}
use Rattle.std.specs.List.{All, position_or_len, slice_split}
use Rattle.std.specs.Option.{option_to_list}
use Rattle.std.specs.Prelude.{Bool, List, None, Option, Some, [], drop, false, if◌then◌else◌, length, map, min, nat_lt, take, ℕ, ◌++◌, ◌+◌, ◌==◌, ◌∷◌, ◌≡◌, ◌≤◌}

-- ---- the lines of all bytes

abbrev pub is_newline : ℕ → Bool
is_newline byte = byte == 10

abbrev pub but_last : List (List ℕ) → List (List ℕ)
but_last [] = []
but_last (part ∷ []) = []
but_last (part ∷ next ∷ more) = part ∷ but_last (next ∷ more)

abbrev pub last_part : List (List ℕ) → List ℕ
last_part [] = []
last_part (part ∷ []) = part
last_part (part ∷ next ∷ more) = last_part (next ∷ more)

-- the lines that end with a newline
unfoldable pub whole_lines : List ℕ → List (List ℕ)
whole_lines bytes = but_last (slice_split is_newline bytes)

-- what stands after the last newline, or all where there is none
unfoldable pub unfinished : List ℕ → List ℕ
unfinished bytes = last_part (slice_split is_newline bytes)

abbrev pub if_not_empty : List ℕ → List (List ℕ)
if_not_empty [] = []
if_not_empty (byte ∷ bytes) = (byte ∷ bytes) ∷ []

-- the lines that end with a newline, and a last one without where it has bytes
unfoldable pub lines : List ℕ → List (List ℕ)
lines bytes = whole_lines bytes ++ if_not_empty (unfinished bytes)

-- a line as it is handed on: none for one of more than LINE_LIMIT bytes
abbrev pub Cut : Type 0
Cut = Option (List ℕ)

abbrev pub cut : List ℕ → Cut
cut line = if nat_lt LINE_LIMIT (length line) then None else Some line

unfoldable pub cut_lines : List ℕ → List Cut
cut_lines bytes = map cut (lines bytes)

-- the bytes of a line that is not too long
abbrev pub content : Line → Cut
content (Whole bytes) = Some (cow_slice_items bytes)
content TooLong = None

-- ---- a cutter, of which contracts see what came since the last newline, as a line is handed on

-- bytes of one line
abbrev pub IsInLine : List ℕ → Type 0
IsInLine bytes = All (λ byte. is_newline byte ≡ false) bytes

-- what a cutter keeps since the last newline: as many bytes as tell whether the line is too long
pub record IsUnfinished (bytes : List ℕ) : Type 0 where
  pub in_line : IsInLine bytes
  pub few : length bytes ≤ HELD_LIMIT

-- a list begins with another
abbrev pub BeginsWith : List Cut → List Cut → Type 0
BeginsWith all first = (rest : List Cut) × (all ≡ first ++ rest)

-- of the bytes heard so far the lines that end with a newline were given, and the cutter has the
-- unfinished one
pub record HasCut (heard : List ℕ) (given : List Cut) (cutter : Cut) : Type 0 where
  pub whole : given ≡ map cut (whole_lines heard)
  pub rest : cutter ≡ cut (unfinished heard)
  -- however the stream goes on, its lines begin with those given, and so do its whole lines
  pub first : (more : List ℕ) → BeginsWith (cut_lines (heard ++ more)) given
  pub first_whole : (more : List ℕ) → BeginsWith (map cut (whole_lines (heard ++ more))) given

-- how many bytes of a piece stand before and with its first newline, or all where it has none
abbrev pub through_newline : List ℕ → ℕ
through_newline piece = min (position_or_len is_newline piece + 1) (length piece)

-- a call of `take` uses a piece through its first newline, and cuts those bytes
pub record Takes (old : Cut) (piece : List ℕ) (used : ℕ) (line : Option Cut) (new : Cut)
    : Type 0 where
  pub through : used ≡ through_newline piece
  pub cuts : (heard : List ℕ) (given : List Cut) → HasCut heard given old
      → HasCut (heard ++ take used piece) (given ++ option_to_list line) new

-- a call of `finish` gives the last line of the stream, and a new stream can begin
pub record Finishes (old : Cut) (line : Option Cut) (new : Cut) : Type 0 where
  pub last : (heard : List ℕ) (given : List Cut) → HasCut heard given old
      → given ++ option_to_list line ≡ cut_lines heard
  pub begins : HasCut [] [] new

-- ---- calls over all pieces of a stream

-- the calls of `take` over these pieces, of each of which they take until it is used up, give these
-- lines
pub data TakesAll : List (List ℕ) → Cut → List Cut → Cut → Type 0 where
  none : {cutter : Cut} → TakesAll [] cutter [] cutter
  used_up : {pieces : List (List ℕ)} {old new : Cut} {given : List Cut}
      → TakesAll pieces old given new → TakesAll ([] ∷ pieces) old given new
  takes : {piece : List ℕ} {pieces : List (List ℕ)} {used : ℕ} {line : Option Cut}
      {old mid new : Cut} {given : List Cut}
      → Takes old piece used line mid → TakesAll (drop used piece ∷ pieces) mid given new
      → TakesAll (piece ∷ pieces) old (option_to_list line ++ given) new
