-- Blanks, comments and the ends of lines.
use Rattle.cd_conf.specs.Position.{Position, at}
use Rattle.std.specs.Prelude.{Bool, List, None, Option, Some, [], if◌then◌else◌, not, true, ℕ, ◌&&◌, ◌+◌, ◌==◌, ◌||◌, ◌∷◌}

-- the line after a character
abbrev pub line_after : ℕ → ℕ → ℕ
line_after line c = if c == 10 then line + 1 else line

-- a space, a tab or a carriage return
abbrev pub is_blank : ℕ → Bool
is_blank c = c == 32 || (c == 9 || c == 13)

unfoldable pub after_blanks : ℕ → List ℕ → Position
after_blanks line [] = at line []
after_blanks line (c ∷ []) = if is_blank c then at line [] else at line (c ∷ [])
after_blanks line (c ∷ d ∷ cs) =
    if is_blank c then after_blanks line (d ∷ cs)
    else (if c == 92 && d == 10 then after_blanks (line + 1) cs else at line (c ∷ d ∷ cs))

-- the position behind blanks; a backslash directly before a newline is one
abbrev pub behind_blanks : Position → Position
behind_blanks p = after_blanks p.line p.rest

-- the position behind a newline that stands there
abbrev pub after_newline : ℕ → List ℕ → Option Position
after_newline line [] = None
after_newline line (c ∷ cs) = if c == 10 then Some (at (line + 1) cs) else None

abbrev pub behind_newline : Position → Option Position
behind_newline p = after_newline p.line p.rest

-- what follows the longest front of characters that pass
unfoldable pub skip_while : (ℕ → Bool) → List ℕ → List ℕ
skip_while p [] = []
skip_while p (c ∷ cs) = if p c then skip_while p cs else c ∷ cs

abbrev pub is_newline : ℕ → Bool
is_newline c = c == 10

-- a line ends here, but for a comment: the text ends, or a newline or a comment stands here
abbrev pub is_line_end : List ℕ → Bool
is_line_end [] = true
is_line_end (c ∷ cs) = c == 10 || c == 35

-- the position behind a newline and the blanks after it, or the text's end
abbrev pub line_behind_newline : ℕ → List ℕ → Position
line_behind_newline line [] = at line []
line_behind_newline line (c ∷ cs) = after_blanks (line + 1) cs

-- the position behind the blanks of the next line
abbrev pub next_line : Position → Position
next_line p = line_behind_newline p.line (skip_while (λ c. not (is_newline c)) p.rest)
