-- Quoted strings.
use Rattle.cd_conf.specs.Blanks.{is_blank, is_newline, line_after}
use Rattle.cd_conf.specs.Position.{Position, at}
use Rattle.cd_conf.specs.declared.quotes.Quoting.TheVariants.{Escaped, Inside, Joined}
use Rattle.cd_conf.specs.declared.quotes.Quoting.{Quoting}
use Rattle.cd_conf.specs.declared.quotes.Role.TheVariants.{Break, Close, Letter, Mark}
use Rattle.cd_conf.specs.declared.quotes.Role.{Role}
use Rattle.std.specs.List.{list_all}
use Rattle.std.specs.Prelude.{Bool, List, None, Option, Some, [], encode_utf8, if◌then◌else◌, not, ℕ, ◌++◌, ◌==◌, ◌∷◌}

-- what a character is that stands behind no backslash
abbrev pub inner_role : ℕ → Role
inner_role c =
    if c == 34 then Close
    else (if c == 10 then Break else (if c == 92 then Mark Escaped else Letter))

-- what a character is: a backslash lets the next one stand for itself, and before a newline it
-- vanishes with it and with the blanks after it
abbrev pub role_of : Quoting → ℕ → Role
role_of Inside c = inner_role c
role_of Escaped c = if c == 10 then Mark Joined else Letter
role_of Joined c = if is_blank c then Mark Joined else inner_role c

-- a text and what follows it, with more text in front
abbrev pub with_text : List ℕ → Option (List ℕ × Position) → Option (List ℕ × Position)
with_text front None = None
with_text front (Some found) = Some (front ++ found.0, found.1)

-- what a character gives, from the position behind it and from what the rest gives when it is read
-- in each way
abbrev pub by_role :
    Role → ℕ → Position → (Quoting → Option (List ℕ × Position)) → Option (List ℕ × Position)
by_role Close c behind further = Some ([], behind)
by_role Break c behind further = None
by_role (Mark next) c behind further = further next
by_role Letter c behind further = with_text (encode_utf8 c) (further Inside)

-- the text of a quoted string, and the position behind its closing quote; none where a newline or
-- the text's end comes first
unfoldable pub quoted_from : List ℕ → Quoting → ℕ → Option (List ℕ × Position)
quoted_from [] quoting line = None
quoted_from (c ∷ cs) quoting line =
    by_role (role_of quoting c) c (at (line_after line c) cs)
    (λ next. quoted_from cs next (line_after line c))

-- the quoted string whose opening quote stands before a position
abbrev pub quoted_at : Position → Option (List ℕ × Position)
quoted_at p = quoted_from p.rest Inside p.line

-- no newline stands in a text, as in each that was read
abbrev pub is_one_line : List ℕ → Bool
is_one_line cs = list_all (λ c. not (is_newline c)) cs
