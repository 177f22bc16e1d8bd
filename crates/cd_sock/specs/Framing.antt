-- A reply as its client reads it, line by line, as in collectd-unixsock(5).
use Rattle.cd_sock.specs.Lines.{is_newline, lines, unfinished}
use Rattle.cd_sock.specs.declared.reply.Reply.TheVariants.{Got, Listed}
use Rattle.cd_sock.specs.declared.reply.Reply.{Reply}
use Rattle.std.specs.List.{before_first, list_all, list_any}
use Rattle.std.specs.Prelude.{Bool, IsTrue, List, [], length, negsuc, not, pos, ℕ, ℤ, ◌==◌, ◌∷◌, ◌≡◌}
use Rattle.std.specs.Str.Parse.{IsNumeral, signed_digits_value, without_leading_sign}

abbrev pub is_space : ℕ → Bool
is_space byte = byte == 32

-- what stands before the first space of a line
abbrev pub status_word : List ℕ → List ℕ
status_word line = before_first is_space line

-- a line begins with a number, which may have a sign, and a space
pub record HasStatus (line : List ℕ) : Type 0 where
  pub number : IsNumeral 10 (without_leading_sign (status_word line))
  pub space : IsTrue (list_any is_space line)

-- that number
abbrev pub status : List ℕ → ℤ
status line = signed_digits_value 10 (status_word line)

-- how many lines a status tells of: none where it is below 0
abbrev pub lines_told : ℤ → ℕ
lines_told (pos n) = n
lines_told (negsuc n) = 0

-- a first line says how many follow, and just as many follow
abbrev pub AreFramed : List (List ℕ) → Type 0
AreFramed [] = ⊥
AreFramed (first ∷ more) = HasStatus first × (length more ≡ lines_told (status first))

-- the lines of a text are such, and each ends with a newline
pub record IsFramed (text : List ℕ) : Type 0 where
  pub framed : AreFramed (lines text)
  pub ended : unfinished text ≡ []

-- a text without a newline
abbrev pub is_one_line : List ℕ → Bool
is_one_line text = list_all (λ byte. not (is_newline byte)) text

-- no name that a reply prints has a newline, as none of an identifier and of a types.db(5) has
abbrev pub HasPlainNames : Reply → Type 0
HasPlainNames (Got names rates) = IsTrue (list_all is_one_line names)
HasPlainNames (Listed rows) = IsTrue (list_all (λ row. is_one_line row.1) rows)
HasPlainNames _ = Unit {0}
