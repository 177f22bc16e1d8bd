-- A text that is printed in quotes is read as itself.
use Rattle.cd_conf.specs.Blanks.{behind_blanks, is_newline}
use Rattle.cd_conf.specs.Position.{Position, at}
use Rattle.cd_conf.specs.Quotes.{is_one_line, quoted_from, with_text}
use Rattle.cd_conf.specs.Values.{quoted_arg, some_value, value_at, value_from}
use Rattle.cd_conf.specs.declared.fault.ConfFault.{ConfFault}
use Rattle.cd_conf.specs.declared.item.Arg.TheVariants.{Words}
use Rattle.cd_conf.specs.declared.item.Arg.{Arg}
use Rattle.cd_conf.specs.declared.quotes.Quoting.TheVariants.{Inside}
use Rattle.cd_reading.specs.First.{◌>>=◌}
use Rattle.cd_text.specs.Quoting.{escaped, quoted_of}
use Rattle.std.proofs.Common.{Bool, List, Ok, Option, Result, Some, [], ap, append_assoc, cond, false, refl, true, ℕ, ◌++◌, ◌==◌, ◌||◌, ◌∙◌, ◌∷◌, ◌≡◌}
use Rattle.std.proofs.Math.Utf8.{scalar, scalars}
use Rattle.std.proofs.lemmas.Bool.{and_parts, not-true, or_parts}
use Rattle.std.proofs.lemmas.Str.{chars-encodes, encodes-chars, scalars-chars}
use Rattle.std.specs.Char.{encode_utf8}
use Rattle.std.specs.List.{flat_map}
use Rattle.std.specs.Prelude.{not}
use Rattle.std.specs.Str.{IsUtf8, chars, encode_utf8_all}

one_more : (c : ℕ) (cs rest : List ℕ) (line : ℕ) → (c == 10) ≡ false → (c == 34 || c == 92) ≡ false
    → quoted_from (c ∷ cs) Inside line ≡ with_text (encode_utf8 c) (quoted_from cs Inside line)
unfolding quoted_from
one_more c cs rest line n e = let p = or_parts (c == 34) (c == 92) e in rw (p.0, n, p.1) refl

escaped_more : (c : ℕ) (cs rest : List ℕ) (line : ℕ) → (c == 10) ≡ false
    → quoted_from (92 ∷ c ∷ cs) Inside line ≡ with_text (encode_utf8 c) (quoted_from cs Inside line)
unfolding quoted_from
escaped_more c cs rest line n = rw n refl

pub quoted_reads : (cs rest : List ℕ) (line : ℕ) → is_one_line cs ≡ true → quoted_from (flat_map escaped cs ++ 34 ∷ rest) Inside line ≡ Some (encode_utf8_all cs, at line rest)
unfolding quoted_from
quoted_reads [] rest line h = refl
quoted_reads (c ∷ cs) rest line h =
    let p = and_parts (not (is_newline c)) (is_one_line cs) h in
    by (c == 34 || c == 92) refl (not-true (c == 10) p.0) (quoted_reads cs rest line p.1)
  where
    by : (t : Bool) → (c == 34 || c == 92) ≡ t → (c == 10) ≡ false → quoted_from (flat_map escaped cs ++ 34 ∷ rest) Inside line ≡ Some (encode_utf8_all cs, at line rest)
        → quoted_from (flat_map escaped (c ∷ cs) ++ 34 ∷ rest) Inside line ≡ Some (encode_utf8_all (c ∷ cs), at line rest)
    by true e n so_far = rw e (escaped_more c (flat_map escaped cs ++ 34 ∷ rest) rest line n ∙ ap (with_text (encode_utf8 c)) so_far)
    by false e n so_far = rw e (one_more c (flat_map escaped cs ++ 34 ∷ rest) rest line n e ∙ ap (with_text (encode_utf8 c)) so_far)

-- what is written in quotes are characters
scalars_one : (is_marked : Bool) (c : ℕ) (rest last : List ℕ) → scalar c ≡ true → scalars (rest ++ last) ≡ true
    → scalars ((cond is_marked (92 ∷ c ∷ []) (c ∷ []) ++ rest) ++ last) ≡ true
scalars_one true c rest last one others = rw (one, others) refl
scalars_one false c rest last one others = rw (one, others) refl

scalars_escaped : (cs : List ℕ) → scalars cs ≡ true → scalars (flat_map escaped cs ++ 34 ∷ []) ≡ true
scalars_escaped [] good = refl
scalars_escaped (c ∷ cs) good =
    let both = and_parts (scalar c) (scalars cs) good in
    scalars_one (c == 34 || c == 92) c (flat_map escaped cs) (34 ∷ []) both.0 (scalars_escaped cs both.1)

pub quoted_utf8 : (t : List ℕ) → IsUtf8 t → IsUtf8 (quoted_of t)
unfolding quoted_of
quoted_utf8 t utf8 = (34 ∷ (flat_map escaped (chars t) ++ 34 ∷ []), (scalars_escaped (chars t) (scalars-chars t utf8), refl))

pub chars_quoted : (t : List ℕ) → IsUtf8 t → chars (quoted_of t) ≡ 34 ∷ (flat_map escaped (chars t) ++ 34 ∷ [])
unfolding quoted_of
chars_quoted t utf8 = chars-encodes (34 ∷ (flat_map escaped (chars t) ++ 34 ∷ [])) (scalars_escaped (chars t) (scalars-chars t utf8))

abbrev read_as : ℕ → Option (List ℕ × Position) → Result (Option (List Arg × Position)) ConfFault
read_as line found = quoted_arg line found >>= some_value

-- a text that is printed as a value is read as itself, whatever follows
pub text_reads : (t rest : List ℕ) (line : ℕ) → IsUtf8 t → is_one_line (chars t) ≡ true
    → value_at (at line (chars (quoted_of t) ++ rest)) ≡ Ok (Some (Words t ∷ [], behind_blanks (at line rest)))
unfolding value_at
text_reads t rest line utf8 h =
    let cs : List ℕ = chars t in
    let all : chars (quoted_of t) ++ rest ≡ 34 ∷ (flat_map escaped cs ++ 34 ∷ rest)
    = ap (λ (xs : List ℕ). xs ++ rest) (chars_quoted t utf8) ∙ ap (λ (xs : List ℕ). 34 ∷ xs) (append_assoc (flat_map escaped cs) (34 ∷ []) rest) in
    ap (value_from line) all ∙ ap (read_as line) (quoted_reads cs rest line h)
    ∙ ap (λ (text : List ℕ). Ok (Some (Words text ∷ [], behind_blanks (at line rest)))) (encodes-chars t utf8)
