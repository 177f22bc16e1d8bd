-- A compiled pattern is found exactly where its text is.
use Rattle.cd_pattern.specs.Patterns.{first_found, first_of, is_found_in, is_pattern, reading_of}
use Rattle.regex.proofs.OnLiterals.{same_refl}
use Rattle.regex.specs.Patterns.{Match, Re, default_config, find_str, span}
use Rattle.regex.specs.Strings.{IsReadFromSource, regex_config, regex_pattern, regex_source}
use Rattle.regex.specs.declared.string.regex.Regex.{Regex}
use Rattle.regex_syntax.proofs.CapturesLemmas.{spans}
use Rattle.regex_syntax.proofs.Written.{find_str_as_read, is_some-option_map}
use Rattle.regex_syntax.specs.Brackets.{Nested}
use Rattle.regex_syntax.specs.Grammar.{Names, read}
use Rattle.regex_syntax.specs.Verdict.{Reads}
use Rattle.std.proofs.Common.{All, List, None, Option, Some, ap, chars, false, get_or, is_some, option_map, refl, sym, true, ℕ, ◌<◌, ◌∙◌, ◌≡◌}
use Rattle.std.proofs.lemmas.Bool.{le-leb}
use Rattle.std.proofs.lemmas.List.{get_or_default}

-- where a match stands, of what a caller sees of it
span-spans : (o : Option Match) → option_map span o ≡ option_map (λ (s : ℕ × ℕ × (ℕ → Option ℕ)). (s.0, s.1)) (option_map spans o)
span-spans None = refl
span-spans (Some m) = refl

same_span : (a b : Option Match) → option_map spans a ≡ option_map spans b → option_map span a ≡ option_map span b
same_span a b e =
    span-spans a ∙ ap (option_map (λ (s : ℕ × ℕ × (ℕ → Option ℕ)). (s.0, s.1))) e ∙ sym (span-spans b)

module _ (r : Regex) (is_default : regex_config r ≡ default_config) (is_read : IsReadFromSource r) where
  module _ (text : List ℕ) (bytes : (k : ℕ) → get_or text k 0 < 256) where
    found_by : (o : Option (Nested Re × Names)) → read default_config (chars (regex_source r)) ≡ o →
        option_map span (find_str (regex_pattern r) text 0) ≡ first_of o text
    unfolding Reads
    found_by None e = absurd (rw (is_default, e) at is_read)
    found_by (Some p) e =
        let small : All (λ x. x < 256) text = λ k d h. rw (get_or_default text k d 0 h) (bytes k) in
        same_span _ _ (find_str_as_read default_config (regex_source r) _ _ p.0.value (rw is_default at is_read) (rw e (same_refl p.0.value)) text small 0)

    -- the compiled pattern's first match stands where its text says
    pub first_by_text : option_map span (find_str (regex_pattern r) text 0) ≡ first_found (regex_source r) text
    unfolding first_found
    first_by_text = found_by (read default_config (chars (regex_source r))) refl

    pub found_by_text : is_some (find_str (regex_pattern r) text 0) ≡ is_found_in (regex_source r) text
    found_by_text = sym (is_some-option_map span _) ∙ ap is_some first_by_text

  taken_by : (o : Option (Nested Re × Names)) → reading_of (regex_source r) ≡ o → is_pattern (regex_source r) ≡ true
  unfolding Reads is_pattern
  taken_by None e = absurd (rw (is_default, e) at is_read)
  taken_by (Some p) e = let h = rw (is_default, e) at is_read in rw e (le-leb p.0.depth 250 h.0)

  -- the text of a compiled pattern is one
  pub taken : is_pattern (regex_source r) ≡ true
  taken = taken_by (reading_of (regex_source r)) refl
