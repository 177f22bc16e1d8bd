-- The options of FLUSH.
use Rattle.cd_reading.specs.First.{all_or_first, ◌>>=◌}
use Rattle.cd_reading.specs.Gives.{Refuses}
use Rattle.cd_sock.proofs.Intervals.{last_of_push}
use Rattle.cd_sock.proofs.Options.{read_all, reads_on, reads_pass, reads_stop}
use Rattle.cd_sock.specs.Arguments.{argument_of, last}
use Rattle.cd_sock.specs.Meaning.{last_timeout, name_in, names_in, timeout_in}
use Rattle.cd_sock.specs.declared.fault.LineFault.{LineFault}
use Rattle.cd_text.specs.declared.word.Word.{Word}
use Rattle.std.proofs.Common.{Err, List, None, Ok, Option, Result, Some, [], ap, codes, get_or, length, refl, sym, take, ℕ, ◌++◌, ◌+◌, ◌<◌, ◌∙◌, ◌∷◌, ◌≡◌}
use Rattle.std.specs.Prelude.{unwrap_or}

-- ---- names

-- of no option
pub no_names : names_in [] ≡ Ok []
unfolding all_or_first
no_names = refl

module _ (words : List Word) (i : ℕ) (word : Word) (lt : i < length words) (at : word ≡ get_or words i word) where
  pub names_pass : None ≡ argument_of (codes "identifier") word → names_in (take (i + 1) words) ≡ names_in (take i words)
  names_pass is = reads_pass name_in (codes "identifier") words i word lt at is

  pub names_on : (text : List ℕ) (names : List (List ℕ)) (name : List ℕ) → Some text ≡ argument_of (codes "identifier") word → names_in (take i words) ≡ Ok names → name_in text ≡ Ok name
      → names_in (take (i + 1) words) ≡ Ok (names ++ name ∷ [])
  names_on text names name is so_far here = reads_on name_in (codes "identifier") words i word lt at text names name is so_far (sym here)

  -- the fault of an identifier is that of all
  pub names_refuse : (text : List ℕ) (names : List (List ℕ)) (f : Option LineFault) → Some text ≡ argument_of (codes "identifier") word → names_in (take i words) ≡ Ok names
      → Refuses f (name_in text) → Refuses f (names_in words)
  names_refuse text names None is so_far here = tt
  names_refuse text names (Some f) is so_far here = reads_stop name_in (codes "identifier") words i word lt at text names f is so_far (sym here)

-- ---- timeouts

abbrev Timeouts : Type 0
Timeouts = Result (List (Option ℕ)) LineFault

abbrev last_of : Timeouts → Result (Option ℕ) LineFault
last_of read = read >>= λ timeouts. Ok (unwrap_or (last timeouts) None)

-- of no option
pub no_timeout : last_timeout [] ≡ Ok None
unfolding all_or_first
no_timeout = refl

module _ (words : List Word) (i : ℕ) (word : Word) (lt : i < length words) (at : word ≡ get_or words i word) where
  pub timeout_pass : None ≡ argument_of (codes "timeout") word → last_timeout (take (i + 1) words) ≡ last_timeout (take i words)
  timeout_pass is = ap last_of (reads_pass timeout_in (codes "timeout") words i word lt at is)

  pub timeout_on : (text : List ℕ) (old new : Option ℕ) → Some text ≡ argument_of (codes "timeout") word → last_timeout (take i words) ≡ Ok old → Ok new ≡ timeout_in text
      → last_timeout (take (i + 1) words) ≡ Ok new
  timeout_on text old new is so_far here = by (read_all timeout_in (codes "timeout") (take i words)) refl so_far
    where
      by : (r : Timeouts) → read_all timeout_in (codes "timeout") (take i words) ≡ r → last_of r ≡ Ok old → last_timeout (take (i + 1) words) ≡ Ok new
      by (Ok front) e was =
          ap last_of (reads_on timeout_in (codes "timeout") words i word lt at text front new is e here)
          ∙ ap (λ (o : Option (Option ℕ)). Ok (unwrap_or o None)) (last_of_push front new)
      by (Err g) e was = absurd cc

  pub timeout_stop : (text : List ℕ) (old : Option ℕ) (f : LineFault) → Some text ≡ argument_of (codes "timeout") word → last_timeout (take i words) ≡ Ok old → Err f ≡ timeout_in text
      → last_timeout words ≡ Err f
  timeout_stop text old f is so_far here = by (read_all timeout_in (codes "timeout") (take i words)) refl so_far
    where
      by : (r : Timeouts) → read_all timeout_in (codes "timeout") (take i words) ≡ r → last_of r ≡ Ok old → last_timeout words ≡ Err f
      by (Ok front) e was = ap last_of (reads_stop timeout_in (codes "timeout") words i word lt at text front f is e here)
      by (Err g) e was = absurd cc
