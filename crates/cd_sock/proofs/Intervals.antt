-- The interval of PUTVAL's options.
use Rattle.cd_sock.specs.Arguments.{argument, interval_of, last, last_interval}
use Rattle.cd_sock.specs.Meaning.{has_interval, interval_in, is_interval}
use Rattle.cd_sock.specs.declared.fault.LineFault.TheVariants.{BadTime}
use Rattle.cd_text.specs.declared.word.Word.{Word}
use Rattle.std.proofs.Common.{Bool, List, None, Option, Some, [], ap, arith, false, length, length-append, refl, true, ℕ, ◌&&◌, ◌++◌, ◌-◌, ◌∙◌, ◌∷◌, ◌≡◌}
use Rattle.std.proofs.lemmas.List.Folds.{list_all-append}
use Rattle.std.specs.List.{list_all}
use Rattle.std.specs.Prelude.{is_some, ok_or, option_and_then, slice_get}

get_last : {X : Type 0} (xs : List X) (x : X) → slice_get (xs ++ x ∷ []) (length xs) ≡ Some x
get_last [] x = refl
get_last (y ∷ xs) x = get_last xs x

pub last_of_push : {X : Type 0} (xs : List X) (x : X) → last (xs ++ x ∷ []) ≡ Some x
last_of_push xs x =
    let place : length (xs ++ x ∷ []) - 1 ≡ length xs = omega (arith, length-append xs (x ∷ [])) in
    ap (slice_get (xs ++ x ∷ [])) place ∙ get_last xs x

last_is : (earlier : List Word) (last : Word) → last_interval (earlier ++ last ∷ []) ≡ interval_of (argument last)
last_is earlier last = ap (option_and_then (λ option. interval_of (argument option))) (last_of_push earlier last)

given_by_all : (options earlier : List Word) (last : Word) → options ≡ earlier ++ last ∷ [] → list_all has_interval options ≡ (list_all has_interval earlier && (has_interval last && true))
given_by_all options earlier last same = ap (list_all has_interval) same ∙ list_all-append has_interval earlier (last ∷ [])

-- the interval is that of the last option, where the earlier ones have no fault
pub interval_at_last : (options earlier : List Word) (last : Word) (global : ℕ) → options ≡ earlier ++ last ∷ [] → list_all is_interval options ≡ true
    → list_all has_interval earlier ≡ true → ok_or (interval_of (argument last)) BadTime ≡ interval_in options global
interval_at_last options earlier last global same named given = by (interval_of (argument last)) refl
  where
    by : (o : Option ℕ) → interval_of (argument last) ≡ o → ok_or o BadTime ≡ interval_in options global
    by None e =
        let all : list_all has_interval options ≡ false
        = given_by_all options earlier last same ∙ ap (λ (b : Bool). b && (has_interval last && true)) given ∙ ap (λ (o : Option ℕ). is_some o && true) e in
        rw (named, all) refl
    by (Some t) e =
        let all : list_all has_interval options ≡ true
        = given_by_all options earlier last same ∙ ap (λ (b : Bool). b && (has_interval last && true)) given ∙ ap (λ (o : Option ℕ). is_some o && true) e in
        let own : last_interval options ≡ Some t = ap last_interval same ∙ last_is earlier last ∙ e in
        rw (named, all, own) refl
