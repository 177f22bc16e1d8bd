-- What each call makes of the readers as a map from numbers.
use Rattle.cd_sched.proofs.Numbers.{differs, itself, lower_differs, same_is}
use Rattle.cd_sched.proofs.Places.{Readers, none_below}
use Rattle.cd_sched.specs.Place.{IsAscending}
use Rattle.cd_sched.specs.Schedule.{KeepsOthers, changed, reader_at, with_reader, without}
use Rattle.cd_sched.specs.declared.reader.Reader.{Reader}
use Rattle.std.proofs.Common.{Bool, None, Option, Some, [], ap, arith, cond, false, nat_lt, refl, sym, true, ℕ, ◌==◌, ◌∙◌, ◌∷◌, ◌≡◌, ◌≢◌}
use Rattle.std.specs.Option.{option_map}

-- a reader in front of others
look : (number n : ℕ) (r : Reader) (t : Bool) (ps : Readers) → (n == number) ≡ t → reader_at number ((n, r) ∷ ps) ≡ cond t (Some r) (reader_at number ps)
look number n r t ps is = ap (λ s. cond s (Some r) (reader_at number ps)) is

pub with_same : (number : ℕ) (reader : Reader) (ps : Readers) → reader_at number (with_reader number reader ps) ≡ Some reader
with_same number reader [] = look number number reader true [] (itself number)
with_same number reader (p ∷ ps) =
    elim (nat_lt p.0 number) as (λ t. nat_lt p.0 number ≡ t → reader_at number (cond t (p ∷ with_reader number reader ps) ((number, reader) ∷ p ∷ ps)) ≡ Some reader) [
      | true ↦ λ lower. look number p.0 p.1 false (with_reader number reader ps) (lower_differs p.0 number lower) ∙ with_same number reader ps
      | false ↦ λ _. look number number reader true (p ∷ ps) (itself number)
    ] refl

off : (number other : ℕ) → other ≢ number → (number == other) ≡ false
off number other differ = differs number other (λ e. differ (sym e))

pub with_others : (number : ℕ) (reader : Reader) (ps : Readers) → KeepsOthers number ps (with_reader number reader ps)
with_others number reader [] other differ = look other number reader false [] (off number other differ)
with_others number reader (p ∷ ps) other differ =
    elim (nat_lt p.0 number) as (λ t. reader_at other (cond t (p ∷ with_reader number reader ps) ((number, reader) ∷ p ∷ ps)) ≡ reader_at other (p ∷ ps)) [
      | true ↦ ap (λ (o : Option Reader). cond (p.0 == other) (Some p.1) o) (with_others number reader ps other differ)
      | false ↦ look other number reader false (p ∷ ps) (off number other differ)
    ]

pub changed_same : (number : ℕ) (change : Reader → Reader) (ps : Readers) → reader_at number (changed number change ps) ≡ option_map change (reader_at number ps)
changed_same number change [] = refl
changed_same number change (p ∷ ps) =
    elim (p.0 == number) as (λ t. (p.0 == number) ≡ t → reader_at number (cond t ((p.0, change p.1) ∷ ps) (p ∷ changed number change ps)) ≡ option_map change (cond t (Some p.1) (reader_at number ps))) [
      | true ↦ λ same. look number p.0 (change p.1) true ps same
      | false ↦ λ other. look number p.0 p.1 false (changed number change ps) other ∙ changed_same number change ps
    ] refl

pub changed_others : (number : ℕ) (change : Reader → Reader) (ps : Readers) → KeepsOthers number ps (changed number change ps)
changed_others number change [] other differ = refl
changed_others number change (p ∷ ps) other differ =
    elim (p.0 == number) as (λ t. (p.0 == number) ≡ t → reader_at other (cond t ((p.0, change p.1) ∷ ps) (p ∷ changed number change ps)) ≡ reader_at other (p ∷ ps)) [
      | true ↦ λ same.
          let apart : (p.0 == other) ≡ false = ap (λ (n : ℕ). n == other) (same_is p.0 number same) ∙ off number other differ in
          look other p.0 (change p.1) false ps apart ∙ sym (look other p.0 p.1 false ps apart)
      | false ↦ λ _. ap (λ (o : Option Reader). cond (p.0 == other) (Some p.1) o) (changed_others number change ps other differ)
    ] refl

pub without_same : (number : ℕ) (ps : Readers) → IsAscending ps → reader_at number (without number ps) ≡ None
without_same number [] a = refl
without_same number (p ∷ ps) a =
    elim (p.0 == number) as (λ t. (p.0 == number) ≡ t → reader_at number (cond t ps (p ∷ without number ps)) ≡ None) [
      | true ↦ λ same. let is : p.0 ≡ number = same_is p.0 number same in none_below p.0 number ps a.0 (omega arith)
      | false ↦ λ other. look number p.0 p.1 false (without number ps) other ∙ without_same number ps a.1
    ] refl

pub without_others : (number : ℕ) (ps : Readers) → KeepsOthers number ps (without number ps)
without_others number [] other differ = refl
without_others number (p ∷ ps) other differ =
    elim (p.0 == number) as (λ t. (p.0 == number) ≡ t → reader_at other (cond t ps (p ∷ without number ps)) ≡ reader_at other (p ∷ ps)) [
      | true ↦ λ same. sym (look other p.0 p.1 false ps (ap (λ (n : ℕ). n == other) (same_is p.0 number same) ∙ off number other differ))
      | false ↦ λ _. ap (λ (o : Option Reader). cond (p.0 == other) (Some p.1) o) (without_others number ps other differ)
    ] refl
