-- In a table where no chain reaches itself, what a chain comes to is what its step says from what the chains come to
-- that it jumps to, with no word of a depth.
use Rattle.std.proofs.Common.{◌≡◌, ℕ, zero, suc, ◌<◌, Bool, false, ◌||◌, List, [], ◌∷◌, length, Option, None, Some, refl, ap, ◌∙◌, subst, arith}
use Rattle.std.specs.Prelude.{nat_lt, slice_get, unwrap_or}
use Rattle.std.specs.List.{list_any, filter_map, cons_option, AllByRecursion}
use Rattle.std.specs.Str.{bytes_eq}
use Rattle.cd_chain.specs.declared.data.Chain.{Chain}
use Rattle.cd_target.specs.declared.target.Target.{Target}
use Rattle.cd_target.specs.declared.target.Target.TheVariants as targets
use Rattle.cd_chain.specs.Chains.{number_of, chain_at, chain_named, step_or, at_depth, through, targets_of}
use Rattle.cd_walks.specs.Walks.{from, IsFree}
use Rattle.cd_chain.specs.Tables.{jump_of, jump_numbers, jump_table}
use Rattle.cd_walks.proofs.Loops.{shallow}
use Rattle.cd_walks.specs.Levels.{is_deep}
use Rattle.std.proofs.lemmas.Bool.{ltb-false}
use Rattle.std.proofs.lemmas.List.Quantifiers.{position-Some}
use Rattle.std.proofs.lemmas.List.{get_or-map, length-map}
use Rattle.std.proofs.lemmas.Option.{slice_get_within, get_or_from_slice_get}

-- two functions give the same where a target jumps
abbrev pub Agrees : {X : Type 0} → (List ℕ → X) → (List ℕ → X) → Target → Type 0
Agrees f g (targets.Jump name) = f name ≡ g name
Agrees f g _ = Unit {0}

-- a step asks only what the chains come to that the chain jumps to
pub record Local {X : Type 0} (step : (List ℕ → X) → Chain → X) : Type 0 where
  pub asks : (f g : List ℕ → X) (chain : Chain) → AllByRecursion (Agrees f g) (targets_of chain) → step f chain ≡ step g chain

-- the chain to which a target jumps begins no walk of so many jumps
abbrev Shallow : List Chain → ℕ → Target → Type 0
Shallow table n (targets.Jump name) = (i : ℕ) → number_of name table ≡ Some i → is_deep (jump_table table) n i ≡ false
Shallow table n _ = Unit {0}

quiet : (table : List Chain) (n : ℕ) (ts : List Target) → list_any (is_deep (jump_table table) n) (filter_map (λ name. number_of name table) (filter_map jump_of ts)) ≡ false → AllByRecursion (Shallow table n) ts
quiet table n [] e = tt
quiet table n (targets.Jump name ∷ ts) e =
    elim (number_of name table) as (λ o. list_any (is_deep (jump_table table) n) (cons_option o (filter_map (λ name. number_of name table) (filter_map jump_of ts))) ≡ false → ((i : ℕ) → o ≡ Some i → is_deep (jump_table table) n i ≡ false) × AllByRecursion (Shallow table n) ts) [
      | None ↦ λ h. (λ i is. absurd (cc), quiet table n ts h)
      | Some i ↦ λ h. (λ j is. subst (λ (o : Option ℕ). is_deep (jump_table table) n (unwrap_or o 0) ≡ false) is (neither (is_deep (jump_table table) n i) _ h).0, quiet table n ts (neither (is_deep (jump_table table) n i) _ h).1)
    ] e
  where
    neither : (s t : Bool) → (s || t) ≡ false → (s ≡ false) × (t ≡ false)
    neither s t h = grind arith
quiet table n (targets.Return ∷ ts) e = (tt, quiet table n ts e)
quiet table n (targets.Stop ∷ ts) e = (tt, quiet table n ts e)
quiet table n (targets.Write names ∷ ts) e = (tt, quiet table n ts e)
quiet table n (targets.Set options ∷ ts) e = (tt, quiet table n ts e)
quiet table n (targets.Replace options ∷ ts) e = (tt, quiet table n ts e)
quiet table n (targets.Notification message severity ∷ ts) e = (tt, quiet table n ts e)

row : (table : List Chain) (i : ℕ) (chain : Chain) → slice_get table i ≡ Some chain → from (jump_table table) i ≡ jump_numbers table chain
unfolding jump_table
row table i chain e =
    get_or-map (jump_numbers table) table i chain [] (slice_get_within table i chain e)
    ∙ ap (jump_numbers table) (get_or_from_slice_get table i chain chain e)

as_many : (table : List Chain) → length (jump_table table) ≡ length table
unfolding jump_table
as_many table = length-map table (jump_numbers table)

agreeing : {X : Type 0} (f g : List ℕ → X) (table : List Chain) (n : ℕ)
    → ((name : List ℕ) → ((i : ℕ) → number_of name table ≡ Some i → is_deep (jump_table table) n i ≡ false) → f name ≡ g name)
    → (ts : List Target) → AllByRecursion (Shallow table n) ts → AllByRecursion (Agrees f g) ts
agreeing f g table n same [] all = tt
agreeing f g table n same (targets.Jump name ∷ ts) all = (same name all.0, agreeing f g table n same ts all.1)
agreeing f g table n same (targets.Return ∷ ts) all = (tt, agreeing f g table n same ts all.1)
agreeing f g table n same (targets.Stop ∷ ts) all = (tt, agreeing f g table n same ts all.1)
agreeing f g table n same (targets.Write names ∷ ts) all = (tt, agreeing f g table n same ts all.1)
agreeing f g table n same (targets.Set options ∷ ts) all = (tt, agreeing f g table n same ts all.1)
agreeing f g table n same (targets.Replace options ∷ ts) all = (tt, agreeing f g table n same ts all.1)
agreeing f g table n same (targets.Notification message severity ∷ ts) all = (tt, agreeing f g table n same ts all.1)

inside : (table : List Chain) (name : List ℕ) (i : ℕ) → number_of name table ≡ Some i → i < length table
inside [] name i is = absurd (cc)
inside (chain ∷ table) name i is = (position-Some (λ chain. bytes_eq chain.name name) (chain ∷ table) i chain is).0

settled : {X : Type 0} (step : (List ℕ → X) → Chain → X) → Local step → (none : X) (table : List Chain) (n : ℕ) (name : List ℕ)
    → ((i : ℕ) → number_of name table ≡ Some i → is_deep (jump_table table) n i ≡ false)
    → at_depth step none table n name ≡ at_depth step none table (suc n) name
settled step local none table zero name flat =
    elim (number_of name table) as (λ o. number_of name table ≡ o → none ≡ step_or step none (at_depth step none table zero) (chain_at table o)) [
      | None ↦ λ is. refl
      | Some i ↦ λ is.
          let dry = flat i is in
          let many = as_many table in
          absurd (past i is dry)
    ] refl
  where
    past : (i : ℕ) → number_of name table ≡ Some i → nat_lt i (length (jump_table table)) ≡ false → ⊥
    past i is dry =
        let many = as_many table in
        let there = inside table name i is in
        let out = ltb-false i (length (jump_table table)) dry in
        omega arith
settled step local none table (suc n) name flat =
    elim (number_of name table) as (λ o. number_of name table ≡ o → step_or step none (at_depth step none table n) (chain_at table o) ≡ step_or step none (at_depth step none table (suc n)) (chain_at table o)) [
      | None ↦ λ is. refl
      | Some i ↦ λ is. of_number (λ name' flat'. settled step local none table n name' flat') i (flat i is)
    ] refl
  where
    of_number : ((name' : List ℕ) → ((i : ℕ) → number_of name' table ≡ Some i → is_deep (jump_table table) n i ≡ false) → at_depth step none table n name' ≡ at_depth step none table (suc n) name') → (i : ℕ) → is_deep (jump_table table) (suc n) i ≡ false → step_or step none (at_depth step none table n) (slice_get table i) ≡ step_or step none (at_depth step none table (suc n)) (slice_get table i)
    of_number deeper i dry =
        elim (slice_get table i) as (λ o. slice_get table i ≡ o → step_or step none (at_depth step none table n) o ≡ step_or step none (at_depth step none table (suc n)) o) [
          | None ↦ λ is. refl
          | Some chain ↦ λ is.
              local.asks _ _ chain (agreeing _ _ table n deeper (targets_of chain)
              (quiet table n (targets_of chain) (subst (λ xs. list_any (is_deep (jump_table table) n) xs ≡ false) (row table i chain is) dry)))
        ] refl

-- the one equation of `through`
pub through-is : {X : Type 0} (step : (List ℕ → X) → Chain → X) → Local step → (none : X) (table : List Chain) → IsFree (jump_table table) → (name : List ℕ)
    → through step none table name ≡ step_or step none (through step none table) (chain_named name table)
unfolding through
through-is step local none table loopless name =
    settled step local none table (length table) name (λ i is. subst (λ n. is_deep (jump_table table) n i ≡ false) (as_many table) (shallow (jump_table table) loopless i))

-- ---- no other function meets the equation

only_at : {X : Type 0} (step : (List ℕ → X) → Chain → X) → Local step → (none : X) (table : List Chain) (f : List ℕ → X)
    → ((name : List ℕ) → f name ≡ step_or step none f (chain_named name table)) → (n : ℕ) (name : List ℕ)
    → ((i : ℕ) → number_of name table ≡ Some i → is_deep (jump_table table) n i ≡ false)
    → f name ≡ at_depth step none table n name
only_at step local none table f solves zero name flat =
    solves name ∙ elim (number_of name table) as (λ o. number_of name table ≡ o → step_or step none f (chain_at table o) ≡ none) [
      | None ↦ λ is. refl
      | Some i ↦ λ is. absurd (past i is (flat i is))
    ] refl
  where
    past : (i : ℕ) → number_of name table ≡ Some i → nat_lt i (length (jump_table table)) ≡ false → ⊥
    past i is dry =
        let many = as_many table in
        let there = inside table name i is in
        let high = ltb-false i (length (jump_table table)) dry in
        omega arith
only_at step local none table f solves (suc n) name flat =
    solves name ∙ elim (number_of name table) as (λ o. number_of name table ≡ o → step_or step none f (chain_at table o) ≡ step_or step none (at_depth step none table n) (chain_at table o)) [
      | None ↦ λ is. refl
      | Some i ↦ λ is. of_number (λ name' flat'. only_at step local none table f solves n name' flat') i (flat i is)
    ] refl
  where
    of_number : ((name' : List ℕ) → ((i : ℕ) → number_of name' table ≡ Some i → is_deep (jump_table table) n i ≡ false) → f name' ≡ at_depth step none table n name') → (i : ℕ) → is_deep (jump_table table) (suc n) i ≡ false
        → step_or step none f (slice_get table i) ≡ step_or step none (at_depth step none table n) (slice_get table i)
    of_number deeper i dry =
        elim (slice_get table i) as (λ o. slice_get table i ≡ o → step_or step none f o ≡ step_or step none (at_depth step none table n) o) [
          | None ↦ λ is. refl
          | Some chain ↦ λ is.
              local.asks _ _ chain (agreeing _ _ table n deeper (targets_of chain)
              (quiet table n (targets_of chain) (subst (λ xs. list_any (is_deep (jump_table table) n) xs ≡ false) (row table i chain is) dry)))
        ] refl

pub only : {X : Type 0} (step : (List ℕ → X) → Chain → X) → Local step → (none : X) (table : List Chain) → IsFree (jump_table table) → (f : List ℕ → X)
    → ((name : List ℕ) → f name ≡ step_or step none f (chain_named name table)) → (name : List ℕ) → f name ≡ through step none table name
unfolding through
only step local none table loopless f solves name =
    only_at step local none table f solves (length table) name (λ i is. subst (λ n. is_deep (jump_table table) n i ≡ false) (as_many table) (shallow (jump_table table) loopless i))
