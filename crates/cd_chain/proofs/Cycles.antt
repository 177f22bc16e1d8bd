-- A table that is refused for a cycle is told the least walk.
use Rattle.cd_chain.specs.Refusals.{TellsLeastWalk}
use Rattle.cd_chain.specs.Tables.{empty_rule, fault_of, first_fault, heavy, jump_table, looped, name_at, repeated, unknown}
use Rattle.cd_chain.specs.declared.data.Chain.{Chain}
use Rattle.cd_chain.specs.declared.data.ChainFault.TheVariants as faults
use Rattle.cd_chain.specs.declared.data.ChainFault.{ChainFault}
use Rattle.cd_walks.proofs.Least.{given}
use Rattle.cd_walks.specs.Walks.{cycle}
use Rattle.std.proofs.Common.{Bool, List, None, Option, Some, false, map, refl, subst, true, ℕ, ◌+◌, ◌∙◌, ◌∷◌, [], ◌≡◌}
use Rattle.std.specs.Option.{option_map, option_or}
use Rattle.std.specs.Prelude.{if◌then◌else◌}

-- what holds of each fault of a thing holds of the first fault of things, and so on
module _ (holds : ChainFault → Type 0) where
  of_first : {A : Type 0} (fault : ℕ → A → Option ChainFault) →
      ((n : ℕ) (x : A) (why : ChainFault) → fault n x ≡ Some why → holds why) →
      (n : ℕ) (xs : List A) (why : ChainFault) → first_fault fault n xs ≡ Some why → holds why
  of_first fault each n [] why e = cc
  of_first {A} fault each n (x ∷ xs) why e = by (fault n x) refl e (of_first fault each (n + 1) xs why) where
    by : (o : Option ChainFault) → fault n x ≡ o → option_or o (first_fault fault (n + 1) xs) ≡ Some why →
        (first_fault fault (n + 1) xs ≡ Some why → holds why) → holds why
    by None is e further = further e
    by (Some found) is e further = each n x why (is ∙ e)

  of_either : (a b : Option ChainFault) → ((why : ChainFault) → a ≡ Some why → holds why) →
      ((why : ChainFault) → b ≡ Some why → holds why) → (why : ChainFault) → option_or a b ≡ Some why → holds why
  of_either None b by_a by_b why e = by_b why e
  of_either (Some found) b by_a by_b why e = by_a why e

  of_if : (b : Bool) (fault : ChainFault) → holds fault → (why : ChainFault) →
      (if b then Some fault else None) ≡ Some why → holds why
  of_if true fault h why e = let same : fault ≡ why = cc in subst holds same h
  of_if false fault h why e = cc

  of_map : {X : Type 0} (fault : X → ChainFault) → ((x : X) → holds (fault x)) → (o : Option X) (why : ChainFault) →
      option_map fault o ≡ Some why → holds why
  of_map fault each None why e = cc
  of_map fault each (Some x) why e = let same : fault x ≡ why = cc in subst holds same (each x)

module _ (table : List Chain) where
  of_looped : (why : ChainFault) → looped table ≡ Some why → TellsLeastWalk table why
  unfolding looped
  of_looped why e = by (cycle (jump_table table)) refl e where
    told : List ℕ → ChainFault
    told walk = faults.JumpCycle (map (name_at table) walk)

    by : (o : Option (List ℕ)) → cycle (jump_table table) ≡ o → option_map told o ≡ Some why → TellsLeastWalk table why
    by None is e = cc
    by (Some walk) is e =
        let same : told walk ≡ why = cc in
        subst (TellsLeastWalk table) same (let least = given (jump_table table) walk is in (walk, refl, least.0, least.1, least.2))

  pub of_fault : (why : ChainFault) → fault_of table ≡ Some why → TellsLeastWalk table why
  of_fault =
      of_either P _ _ (of_first P (repeated table) (λ n chain. of_if P _ (faults.Duplicate n) tt) 0 table)
      (of_either P _ _ (of_first P empty_rule (λ n chain. of_map P (λ rule. faults.EmptyRule n rule) (λ rule. tt) _) 0 table)
      (of_either P _ _ (of_first P (unknown table) (λ n chain. of_map P (λ name. faults.UnknownChain n name) (λ name. tt) _) 0 table)
      (of_either P _ _ of_looped
      (of_first P (heavy table) (λ n chain. of_if P _ (faults.TooHeavy n) tt) 0 table)))) where
        P : ChainFault → Type 0
        P = TellsLeastWalk table
