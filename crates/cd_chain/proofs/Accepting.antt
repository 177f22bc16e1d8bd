-- An accepted table has no chain that reaches itself.
use Rattle.std.proofs.Common.{◌≡◌, ℕ, ◌<◌, not, List, length, get_or, Option, None, Some, IsTrue, is_some, refl, sym, ap, ◌∙◌}
use Rattle.std.proofs.lemmas.Option.{slice_get_read}
use Rattle.std.specs.Option.{option_map, option_or}
use Rattle.cd_value.specs.declared.data.ValueList.{ValueList}
use Rattle.cd_chain.specs.declared.data.Verdict.TheVariants.{Continue}
use Rattle.cd_chain.specs.Chains.{ended, out, run_chain, run_numbered, step_or}
use Rattle.cd_match.specs.Matches.{Scene}
use Rattle.cd_chain.specs.declared.data.Chain.{Chain}
use Rattle.cd_chain.specs.declared.data.ChainFault.{ChainFault}
use Rattle.cd_chain.specs.Tables.{empty_rule, fault_of, first_fault, is_accepted, jump_table, looped, repeated, unknown}
use Rattle.cd_walks.specs.Walks.{cycle, IsFree}
use Rattle.cd_walks.proofs.Loops.{free}

both_none : (a b : Option ChainFault) → option_or a b ≡ None → (a ≡ None) × (b ≡ None)
both_none None b e = (refl, e)
both_none (Some x) b e = absurd (cc)

none_mapped : {X Y : Type 0} (f : X → Y) (o : Option X) → option_map f o ≡ None → o ≡ None
none_mapped f None e = refl
none_mapped f (Some x) e = absurd (cc)

none : {X : Type 0} (o : Option X) → IsTrue (not (is_some o)) → o ≡ None
none None e = refl
none (Some x) e = absurd (cc)

pub accepted : (table : List Chain) → IsTrue (is_accepted table) → fault_of table ≡ None
accepted table yes' = none (fault_of table) yes'

pub no_loop : (table : List Chain) → fault_of table ≡ None → IsFree (jump_table table)
unfolding looped
no_loop table e =
    free (jump_table table) (none_mapped _ (cycle (jump_table table))
    (both_none (looped table) _ (both_none (first_fault (unknown table) 0 table) _ (both_none (first_fault empty_rule 0 table) _ (both_none (first_fault (repeated table) 0 table) _ e).1).1).1).0)

pub numbered : (scene : Scene) (table slice : List Chain) (n : ℕ) (chain : Chain) (list : ValueList) → slice ≡ table → n < length table → chain ≡ get_or slice n chain → run_chain scene (out scene slice) chain list ≡ run_numbered scene table n list
numbered scene table slice n chain list same below read =
    ap (λ (table : List Chain). run_chain scene (out scene table) chain list) same
    ∙ ap (λ (o : Option Chain). step_or (run_chain scene) (ended Continue) (out scene table) o list) (sym (slice_get_read table (length table) n chain refl below (read ∙ ap (λ (table : List Chain). get_or table n chain) same)))
