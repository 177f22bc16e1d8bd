-- Weights that stop just above the greatest.
use Rattle.std.proofs.Common.{◌≡◌, ℕ, zero, suc, ◌+◌, ◌-◌, ◌<◌, ◌≤◌, min, List, [], ◌∷◌, map, length, take, ◌++◌, length-append, get_or, Option, None, Some, ◌⊎◌, inl, inr, refl, sym, ap, ◌∙◌, subst, arith}
use Rattle.std.proofs.lemmas.List.{get_or-map, get_or_past, length-map, map_push, take_more}
use Rattle.std.proofs.lemmas.List.Sums.{sum_by-cons}
use Rattle.std.proofs.lemmas.Option.{slice_get_cases}
use Rattle.std.specs.List.{cons_option, filter_map, flat_map, slice_get, sum_by}
use Rattle.cd_walks.specs.Walks.{from}
use Rattle.cd_chain.specs.Tables.{jump_numbers, jump_of, jump_table}
use Rattle.cd_chain.specs.declared.data.Rule.{Rule}
use Rattle.cd_chain.proofs.Jumping.{flat_append}
use Rattle.cd_chain.specs.declared.data.Chain.{Chain}
use Rattle.cd_target.specs.declared.target.Target.{Target}
use Rattle.cd_target.specs.declared.target.Target.TheVariants as targets
use Rattle.cd_chain.specs.Chains.{at_depth, chain_at, chain_weight, number_of, step_or, target_weight, targets_of, through, weight}
use Rattle.cd_chain.specs.Weights.{AreWeights, looked_up, weight_at}

capped : (f g : List ℕ → ℕ) → ((name : List ℕ) → f name ≡ min 4097 (g name)) → (ts : List Target) → min 4097 (sum_by (target_weight f) ts) ≡ min 4097 (sum_by (target_weight g) ts)
capped f g same [] = refl
capped f g same (t ∷ ts) =
    let e = sum_by-cons (target_weight f) t ts in
    let h = sum_by-cons (target_weight g) t ts in
    let rest = capped f g same ts in
    let own = one t in
    omega arith
  where
    one : (t : Target) → min 4097 (target_weight f t) ≡ min 4097 (target_weight g t)
    one (targets.Jump name) = let s = same name in omega arith
    one targets.Return = refl
    one targets.Stop = refl
    one (targets.Write names) = refl
    one (targets.Set options) = refl
    one (targets.Replace options) = refl
    one (targets.Notification message severity) = refl

pub first : (table : List Chain) → AreWeights table 0 []
first table = record { at = λ name. none (number_of name table) }
  where
    none : (o : Option ℕ) → weight_at [] o ≡ 0
    none None = refl
    none (Some n) = refl

pub deeper : (table : List Chain) (n : ℕ) (old slice new : List ℕ) → AreWeights table n old → slice ≡ old → new ≡ map (λ chain. min 4097 (chain_weight (looked_up table slice) chain)) table → AreWeights table (n + 1) new
deeper table n old slice new are same made = record {
  at = λ name. subst (λ m. looked_up table new name ≡ min 4097 (at_depth chain_weight 0 table m name)) (more n) (by_option (number_of name table));
}
  where
    more : (n : ℕ) → suc n ≡ n + 1
    more n = omega arith

    F : Chain → ℕ
    F = λ chain. min 4097 (chain_weight (looked_up table slice) chain)

    F-is : (chain : Chain) → F chain ≡ min 4097 (chain_weight (at_depth chain_weight 0 table n) chain)
    F-is chain = capped (looked_up table slice) (at_depth chain_weight 0 table n) (λ name. ap (λ (ws : List ℕ). looked_up table ws name) same ∙ are.at name) (targets_of chain)

    at_chain : (i : ℕ) → get_or new i 0 ≡ min 4097 (step_or chain_weight 0 (at_depth chain_weight 0 table n) (slice_get table i))
    at_chain i = by (slice_get_cases table i).1
      where
        by : ((chain : Chain) × (i < length table) × (slice_get table i ≡ Some chain) × (get_or table i chain ≡ chain)) ⊎ ((length table ≤ i) × (slice_get table i ≡ None)) → get_or new i 0 ≡ min 4097 (step_or chain_weight 0 (at_depth chain_weight 0 table n) (slice_get table i))
        by (inl w) =
            ap (λ (ws : List ℕ). get_or ws i 0) made ∙ get_or-map F table i w.0 0 w.1 ∙ ap F w.3 ∙ F-is w.0
            ∙ ap (λ (o : Option Chain). min 4097 (step_or chain_weight 0 (at_depth chain_weight 0 table n) o)) (sym w.2)
        by (inr w) =
            ap (λ (ws : List ℕ). get_or ws i 0) made ∙ get_or_past (map F table) i 0 (let e = length-map table F in let l = w.0 in omega arith)
            ∙ ap (λ (o : Option Chain). min 4097 (step_or chain_weight 0 (at_depth chain_weight 0 table n) o)) (sym w.1)

    by_option : (o : Option ℕ) → weight_at new o ≡ min 4097 (step_or chain_weight 0 (at_depth chain_weight 0 table n) (chain_at table o))
    by_option None = refl
    by_option (Some i) = at_chain i

pub all : (table : List Chain) (n : ℕ) (weights : List ℕ) → AreWeights table n weights → n ≡ length table → (name : List ℕ) → looked_up table weights name ≡ min 4097 (weight table name)
unfolding through
all table n weights are is name = are.at name ∙ ap (λ m. min 4097 (at_depth chain_weight 0 table m name)) is

-- weights that a round leaves as they are
stable : (table : List Chain) (n : ℕ) (weights : List ℕ) → AreWeights table n weights → weights ≡ map (λ chain. min 4097 (chain_weight (looked_up table weights) chain)) table → (k : ℕ) → AreWeights table (n + k) weights
stable table n weights are same zero = subst (λ m. AreWeights table m weights) (none n) are
  where
    none : (n : ℕ) → n ≡ n + 0
    none n = omega arith
stable table n weights are same (suc k) = subst (λ m. AreWeights table m weights) (more n k) (deeper table (n + k) weights weights weights (stable table n weights are same k) refl same)
  where
    more : (n k : ℕ) → n + k + 1 ≡ n + suc k
    more n k = omega arith

pub settled : (table : List Chain) (n : ℕ) (old slice next next_slice : List ℕ) → AreWeights table n old → slice ≡ old → next ≡ map (λ chain. min 4097 (chain_weight (looked_up table slice) chain)) table → next_slice ≡ next → next_slice ≡ slice → n < length table
    → (name : List ℕ) → looked_up table next name ≡ min 4097 (weight table name)
settled table n old slice next next_slice are same made read alike below =
    let is : next ≡ slice = sym read ∙ alike in
    let next_are = subst (AreWeights table n) (sym (is ∙ same)) are in
    let stays = made ∙ ap (λ (ws : List ℕ). map (λ chain. min 4097 (chain_weight (looked_up table ws) chain)) table) (sym is) in
    all table (n + (length table - n)) next (stable table n next next_are stays (length table - n)) (omega arith)

-- ---- weights by number

-- what targets weigh is their number, and what their jumps weigh
counted : (table : List Chain) (weights : List ℕ) (ts : List Target) → sum_by (target_weight (looked_up table weights)) ts ≡ length ts + sum_by (λ n. get_or weights n 0) (filter_map (λ name. number_of name table) (filter_map jump_of ts))
counted table weights [] = refl
counted table weights (t ∷ ts) = sum_by-cons (target_weight (looked_up table weights)) t ts ∙ one t (counted table weights ts)
  where
    jumped : (o : Option ℕ) → (sum_by (target_weight (looked_up table weights)) ts ≡ length ts + sum_by (λ n. get_or weights n 0) (filter_map (λ name. number_of name table) (filter_map jump_of ts))) → 1 + weight_at weights o + sum_by (target_weight (looked_up table weights)) ts ≡ suc (length ts) + sum_by (λ n. get_or weights n 0) (cons_option o (filter_map (λ name. number_of name table) (filter_map jump_of ts)))
    jumped None rest = omega arith
    jumped (Some n) rest = let e = sum_by-cons (λ n. get_or weights n 0) n (filter_map (λ name. number_of name table) (filter_map jump_of ts)) in omega arith

    one : (t : Target) → (sum_by (target_weight (looked_up table weights)) ts ≡ length ts + sum_by (λ n. get_or weights n 0) (filter_map (λ name. number_of name table) (filter_map jump_of ts))) → target_weight (looked_up table weights) t + sum_by (target_weight (looked_up table weights)) ts ≡ length (t ∷ ts) + sum_by (λ n. get_or weights n 0) (filter_map (λ name. number_of name table) (filter_map jump_of (t ∷ ts)))
    one (targets.Jump name) rest = jumped (number_of name table) rest
    one targets.Return rest = omega arith
    one targets.Stop rest = omega arith
    one (targets.Write names) rest = omega arith
    one (targets.Set options) rest = omega arith
    one (targets.Replace options) rest = omega arith
    one (targets.Notification message severity) rest = omega arith

pub by_number : (table : List Chain) (J : List (List ℕ)) (weights : List ℕ) (numbers : List ℕ) (i : ℕ) (chain : Chain) (w : ℕ) → J ≡ jump_table table → i < length table → chain ≡ get_or table i chain
    → numbers ≡ from J i → w ≡ min 4097 (length (targets_of chain) + sum_by (λ n. get_or weights n 0) numbers) → w ≡ min 4097 (chain_weight (looked_up table weights) chain)
unfolding jump_table
by_number table J weights numbers i chain w are below read own is =
    is ∙ ap (λ (ns : List ℕ). min 4097 (length (targets_of chain) + sum_by (λ n. get_or weights n 0) ns))
    (own ∙ ap (λ (J : List (List ℕ)). get_or J i []) are ∙ get_or-map (jump_numbers table) table i chain [] below ∙ ap (jump_numbers table) (sym read))
    ∙ ap (min 4097) (sym (counted table weights (targets_of chain)))

pub mapped_more : (F : Chain → ℕ) (old new : List ℕ) (table : List Chain) (i : ℕ) (chain : Chain) (w : ℕ) → i < length table → chain ≡ get_or table i chain → w ≡ F chain → old ≡ map F (take i table) → new ≡ old ++ w ∷ [] → new ≡ map F (take (i + 1) table)
mapped_more F old new table i chain w below read is so_far more =
    more ∙ ap (λ (ws : List ℕ). ws ++ w ∷ []) so_far ∙ ap (λ w. map F (take i table) ++ w ∷ []) is ∙ sym (map_push F (take i table) chain)
    ∙ ap (map F) (sym (take_more table i chain below ∙ ap (λ c. take i table ++ c ∷ []) (sym read)))

-- ---- how many targets a chain has

pub counted_more : (xs : List Rule) (i : ℕ) (x : Rule) (count new : ℕ) → i < length xs → x ≡ get_or xs i x → count ≡ min 4097 (length (flat_map (λ rule. rule.targets) (take i xs))) → new ≡ min 4097 (count + length x.targets) → new ≡ min 4097 (length (flat_map (λ rule. rule.targets) (take (i + 1) xs)))
counted_more xs i x count new below read so_far is =
    let e = ap length (ap (flat_map (λ rule. rule.targets)) (take_more xs i x below ∙ ap (λ y. take i xs ++ y ∷ []) (sym read)) ∙ flat_append (λ rule. rule.targets) (take i xs) x) in
    let l = length-append (flat_map (λ rule. rule.targets) (take i xs)) x.targets in
    omega arith
