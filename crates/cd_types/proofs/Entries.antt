-- Entries behind references, and names as text.
use Rattle.cd_types.specs.Entry.{is_in_name, is_name, is_taken, name_of, source_behind}
use Rattle.std.proofs.Common.{Bor, List, [], ap, arith, get_or, length, map, suc, sym, take, true, zero, ℕ, ◌<◌, ◌∙◌, ◌∷◌, ◌≡◌}
use Rattle.std.proofs.lemmas.Grind.{common_steps}
use Rattle.std.proofs.lemmas.List.Folds.{list_any_at}
use Rattle.std.proofs.lemmas.List.{get_or-map, length-map, take-map}
use Rattle.std.proofs.lemmas.Str.{IsUtf8-from_ascii}
use Rattle.std.specs.List.{list_all}
use Rattle.std.specs.Str.{IsAscii, IsUtf8, bytes_eq}

pub taken_at : (name : List ℕ) (entries : List (Bor (List ℕ))) (i : ℕ) (d : Bor (List ℕ)) → i < length entries → bytes_eq (name_of (get_or entries i d).now) name ≡ true
    → true ≡ is_taken (map (λ entry. entry.now) entries) name
taken_at name entries i d lt h =
    let e : get_or (map (λ (entry : Bor (List ℕ)). entry.now) entries) i [] ≡ (get_or entries i d).now = get_or-map (λ (entry : Bor (List ℕ)). entry.now) entries i d [] lt in
    let l : i < length (map (λ (entry : Bor (List ℕ)). entry.now) entries) = omega (arith, length-map entries (λ (entry : Bor (List ℕ)). entry.now)) in
    sym (list_any_at (λ entry. bytes_eq (name_of entry) name) (map (λ (entry : Bor (List ℕ)). entry.now) entries) i [] l (ap (λ (t : List ℕ). bytes_eq (name_of t) name) e ∙ h))

-- what the entry at a place reads as
pub at_place : (entries : List (Bor (List ℕ))) (i : ℕ) (d : Bor (List ℕ)) → i < length entries
    → source_behind (map (λ entry. entry.now) (take i entries)) (get_or entries i d).now ≡ source_behind (take i (map (λ entry. entry.now) entries)) (get_or (map (λ entry. entry.now) entries) i [])
at_place entries i d lt =
    ap (λ (earlier : List (List ℕ)). source_behind earlier (get_or entries i d).now) (sym (take-map (λ (entry : Bor (List ℕ)). entry.now) i entries))
    ∙ ap (source_behind (take i (map (λ entry. entry.now) entries))) (sym (get_or-map (λ (entry : Bor (List ℕ)). entry.now) entries i d [] lt))

below_128 : (b : ℕ) → is_in_name b ≡ true → b < 128
below_128 b h = grind (arith, common_steps)

ascii : (t : List ℕ) → list_all is_in_name t ≡ true → IsAscii t
ascii [] h i = grind (arith, common_steps)
ascii (b ∷ bs) h zero = below_128 b (grind (arith, common_steps))
ascii (b ∷ bs) h (suc i) = ascii bs (grind (arith, common_steps)) i

pub name_is_utf8 : (t : List ℕ) (most : ℕ) → is_name most t ≡ true → IsUtf8 t
name_is_utf8 t most h = IsUtf8-from_ascii t (ascii t (grind (arith, common_steps)))
