-- What is left of a source over calls, one after another.
use Rattle.cd_io.specs.Told.{Takes}
use Rattle.std.proofs.Common.{IfSome, List, None, Option, Some, [], ap, append-nil, append_assoc, arith, length, length-append, refl, sym, ℕ, ◌++◌, ◌<◌, ◌∙◌, ◌∷◌, ◌≡◌}
use Rattle.std.proofs.lemmas.Option.{same_Some}
use Rattle.std.specs.Option.{option_map}

-- no call
pub takes_none : (told : Option (List ℕ)) → Takes [] told told
takes_none None = refl
takes_none (Some x) = refl

-- two calls
pub takes_more : (more most : List ℕ) (old mid new : Option (List ℕ))
    → Takes more old mid → Takes most mid new → Takes (more ++ most) old new
takes_more more most old mid None s t = s ∙ ap (option_map (λ (rest : List ℕ). more ++ rest)) t
takes_more more most old mid (Some z) s t =
    s ∙ ap (option_map (λ (rest : List ℕ). more ++ rest)) t ∙ ap Some (sym (append_assoc more most z))

-- where nothing is left, all was taken
pub all_taken : (bytes : List ℕ) (old new : Option (List ℕ)) → Takes bytes old new
    → IfSome new (λ rest. rest ≡ []) → IfSome old (λ text. text ≡ bytes)
all_taken bytes None new s e = tt
all_taken bytes (Some x) None s e = absurd (cc)
all_taken bytes (Some x) (Some y) s e =
    same_Some x (bytes ++ y) s ∙ ap (λ (rest : List ℕ). bytes ++ rest) e ∙ append-nil bytes

-- what was taken was left before
pub many_taken : (limit : ℕ) (bytes : List ℕ) (old new : Option (List ℕ)) → Takes bytes old new
    → limit < length bytes → IfSome old (λ text. limit < length text)
many_taken limit bytes None new s many = tt
many_taken limit bytes (Some x) None s many = absurd (cc)
many_taken limit bytes (Some x) (Some y) s many =
    let same : length x ≡ length (bytes ++ y) = ap length (same_Some x (bytes ++ y) s) in
    omega (arith, same, length-append bytes y)

no_rest : (bytes rest : List ℕ) → [] ≡ bytes ++ rest → rest ≡ []
no_rest [] rest is = sym is
no_rest (x ∷ bytes) rest is = absurd (cc)

-- the end stays
pub still_at_end : (bytes : List ℕ) (old new : Option (List ℕ)) → Takes bytes old new
    → IfSome old (λ rest. rest ≡ []) → IfSome new (λ rest. rest ≡ [])
still_at_end bytes old None s e = tt
still_at_end bytes None (Some y) s e = absurd (cc)
still_at_end bytes (Some x) (Some y) s e = no_rest bytes y (sym e ∙ same_Some x (bytes ++ y) s)
