-- A field carried forward is the one that looking back finds.
use Rattle.cd_net.specs.Carried.{set_behind, with_field}
use Rattle.cd_net.specs.InForce.{InForce, in_force, last_of}
use Rattle.cd_net.specs.Packet.{payload}
use Rattle.cd_net.specs.Payload.{payload_text}
use Rattle.cd_net.specs.Refusals.{set_in_force, set_of_type}
use Rattle.cd_net.specs.declared.numbers.TheConstants.{TYPE}
use Rattle.cd_net.specs.declared.packet.Part.{Part}
use Rattle.cd_value.specs.declared.data.DataSet.{DataSet}
use Rattle.std.proofs.Common.{Bool, List, Option, Some, [], ap, cond, false, refl, reverse, sym, true, ℕ, ◌++◌, ◌==◌, ◌∙◌, ◌∷◌, ◌≡◌}
use Rattle.std.proofs.lemmas.List.{reverse-append}
use Rattle.std.specs.List.{find}
use Rattle.std.specs.Option.{option_map_or}

-- behind one more part it is what that part says, where it is of the kind, and what it was before otherwise
pub last_of-push : {A : Type 0} (is_kind : ℕ → Bool) (read : Part → A) (default : A) (before : List Part) (part : Part)
    → last_of is_kind read default (before ++ part ∷ []) ≡ cond (is_kind part.kind) (read part) (last_of is_kind read default before)
unfolding last_of
last_of-push {A} is_kind read default before part =
    ap (λ (parts : List Part). option_map_or read (find (λ p. is_kind p.kind) parts) default) (reverse-append before (part ∷ []))
    ∙ first (is_kind part.kind) (find (λ p. is_kind p.kind) (reverse before))
  where
    first : (t : Bool) (o : Option Part) → option_map_or read (cond t (Some part) o) default ≡ cond t (read part) (option_map_or read o default)
    first true o = refl
    first false o = refl

-- so are all fields
pub in_force-push : (bytes : List ℕ) (before : List Part) (part : Part)
    → in_force bytes (before ++ part ∷ []) ≡ with_field part.kind (payload bytes part) (in_force bytes before)
unfolding with_field
in_force-push bytes before part = simp (last_of-push)

-- and the data set of the type
pub set_is_in_force : (types : List DataSet) (kind : ℕ) (payload : List ℕ) (fields next : InForce) (set again : Option DataSet)
    → set ≡ set_in_force types fields → next ≡ with_field kind payload fields → again ≡ set_behind types kind next set → again ≡ set_in_force types next
unfolding with_field
set_is_in_force types kind payload fields next set again set_is next_is again_is = again_is ∙ by (kind == TYPE) refl
  where
    by : (t : Bool) → (kind == TYPE) ≡ t → cond t (set_in_force types next) set ≡ set_in_force types next
    by true e = refl
    by false e =
        let named : next.type_name ≡ cond (kind == TYPE) (payload_text payload) fields.type_name = ap (λ (f : InForce). f.type_name) next_is in
        let same : next.type_name ≡ fields.type_name = named ∙ ap (λ (t : Bool). cond t (payload_text payload) fields.type_name) e in
        set_is ∙ ap (set_of_type types) (sym same)
