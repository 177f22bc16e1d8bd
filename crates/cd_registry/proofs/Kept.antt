-- What a change of one slot leaves: which slots are ready, and their room.
use Rattle.cd_registry.specs.Rows.{Row, is_plug_home, is_ready}
use Rattle.cd_registry.specs.Slots.{is_probe_home, is_slot_ready, place_tells, row_of, slot_spare}
use Rattle.cd_registry.specs.declared.place.Place.TheVariants.{PlugHome, PlugOut, ProbeHome, ProbeOut, Retired}
use Rattle.cd_registry.specs.declared.place.Place.{Place}
use Rattle.cd_registry.specs.declared.plug.PlugTells.{PlugTells}
use Rattle.cd_registry.specs.declared.probe.ProbeTells.{ProbeTells}
use Rattle.cd_registry.specs.declared.slot.Slot.{Slot}
use Rattle.std.proofs.Common.{Bool, List, ap, arith, cond, eq-eqb, false, get_or, inl, inr, length, map, nat_eq, refl, set, sym, true, ℕ, ◌+◌, ◌<◌, ◌∙◌, ◌≡◌, ◌≢◌, ◌≤◌, ◌⊎◌}
use Rattle.std.proofs.Math.Seq.{map-set_same}
use Rattle.std.proofs.lemmas.Bool.{cases_eq, ne_eqb}
use Rattle.std.proofs.lemmas.List.{get_or-map, get_or-set_other, get_or-set_same, length-map, map-set}

module _ {P Q : Type 0} (plug : P → PlugTells) (probe : Q → ProbeTells) where
  pub plug_home_same : (place : Place P Q) → is_plug_home (place_tells plug probe place) ≡ is_plug_home place
  plug_home_same (PlugHome object) = refl
  plug_home_same (ProbeHome object) = refl
  plug_home_same (PlugOut actor) = refl
  plug_home_same (ProbeOut actor) = refl
  plug_home_same Retired = refl

  pub probe_home_same : (place : Place P Q) → is_probe_home (place_tells plug probe place) ≡ is_probe_home place
  probe_home_same (PlugHome object) = refl
  probe_home_same (ProbeHome object) = refl
  probe_home_same (PlugOut actor) = refl
  probe_home_same (ProbeOut actor) = refl
  probe_home_same Retired = refl

  -- a slot is ready where its row is
  pub ready_same : (slot : Slot P Q) → is_ready (row_of plug probe slot) ≡ is_slot_ready slot
  ready_same slot = rw (plug_home_same slot.place) refl

  -- a slot whose row is changed so is ready as that row is
  pub ready_by : (slot : Slot P Q) (row : Row) → row_of plug probe slot ≡ row → is_slot_ready slot ≡ is_ready row
  ready_by slot row is = sym (ready_same slot) ∙ ap is_ready is

  -- the flags still tell who is ready, where the new slot is so as the old one was
  pub ready_kept : (flags : List Bool) (slots : List (Slot P Q)) (i : ℕ) (x y : Slot P Q) (row : Row) → x ≡ get_or slots i x
      → row_of plug probe y ≡ row → is_ready row ≡ is_ready (row_of plug probe x)
      → flags ≡ map is_slot_ready slots → flags ≡ map is_slot_ready (set slots i y)
  ready_kept flags slots i x y row is after same marked =
      marked ∙ sym (map-set_same is_slot_ready slots i y x (ready_by y row after ∙ same ∙ ready_same x ∙ ap is_slot_ready is))

-- they tell it where the flag of the new slot is set
pub ready_set : {P Q : Type 0} (flags : List Bool) (slots : List (Slot P Q)) (i : ℕ) (y : Slot P Q) (up : Bool)
    → up ≡ is_slot_ready y → flags ≡ map is_slot_ready slots → set flags i up ≡ map is_slot_ready (set slots i y)
ready_set flags slots i y up told marked = ap (λ flags. set flags i up) marked ∙ ap (λ up. set (map is_slot_ready slots) i up) told ∙ sym (map-set is_slot_ready slots i y)

-- the room of the slot that was changed
pub room_here : {P Q : Type 0} (slots : List (Slot P Q)) (i : ℕ) (x y : Slot P Q) → x ≡ get_or slots i x → i < length slots
    → (get_or (map slot_spare slots) i 0 ≡ slot_spare x) × (get_or (map slot_spare (set slots i y)) i 0 ≡ slot_spare y)
room_here slots i x y is within = (
  get_or-map slot_spare slots i x 0 within ∙ ap slot_spare (sym is),
  ap (λ spares. get_or spares i 0) (map-set slot_spare slots i y) ∙ get_or-set_same (map slot_spare slots) i (slot_spare y) 0 (omega (arith, length-map slots slot_spare)),
)

-- that of another
pub room_there : {P Q : Type 0} (slots : List (Slot P Q)) (i n : ℕ) (y : Slot P Q) → n ≢ i
    → get_or (map slot_spare (set slots i y)) n 0 ≡ get_or (map slot_spare slots) n 0
room_there slots i n y other = ap (λ spares. get_or spares n 0) (map-set slot_spare slots i y) ∙ get_or-set_other (map slot_spare slots) i n (slot_spare y) 0 other

-- room is used at one slot at most
pub room_used : {P Q : Type 0} (slots : List (Slot P Q)) (i used : ℕ) (x y : Slot P Q) → x ≡ get_or slots i x → i < length slots → slot_spare x ≤ slot_spare y + used
    → (n : ℕ) → get_or (map slot_spare slots) n 0 ≤ get_or (map slot_spare (set slots i y)) n 0 + cond (nat_eq n i) used 0
room_used slots i used x y is within less n = by (cases_eq n i)
  where
    by : (n ≡ i) ⊎ (n ≡ i → ⊥) → get_or (map slot_spare slots) n 0 ≤ get_or (map slot_spare (set slots i y)) n 0 + cond (nat_eq n i) used 0
    by (inl same) =
        let here = room_here slots i x y is within in
        let flag : nat_eq n i ≡ true = eq-eqb n i same in
        rw flag (rw same (omega (arith, here.0, here.1)))
    by (inr other) =
        let there = room_there slots i n y other in
        let flag : nat_eq n i ≡ false = ne_eqb n i other in
        rw flag (omega (arith, there))

-- no room is used
pub room_kept : {P Q : Type 0} (slots : List (Slot P Q)) (i : ℕ) (x y : Slot P Q) → x ≡ get_or slots i x → i < length slots → slot_spare x ≤ slot_spare y
    → (n : ℕ) → get_or (map slot_spare slots) n 0 ≤ get_or (map slot_spare (set slots i y)) n 0
room_kept slots i x y is within less n = by (cases_eq n i)
  where
    by : (n ≡ i) ⊎ (n ≡ i → ⊥) → get_or (map slot_spare slots) n 0 ≤ get_or (map slot_spare (set slots i y)) n 0
    by (inl same) = let here = room_here slots i x y is within in rw same (omega (arith, here.0, here.1))
    by (inr other) = let there = room_there slots i n y other in omega (arith, there)

-- the new slot has what room it has
pub room_of : {P Q : Type 0} (slots : List (Slot P Q)) (i : ℕ) (x y : Slot P Q) → x ≡ get_or slots i x → i < length slots
    → get_or (map slot_spare (set slots i y)) i 0 ≡ slot_spare y
room_of slots i x y is within = (room_here slots i x y is within).1

-- the flags still tell who is ready, where the new slot is so as the old one was
pub marked_kept : {P Q : Type 0} (flags : List Bool) (slots : List (Slot P Q)) (i : ℕ) (x y : Slot P Q) → x ≡ get_or slots i x
    → is_slot_ready y ≡ is_slot_ready x → flags ≡ map is_slot_ready slots → flags ≡ map is_slot_ready (set slots i y)
marked_kept flags slots i x y is same marked = marked ∙ sym (map-set_same is_slot_ready slots i y x (same ∙ ap is_slot_ready is))
