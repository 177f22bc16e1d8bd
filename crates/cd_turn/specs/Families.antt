-- Passes that are split off, and joined.
use Rattle.cd_turn.specs.Rule.{Has, Joined, drawn_of, new_view}
use Rattle.cd_turn.specs.declared.view.View.{View}
use Rattle.std.specs.Option.{option_or}
use Rattle.std.specs.Prelude.{Bool, List, None, Option, Some, [], false, if◌then◌else◌, true, ℕ, ◌++◌, ◌+◌, ◌<◌, ◌==◌, ◌∷◌, ◌≡◌, ◌⊎◌}

module _ {K E : Type 0} where
  -- a view tells of an actor: its own, a child or one that it joined
  abbrev pub TellsOf : View K E → ℕ → Type 0
  TellsOf v a = (v.actor ≡ a) ⊎ (Has v.children a ⊎ Joined v a)

  -- a number above each actor of whom a view tells
  abbrev pub IsNew : View K E → ℕ → Type 0
  IsNew v n = (a : ℕ) → TellsOf v a → a < n

-- the actor that was drawn
abbrev pub drawn_actor : Option ℕ → ℕ
drawn_actor None = 0
drawn_actor (Some n) = n

-- splitting: what is left of the old view, and the new one
module _ {K E : Type 0} where
  abbrev pub parted : View K E → View K E
  parted v = record v {
    fresh = None;
    children = v.children ++ drawn_of v.fresh;
    unjoined = v.unjoined ++ drawn_of v.fresh;
  }

  abbrev pub child_of : View K E → View K E
  child_of v = new_view v.fixed (drawn_actor v.fresh) v.actor v.seen

  -- the old pass has one child more, and the new one has seen as much and done nothing
  pub record SplitsOff (v w z : View K E) : Type 0 where
    pub fixed : (w.fixed ≡ v.fixed) × (z.fixed ≡ v.fixed)
    pub actor : (w.actor ≡ v.actor) × (w.parent ≡ v.parent) × (z.parent ≡ v.actor)
    pub seen : (w.seen ≡ v.seen) × (z.seen ≡ v.seen)
    pub mine : (w.mine ≡ v.mine) × (z.mine ≡ [])
    pub children : (w.children ≡ v.children ++ z.actor ∷ []) × (z.children ≡ [])
    pub unjoined : (w.unjoined ≡ v.unjoined ++ z.actor ∷ []) × (z.unjoined ≡ [])
    pub joined : (w.joined ≡ v.joined) × (z.joined ≡ [])
    pub over : (w.over ≡ v.over) × (z.over ≡ None)

-- joining: the longer of two lists, and a list without one number
module _ {A : Type 0} where
  abbrev pub is_shorter : List A → List A → Bool
  is_shorter [] [] = false
  is_shorter [] (y ∷ ys) = true
  is_shorter (x ∷ xs) [] = false
  is_shorter (x ∷ xs) (y ∷ ys) = is_shorter xs ys

  abbrev pub longer_list : List A → List A → List A
  longer_list xs ys = if is_shorter xs ys then ys else xs

abbrev pub without_actor : ℕ → List ℕ → List ℕ
without_actor a [] = []
without_actor a (x ∷ xs) = if x == a then xs else x ∷ without_actor a xs

-- the view of a pass that took in another
abbrev pub merged_view : {K E : Type 0} → View K E → View K E → View K E
merged_view v w = record v {
  seen = longer_list v.seen w.seen;
  unjoined = without_actor w.actor v.unjoined;
  merged = v.merged + 1;
  joined = v.joined ++ (w.actor, w.mine) ∷ w.joined;
  beginnings = v.seen ∷ w.seen ∷ [];
  over = option_or v.over w.over;
}
