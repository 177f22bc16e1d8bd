-- What a pass knows and shows, and which turn it is of.
use Rattle.cd_turn.specs.Passes.{IsHeld, IsPass, Shows}
use Rattle.cd_turn.specs.declared.pass.Pass.{Pass}
use Rattle.cd_turn.specs.declared.turn.Turn.{Turn}
use Rattle.cd_turn.specs.declared.view.View.{View}
use Rattle.std.specs.Prelude.{List, Option, [], ℕ, ◌∷◌, ◌≡◌}

module _ {S E K : Type 0} where
  -- what a pass knows
  abbrev pub view : Pass S E K → View K E
  view p = p.seat.me.0

  -- what it shows at run time. Between two calls these are the numbers of its view
  abbrev pub actor_of : Pass S E K → ℕ
  actor_of p = p.face.actor

  abbrev pub parent_of : Pass S E K → ℕ
  parent_of p = p.face.parent

  abbrev pub out_of : Pass S E K → ℕ
  out_of p = p.face.out

  abbrev pub over_of : Pass S E K → Option ℕ
  over_of p = p.face.over

  -- a pass of this turn, between two calls
  abbrev pub IsPassOf : (E → ℕ) → Turn S E K → Pass S E K → Type 0
  IsPassOf by t p = IsPass by t.table.shared.table_id p.seat p.face

  -- a pass of this turn that has the state
  abbrev pub HasTurn : (E → ℕ) → Turn S E K → Pass S E K → Type 0
  HasTurn by t p = IsHeld by t.table.shared.table_id p.seat p.face

  -- the state x is out with the pass
  abbrev pub InHand : Pass S E K → S → Type 0
  InHand p x = p.seat.me.1 ≡ (0, x) ∷ []

  -- the state that is out with the pass stands for this list, with the pass's fixed part
  abbrev pub ShowsFor : (K → List E → S → Type 0) → Pass S E K → List E → Type 0
  ShowsFor means p log = Shows means p.seat.me log
