-- Passes and their children.
use Rattle.cd_turn.specs.Turns.{IsPassOf, actor_of, out_of, parent_of, view}
use Rattle.cd_turn.specs.declared.pass.Pass.{Pass}
use Rattle.cd_turn.specs.declared.turn.Turn.{Turn}
use Rattle.cd_turn_tests.specs.Ticks.{tick_by}
use Rattle.cd_turn_tests.specs.declared.count.Count.{Count}
use Rattle.cd_turn_tests.specs.declared.count.Tick.{Tick}
use Rattle.std.specs.Prelude.{◌≡◌}

abbrev pub CountPass : Type 0
CountPass = Pass Count Tick (Unit {0})

abbrev pub CountTurn : Type 0
CountTurn = Turn Count Tick (Unit {0})

-- a pass that was split off from another, and has none out itself
pub record IsChild (t : CountTurn) (parent child : CountPass) : Type 0 where
  pub pass : IsPassOf tick_by t child
  pub parent_is : parent_of child ≡ actor_of parent
  pub none_out : out_of child ≡ 0

-- one pass, later: of the same turn, with the same actor, and with no more entries of its own
pub record SameActor (t : CountTurn) (old new : CountPass) : Type 0 where
  pub pass : IsPassOf tick_by t new
  pub actor : actor_of new ≡ actor_of old
  pub mine : (view new).mine ≡ (view old).mine
