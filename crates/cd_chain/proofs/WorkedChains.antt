-- Worked examples of the definitions, by computation.
use Rattle.std.proofs.Common.{◌≡◌, ℕ, pos, List, [], ◌∷◌, replicate, None, Some, refl}
use Rattle.std.specs.Prelude.{codes}
use Rattle.cd_value.specs.Identifier.{Fields}
use Rattle.cd_value.specs.declared.data.Value.TheVariants.{Derive}
use Rattle.cd_value.specs.declared.data.ValueList.{ValueList}
use Rattle.cd_chain.specs.declared.data.Action.TheVariants as actions
use Rattle.cd_chain.specs.declared.data.Chain.{Chain}
use Rattle.cd_chain.specs.declared.data.ChainFault.TheVariants as faults
use Rattle.cd_pattern.specs.declared.field.Field.TheVariants as fields
use Rattle.cd_target.specs.Placeholders as placeholders
use Rattle.cd_target.specs.declared.target.Target.{Target}
use Rattle.cd_target.specs.declared.target.Target.TheVariants as targets
use Rattle.cd_chain.specs.declared.data.Verdict.TheVariants as verdicts
use Rattle.cd_chain.specs.Chains.{ended, out, through, weight}
use Rattle.cd_chain.specs.Tables.{fault_of, jump_table, looped}
use Rattle.cd_match.specs.Matches.{Scene}
use Rattle.cd_match.specs.declared.data.Match.TheVariants as matches
use Rattle.cd_value.specs.declared.data.Notification.{Notification}
use Rattle.cd_value.specs.declared.data.Severity.TheVariants as severities

plain : List ℕ → List Target → Chain
plain name defaults = record { name = name; rules = []; defaults = defaults }

id_of : List ℕ → Fields
id_of host =
    record { host = host; plugin = codes "p"; plugin_instance = []; type_name = codes "derive"; type_instance = [] }

list_of : List ℕ → ValueList
list_of host = record { id = id_of host; time = 1; interval = 10; values = Derive (pos 7) ∷ [] }

list : ValueList
list = list_of (codes "h")

scene : Scene
scene = record { set = record { name = codes "derive"; sources = [] }; rates = λ name. None; now = 0 }

-- a write keeps the list as it was
set_host : List Target
set_host = targets.Write [] ∷ targets.Set ((fields.Host, codes "x") ∷ []) ∷ targets.Write [] ∷ []

writes : out scene (plain (codes "C") set_host ∷ []) (codes "C") list
    ≡ record {
      verdict = verdicts.Continue;
      list = list_of (codes "x");
      actions = actions.Write [] list ∷ actions.Write [] (list_of (codes "x")) ∷ [];
    }
unfolding list list_of id_of set_host through plain placeholders.substituted
writes = refl

-- a rule without matches runs; a return in it leaves out the default targets
ruled : List Target → List Target → Chain
ruled targets defaults =
    record { name = codes "C"; rules = record { matches = []; targets = targets } ∷ []; defaults = defaults }

returns_early : out scene (ruled (targets.Return ∷ []) (targets.Write [] ∷ []) ∷ []) (codes "C") list
    ≡ ended verdicts.Return list
unfolding list list_of id_of through ruled
returns_early = refl

-- a rule whose match doesn't hold does nothing, and the rules behind it run: the list has no time difference
skipping : Chain
skipping =
    record {
      name = codes "C";
      rules =
          record { matches = matches.TimeDiff 5 5 ∷ []; targets = targets.Stop ∷ [] }
          ∷ record { matches = []; targets = targets.Write (codes "w" ∷ []) ∷ [] }
          ∷ [];
      defaults = [];
    }

skips : out scene (skipping ∷ []) (codes "C") list
    ≡ record { verdict = verdicts.Continue; list = list; actions = actions.Write (codes "w" ∷ []) list ∷ [] }
unfolding list list_of id_of scene through skipping
skips = refl

-- a notification has the daemon's moment, the fields of the list and its own text
noting : Target
noting = targets.Notification (codes "m") severities.Warning

note : Notification
note = record {
  severity = severities.Warning;
  time = 3;
  host = codes "h";
  plugin = codes "p";
  plugin_instance = [];
  type_name = codes "derive";
  type_instance = [];
  message = codes "m";
}

notes : out (record scene { now = 3 }) (plain (codes "C") (noting ∷ []) ∷ []) (codes "C") list
    ≡ record { verdict = verdicts.Continue; list = list; actions = actions.Notify note ∷ [] }
unfolding list list_of id_of note noting through plain placeholders.substituted
notes = refl

-- a jump whose chain ends by a return goes on, one whose chain stops doesn't
jumping : Target → List Chain
jumping last = plain (codes "C") (targets.Jump (codes "J") ∷ targets.Write [] ∷ []) ∷ plain (codes "J") (last ∷ []) ∷ []

goes_on : out scene (jumping targets.Return) (codes "C") list
    ≡ record { verdict = verdicts.Continue; list = list; actions = actions.Write [] list ∷ [] }
unfolding list list_of id_of through plain jumping
goes_on = refl

stops : out scene (jumping targets.Stop) (codes "C") list ≡ ended verdicts.Stop list
unfolding list list_of id_of through plain jumping
stops = refl

accepted : fault_of (jumping targets.Stop) ≡ None
unfolding plain jumping through jump_table looped
accepted = refl

jump : List ℕ → Target
jump name = targets.Jump name

-- a name twice is told before a rule without a target, this before a jump to no chain, each with its number
unjumped : Chain
unjumped = plain (codes "D") (jump (codes "X") ∷ [])

twice : fault_of (ruled [] [] ∷ unjumped ∷ unjumped ∷ []) ≡ Some (faults.Duplicate 2)
unfolding jump plain ruled unjumped through jump_table looped
twice = refl

emptied : fault_of (unjumped ∷ ruled [] [] ∷ []) ≡ Some (faults.EmptyRule 1 0)
unfolding jump plain ruled unjumped through jump_table looped
emptied = refl

nowhere : fault_of (plain (codes "C") [] ∷ unjumped ∷ []) ≡ Some (faults.UnknownChain 1 (codes "X"))
unfolding jump plain unjumped through jump_table looped
nowhere = refl

-- two chains that jump to one another
round : fault_of (plain (codes "A") (jump (codes "B") ∷ []) ∷ plain (codes "B") (jump (codes "A") ∷ []) ∷ [])
    ≡ Some (faults.JumpCycle (codes "A" ∷ codes "B" ∷ codes "A" ∷ []))
unfolding jump plain through jump_table looped
round = refl

-- of two shortest walks the one of the least chain numbers: B, D, B and not D, C, D; A isn't on a walk to itself
crossed : List Chain
crossed =
    plain (codes "A") (jump (codes "B") ∷ [])
    ∷ plain (codes "B") (jump (codes "D") ∷ [])
    ∷ plain (codes "C") (jump (codes "D") ∷ [])
    ∷ plain (codes "D") (jump (codes "C") ∷ jump (codes "B") ∷ [])
    ∷ []

least : fault_of crossed ≡ Some (faults.JumpCycle (codes "B" ∷ codes "D" ∷ codes "B" ∷ []))
unfolding crossed jump plain through jump_table looped
least = refl

-- 64 writes, 64 jumps to them, and four chains with one jump each
writes_64 : Chain
writes_64 =
    record {
      name = codes "0";
      rules = record { matches = []; targets = replicate 64 (targets.Write []) } ∷ [];
      defaults = [];
    }

tower : List Chain
tower =
    writes_64
    ∷ plain (codes "1") (replicate 64 (jump (codes "0")))
    ∷ plain (codes "2") (jump (codes "1") ∷ [])
    ∷ plain (codes "3") (jump (codes "2") ∷ [])
    ∷ plain (codes "4") (jump (codes "3") ∷ [])
    ∷ plain (codes "5") (jump (codes "4") ∷ [])
    ∷ []

tower_weight : weight tower (codes "1") ≡ 4160
unfolding jump plain through tower writes_64
tower_weight = refl

tower_refused : fault_of tower ≡ Some (faults.TooHeavy 1)
unfolding jump plain through jump_table looped tower writes_64
tower_refused = refl
