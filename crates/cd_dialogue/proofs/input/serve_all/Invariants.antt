use Rattle.cd_dialogue.proofs.input.serve_all.Given as goal
use Rattle.cd_dialogue.specs.Dialogues.{WentOn}
use Rattle.cd_sock.specs.Lines.{HasCut}
use Rattle.std.proofs.Common.{List, [], length, ℕ, ◌+◌, ◌≡◌}

-- what was heard so far was taken
abbrev pub invariant-loop-dialogue : goal.invariant-loop-dialogue
invariant-loop-dialogue g l = record {
  begins : HasCut [] [] l.initial.dialogue;
  done : List ℕ;
  size : length done + l.room ≡ l.fn.limit;
  went : WentOn g.S.Server.serves_line l.initial.dialogue l.dialogue l.fn.server l.server
      (g.L.Link.link_tells l.fn.link) (g.L.Link.link_tells l.link) done done;
}

abbrev pub decreases-loop-dialogue : goal.decreases-loop-dialogue
decreases-loop-dialogue g l = l.room
