use Rattle.cd_dialogue.proofs.pieces.serve_piece.Given as goal
use Rattle.cd_dialogue.specs.Dialogues.{WentOn}
use Rattle.std.proofs.Common.{List, [], length, ℕ, ◌++◌, ◌≡◌}

-- what was taken of the piece, and the rest of it, are the piece
abbrev pub invariant-loop-rest : goal.invariant-loop-rest
invariant-loop-rest g l = record {
  done : List ℕ;
  parts : l.piece ≡ done ++ l.rest;
  went : WentOn g.S.Server.serves_line l.fn.cutter l.cutter l.fn.server l.server
      (g.L.Link.link_tells l.fn.link) (g.L.Link.link_tells l.link) [] done;
}

abbrev pub decreases-loop-rest : goal.decreases-loop-rest
decreases-loop-rest g l = length l.rest
