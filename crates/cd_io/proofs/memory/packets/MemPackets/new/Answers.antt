use Rattle.cd_io.proofs.Coming.{told_of}
use Rattle.cd_io.proofs.memory.packets.MemPackets.new.Goals as goal
use Rattle.std.proofs.Common.{List, Some, [], ap, ℕ}

pub returns-clause-tells : goal.returns-clause-tells
returns-clause-tells c =
    ap (λ (datagrams : List (List ℕ)). record { given = Some []; left = Some datagrams; faults = 0; quiets = 0 }) (told_of (λ v. v.items) c.args.datagrams.items)
