use Rattle.cd_io.proofs.Files.{later_dropped}
use Rattle.cd_io.proofs.memory.file.MemFile.advance.Goals as goal
use Rattle.std.proofs.Common.{List, ap, arith, length, string_bytes, sym, ℕ, ◌-◌, ◌<◌}

pub returns-then-len-self-gt1-clause-shown : goal.returns-then-len-self-gt1-clause-shown
returns-then-len-self-gt1-clause-shown c =
    let file = c.args.self.now in
    let more : 1 < length file.texts.items - file.opened = omega (arith, c.if-len-self-gt1.true, c.len.ensures) in
    ap (λ (texts : List (List ℕ)). record { path = string_bytes file.path; texts = texts })
    (sym (later_dropped (λ v. v.items) file.texts.items file.opened more))
