use Rattle.cd_chain.proofs.Places.{in_table}
use Rattle.cd_chain.proofs.frame.target_at.Goals as goal
use Rattle.std.proofs.Common.{length, refl, sym}
use Rattle.std.proofs.lemmas.Option.{slice_get_read}

pub returns-in-Some : goal.returns-in-Some
returns-in-Some c =
    let table = c.args.chains.now in
    let read = c.in-Some.ensures.lookup in
    in_table table c.args.here c.in-Some.chain.now c.target_in.result (λ p. p.0.now) (λ p. p.1)
    (sym (slice_get_read table (length table) c.args.here.chain c.in-Some.chain.now refl read.3.0 read.1)) c.target_in.ensures
