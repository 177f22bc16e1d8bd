-- An entry that has the name is one of them.
use Rattle.cd_types.proofs.Entries.{taken_at}
use Rattle.cd_types.proofs.entry.is_taken.Goals as goal
use Rattle.std.proofs.Common.{List, ap, sym, ℕ, ◌∙◌}
use Rattle.std.specs.Str.{bytes_eq}

pub returns-then-eq : goal.returns-then-eq
returns-then-eq c =
    taken_at c.args.name.now c.args.earlier.now c.loop-entry.entry-index _ c.loop-entry-test.true
    (ap (λ (t : List ℕ). bytes_eq t c.args.name.now) (sym c.name_of.ensures) ∙ sym c.eq.ensures ∙ c.if-eq.true)
