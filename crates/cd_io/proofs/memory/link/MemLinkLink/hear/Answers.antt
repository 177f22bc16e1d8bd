use Rattle.cd_io.proofs.Moves.{grows_none}
use Rattle.cd_io.proofs.Speaking.{spoke_nothing}
use Rattle.cd_io.proofs.Taken.{none_rest, taken_front, taken_rest}
use Rattle.cd_io.proofs.memory.link.MemLinkLink.hear.Goals as goal
use Rattle.cd_io.specs.MemLink.{tells_of}
use Rattle.std.proofs.Common.{arith, drop, length-drop, refl}
use Rattle.std.proofs.lemmas.Grind.{common_steps}

pub returns-then-is_empty-clause-hears : goal.returns-then-is_empty-clause-hears
returns-then-is_empty-clause-hears c = record {
  spoke = spoke_nothing (tells_of c.args.self.now);
  ended = λ is. none_rest _ _ c.args.self.now.taken _ c.deref-3.ensures.value c.is_empty.ensures c.if-is_empty.true;
  quiets = refl;
  faults = refl;
}

pub returns-clause-hears : goal.returns-clause-hears
returns-clause-hears c = record {
  spoke = record {
    given = taken_front c.args.self.now.input.items c.copy_from_slice.new.self (drop c.min-count.result c.args.buf.now) c.args.self.now.taken c.min-count.result
        (omega (arith, length-drop c.args.self.now.taken c.args.self.now.input.items)) (grind (arith, common_steps));
    left = taken_rest c.args.self.now.input.items c.copy_from_slice.new.self (drop c.min-count.result c.args.buf.now) c.args.self.now.taken c.min-count.result
        (omega (arith, length-drop c.args.self.now.taken c.args.self.now.input.items)) (grind (arith, common_steps));
    said = grows_none (tells_of c.args.self.now).said;
    faults = search arith;
    quiets = search arith;
  };
  ended = λ is. cc;
  quiets = refl;
  faults = refl;
}
