use Rattle.std.proofs.Common.{◌≡◌, ◌++◌, take}
use Rattle.cd_settings.specs.Forms.{texts_among}
use Rattle.cd_settings.proofs.paths.push_texts.Given as goal

abbrev pub invariant-loop-arg : goal.invariant-loop-arg
invariant-loop-arg l = l.paths ≡ l.fn.paths ++ texts_among (take l.arg-index l.args)
