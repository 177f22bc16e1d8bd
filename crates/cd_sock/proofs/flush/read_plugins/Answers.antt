use Rattle.cd_sock.proofs.Options.{arguments_add, arguments_pass}
use Rattle.cd_sock.proofs.flush.read_plugins.Goals as goal
use Rattle.cd_sock.specs.Arguments.{arguments_of}
use Rattle.std.proofs.Common.{List, [], ap, codes, sym, take, ℕ, ◌++◌, ◌∙◌, ◌∷◌}

pub loop-word-preserved-in_default : goal.loop-word-preserved-in_default
loop-word-preserved-in_default c =
    c.loop-word.invariant
    ∙ sym (arguments_pass (codes "plugin") c.args.options.now c.loop-word.word-index c.word-item.result c.loop-word-test.true c.word-item.is c.in_default.ensures)

pub loop-word-preserved : goal.loop-word-preserved
loop-word-preserved c =
    c.in_ok-push.ensures.ok ∙ ap (λ (plugins : List (List ℕ)). plugins ++ c.in_ok-of.field-0 ∷ []) c.loop-word.invariant
    ∙ ap (λ (text : List ℕ). arguments_of (codes "plugin") (take c.loop-word.word-index c.args.options.now) ++ text ∷ []) c.in_ok-of.ensures
    ∙ sym (arguments_add (codes "plugin") c.args.options.now c.loop-word.word-index c.word-item.result c.loop-word-test.true c.word-item.is c.in-Some.plugin.now c.in-Some.ensures)
