use Rattle.cd_sock.proofs.AllOrNone.{ends, fails_at, goes_on}
use Rattle.cd_sock.proofs.lists.earlier_lists.Goals as goal
use Rattle.cd_sock.specs.Meaning.{list_of}
use Rattle.cd_sock.specs.Values.{is_whole}
use Rattle.cd_value.specs.Identifier.{Fields}
use Rattle.cd_value.specs.declared.data.ValueList.{ValueList}
use Rattle.std.proofs.Common.{List, None, Some, ap, cond, sym, ◌∙◌}

pub loop-word-init : goal.loop-word-init
loop-word-init c = ap (λ (lists : List ValueList). Some lists) c.in_ok-lists.ensures.items

pub returns-in_default : goal.returns-in_default
returns-in_default c =
    fails_at (is_whole c.args.sources.now) (list_of c.args.sources.now c.args.id.now c.args.now c.args.interval) c.args.words.now c.loop-word.word-index c.word-item.result c.loop-word-test.true c.word-item.is
    (sym c.in_default.is ∙ c.in_ok-list.ensures ∙ ap (λ (id : Fields). cond (is_whole c.args.sources.now c.word-item.result) (Some (list_of c.args.sources.now id c.args.now c.args.interval c.word-item.result)) None) c.in_ok-id.ensures)

pub loop-word-preserved : goal.loop-word-preserved
loop-word-preserved c =
    goes_on (is_whole c.args.sources.now) (list_of c.args.sources.now c.args.id.now c.args.now c.args.interval) c.args.words.now c.loop-word.word-index c.word-item.result c.loop-word.lists.items c.push.new.self.items c.in-Some.list
    c.loop-word-test.true c.word-item.is c.loop-word.invariant
    (sym c.in-Some.is ∙ c.in_ok-list.ensures ∙ ap (λ (id : Fields). cond (is_whole c.args.sources.now c.word-item.result) (Some (list_of c.args.sources.now id c.args.now c.args.interval c.word-item.result)) None) c.in_ok-id.ensures)
    c.in_ok-push.ensures.items

pub returns : goal.returns
returns c = ends (is_whole c.args.sources.now) (list_of c.args.sources.now c.args.id.now c.args.now c.args.interval) c.args.words.now c.loop-word.word-index c.loop-word.lists.items c.loop-word-test.false c.loop-word.invariant
