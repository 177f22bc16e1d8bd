use Rattle.cd_sock.proofs.AllOrNone.{fails_at_last, fails_before_last, with_last}
use Rattle.cd_sock.proofs.lists.try_lists.Goals as goal
use Rattle.cd_sock.specs.Meaning.{list_of}
use Rattle.cd_sock.specs.Values.{is_whole}
use Rattle.cd_value.specs.declared.data.ValueList.{ValueList}
use Rattle.std.proofs.Common.{Global, List, Option, Some, Vec, ap, sym, ◌∙◌}
use Rattle.std.specs.Prelude.{option_map}

abbrev items : Option (Vec ValueList Global) → Option (List ValueList)
items lists = option_map (λ (v : Vec ValueList Global). v.items) lists

pub returns-in_default-2 : goal.returns-in_default-2
returns-in_default-2 c =
    fails_before_last (is_whole c.args.sources.now) (list_of c.args.sources.now c.args.id c.args.now c.args.interval) c.args.words.now c.in-Some.earlier.now c.in-Some.last.now c.in-Some.ensures.cases.0
    (ap items (sym c.in_default-2.is) ∙ c.in_ok-lists.ensures)

pub returns-in_default-3 : goal.returns-in_default-3
returns-in_default-3 c =
    fails_at_last (is_whole c.args.sources.now) (list_of c.args.sources.now c.args.id c.args.now c.args.interval) c.args.words.now c.in-Some.earlier.now c.in-Some.last.now c.in-Some.ensures.cases.0
    (sym c.in_default-3.is ∙ c.in_ok-list.ensures)

pub returns : goal.returns
returns c =
    ap (λ (lists : List ValueList). Some lists) c.from_vec.ensures
    ∙ with_last (is_whole c.args.sources.now) (list_of c.args.sources.now c.args.id c.args.now c.args.interval) c.args.words.now c.in-Some.earlier.now c.in-Some.last.now c.in-Some-2.lists.items c.push.new.self.items c.in-Some-3.list
    c.in-Some.ensures.cases.0 (ap items (sym c.in-Some-2.is) ∙ c.in_ok-lists.ensures) (sym c.in-Some-3.is ∙ c.in_ok-list.ensures) c.in_ok-push.ensures.items
