use Rattle.cd_conf.proofs.Nesting.{closes, section_is}
use Rattle.cd_conf.proofs.pile.Pile.put_end.Goals as goal
use Rattle.cd_conf.specs.Statements.{Statement}
use Rattle.cd_conf.specs.Tree.{item_step}
use Rattle.cd_conf.specs.declared.item.Item.TheFolds.{fold-roll-Item}
use Rattle.std.proofs.Common.{List, ◌∙◌}

pub returns : goal.returns
returns c o os was =
    closes c.args.self.now.sections.items c.pop.new.self.items c.in-Some.section c.args.self.now.here c.replace-children.result c.replace-children.new.dest c.push.new.self _ o os
    was c.in-Some.ensures.items c.replace-children.ensures.value c.replace-children.ensures.after c.in_ok-push.ensures.ok
    (fold-roll-Item (List Statement) item_step _ ∙ section_is c.in-Some.section.key c.in-Some.section.args c.in-Some.section.line c.replace-children.result)
