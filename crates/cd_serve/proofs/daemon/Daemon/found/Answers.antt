use Rattle.cd_serve.proofs.Replying.{asked_found, asked_in_vain}
use Rattle.cd_serve.proofs.daemon.Daemon.found.Goals as goal
use Rattle.cd_history.specs.declared.entry.Found.TheVariants as found
use Rattle.cd_value.specs.Identifier.{name_of}

pub returns-in-Ok : goal.returns-in-Ok
returns-in-Ok g c =
    asked_found c.print_reply.result (name_of c.args.id.now) _ (found.Got c.in-Ok.got.names c.in-Ok.got.rates) (g.O.Outside.outside_core c.args.self.now.outside)
    c.in_ok-name.ensures.value c.in-Ok.ensures c.print_reply.ensures.text

pub returns-in-Err-NoSuchValue : goal.returns-in-Err-NoSuchValue
returns-in-Err-NoSuchValue g c =
    asked_in_vain c.print_reply-in-Err-NoSuchValue.result (name_of c.args.id.now) _ c.in-Err-NoSuchValue.field-0 (g.O.Outside.outside_core c.args.self.now.outside)
    c.in_ok-name.ensures.value c.in-Err-NoSuchValue.field-0-is c.in-Err-NoSuchValue.ensures c.print_reply-in-Err-NoSuchValue.ensures.text
