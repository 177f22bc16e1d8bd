use Rattle.cd_settings.proofs.WrittenPorts.{is_refused}
use Rattle.cd_settings.proofs.ports.port_of_digits.Goals as goal

pub returns-in_default-2 : goal.returns-in_default-2
returns-in_default-2 c = is_refused c.args.text.now c.parse.result c.in_default.field-0 c.parse.ensures.value.0 c.requires c.in_default.is
