use Rattle.std.proofs.Common.{ap, ◌∙◌, true}
use Rattle.clap.specs.Words.{App}
use Rattle.clap.specs.Simple.{app_of_fields}
use Rattle.clap.specs.declared.builder.command.Command.{Command}
use Rattle.clap.specs.declared.builder.command.Command.TheOpen.{Command-F}
use Rattle.cd_command.proofs.options.bare_program.Goals as goal

abbrev quiet : App → App
quiet a = record a { top = record (a.top) { disable_help_flag = true; disable_version_flag = true } }

pub returns : goal.returns
returns c =
    let fields_are = c.disable_version_flag.ensures ∙ ap (λ (f : Command-F Command). record f { disable_version_flag = true }) c.disable_help_flag.ensures in
    record { app = ap app_of_fields fields_are ∙ ap quiet c.new.ensures.app }
