use Rattle.std.proofs.Common.{ap₂, ◌∙◌}
use Rattle.clap.specs.Words.{with_rule}
use Rattle.cd_command.proofs.options.program.Goals as goal

pub returns : goal.returns
returns c =
    let one = c.in_ok-arg.ensures.shape c.file_option.ensures.local ∙ ap₂ with_rule c.bare_program.ensures.app c.file_option.ensures.rule in
    let two = c.in_ok-arg-2.ensures.shape c.test_option.ensures.local ∙ ap₂ with_rule one c.test_option.ensures.rule in
    let three = c.in_ok-arg-3.ensures.shape c.readers_option.ensures.local ∙ ap₂ with_rule two c.readers_option.ensures.rule in
    let four = c.in_ok-arg-4.ensures.shape c.front_option.ensures.local ∙ ap₂ with_rule three c.front_option.ensures.rule in
    let five = c.in_ok-arg-5.ensures.shape c.lines_option.ensures.local ∙ ap₂ with_rule four c.lines_option.ensures.rule in
    record { app = c.in_ok-program.ensures.shape c.load_option.ensures.local ∙ ap₂ with_rule five c.load_option.ensures.rule }
