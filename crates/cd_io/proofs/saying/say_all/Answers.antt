use Rattle.cd_io.proofs.Speaking.{error_in_part}
use Rattle.cd_io.proofs.saying.say_all.Goals as goal

pub returns-clause-err : goal.returns-clause-err
returns-clause-err g c =
    error_in_part c.say_whole.result.1 c.args.text.now c.say_whole.result.0 _ _ c.say_whole.ensures.short c.say_whole.ensures.says
