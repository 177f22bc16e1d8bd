use Rattle.cd_serve.proofs.Reading.{command_as, fault_as, fits_as, meaning_as}
use Rattle.cd_serve.proofs.daemon.Daemon.read.Goals as goal

pub returns-clause-meaning : goal.returns-clause-meaning
returns-clause-meaning g c = meaning_as c.read.result _ _ c.args.line.now c.types-types.ensures c.args.now _ _ c.interval-interval.ensures c.read.ensures.meaning

pub returns-clause-same_fault : goal.returns-clause-same_fault
returns-clause-same_fault g c = fault_as c.read.result _ _ c.args.line.now c.types-types.ensures c.read.ensures.same_fault

pub returns-clause-same_command : goal.returns-clause-same_command
returns-clause-same_command g c = command_as c.read.result _ _ c.args.line.now c.types-types.ensures c.read.ensures.same_command

pub returns-clause-fits : goal.returns-clause-fits
returns-clause-fits g c = fits_as c.read.result _ _ c.args.line.now c.types-types.ensures c.read.ensures.fits
