use Rattle.cd_laws.proofs.Fitting.{kept_fits}
use Rattle.cd_laws.proofs.fit.rewritten_list_fits.Goals as goal
use Rattle.std.proofs.Common.{refl}

pub returns-clause-kept : goal.returns-clause-kept
returns-clause-kept c sets old new keeps = kept_fits sets old new keeps

pub returns-clause-rewritten : goal.returns-clause-rewritten
returns-clause-rewritten c sets target list =
    kept_fits sets list _ (record { type_name = refl; time = refl; interval = refl; values = refl })
