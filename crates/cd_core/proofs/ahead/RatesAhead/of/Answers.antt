use Rattle.cd_core.proofs.Previewed.{seen_ahead}
use Rattle.cd_core.proofs.ahead.RatesAhead.of.Goals as goal

pub returns : goal.returns
returns c = λ now. seen_ahead c.args.set.now c.args.list.now now c.args.cache.now c.in_ok-name.name c.in_ok-rates.rates c.in_ok-name.ensures.value c.in_ok-rates.ensures.rates
