-- The digits that the code holds.
use Rattle.cd_conf.specs.Numbers.{Digits, digits}
use Rattle.cd_conf.specs.declared.form.Form.{Form}

abbrev pub digits_in : Form → Digits
digits_in form = digits form.base form.whole.now form.decimals.now
