use Rattle.std.proofs.Common.{refl}
use Rattle.robinx.proofs.write_class.span_word.Goals as goal

pub returns-in-Global : goal.returns-in-Global
returns-in-Global c = rw c.in-Global.is refl

pub returns-in-Every : goal.returns-in-Every
returns-in-Every c = rw c.in-Every.is refl
