use Rattle.std.proofs.Math.Facts.{Fits-lt-pow}
use Rattle.descent.proofs.taker.each_is_word.Goals as goal

pub returns : goal.returns
returns c = λ k. Fits-lt-pow (c.type_inv.entries k)
