use Rattle.std.proofs.Math.Facts.{Fits-lt-pow}
use Rattle.league_search.proofs.raised.are_words.Goals as goal

pub returns : goal.returns
returns c = λ k. Fits-lt-pow (c.type_inv.words k)
