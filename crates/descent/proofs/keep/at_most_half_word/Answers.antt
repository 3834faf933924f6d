use Rattle.descent.proofs.keep.at_most_half_word.Goals as goal

pub returns : goal.returns
returns c = c.ranges.penalty.fits
