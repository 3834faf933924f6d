use Rattle.std.proofs.Common.{Bool, ap, sym, ◌∙◌}
use Rattle.rows.specs.Rows.{size_of}
use Rattle.encoding.specs.Season.{break_rows}
use Rattle.encoding.proofs.SeasonSizes.{size_of-breaks}
use Rattle.encoding.proofs.totals.break_terms.Goals as goal

pub returns-then-breaks-clause-terms : goal.returns-then-breaks-clause-terms
returns-then-breaks-clause-terms c = sym (ap (λ (b : Bool). size_of (break_rows c.args.n b)) c.if-breaks.true
    ∙ size_of-breaks c.args.n)
