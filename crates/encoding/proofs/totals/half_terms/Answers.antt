use Rattle.std.proofs.Common.{Bool, ap, sym, ◌∙◌}
use Rattle.rows.specs.Rows.{size_of}
use Rattle.encoding.specs.Season.{half_rows}
use Rattle.encoding.proofs.SeasonSizes.{half_terms}
use Rattle.encoding.proofs.totals.half_terms.Goals as goal

pub returns-then-phased-clause-terms : goal.returns-then-phased-clause-terms
returns-then-phased-clause-terms c = sym (ap (λ (b : Bool). size_of (half_rows c.args.n b)) c.if-phased.true
    ∙ half_terms c.args.n)
