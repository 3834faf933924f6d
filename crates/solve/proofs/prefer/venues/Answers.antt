use Rattle.std.proofs.Common.{◌≡◌, List, length}
use Rattle.league.specs.Counts.{slot_count}
use Rattle.league.specs.declared.class.Side.{Side}
use Rattle.solve.proofs.AnswerLemmas.{All-found}
use Rattle.solve.proofs.prefer.venues.Goals as goal

pub add_venues-requires-clause-slots : goal.add_venues-requires-clause-slots
add_venues-requires-clause-slots c =
    All-found (λ (pattern : List Side). length pattern ≡ slot_count c.args.encoding.now.n) c.args.patterns.now
    _ c.pattern.result.now c.requires.slots c.pattern.ensures
