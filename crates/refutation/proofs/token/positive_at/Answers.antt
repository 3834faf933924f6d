use Rattle.refutation.proofs.TokenLemmas.{item-positive}
use Rattle.refutation.proofs.token.positive_at.Goals as goal

pub literal_of-requires : goal.literal_of-requires
literal_of-requires c = item-positive _ _ _ (rw c.in-Some.is at c.in_ok-token.ensures.token)
