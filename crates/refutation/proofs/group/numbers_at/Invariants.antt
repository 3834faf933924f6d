use Rattle.std.proofs.Common.{length}
use Rattle.refutation.specs.Lines.{groups_of, is_count, is_small_number, number, tokens_of}
use Rattle.refutation.specs.Groups.{IsSoFar}
use Rattle.refutation.proofs.group.numbers_at.Given as goal

abbrev pub invariant-tokens : goal.invariant-tokens
invariant-tokens l = IsSoFar is_count is_small_number number (groups_of (tokens_of l.fn.bytes)) l.rest l.all_small
    l.initial.numbers.items l.numbers.items

abbrev pub decreases-tokens : goal.decreases-tokens
decreases-tokens l = length l.rest
