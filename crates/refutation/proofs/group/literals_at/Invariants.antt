use Rattle.std.proofs.Common.{length}
use Rattle.refutation.specs.Lines.{groups_of, is_literal, is_small_variable, literal, tokens_of}
use Rattle.refutation.specs.Groups.{IsSoFar}
use Rattle.refutation.proofs.group.literals_at.Given as goal

abbrev pub invariant-tokens : goal.invariant-tokens
invariant-tokens l = IsSoFar is_literal is_small_variable literal (groups_of (tokens_of l.fn.bytes)) l.rest
    l.all_small l.initial.literals.items l.literals.items

abbrev pub decreases-tokens : goal.decreases-tokens
decreases-tokens l = length l.rest
