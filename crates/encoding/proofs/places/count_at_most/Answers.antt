use Rattle.std.proofs.Common.{ℕ, leb, leb-false, leb-true, arith, rules}
use Rattle.std.proofs.lemmas.List.Sorted.{IsPartitionPoint-from_clause, IsPartitionedBy-leb}
use Rattle.encoding.proofs.places.count_at_most.Goals as goal

pub returns-clause-below : goal.returns-clause-below
returns-clause-below c =
    let parted = IsPartitionedBy-leb (λ (k : ℕ). k) c.args.numbers.now c.args.most c.requires in
    let point = IsPartitionPoint-from_clause (λ (k : ℕ). leb k c.args.most) _ _ c.partition_point.ensures.partitioned parted (λ a r q k. search rules) in
    λ k d below. leb-true _ _ (point.0 k d (omega arith) below)

pub returns-clause-above : goal.returns-clause-above
returns-clause-above c =
    let parted = IsPartitionedBy-leb (λ (k : ℕ). k) c.args.numbers.now c.args.most c.requires in
    let point = IsPartitionPoint-from_clause (λ (k : ℕ). leb k c.args.most) _ _ c.partition_point.ensures.partitioned parted (λ a r q k. search rules) in
    λ k d from within. leb-false _ _ (point.1 k d from within)
