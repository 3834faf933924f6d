use Rattle.std.proofs.Common.{◌≡◌, ◌≤◌, [], ℕ}
use Rattle.std.specs.List.{All, AllWithin}
use Rattle.descent.proofs.by_team.clear_lists.Given as goal

abbrev pub invariant-loop-list : goal.invariant-loop-list
invariant-loop-list l = record {
  empty : AllWithin (λ r. r.list ≡ []) l.lists 0 l.list-index;
  room : (room : ℕ) → All (λ r. room ≤ r.room) l.initial.lists → All (λ r. room ≤ r.room) l.lists;
}
