-- The store in a run and in its rest.
use Rattle.std.proofs.Common.{◌≡◌, ℕ, ◌+◌, ◌≤◌, List, arith, subst}
use Rattle.robin_io.specs.Counts.{Rose, TookMore, raised}
use Rattle.robin_io.specs.Outside.{store_between}
use Rattle.robin_io.specs.Rests.{IsRest}
use Rattle.robin_io.specs.declared.shelf.Shelf.{Ghosts}

took_more-before : (front more old between now : ℕ) → between ≡ raised old front → TookMore more between now
    → TookMore (front + more) old now
took_more-before front more old between now is took =
    let told : raised (raised old front) (more + 1) ≤ now = subst (λ (n : ℕ). TookMore more n now) is took in omega arith

pub rose-before : (old between now : ℕ) → old ≤ between → Rose between now → Rose old now
rose-before old between now later rose = let told : raised between 1 ≤ now = rose in omega arith

-- the contents stay, so many bytes are taken, and no file's count of faults falls: what comes then is the rest
pub rest-between : {S : Type 0} (shelf : Ghosts S) (old between now : S) (before : ℕ)
    → ((name : List ℕ) → shelf.contents between name ≡ shelf.contents old name)
    → shelf.taken between ≡ raised (shelf.taken old) before
    → ((name : List ℕ) → shelf.faults old name ≤ shelf.faults between name)
    → IsRest before (store_between shelf old now) (store_between shelf between now)
rest-between shelf old between now before contents taken later = record {
  contents = contents;
  took_more = λ more.
      took_more-before before more (shelf.taken old) (shelf.taken between) (shelf.taken now) taken;
  failed = λ name.
      rose-before (shelf.faults old name) (shelf.faults between name) (shelf.faults now name) (later name);
}
