-- A log that isn't judged to its end, since its steps take more than they may.
use Rattle.std.proofs.Common.{◌≡◌, ℕ, suc, ◌+◌, ◌≤◌, List, [], ◌∷◌, ◌++◌, length, take, Option, Some, None, false}
use Rattle.std.proofs.Common.{refl, sym, ap, subst, ◌∙◌, arith, length-append}
use Rattle.std.specs.Prelude.{IfSome}
use Rattle.std.specs.Io.KnownBytes.{Consumes}
use Rattle.std.specs.List.{fold}
use Rattle.std.proofs.lemmas.List.{append-nil, take-append-le}
use Rattle.std.proofs.lemmas.List.Sums.{fold-append}
use Rattle.rows.specs.Rows.{Row}
use Rattle.refutation.specs.Logs.{Reading}
use Rattle.refutation.specs.Steps.{Step}
use Rattle.refutation.specs.Places.{Place, log_from, start}
use Rattle.refutation.specs.Feeding.{ReadsOn}
use Rattle.refutation_check.specs.Judged.{Judged, after_step, no_step_of}
use Rattle.refutation_check.specs.Room.{StopsInTime, has_room}
use Rattle.refutation_check.specs.declared.fault.StepsFault.{StepsFault}
use Rattle.refutation_check.specs.declared.fault.StepsFault.TheVariants as wants
use Rattle.command_check.specs.Check.{LogPassesRoom}
use Rattle.command_check.specs.declared.feeding.FeedFault.TheVariants.{Failed, Full, TooLong}
use Rattle.command_check.specs.Feeding.{ChecksOn, IsUnderWay, feed_fault}
use Rattle.command_check.specs.Stopping.{ChecksSome, PassesLimit}
use Rattle.command_check.proofs.FeedingLemmas.{checked-piece, checked-then, consumes-then}

-- the front of two lists, past the first
take-past : {X : Type 0} (xs ys : List X) (k : ℕ) → take (length xs + k) (xs ++ ys) ≡ xs ++ take k ys
take-past {X} [] ys k = let same : 0 + k ≡ k = omega arith in ap (λ (n : ℕ). take n ys) same
take-past {X} (x ∷ xs) ys k =
    let same : suc (length xs) + k ≡ suc (length xs + k) = omega arith in
    ap (λ (n : ℕ). take n (x ∷ xs ++ ys)) same ∙ ap (λ (l : List X). x ∷ l) (take-past xs ys k)

-- some steps of a piece
pub some-piece : (limit : Option ℕ) (before now : Place) (none steps : List Step) (old new : Judged) (piece : List ℕ)
    → none ≡ [] → ReadsOn before none piece now steps → StopsInTime limit old steps new → ChecksSome before old piece new
unfolding checked-piece
some-piece limit before now none steps old new piece empty reads some =
    let whole = checked-piece before now none steps old (fold after_step old steps) piece empty reads refl in
    let same : steps ≡ whole.steps = reads.steps ∙ ap (λ (l : List Step). l ++ reads.added) empty in
    record {
      now = now;
      whole = fold after_step old steps;
      count = length steps;
      all = whole;
      some = some.0;
      few = subst (λ (l : List Step). some.0 ≤ length l) same some.1;
      judged = some.2 ∙ ap (λ (l : List Step). fold after_step old (take some.0 l)) same;
    }

-- those of one more piece
pub some-then : (a b : Place) (s t u : Judged) (front piece : List ℕ) (m : ℕ) → ChecksOn a s front b t m
    → ChecksSome b t piece u → ChecksSome a s (front ++ piece) u
unfolding checked-then
some-then a b s t u front piece m first second = record {
  now = second.now;
  whole = second.whole;
  count = m + second.count;
  all = checked-then a b second.now s t second.whole front piece m second.count first second.all;
  some = length first.steps + second.some;
  few = let parts = length-append first.steps second.all.steps in omega (arith, second.few);
  judged = second.judged
      ∙ ap (λ (state : Judged). fold after_step state (take second.some second.all.steps)) first.judged
      ∙ sym (fold-append after_step s first.steps (take second.some second.all.steps))
      ∙ ap (λ (l : List Step). fold after_step s l) (sym (take-past first.steps second.all.steps second.some));
}

-- one more piece, which stands at the front of a room, passes the limit
pub under_way-passes : (known between left : Option (List ℕ)) (limit : Option ℕ) (taken_before taken_between : ℕ)
    (a b : Place) (s t u : Judged) (m bytes count : ℕ) (room rest : List ℕ) → count ≤ length room
    → IsUnderWay known between taken_before taken_between a s b t m bytes → Consumes between left (take count room)
    → ChecksSome b t (take count (room ++ rest)) u → has_room limit u ≡ false → PassesLimit known limit a s u
under_way-passes known between left limit taken_before taken_between a b s t u m bytes count room rest fits so_far consumed some passes =
    let front : take count (room ++ rest) ≡ take count room = take-append-le count room rest fits in
    record {
      bytes = so_far.bytes ++ take count room;
      left = left;
      front = consumes-then known between left so_far.bytes (take count room) so_far.consumed consumed;
      checked = some-then a b s t u so_far.bytes (take count room) m so_far.checked
          (subst (λ (l : List ℕ). ChecksSome b t l u) front some);
      passes = passes;
    }

-- ---- a log's file

begins-with : (known left : Option (List ℕ)) (front : List ℕ) → Consumes known left front
    → IfSome known (λ file. (rest : List ℕ) × (file ≡ front ++ rest))
begins-with None left front consumed = tt
begins-with (Some file) None front consumed = absurd consumed
begins-with (Some file) (Some rest) front consumed = (rest, consumed)

-- a checker that was given no step was given some first steps of the log, and they pass the limit
pub log-passes : (known : Option (List ℕ)) (limit : Option ℕ) (rows : List Row) (vars : ℕ) (old new : Judged)
    → old ≡ no_step_of rows vars → PassesLimit known limit start old new → LogPassesRoom known rows vars limit
log-passes known limit rows vars old new none passed =
    let some = passed.checked in
    let steps : List Step = some.all.steps in
    let behind : List Step = (log_from some.now []).steps in
    let said : (log_from start passed.bytes).steps ≡ steps ++ behind =
    ap (λ (b : List ℕ). (log_from start b).steps) (sym (append-nil passed.bytes))
    ∙ ap (λ (r : Reading). r.steps) (some.all.read []) in
    let front : take some.some (log_from start passed.bytes).steps ≡ take some.some steps =
    ap (λ (l : List Step). take some.some l) said ∙ take-append-le some.some steps behind some.few in
    let given : new ≡ fold after_step (no_step_of rows vars) (take some.some (log_from start passed.bytes).steps) =
    some.judged ∙ ap (λ (s : Judged). fold after_step s (take some.some steps)) none
    ∙ ap (λ (l : List Step). fold after_step (no_step_of rows vars) l) (sym front) in
    record {
      front = passed.bytes;
      begins = begins-with known passed.left passed.bytes passed.front;
      passes = (
        some.some,
        let count = ap (λ (l : List Step). length l) said in
            let parts = length-append steps behind in omega (arith, some.few),
        subst (λ (s : Judged). has_room limit s ≡ false) given passed.passes,
      );
    }

-- ---- a fault of the steps is none of the file

pub feed_fault-full : (fault : StepsFault) → feed_fault fault ≡ Full → fault ≡ wants.Full
feed_fault-full wants.Full is = refl
feed_fault-full wants.Mem is = absurd (cc)

pub feed_fault-failed : (fault : StepsFault) → feed_fault fault ≡ Failed → ⊥
feed_fault-failed wants.Full is = cc
feed_fault-failed wants.Mem is = cc

pub feed_fault-long : (fault : StepsFault) → feed_fault fault ≡ TooLong → ⊥
feed_fault-long wants.Full is = cc
feed_fault-long wants.Mem is = cc
