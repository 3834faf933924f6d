-- The boards that a schedule makes, and that an edit leaves.
use Rattle.std.proofs.Common.{◌≡◌, ℕ, ◌≤◌, Bool, true, false, ◌||◌, ◌==◌, if◌then◌else◌, List, [], ◌++◌, length, take, drop, refl, arith, ap, sym, ◌∙◌}
use Rattle.std.proofs.lemmas.Bool.Decides.{nat_tests}
use Rattle.std.proofs.Math.Seq.{take-append_seam}
use Rattle.std.proofs.lemmas.List.Elements.{All-weaker}
use Rattle.std.specs.List.{All}
use Rattle.league.specs.Counts.{Counts, counts_of, is_game}
use Rattle.league.specs.Instance.{IsGame, IsTeamCount}
use Rattle.league.specs.Structure.{IsRoundRobin}
use Rattle.league.specs.declared.game.Game.{Game}
use Rattle.moves.specs.Places.{ArePlaced, IsRound, IsSlotTable, slot_entry}
use Rattle.moves.specs.Round.{Edits, Round, edited, entry, round_counts}
use Rattle.moves.proofs.PlacedLemmas.{IsBoard, IsBoard-placed}
use Rattle.moves.proofs.PlayLemmas.{played}
use Rattle.moves.proofs.RoundLemmas.{IsWithin-of, only_game-at, only_slot-at}

-- a game of a small league is one of the largest
wider : (n : ℕ) → n ≤ 40 → (g : Game) → IsGame n g → IsGame 40 g
wider n le g fits = record {
  home = omega (arith, fits.home);
  away = omega (arith, fits.away);
  differ = fits.differ;
  slot = omega (arith, fits.slot);
}

pub fit-wider : (n : ℕ) (games : List Game) → n ≤ 40 → All (IsGame n) games → All (IsGame 40) games
fit-wider n games le fit = All-weaker (IsGame n) (IsGame 40) (wider n le) games fit

pub IsBoard-new : (n : ℕ) (phased : Bool) (schedule old new : List Game) (old_slots new_slots : List ℕ) → IsTeamCount n
    → All (IsGame n) schedule → IsRoundRobin n phased (counts_of schedule)
    → ArePlaced schedule old new old_slots new_slots → length old ≡ 3120 → length old_slots ≡ 1600
    → IsBoard n phased (counts_of schedule) new new_slots
IsBoard-new n phased schedule old new old_slots new_slots teams fit is placed long slots_long =
    let none : Counts = λ a b s. 0 in
    let edit : Edits = record { n = n; out = []; into = schedule } in
    IsBoard-placed n phased none (counts_of schedule) edit old new old_slots new_slots teams
    (record {
      few = teams.at_most;
      moves = record { there = λ a b s. omega arith; moves = λ a b s. omega arith };
      played = played n phased (counts_of schedule) is;
      fit = fit;
    })
    (record { home = λ a b s le. refl; away = λ a b s le. refl; slot = λ a b s le. refl })
    (λ i s a b lt_i lt_s plays some. absurd (omega arith))
    (λ i j s lt_i lt_j ne some. absurd (omega arith))
    placed (placed.long ∙ long) (placed.slots_long ∙ slots_long)

is_there : (p q : Bool) (x : ℕ) → (if p then x else 0) ≡ (if q then 1 else 0) → p ≡ true → 1 ≤ x → q ≡ true
is_there true true x e is some = refl
is_there true false x e is some = absurd (omega arith)
is_there false q x e is some = absurd (cc)

is_slot : (s at x : ℕ) → x ≡ (if s == at then 1 else 0) → 1 ≤ x → at ≡ s
is_slot s at x e some = grind (arith, nat_tests)

-- an edit that leaves a round robin
pub record IsMayApply (r : Round) (edit : Edits) : Type 0 where
  pub there : (i j s : ℕ) → counts_of edit.out i j s ≤ round_counts r i j s
  pub fit : All (IsGame r.n) edit.into
  pub is : IsRoundRobin r.n r.phased (edited (round_counts r) edit)

pub IsBoard-applied : (r : Round) (slots : List ℕ) (edit : Edits) (new : List Game) (new_slots : List ℕ) → IsRound r
    → IsSlotTable r.n (round_counts r) slots → ((i j s : ℕ) → counts_of edit.out i j s ≤ round_counts r i j s)
    → All (IsGame r.n) edit.into → IsRoundRobin r.n r.phased (edited (round_counts r) edit)
    → ArePlaced edit.into r.games new slots new_slots
    → IsBoard r.n r.phased (edited (round_counts r) edit) new new_slots
IsBoard-applied r slots edit new new_slots round table there fit is placed =
    let m : Counts = round_counts r in
    IsBoard-placed r.n r.phased m (edited m edit) edit r.games new slots new_slots round.teams
    (record {
      few = round.teams.at_most;
      moves = record { there = there; moves = λ a b s. let h : counts_of edit.out a b s ≤ m a b s = there a b s in omega arith };
      played = played r.n r.phased (edited m edit) is;
      fit = fit;
    })
    (IsWithin-of r round.table)
    (λ i s a b lt_i lt_s plays some. is_there ((a == i) || (b == i)) (is_game a b s (entry r.games i s)) (m a b s) (only_game-at r i s round lt_i lt_s a b) plays some)
    (λ i j s lt_i lt_j ne some. is_slot s (slot_entry slots i j) (m i j s) (only_slot-at r slots i j round table lt_i lt_j ne s) some)
    placed (placed.long ∙ round.table.long) (placed.slots_long ∙ table.long)

-- a list that is written in place
pub written : {X : Type 0} (len : ℕ) (new items : List X) → length new ≡ len → take len (new ++ drop (length new) items) ≡ new
written {X} len new items same = ap (λ (k : ℕ). take k (new ++ drop (length new) items)) (sym same) ∙ take-append_seam new (drop (length new) items)
