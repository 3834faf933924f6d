-- A better schedule keeps what was played.
use Rattle.std.proofs.Common.{◌≡◌, ℕ, ◌≤◌, Bool, nat_lt, List, [], ap, inl, inr, subst, sym, ◌∙◌, arith}
use Rattle.std.specs.List.{All}
use Rattle.std.specs.List.Sorted.{IsPermutation}
use Rattle.std.proofs.lemmas.List.Sorted.{All-permutation}
use Rattle.resume.specs.Changed.{IsAtMost}
use Rattle.resume.specs.Nearing.{IsEnd}
use Rattle.resume.specs.declared.nearest.Nearest.{Nearest}
use Rattle.league.specs.Accepted.{objective}
use Rattle.league.specs.Counts.{Counts, counts_of}
use Rattle.league.specs.Instance.{Instance, IsGame}
use Rattle.league.specs.Structure.{IsRoundRobin}
use Rattle.league.specs.declared.game.Game.{Game}
use Rattle.league.proofs.CountLemmas.{counts_of-permutation}
use Rattle.resume.specs.Kept.{Keeps}
use Rattle.resume.specs.Answers.{IsResumedSeason}
use Rattle.resume.specs.Merged.{merged_games}
use Rattle.resume.specs.Near.{changed}
use Rattle.resume.proofs.MergeLemmas.{merged-fit, merged-same}

-- ---- leagues of as many teams, in as many phases

pub round-same : (n m : ℕ) (phased also : Bool) (counts : Counts) → m ≡ n → also ≡ phased
    → IsRoundRobin n phased counts → IsRoundRobin m also counts
round-same n m phased also counts teams phases round =
    subst (λ (b : Bool). IsRoundRobin m b counts) (sym phases)
    (subst (λ (k : ℕ). IsRoundRobin k phased counts) (sym teams) round)

pub fit-same : (n m : ℕ) (games : List Game) → m ≡ n → All (IsGame n) games → All (IsGame m) games
fit-same n m games teams fit = subst (λ (k : ℕ). All (IsGame k) games) (sym teams) fit

-- ---- what is merged

-- merged games fit, in any order
pub ordered-fit : (n k : ℕ) (start end merged : List Game) → IsPermutation (merged_games k start end) merged
    → All (IsGame n) start → All (IsGame n) end → All (IsGame n) merged
ordered-fit n k start end merged same fit more =
    All-permutation (IsGame n) (merged_games k start end) merged same (merged-fit n k start end fit more)

-- merged games keep the games of the first list, in any order
pub ordered-keeps : (k : ℕ) (start end merged : List Game) → IsPermutation (merged_games k start end) merged
    → Keeps (counts_of start) k (counts_of merged)
ordered-keeps k start end merged same = λ i j s slot.
    ap (λ (m : Counts). nat_lt 0 (m i j s)) (counts_of-permutation (merged_games k start end) merged same)
    ∙ ap (λ (c : ℕ). nat_lt 0 c) (merged-same k start end i j s slot)

-- ---- where a descent leads

-- a descent that keeps the games of a season that keeps the played ones leads to a season that keeps these too
pub season-further : {may_stop : Type 0} (league : Instance) (played : List Game) (k : ℕ) (start : List Game) (cost : ℕ) (old : List Game)
    (end : Nearest) → IsResumedSeason league played k start cost → IsEnd league k old may_stop (counts_of start) end
    → IsResumedSeason league played k end.schedule end.objective
season-further {may_stop} league played k start cost old end season is = record {
  resumes = record {
    accepted = is.accepted;
    keeps = λ i j s slot. is.keeps i j s slot ∙ season.resumes.keeps i j s slot;
  };
  fit = is.fit;
  in_order = is.in_order;
  cost = is.cost;
}

-- without an old plan it costs no more
pub lower-cost : {may_stop : Type 0} (league : Instance) (played : List Game) (k : ℕ) (start : List Game) (cost : ℕ) (end : Nearest)
    → IsResumedSeason league played k start cost → IsEnd league k [] may_stop (counts_of start) end → end.objective ≤ cost
lower-cost {may_stop} league played k start cost end season is = by is.no_farther where
  by : IsAtMost 0 end.objective 0 (objective league (counts_of start)) → end.objective ≤ cost
  by (inl fewer) = absurd (omega (arith, fewer))
  by (inr same) = omega (arith, same.1, season.cost)

-- nor is it farther from an old plan
pub end-no_farther : {may_stop : Type 0} (league : Instance) (played : List Game) (k : ℕ) (start : List Game) (cost : ℕ) (end : Nearest)
    → IsResumedSeason league played k start cost → IsEnd league k played may_stop (counts_of start) end
    → IsAtMost (changed k played end.schedule) end.objective (changed k played start) cost
end-no_farther {may_stop} league played k start cost end season is =
    subst (λ (price : ℕ). IsAtMost (changed k played end.schedule) end.objective (changed k played start) price)
    (sym season.cost) is.no_farther
