-- The text of a season by what was counted.
use Rattle.std.proofs.Common.{◌≡◌, ℕ, ◌↔◌, Bool, List, length, ap, subst, ◌∙◌, IsTrue}
use Rattle.std.proofs.lemmas.List.FromFn.{length-map-range_with_len}
use Rattle.std.specs.List.Sorted.{IsPermutation}
use Rattle.league.specs.Accepted.{IsAccepted, infeasibility, objective}
use Rattle.league.specs.Counts.{Counts, counts_of}
use Rattle.league.specs.Instance.{Instance}
use Rattle.league.specs.declared.game.Game.{Game}
use Rattle.league.specs.declared.wrongs.Wrongs.{Wrongs}
use Rattle.league.proofs.CountLemmas.{counts_of-permutation}
use Rattle.robinx.specs.Names.{Names}
use Rattle.deviation.specs.Assess.{IsStructureOf}
use Rattle.deviation.specs.declared.assessment.Assessment.{Assessment}
use Rattle.command_check.specs.Assessed.{IsAssessmentOf}
use Rattle.command_show.specs.Grid.{Season, grid_text}
use Rattle.command_show.specs.Show.{grid_of, labels_of, words_text, wrongs_of}

-- a grid by counts that are those of games
pub grid-same : (league : Instance) (names : Names) (games : List Game) (width n : ℕ) (phased : Bool) (counts : Counts) → n ≡ league.n → phased ≡ league.phased → counts ≡ counts_of games
    → grid_text (record { n = n; phased = phased; counts = counts; names = names }) width ≡ grid_of league names games width
grid-same league names games width n phased counts is_n is_phased is_counts =
    ap (λ (k : ℕ). let s : Season = record { n = k; phased = phased; counts = counts; names = names } in grid_text s width) is_n
    ∙ ap (λ (b : Bool). let s : Season = record { n = league.n; phased = b; counts = counts; names = names } in grid_text s width) is_phased
    ∙ ap (λ (m : Counts). let s : Season = record { n = league.n; phased = league.phased; counts = m; names = names } in grid_text s width) is_counts

-- what is wrong is what was found
wrongs-same : (league : Instance) (games : List Game) (wrongs : Wrongs) → IsStructureOf league (counts_of games) wrongs → wrongs ≡ wrongs_of league games
wrongs-same league games wrongs is =
    ap (λ (a : ℕ). let w : Wrongs = record { pairs_wrong = a; cells_wrong = wrongs.cells_wrong; phases_wrong = wrongs.phases_wrong } in w) is.pairs
    ∙ ap (λ (b : ℕ). let w : Wrongs = record { pairs_wrong = (wrongs_of league games).pairs_wrong; cells_wrong = b; phases_wrong = wrongs.phases_wrong } in w) is.cells
    ∙ ap (λ (c : ℕ). let w : Wrongs = record { pairs_wrong = (wrongs_of league games).pairs_wrong; cells_wrong = (wrongs_of league games).cells_wrong; phases_wrong = c } in w) is.phases

-- the words below a grid by an assessment
pub words-same : (league : Instance) (labels : List (List ℕ)) (most : ℕ) (games : List Game) (assessed : Assessment) → IsAssessmentOf league games assessed
    → words_text league labels most games assessed.structure assessed.infeasibility assessed.objective assessed.feasible
    ≡ words_text league labels most games (wrongs_of league games) (infeasibility league (counts_of games)) (objective league (counts_of games)) assessed.feasible
words-same league labels most games assessed is =
    ap (λ (w : Wrongs). words_text league labels most games w assessed.infeasibility assessed.objective assessed.feasible) (wrongs-same league games assessed.structure is.structure)
    ∙ ap (λ (k : ℕ). words_text league labels most games (wrongs_of league games) k assessed.objective assessed.feasible) is.infeasible
    ∙ ap (λ (k : ℕ). words_text league labels most games (wrongs_of league games) (infeasibility league (counts_of games)) k assessed.feasible) is.cost

-- games are accepted exactly if they are in order
pub accepted-ordered : (league : Instance) (games ordered : List Game) (feasible : Bool) → IsPermutation games ordered → IsTrue feasible ↔ IsAccepted league (counts_of ordered) → IsTrue feasible ↔ IsAccepted league (counts_of games)
accepted-ordered league games ordered feasible same accepted =
    subst (λ (m : Counts). IsTrue feasible ↔ IsAccepted league m) (counts_of-permutation games ordered same) accepted

-- as many labels as teams
pub labels-count : (n : ℕ) (names : Names) → length (labels_of n names) ≡ n
labels-count n names = length-map-range_with_len _ 0 n
