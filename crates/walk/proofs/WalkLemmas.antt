-- What a walk knows, said at equal numbers, rules and counts; and scores compared.
use Rattle.std.proofs.Common.{◌≡◌, ◌↔◌, ℕ, Bool, false, ◌&&◌, ◌||◌, ◌==◌, nat_lt, Option, Some, List, refl, arith, ap, sym, subst, ◌∙◌}
use Rattle.std.specs.Prelude.{◌*◌, ◌≤◌, IfSome, vec_capacity}
use Rattle.moves.specs.Round.{round_counts}
use Rattle.std.proofs.Math.Path.{fun_ext}
use Rattle.std.proofs.lemmas.Bool.Decides.{nat_tests}
use Rattle.league.specs.Accepted.{IsAccepted, MeetsHard, objective}
use Rattle.league.specs.Counts.{Counts, counts_of}
use Rattle.league.specs.Instance.{Instance}
use Rattle.league.specs.Structure.{IsRoundRobin}
use Rattle.league.specs.declared.game.Game.{Game}
use Rattle.rule_core.specs.declared.rule.Entries.{Ghosts}
use Rattle.descent.specs.League.{AreRulesOf, hard_sum}
use Rattle.descent.specs.Tallies.{objective_on}
use Rattle.descent.specs.declared.weighted.Weighted.{Weighted}
use Rattle.descent.proofs.LeagueLemmas.{hard_sum-met, infeasibility-league, objective-league}
use Rattle.descent.specs.Score.{IsNoWorse, score_on}
use Rattle.descent.specs.declared.score.Score.{Score}
use Rattle.descent.proofs.ScoreLemmas.{IsNoWorse-itself}
use Rattle.walk.specs.Standing.{IsFurther, IsKept, IsStandingOn, IsWalkerIn}
use Rattle.walk.specs.Walked.{IsSeasonOf, league_score}
use Rattle.walk.specs.declared.best.Best.{Best}
use Rattle.walk.specs.declared.best.Kept.{Kept}
use Rattle.walk.specs.declared.standing.Standing.{Standing}
use Rattle.walk.specs.declared.walker.Walker.{Walker}

both : (a b c d e f : ℕ) → (nat_lt c a || ((c == a) && nat_lt d b)) ≡ false
    → (nat_lt e c || ((e == c) && nat_lt f d)) ≡ false → (nat_lt e a || ((e == a) && nat_lt f b)) ≡ false
both a b c d e f first second = grind (arith, nat_tests)

-- what isn't worse than one that isn't worse isn't worse
pub IsNoWorse-both : (a b c : Score) → IsNoWorse a b → IsNoWorse b c → IsNoWorse a c
IsNoWorse-both a b c first second =
    both a.infeasibility a.objective b.infeasibility b.objective c.infeasibility c.objective first second

-- a walk that doesn't go on
pub IsFurther-same : (league : Instance) (walker : Walker) → IsWalkerIn league walker
    → IsFurther league walker.best.score walker.left walker
IsFurther-same league walker is = record {
  walker = is;
  no_worse = IsNoWorse-itself walker.best.score;
  fewer = omega arith;
}

-- a walk that went on twice went on
pub IsFurther-both : (league : Instance) (score : Score) (left : ℕ) (mid after : Walker)
    → IsFurther league score left mid → IsFurther league mid.best.score mid.left after
    → IsFurther league score left after
IsFurther-both league score left mid after first second = record {
  walker = second.walker;
  no_worse = IsNoWorse-both after.best.score mid.best.score score second.no_worse first.no_worse;
  fewer = omega (arith, second.fewer, first.fewer);
}

-- the same from equal games and as many moves left
pub IsFurther-after : (league : Instance) (best kept : Kept) (left more : ℕ) (after : Walker) → kept ≡ best → more ≡ left
    → IsFurther league kept.score more after → IsFurther league best.score left after
IsFurther-after league best kept left more after same same_left is = record {
  walker = is.walker;
  no_worse = subst (λ (k : Kept). IsNoWorse after.best.score k.score) same is.no_worse;
  fewer = omega (arith, same_left, is.fewer);
}

pub round_robin-at : (n k : ℕ) (phased said : Bool) (m : Counts) → k ≡ n → said ≡ phased → IsRoundRobin k said m
    → IsRoundRobin n phased m
round_robin-at n k phased said m same_n same_phased is =
    subst (λ (b : Bool). IsRoundRobin n b m) same_phased (subst (λ (j : ℕ). IsRoundRobin j said m) same_n is)

pub some-is : {X : Type 0} (P : X → Type 0) (found : Option X) (x : X) → found ≡ Some x → IfSome found P → P x
some-is {X} P found x same is = subst (λ (o : Option X). IfSome o P) same is

pub standing-at : (n k : ℕ) (phased said : Bool) (m l : Counts) (standing : Standing) → k ≡ n → said ≡ phased → l ≡ m
    → IsStandingOn k said l standing → IsStandingOn n phased m standing
standing-at n k phased said m l standing same_n same_phased same is = record {
  teams = is.teams ∙ same_n;
  phases = is.phases ∙ same_phased;
  counts = is.counts ∙ same;
  edit_for = is.edit_for ∙ same_n;
}

pub kept-at : (n k : ℕ) (phased said : Bool) (cost other : Counts → Score) (kept : Kept) → k ≡ n → said ≡ phased
    → other ≡ cost → IsKept k said other kept → IsKept n phased cost kept
kept-at n k phased said cost other kept same_n same_phased same is =
    subst (λ (f : Counts → Score). IsKept n phased f kept) same
    (subst (λ (b : Bool). IsKept n b other kept) same_phased
    (subst (λ (j : ℕ). IsKept j said other kept) same_n is))

-- what a call keeps of games of equal numbers, it keeps
pub kept-in : (n k : ℕ) (phased said : Bool) (cost : Counts → Score) (before after : Kept) → k ≡ n → said ≡ phased
    → (IsKept k said cost before → IsKept k said cost after) → IsKept n phased cost before → IsKept n phased cost after
kept-in n k phased said cost before after same_n same_phased keeps is =
    kept-at n k phased said cost cost after same_n same_phased refl
    (keeps (kept-at k n said phased cost cost before (sym same_n) (sym same_phased) refl is))

abbrev score_from : ℕ → ℕ → Score
score_from a b = record { infeasibility = a; objective = b }

-- the score by the weighted rules of a league is that of the league
pub scores-are : {R : Type 0} (E : Ghosts R) (league : Instance) (weights : List (Weighted R))
    → AreRulesOf E 1 league weights → score_on E weights ≡ league_score league
scores-are {R} E league weights are =
    fun_ext (λ m.
    ap (λ (a : ℕ). score_from a (objective_on E m weights)) (infeasibility-league E 1 league weights m are)
    ∙ ap (λ (b : ℕ). score_from (hard_sum 1 league m) b) (objective-league E 1 league weights m are))

-- the same by equal rules
pub scores-at : {R : Type 0} (E : Ghosts R) (league : Instance) (weights now : List (Weighted R))
    → AreRulesOf E 1 league weights → now ≡ weights → score_on E now ≡ league_score league
scores-at {R} E league weights now are same =
    ap (λ (w : List (Weighted R)). score_on E w) same ∙ scores-are E league weights are

-- where a walk stands and what it kept, said of a tally of the league's rules
pub walker-in : (league : Instance) (n : ℕ) (phased : Bool) (cost : Counts → Score) (walker : Walker) → n ≡ league.n
    → phased ≡ league.phased → cost ≡ league_score league
    → IsStandingOn n phased (round_counts walker.standing.board) walker.standing
    → league.n * league.n ≤ vec_capacity walker.games → IsKept n phased cost walker.best → IsWalkerIn league walker
walker-in league n phased cost walker same_n same_phased same_cost stands room kept = record {
  standing = standing-at league.n n league.phased phased (round_counts walker.standing.board)
      (round_counts walker.standing.board) walker.standing same_n same_phased refl stands;
  room = room;
  best = kept-at league.n n league.phased phased (league_score league) cost walker.best same_n same_phased same_cost
      kept;
}

-- a score by the weighted rules of a league, on equal counts
pub score-is : {R : Type 0} (E : Ghosts R) (league : Instance) (weights : List (Weighted R)) (score : Score)
    (k m : Counts) → AreRulesOf E 1 league weights → score ≡ score_on E weights k → k ≡ m
    → score ≡ league_score league m
score-is {R} E league weights score k m are is same =
    is ∙ ap (λ (f : Counts → Score). f k) (scores-are E league weights are)
    ∙ ap (λ (l : Counts). league_score league l) same

-- what isn't worse than what counts cost in a league isn't by its weighted rules
pub no_worse-by : {R : Type 0} (E : Ghosts R) (league : Instance) (weights now : List (Weighted R)) (best : Score)
    (k m : Counts) → AreRulesOf E 1 league weights → now ≡ weights → k ≡ m → IsNoWorse best (league_score league m)
    → IsNoWorse best (score_on E now k)
no_worse-by {R} E league weights now best k m are same same_counts is =
    subst (λ (f : Counts → Score). IsNoWorse best (f k)) (sym (scores-at E league weights now are same))
    (subst (λ (l : Counts). IsNoWorse best (league_score league l)) (sym same_counts) is)

-- what isn't worse by the weighted rules of a league isn't in the league
pub no_worse-of : {R : Type 0} (E : Ghosts R) (league : Instance) (weights now : List (Weighted R)) (best : Score)
    (k m : Counts) → AreRulesOf E 1 league weights → now ≡ weights → k ≡ m → IsNoWorse best (score_on E now k)
    → IsNoWorse best (league_score league m)
no_worse-of {R} E league weights now best k m are same same_counts is =
    subst (λ (l : Counts). IsNoWorse best (league_score league l)) same_counts
    (subst (λ (f : Counts → Score). IsNoWorse best (f k)) (scores-at E league weights now are same) is)

-- ---- accepted games

pub met : (league : Instance) (m : Counts) → (hard_sum 1 league m ≡ 0) ↔ MeetsHard league m
met league m = hard_sum-met 1 league m (omega arith)

-- nothing is infeasible exactly in an accepted schedule
pub feasible-is : (league : Instance) (best : Best) → IsSeasonOf league best
    → (best.score.infeasibility ≡ 0) ↔ IsAccepted league (counts_of best.games)
feasible-is league best is =
    let cost : best.score.infeasibility ≡ hard_sum 1 league (counts_of best.games) =
    ap (λ (s : Score). s.infeasibility) is.score in (
      λ none. record {
        round_robin = is.round_robin;
        hard = (met league (counts_of best.games)).0 (sym cost ∙ none);
      },
      λ accepted. cost ∙ (met league (counts_of best.games)).1 accepted.hard,
    )

-- kept games that miss nothing are accepted
pub kept-accepted : (league : Instance) (kept : Kept) → IsKept league.n league.phased (league_score league) kept
    → kept.score.infeasibility ≡ 0 → IsAccepted league (counts_of kept.games.items)
kept-accepted league kept is zero = record {
  round_robin = is.round_robin;
  hard = (met league (counts_of kept.games.items)).0 (sym (ap (λ (s : Score). s.infeasibility) is.score) ∙ zero);
}

none : (a b c d : ℕ) → (nat_lt c a || ((c == a) && nat_lt d b)) ≡ false → c ≡ 0 → a ≡ 0
none a b c d no_worse zero = grind (arith, nat_tests)

-- what isn't worse than an accepted schedule is accepted
pub accepted-stays : (league : Instance) (best : Best) (m : Counts) → IsSeasonOf league best
    → IsNoWorse best.score (league_score league m) → IsAccepted league m → IsAccepted league (counts_of best.games)
accepted-stays league best m is no_worse accepted =
    (feasible-is league best is).0
    (none best.score.infeasibility best.score.objective (hard_sum 1 league m) (objective league m) no_worse
    ((met league m).1 accepted.hard))

-- ---- a tally of the games of a board

pub counted-on : (counts m : Counts) (games items : List Game) → counts ≡ counts_of games → games ≡ items
    → counts_of items ≡ m → counts ≡ m
counted-on counts m games items counted same is = counted ∙ ap (λ (l : List Game). counts_of l) same ∙ is
