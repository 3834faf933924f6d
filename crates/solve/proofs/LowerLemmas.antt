-- What a descent makes of an accepted schedule.
use Rattle.std.proofs.Common.{◌≡◌, ◌⊎◌, ℕ, ◌≤◌, Bool, true, false, List, [], ◌∷◌, length, reverse, Some}
use Rattle.std.proofs.Common.{Result, Ok, Err, inl, inr, arith, ap, refl, sym, subst, ◌∙◌}
use Rattle.std.specs.List.{All}
use Rattle.std.specs.Prelude.{IfOk}
use Rattle.std.proofs.lemmas.Bool.{cases_Bool}
use Rattle.league.specs.Accepted.{IsAccepted, objective}
use Rattle.league.specs.Counts.{Counts, counts_of}
use Rattle.league.specs.Instance.{Instance, IsGame}
use Rattle.league.specs.Order.{IsInOrder}
use Rattle.league.specs.Structure.{IsRoundRobin}
use Rattle.league.specs.declared.game.Game.{Game}
use Rattle.moves.specs.declared.swap.Swap.{Swap}
use Rattle.rule_core.specs.declared.rule.Entries.{Ghosts}
use Rattle.descent.specs.League.{AreRulesOf}
use Rattle.descent.specs.Tallies.{objective_on}
use Rattle.descent.specs.declared.weighted.Weighted.{Weighted}
use Rattle.descent.proofs.LeagueLemmas.{objective-league}
use Rattle.descent.specs.Descended.{Descended}
use Rattle.descent.specs.Score.{IsCostly}
use Rattle.descent.specs.Settled.{IsSettled}
use Rattle.descent.specs.Trail.{IsClimb, IsTrail}
use Rattle.descent.specs.declared.score.Score.{Score}
use Rattle.descent.proofs.BackLaw.{trails-climb_back}
use Rattle.descent.proofs.TrailLemmas.{trails-stay_feasible}
use Rattle.robin_watch.specs.Limits.{IsKeptTo}
use Rattle.solve.specs.Solutions.{IsDescent, IsSchedule, league_score}
use Rattle.solve.specs.Tried.{IsSeasonBy}
use Rattle.solve.specs.declared.lower.Season.{Season}
use Rattle.walk.proofs.WalkLemmas.{met}

-- what a descent says of its counts at the start and at the end
pub record Descends (n : ℕ) (phased : Bool) (score : Counts → Score) (start end : Counts) (moves : ℕ)
    (may_stop : Type 0) (descent : Descended) : Type 0 where
  pub round_robin : IsRoundRobin n phased end
  pub first : counts_of descent.first ≡ start
  pub fit : All (IsGame n) descent.first
  pub in_order : IsInOrder descent.first
  pub trail : IsTrail n phased score start descent.trail end
  pub few : length descent.trail ≤ moves
  pub settled : descent.settled ≡ true → IsSettled n phased score end
  pub spent : descent.settled ≡ false → length descent.trail ≡ moves
  pub costly : descent.settled ≡ false → IsCostly (score end)
  pub lowers : descent.settled ≡ false → may_stop ⊎ (IsSettled n phased score end → ⊥)

-- what a descent says of its counts, by equal numbers and scores
pub Descends-same : (n k : ℕ) (phased said : Bool) (score other : Counts → Score) (start begin end : Counts) (moves : ℕ)
    (may_stop : Type 0) (descent : Descended) → n ≡ k → phased ≡ said → score ≡ other → start ≡ begin
    → Descends n phased score start end moves may_stop descent
    → Descends k said other begin end moves may_stop descent
Descends-same n k phased said score other start begin end moves may_stop descent same_n same_phased same_score same_start
    is =
    subst (λ (m : Counts). Descends k said other m end moves may_stop descent) same_start
    (subst (λ (s : Counts → Score). Descends k said s start end moves may_stop descent) same_score
    (subst (λ (b : Bool). Descends k b score start end moves may_stop descent) same_phased
    (subst (λ (l : ℕ). Descends l phased score start end moves may_stop descent) same_n is)))

-- the objective is that of the league
pub cost-is : {R : Type 0} (E : Ghosts R) (league : Instance) (weights now : List (Weighted R)) (m : Counts)
    → AreRulesOf E 1 league weights → now ≡ weights → objective_on E m now ≡ objective league m
cost-is {R} E league weights now m are same =
    ap (λ (w : List (Weighted R)). objective_on E m w) same ∙ objective-league E 1 league weights m are

-- nothing is infeasible at the end of a descent from accepted counts
end-feasible : (league : Instance) (start end : Counts) (moves : ℕ) (may_stop : Type 0) (descent : Descended)
    → Descends league.n league.phased (league_score league) start end moves may_stop descent → IsAccepted league start
    → (league_score league end).infeasibility ≡ 0
end-feasible league start end moves may_stop descent is accepted =
    (trails-stay_feasible league.n league.phased (league_score league) start end descent.trail
    ((met league start).1 accepted.hard) is.trail).0

-- so the end is accepted
end-accepted : (league : Instance) (start end : Counts) (moves : ℕ) (may_stop : Type 0) (descent : Descended)
    → Descends league.n league.phased (league_score league) start end moves may_stop descent → IsAccepted league start
    → IsAccepted league end
end-accepted league start end moves may_stop descent is accepted = record {
  round_robin = is.round_robin;
  hard = (met league end).0 (end-feasible league start end moves may_stop descent is accepted);
}

-- the games at the end of a descent are an answer
pub IsSchedule-of : (league : Instance) (start end : Counts) (moves : ℕ) (may_stop : Type 0) (descent : Descended)
    (games : List Game) (cost : ℕ)
    → Descends league.n league.phased (league_score league) start end moves may_stop descent → IsAccepted league start
    → counts_of games ≡ end → All (IsGame league.n) games → IsInOrder games → cost ≡ objective league end
    → IsSchedule league moves may_stop games cost descent
IsSchedule-of league start end moves may_stop descent games cost is accepted counts fit in_order costs = record {
  accepted = subst (λ (m : Counts). IsAccepted league m) (sym counts)
      (end-accepted league start end moves may_stop descent is accepted);
  fit = fit;
  in_order = in_order;
  cost = costs ∙ ap (λ (m : Counts). objective league m) (sym counts);
  descends = record {
    first = subst (λ (m : Counts). IsAccepted league m) (sym is.first) accepted;
    fit = is.fit;
    in_order = is.in_order;
    trail = subst (λ (m : Counts). IsTrail league.n league.phased (league_score league) m descent.trail (counts_of games))
        (sym is.first)
        (subst (λ (m : Counts). IsTrail league.n league.phased (league_score league) start descent.trail m)
        (sym counts) is.trail);
    few = is.few;
    settled = subst
        (λ (m : Counts). descent.settled ≡ true → IsSettled league.n league.phased (league_score league) m)
        (sym counts) is.settled;
    spent = is.spent;
    costly = λ open_yet.
        subst (λ (m : Counts). 1 ≤ objective league m) (sym counts)
        (is.costly open_yet (end-feasible league start end moves may_stop descent is accepted));
    lowers = subst
        (λ (m : Counts). descent.settled ≡ false
        → may_stop ⊎ (IsSettled league.n league.phased (league_score league) m → ⊥)) (sym counts) is.lowers;
  };
}

-- ---- what follows of the moves

-- taken backwards they raise the score
pub IsDescent-climbs : (league : Instance) (moves : ℕ) (may_stop : Type 0) (games : List Game) (descent : Descended)
    → IsDescent league moves may_stop games descent
    → IsClimb league.n league.phased (league_score league) (counts_of games) (reverse descent.trail)
    (counts_of descent.first)
IsDescent-climbs league moves may_stop games descent is =
    trails-climb_back league.n league.phased (league_score league) (counts_of descent.first) (counts_of games)
    descent.trail is.first.round_robin is.trail

-- no moves lead nowhere
no_moves : (n : ℕ) (phased : Bool) (score : Counts → Score) (first last : Counts) (trail : List Swap)
    → length trail ≡ 0 → IsTrail n phased score first trail last → last ≡ first
no_moves n phased score first last [] none is = is
no_moves n phased score first last (step ∷ trail) none is = absurd (omega (arith, none))

same-limit : (a b : ℕ) → Some a ≡ Some b → a ≡ b
same-limit a b is = cc

-- a descent that kept to no move, where it may make one, may be stopped
stopped-first : (moves kept : ℕ) (may_stop : Type 0) → 1 ≤ moves → kept ≡ 0
    → IsKeptTo (Some moves) may_stop (Some kept) → may_stop
stopped-first moves kept may_stop some none (inl same) = absurd (omega (arith, some, none, same-limit kept moves same))
stopped-first moves kept may_stop some none (inr lower) = lower.0

settled-end : (league : Instance) (moves kept : ℕ) (may_stop : Type 0) (games : List Game) (descent : Descended)
    (b : Bool) → descent.settled ≡ b → IsDescent league kept may_stop games descent → 1 ≤ moves
    → IsKeptTo (Some moves) may_stop (Some kept) → length descent.trail ≡ 0
    → may_stop ⊎ IsSettled league.n league.phased (league_score league) (counts_of games)
settled-end league moves kept may_stop games descent true settled is some is_kept none = inr (is.settled settled)
settled-end league moves kept may_stop games descent false settled is some is_kept none =
    inl (stopped-first moves kept may_stop some (omega (arith, is.spent settled, none)) is_kept)

-- where a descent that may make a move ends no lower than it began, no legal move lowers the score at its beginning,
-- unless it may be stopped
season-settled : (league : Instance) (moves : ℕ) (may_stop : Type 0) (season : Season)
    → IsSeasonBy league moves may_stop season → 1 ≤ moves
    → objective league (counts_of season.descent.first) ≤ season.objective
    → may_stop ⊎ IsSettled league.n league.phased (league_score league) (counts_of season.descent.first)
season-settled league moves may_stop season by some none_lower =
    let is = by.is_season in
    let first : Counts = counts_of season.descent.first in
    let last : Counts = counts_of season.schedule in
    let stays = trails-stay_feasible league.n league.phased (league_score league) first last season.descent.trail
    ((met league first).1 is.descends.first.hard) is.descends.trail in
    let none : length season.descent.trail ≡ 0 = omega (arith, stays.1, is.cost, none_lower) in
    subst (λ (m : Counts). may_stop ⊎ IsSettled league.n league.phased (league_score league) m)
    (no_moves league.n league.phased (league_score league) first last season.descent.trail none is.descends.trail)
    (settled-end league moves by.kept may_stop season.schedule season.descent season.descent.settled refl is.descends
    some by.is_kept none)

-- a descent that may make a move and doesn't better its start leaves no move that does, unless it may be stopped
settled-start : (league : Instance) (m : Counts) (moves : ℕ) (may_stop : Type 0) (season : Season)
    → IsSeasonBy league moves may_stop season → counts_of season.descent.first ≡ m → 1 ≤ moves
    → objective league m ≤ season.objective
    → may_stop ⊎ IsSettled league.n league.phased (league_score league) m
settled-start league m moves may_stop season by first some none_lower =
    subst (λ (k : Counts). may_stop ⊎ IsSettled league.n league.phased (league_score league) k) first
    (season-settled league moves may_stop season by some
    (subst (λ (k : Counts). objective league k ≤ season.objective) (sym first) none_lower))

-- and so where it is known only of a descent that didn't fail
pub found-settled : {E : Type 0} (league : Instance) (m : Counts) (moves : ℕ) (may_stop : Type 0)
    (found : Result Season E) → IfOk found (IsSeasonBy league moves may_stop)
    → IfOk found (λ season. counts_of season.descent.first ≡ m) → 1 ≤ moves
    → IfOk found (λ season. objective league m ≤ season.objective
    → may_stop ⊎ IsSettled league.n league.phased (league_score league) m)
found-settled {E} league m moves may_stop (Ok season) by first some =
    settled-start league m moves may_stop season by first some
found-settled {E} league m moves may_stop (Err error) by first some = tt

-- with as many moves as the first objective says it is settled
pub IsDescent-settles : (league : Instance) (moves : ℕ) (may_stop : Type 0) (games : List Game) (descent : Descended)
    → IsDescent league moves may_stop games descent → objective league (counts_of descent.first) ≤ moves
    → descent.settled ≡ true
IsDescent-settles league moves may_stop games descent is enough =
    elim (cases_Bool descent.settled) as (λ _. descent.settled ≡ true) [
      | inl settled ↦ settled
      | inr not_settled ↦
          let stays = trails-stay_feasible league.n league.phased (league_score league) (counts_of descent.first)
          (counts_of games) descent.trail ((met league (counts_of descent.first)).1 is.first.hard) is.trail in
          absurd (omega (arith, stays.1, is.spent not_settled, is.costly not_settled, enough))
    ]
