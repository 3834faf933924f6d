-- What a walk knows that leaves the first slots alone, one move further.
use Rattle.std.proofs.Common.{◌≡◌, ℕ, ◌+◌, ◌<◌, ◌≤◌, ◌⊎◌, Bool, true, false, List, length, get_or}
use Rattle.std.proofs.Common.{Option, Some, None, Result, Ok, Err, ap, inl, inr, refl, subst, sym, ◌∙◌, arith}
use Rattle.std.specs.Prelude.{IfOk, MatchOption}
use Rattle.std.specs.List.{All, AllWithin}
use Rattle.std.proofs.lemmas.List.{get_or_default}
use Rattle.std.proofs.lemmas.List.Elements.{All-contains, All-get_or}
use Rattle.rule_core.specs.Table.{table_counts}
use Rattle.league.specs.Accepted.{IsAccepted, objective}
use Rattle.league.specs.Counts.{Counts, counts_of}
use Rattle.league.specs.Instance.{IsGame}
use Rattle.league.specs.Order.{IsInOrder}
use Rattle.league.specs.Structure.{IsRoundRobin}
use Rattle.league.specs.declared.game.Game.{Game}
use Rattle.descent.specs.Walks.{IsFullEdit, KeepsGames}
use Rattle.descent.proofs.MoveLemmas.{all_moves-lists, all_moves-of_league}
use Rattle.descent.proofs.WalkLemmas.{round-none}
use Rattle.moves.specs.Moves.{IsOfLeague, moved}
use Rattle.moves.specs.Neighbours.{all_moves}
use Rattle.moves.specs.Round.{Edits, round_counts}
use Rattle.moves.specs.declared.swap.Swap.{Swap}
use Rattle.rule_core.specs.declared.rule.Entries.{Ghosts}
use Rattle.descent.specs.League.{AreRulesOf}
use Rattle.descent.specs.Tallies.{Tallied, objective_on}
use Rattle.descent.specs.declared.weighted.Weighted.{Weighted}
use Rattle.descent.proofs.LeagueLemmas.{objective-league}
use Rattle.resume.specs.Kept.{Keeps}
use Rattle.resume.specs.Changed.{IsAtMost, IsNearer, changed_on}
use Rattle.resume.specs.Nearing.{IsEnd, IsNearest}
use Rattle.resume.specs.Walks.{IsBetter, IsDown, IsFoundAt, IsGround, IsSeasonOn, IsWalkFrom, IsWalkOn}
use Rattle.resume.specs.declared.ground.Ground.{Ground}
use Rattle.resume.specs.declared.nearest.Nearest.{Nearest}
use Rattle.resume.specs.declared.old_plan.OldPlan.{OldPlan}
use Rattle.resume.specs.declared.kept_walk.Walk.{Walk}
use Rattle.resume.proofs.ChangedLemmas.{at_most-itself, at_most-nearer}

-- ---- a ground

pub IsGround-kept : {R : Type 0} (E : Ghosts R) (ground : Ground) (tally kept : Tallied R) → IsGround E ground tally
    → KeepsGames tally kept → IsGround E ground kept
IsGround-kept {R} E ground tally kept is keeps = record {
  rules = subst (λ (w : List (Weighted R)). AreRulesOf E 1 ground.plan.league.now w) (sym keeps.weights) is.rules;
  table_teams = keeps.teams ∙ is.table_teams;
  board_teams = is.board_teams;
  phased = is.phased;
  counts = is.counts ∙ sym keeps.counts;
  old_teams = is.old_teams;
  old = is.old;
  fit = is.fit;
}

-- the walk from the season of a tally by the rules of its league
pub IsWalkOn-from : {R : Type 0} (E : Ghosts R) (plan : OldPlan) (m : Counts) (walk : Walk) (tally : Tallied R)
    → IsWalkFrom plan m walk → AreRulesOf E 1 plan.league.now tally.weights → tally.table.n ≡ plan.league.now.n
    → table_counts tally.table ≡ m → All (IsGame plan.league.now.n) plan.games.now → IsWalkOn E walk tally
IsWalkOn-from {R} E plan m walk tally is rules teams counts fit =
    let n : walk.ground.plan.league.now.n ≡ plan.league.now.n = ap (λ (p : OldPlan). p.league.now.n) is.same in
    record {
      ground = record {
        rules = subst (λ (p : OldPlan). AreRulesOf E 1 p.league.now tally.weights) (sym is.same) rules;
        table_teams = teams ∙ sym n;
        board_teams = is.board_teams ∙ sym n;
        phased = is.phased ∙ sym (ap (λ (p : OldPlan). p.league.now.phased) is.same);
        counts = is.counts ∙ sym counts;
        old_teams = is.old_teams ∙ sym n;
        old = is.old ∙ sym (ap (λ (p : OldPlan). counts_of p.games.now) is.same);
        fit = subst (λ (p : OldPlan). All (IsGame p.league.now.n) p.games.now) (sym is.same) fit;
      };
      listed = is.listed ∙ sym (ap (λ (k : ℕ). all_moves k) n);
      edit_for = is.edit_for ∙ sym n;
      next_within = is.next_within;
    }

-- its season is a double round robin, where its board has one
pub ground-round : {R : Type 0} (E : Ghosts R) (ground : Ground) (tally : Tallied R) → IsGround E ground tally
    → IsRoundRobin ground.board.n ground.board.phased (round_counts ground.board)
    → IsRoundRobin ground.plan.league.now.n ground.plan.league.now.phased (table_counts tally.table)
ground-round {R} E ground tally is round =
    subst (λ (m : Counts). IsRoundRobin ground.plan.league.now.n ground.plan.league.now.phased m) is.counts
    (subst (λ (b : Bool). IsRoundRobin ground.plan.league.now.n b (round_counts ground.board)) is.phased
    (subst (λ (n : ℕ). IsRoundRobin n ground.board.phased (round_counts ground.board)) is.board_teams round))

-- ---- a round of moves

-- the moves of a walk are of its league
pub move-of_league : {R : Type 0} (E : Ghosts R) (walk : Walk) (tally : Tallied R) (place : ℕ) (d : Swap)
    → IsWalkOn E walk tally → place < length walk.moves.items
    → IsOfLeague walk.ground.plan.league.now.n (get_or walk.moves.items place d)
move-of_league {R} E walk tally place d is within =
    let n = walk.ground.plan.league.now.n in
    All-get_or (IsOfLeague n) walk.moves.items place d within
    (subst (λ (moves : List Swap). All (IsOfLeague n) moves) (sym is.listed) (all_moves-of_league n))

-- the move at a place
pub found-at : (plan : OldPlan) (m : Counts) (moves : List Swap) (edit : Edits) (place : ℕ) (e : Swap)
    → place < length moves → IsBetter plan m (get_or moves place e)
    → IsFullEdit plan.league.now.n m (get_or moves place e) edit → IsFoundAt plan m moves edit place
found-at plan m moves edit place e within better full = record {
  within = within;
  better = λ d. subst (λ (step : Swap). IsBetter plan m step) (get_or_default moves place e d within) better;
  full = λ d. subst (λ (step : Swap). IsFullEdit plan.league.now.n m step edit) (get_or_default moves place e d within)
      full;
}

-- where no listed move betters the season, none at all does
pub IsNearest-of_all : {R : Type 0} (E : Ghosts R) (walk : Walk) (tally : Tallied R) (m : Counts)
    → IsWalkOn E walk tally → All (λ step. IsBetter walk.ground.plan m step → ⊥) walk.moves.items
    → IsNearest walk.ground.plan.league.now walk.ground.plan.k walk.ground.plan.games.now m
IsNearest-of_all {R} E walk tally m is none step better =
    let n = walk.ground.plan.league.now.n in
    All-contains (λ s. IsBetter walk.ground.plan m s → ⊥) (all_moves n) step
    (subst (λ (moves : List Swap). All (λ s. IsBetter walk.ground.plan m s → ⊥) moves) is.listed none)
    (all_moves-lists n m step better.of_league better.legal.own) better

-- the walk with another edit at hand, and another place to go on from
pub IsWalkOn-tried : {R : Type 0} (E : Ghosts R) (walk : Walk) (tally kept : Tallied R) (edit : Edits) (next : ℕ)
    → IsWalkOn E walk tally → KeepsGames tally kept → edit.n ≡ walk.edit.n → next ≤ length walk.moves.items
    → IsWalkOn E (record walk { edit = edit; next = next }) kept
IsWalkOn-tried {R} E walk tally kept edit next is keeps same within = record {
  ground = IsGround-kept E walk.ground tally kept is.ground keeps;
  listed = is.listed;
  edit_for = same ∙ is.edit_for;
  next_within = within;
}

-- the walk with another number of moves made
pub IsWalkOn-made : {R : Type 0} (E : Ghosts R) (walk : Walk) (tally : Tallied R) (made : ℕ) → IsWalkOn E walk tally
    → IsWalkOn E (record walk { made = made }) tally
IsWalkOn-made {R} E walk tally made is = record {
  ground = is.ground;
  listed = is.listed;
  edit_for = is.edit_for;
  next_within = is.next_within;
}

-- the move that a round found
pub found-better : (plan : OldPlan) (m : Counts) (walk tried : Walk) (place : ℕ) (step : Swap)
    → tried ≡ record walk { edit = tried.edit } → IsFoundAt plan m walk.moves.items tried.edit place
    → ((d : Swap) → step ≡ get_or tried.moves.items place d) → IsBetter plan m step
found-better plan m walk tried place step same found at =
    subst (λ (s : Swap). IsBetter plan m s) (sym (at step ∙ ap (λ (w : Walk). get_or w.moves.items place step) same))
    (found.better step)

pub found-full : (plan : OldPlan) (m : Counts) (walk tried taken : Walk) (place : ℕ) (step : Swap)
    → tried ≡ record walk { edit = tried.edit } → IsFoundAt plan m walk.moves.items tried.edit place
    → ((d : Swap) → step ≡ get_or tried.moves.items place d) → taken ≡ record tried { next = place + 1 }
    → IsFullEdit plan.league.now.n m step taken.edit
found-full plan m walk tried taken place step same found at is_taken =
    subst (λ (e : Edits). IsFullEdit plan.league.now.n m step e) (sym (ap (λ (w : Walk). w.edit) is_taken))
    (subst (λ (s : Swap). IsFullEdit plan.league.now.n m s tried.edit)
    (sym (at step ∙ ap (λ (w : Walk). get_or w.moves.items place step) same)) (found.full step))

-- the same by an equal plan and equal counts
pub better-at : (plan other : OldPlan) (m l : Counts) (step : Swap) → other ≡ plan → l ≡ m → IsBetter other l step
    → IsBetter plan m step
better-at plan other m l step same counts better =
    subst (λ (c : Counts). IsBetter plan c step) counts (subst (λ (p : OldPlan). IsBetter p l step) same better)

pub full-at : (plan other : OldPlan) (m l : Counts) (step : Swap) (edit : Edits) → other ≡ plan → l ≡ m
    → IsFullEdit other.league.now.n l step edit → IsFullEdit plan.league.now.n m step edit
full-at plan other m l step edit same counts full =
    subst (λ (c : Counts). IsFullEdit plan.league.now.n c step edit) counts
    (subst (λ (p : OldPlan). IsFullEdit p.league.now.n l step edit) same full)

-- what is found in the first part of a round, where its second part has none
pub found-round : {R : Type 0} (walk tried : Walk) (tally kept : Tallied R) (end : ℕ) (edit : Edits) (found : Option ℕ)
    → KeepsGames tally kept → tried ≡ record walk { edit = tried.edit } → end ≡ length walk.moves.items
    → AllWithin (λ step. IsBetter walk.ground.plan (table_counts tally.table) step → ⊥) walk.moves.items walk.next end
    → MatchOption found
    (AllWithin (λ step. IsBetter tried.ground.plan (table_counts kept.table) step → ⊥) tried.moves.items 0 walk.next)
    (IsFoundAt tried.ground.plan (table_counts kept.table) tried.moves.items edit)
    → MatchOption found
    (All (λ step. IsBetter walk.ground.plan (table_counts tally.table) step → ⊥) walk.moves.items)
    (IsFoundAt walk.ground.plan (table_counts tally.table) walk.moves.items edit)
found-round {R} walk tried tally kept end edit None keeps same is_end first second =
    let m : Counts = table_counts tally.table in
    let None_before : Walk → Counts → Type 0 =
    λ w c. AllWithin (λ step. IsBetter w.ground.plan c step → ⊥) w.moves.items 0 walk.next in
    round-none (λ step. IsBetter walk.ground.plan m step → ⊥) walk.moves.items walk.next
    (subst (λ (c : Counts). None_before walk c) keeps.counts
    (subst (λ (w : Walk). None_before w (table_counts kept.table)) same second))
    (subst (λ (last : ℕ). AllWithin (λ step. IsBetter walk.ground.plan m step → ⊥) walk.moves.items walk.next last)
    is_end first)
found-round {R} walk tried tally kept end edit (Some place) keeps same is_end first at =
    subst (λ (c : Counts). IsFoundAt walk.ground.plan c walk.moves.items edit place) keeps.counts
    (subst (λ (w : Walk). IsFoundAt w.ground.plan (table_counts kept.table) w.moves.items edit place) same at)

-- nothing is nearer than a season that changes no game and costs nothing
none-below : (changes cost before first : ℕ) → before ≡ 0 → first ≡ 0 → IsNearer changes cost before first → ⊥
none-below changes cost before first none free (inl fewer) = absurd (omega (arith, none, fewer))
none-below changes cost before first none free (inr same) = absurd (omega (arith, free, same.1))

pub least-nearest : (plan : OldPlan) (m : Counts) → changed_on plan.k plan.games.now m ≡ 0
    → objective plan.league.now m ≡ 0 → IsNearest plan.league.now plan.k plan.games.now m
least-nearest plan m none free step better =
    let after : Counts = moved plan.league.now.n m step in
    none-below (changed_on plan.k plan.games.now after) (objective plan.league.now after)
    (changed_on plan.k plan.games.now m) (objective plan.league.now m) none free better.nearer

-- no nearer season by an equal plan and equal counts
pub nearest-at : (plan other : OldPlan) (m l : Counts) → other ≡ plan → l ≡ m
    → IsNearest other.league.now other.k other.games.now l → IsNearest plan.league.now plan.k plan.games.now m
nearest-at plan other m l same counts nearest =
    subst (λ (c : Counts). IsNearest plan.league.now plan.k plan.games.now c) counts
    (subst (λ (p : OldPlan). IsNearest p.league.now p.k p.games.now l) same nearest)

-- where a move betters a season, it isn't the nearest one, by an equal plan and equal counts
pub open-better : (plan other : OldPlan) (m l : Counts) (step : Swap) → other ≡ plan → l ≡ m → IsBetter other l step
    → IsNearest plan.league.now plan.k plan.games.now m → ⊥
open-better plan other m l step same counts better nearest =
    nearest step (better-at plan other m l step same counts better)

pub open-at : (plan other : OldPlan) (may_stop : Type 0) (m l : Counts) → other ≡ plan → l ≡ m
    → may_stop ⊎ (IsNearest other.league.now other.k other.games.now l → ⊥)
    → may_stop ⊎ (IsNearest plan.league.now plan.k plan.games.now m → ⊥)
open-at plan other may_stop m l same counts (inl stops) = inl stops
open-at plan other may_stop m l same counts (inr lower) =
    inr (λ nearest. lower (nearest-at other plan l m (sym same) (sym counts) nearest))

-- ---- all moves made so far

pub IsDown-none : {R : Type 0} (E : Ghosts R) (walk : Walk) (tally : Tallied R) → IsWalkOn E walk tally
    → IsAccepted walk.ground.plan.league.now (table_counts tally.table)
    → IsDown E walk.ground.plan (table_counts tally.table) walk tally
IsDown-none {R} E walk tally is accepted = record {
  walks = is;
  same = refl;
  accepted = accepted;
  keeps = λ i j s slot. refl;
  no_farther = at_most-itself
      (changed_on walk.ground.plan.k walk.ground.plan.games.now (table_counts tally.table))
      (objective walk.ground.plan.league.now (table_counts tally.table));
}

-- what a round leaves
pub IsDown-kept : {R : Type 0} (E : Ghosts R) (plan : OldPlan) (first : Counts) (walk tried : Walk)
    (tally kept : Tallied R) → IsDown E plan first walk tally → KeepsGames tally kept → IsWalkOn E tried kept
    → tried.ground ≡ walk.ground → IsDown E plan first tried kept
IsDown-kept {R} E plan first walk tried tally kept is keeps on same = record {
  walks = on;
  same = ap (λ (ground : Ground). ground.plan) same ∙ is.same;
  accepted = subst (λ (m : Counts). IsAccepted plan.league.now m) (sym keeps.counts) is.accepted;
  keeps = subst (λ (m : Counts). Keeps first plan.k m) (sym keeps.counts) is.keeps;
  no_farther = subst
      (λ (m : Counts). IsAtMost (changed_on plan.k plan.games.now m) (objective plan.league.now m)
      (changed_on plan.k plan.games.now first) (objective plan.league.now first))
      (sym keeps.counts) is.no_farther;
}

-- one move more
pub IsDown-more : {R : Type 0} (E : Ghosts R) (plan : OldPlan) (first : Counts) (walk made : Walk)
    (tally after : Tallied R) (step : Swap) → IsDown E plan first walk tally
    → IsBetter plan (table_counts tally.table) step
    → table_counts after.table ≡ moved plan.league.now.n (table_counts tally.table) step
    → IsWalkOn E made after → made.ground.plan ≡ walk.ground.plan → IsDown E plan first made after
IsDown-more {R} E plan first walk made tally after step is better to on same =
    let m : Counts = table_counts tally.table in
    let next : Counts = moved plan.league.now.n m step in
    record {
      walks = on;
      same = same ∙ is.same;
      accepted = subst (λ (c : Counts). IsAccepted plan.league.now c) (sym to) better.accepted;
      keeps = subst (λ (c : Counts). Keeps first plan.k c) (sym to)
          (λ i j s slot. better.keeps i j s slot ∙ is.keeps i j s slot);
      no_farther = subst
          (λ (c : Counts). IsAtMost (changed_on plan.k plan.games.now c) (objective plan.league.now c)
          (changed_on plan.k plan.games.now first) (objective plan.league.now first))
          (sym to)
          (at_most-nearer (changed_on plan.k plan.games.now next) (objective plan.league.now next)
          (changed_on plan.k plan.games.now m) (objective plan.league.now m)
          (changed_on plan.k plan.games.now first) (objective plan.league.now first) better.nearer is.no_farther);
    }

-- ---- where a descent leads

-- the league has as many teams as the tally
pub down-teams : {R : Type 0} (E : Ghosts R) (plan : OldPlan) (first : Counts) (walk : Walk) (tally : Tallied R)
    → IsDown E plan first walk tally → tally.table.n ≡ plan.league.now.n
down-teams {R} E plan first walk tally is =
    is.walks.ground.table_teams ∙ ap (λ (p : OldPlan). p.league.now.n) is.same

-- what the season costs
pub down-cost : {R : Type 0} (E : Ghosts R) (plan : OldPlan) (first : Counts) (walk : Walk) (tally : Tallied R)
    (cost : ℕ) → IsDown E plan first walk tally → cost ≡ objective_on E (table_counts tally.table) tally.weights
    → cost ≡ objective plan.league.now (table_counts tally.table)
down-cost {R} E plan first walk tally cost is costs =
    costs
    ∙ objective-league E 1 walk.ground.plan.league.now tally.weights (table_counts tally.table) is.walks.ground.rules
    ∙ ap (λ (p : OldPlan). objective p.league.now (table_counts tally.table)) is.same

pub IsDown-at : {R : Type 0} (E : Ghosts R) (plan other : OldPlan) (first start : Counts) (walk : Walk)
    (tally : Tallied R) → other ≡ plan → first ≡ start → IsDown E other first walk tally
    → IsDown E plan start walk tally
IsDown-at {R} E plan other first start walk tally same counts is =
    subst (λ (m : Counts). IsDown E plan m walk tally) counts
    (subst (λ (p : OldPlan). IsDown E p first walk tally) same is)

pub IsEnd-of : {R : Type 0} (E : Ghosts R) (plan : OldPlan) (may_stop : Type 0) (start : Counts) (walk : Walk)
    (tally : Tallied R) (schedule : List Game) (cost : ℕ) (settled : Bool) → IsDown E plan start walk tally
    → counts_of schedule ≡ table_counts tally.table → All (IsGame plan.league.now.n) schedule → IsInOrder schedule
    → cost ≡ objective plan.league.now (table_counts tally.table)
    → (settled ≡ true → IsNearest plan.league.now plan.k plan.games.now (table_counts tally.table))
    → (settled ≡ false
    → may_stop ⊎ (IsNearest plan.league.now plan.k plan.games.now (table_counts tally.table) → ⊥))
    → IsEnd plan.league.now plan.k plan.games.now may_stop start
    (record { schedule = schedule; objective = cost; settled = settled })
IsEnd-of {R} E plan may_stop start walk tally schedule cost settled is counts fit order costs none some =
    let back : table_counts tally.table ≡ counts_of schedule = sym counts in
    record {
      accepted = subst (λ (m : Counts). IsAccepted plan.league.now m) back is.accepted;
      keeps = subst (λ (m : Counts). Keeps start plan.k m) back is.keeps;
      fit = fit;
      in_order = order;
      cost = subst (λ (m : Counts). cost ≡ objective plan.league.now m) back costs;
      no_farther = subst
          (λ (m : Counts). IsAtMost (changed_on plan.k plan.games.now m) cost
          (changed_on plan.k plan.games.now start) (objective plan.league.now start))
          back
          (subst
          (λ (price : ℕ). IsAtMost (changed_on plan.k plan.games.now (table_counts tally.table)) price
          (changed_on plan.k plan.games.now start) (objective plan.league.now start))
          (sym costs) is.no_farther);
      settled = subst
          (λ (m : Counts). settled ≡ true → IsNearest plan.league.now plan.k plan.games.now m) back none;
      open_yet = subst
          (λ (m : Counts). settled ≡ false → may_stop ⊎ (IsNearest plan.league.now plan.k plan.games.now m → ⊥))
          back some;
    }

-- the same of the season of a tally's games, where memory doesn't run out
pub IsEnd-if : {R X : Type 0} (E : Ghosts R) (plan : OldPlan) (may_stop : Type 0) (start : Counts) (walk : Walk)
    (tally : Tallied R) (settled : Bool) (result : Result Nearest X) → IsDown E plan start walk tally
    → (settled ≡ true → IsNearest plan.league.now plan.k plan.games.now (table_counts tally.table))
    → (settled ≡ false
    → may_stop ⊎ (IsNearest plan.league.now plan.k plan.games.now (table_counts tally.table) → ⊥))
    → IfOk result (IsSeasonOn E tally settled)
    → IfOk result (IsEnd plan.league.now plan.k plan.games.now may_stop start)
IsEnd-if {R} {X} E plan may_stop start walk tally settled (Ok nearest) down none some is =
    IsEnd-of E plan may_stop start walk tally nearest.schedule nearest.objective nearest.settled down is.counts
    (subst (λ (n : ℕ). All (IsGame n) nearest.schedule) (down-teams E plan start walk tally down) is.fit) is.in_order
    (down-cost E plan start walk tally nearest.objective down is.cost) (λ said. none (sym is.said ∙ said))
    (λ said. some (sym is.said ∙ said))
IsEnd-if {R} {X} E plan may_stop start walk tally settled (Err error) down none some is = tt
