-- What a walk knows, one move further.
use Rattle.std.proofs.Common.{◌≡◌, ◌↔◌, ℕ, ◌+◌, ◌<◌, ◌≤◌, Bool, true, false, Option, Some, None, List, [], ◌∷◌, ◌++◌, length, get_or, inl, inr, refl, arith, ap, sym, subst, ◌∙◌}
use Rattle.std.specs.Prelude.{IsTrue, MatchOption}
use Rattle.std.specs.List.{All, AllWithin}
use Rattle.std.proofs.lemmas.Bool.{cases_lt}
use Rattle.std.proofs.lemmas.List.{get_or_default, length-append}
use Rattle.std.proofs.lemmas.List.Elements.{All-get_or}
use Rattle.league.specs.Counts.{Counts}
use Rattle.rule_core.specs.Table.{table_counts}
use Rattle.moves.specs.MoveList.{Moves}
use Rattle.moves.specs.Moves.{IsOfLeague, moved}
use Rattle.moves.specs.Neighbours.{all_moves}
use Rattle.moves.specs.Round.{Edits, round_counts}
use Rattle.moves.specs.declared.swap.Swap.{Swap}
use Rattle.rule_core.specs.declared.rule.Entries.{Ghosts}
use Rattle.descent.specs.Tallies.{Tallied}
use Rattle.descent.specs.declared.weighted.Weighted.{Weighted}
use Rattle.descent.specs.Score.{IsCostly, score_on}
use Rattle.descent.specs.Settled.{IsLowering, IsSettled}
use Rattle.descent.specs.Trail.{IsTrail}
use Rattle.descent.specs.Walks.{IsDown, IsFoundAt, IsFullEdit, IsWalkOn, KeepsGames, Knows}
use Rattle.descent.specs.declared.score.Score.{Score}
use Rattle.descent.specs.declared.walk.Walk.{Walk}
use Rattle.descent.proofs.MoveLemmas.{all_moves-of_league}
use Rattle.descent.proofs.ScoreLemmas.{lower-objective}
use Rattle.descent.proofs.TrailLemmas.{IsTrail-more}

-- ---- the same by equal numbers, scores and counts

pub lowering-at : (n k : ℕ) (phased said : Bool) (score other : Counts → Score) (m l : Counts) (step : Swap) → k ≡ n
    → said ≡ phased → other ≡ score → l ≡ m → IsLowering k said other l step → IsLowering n phased score m step
lowering-at n k phased said score other m l step same_n same_phased same_score same_counts is =
    subst (λ (c : Counts). IsLowering n phased score c step) same_counts
    (subst (λ (s : Counts → Score). IsLowering n phased s l step) same_score
    (subst (λ (b : Bool). IsLowering n b other l step) same_phased
    (subst (λ (j : ℕ). IsLowering j said other l step) same_n is)))

pub settled-at : (n k : ℕ) (phased said : Bool) (score other : Counts → Score) (m l : Counts) → k ≡ n
    → said ≡ phased → other ≡ score → l ≡ m → IsSettled k said other l → IsSettled n phased score m
settled-at n k phased said score other m l same_n same_phased same_score same_counts is step lowers =
    is step
    (lowering-at k n said phased other score l m step (sym same_n) (sym same_phased) (sym same_score) (sym same_counts)
    lowers)

-- ---- a round

-- what is said of a move on the board of a walk, by the numbers of a tally
pub lowers-on : {R : Type 0} (E : Ghosts R) (walk at : Walk) (tally now : Tallied R) (said : Bool) (step : Swap)
    → IsWalkOn tally.table.n (table_counts tally.table) walk → at ≡ record walk { edit = at.edit }
    → KeepsGames tally now
    → IsTrue said ↔ IsLowering at.board.n at.board.phased (score_on E now.weights) (round_counts at.board) step
    → IsTrue said
    ↔ IsLowering tally.table.n walk.board.phased (score_on E tally.weights) (table_counts tally.table) step
lowers-on {R} E walk at tally now said step is same keeps read =
    let teams : at.board.n ≡ tally.table.n = ap (λ (w : Walk). w.board.n) same ∙ is.teams in
    let phased : at.board.phased ≡ walk.board.phased = ap (λ (w : Walk). w.board.phased) same in
    let score : score_on E now.weights ≡ score_on E tally.weights =
    ap (λ (w : List (Weighted R)). score_on E w) keeps.weights in
    let counts : round_counts at.board ≡ table_counts tally.table =
    ap (λ (w : Walk). round_counts w.board) same ∙ is.counts in (
      λ yes. lowering-at tally.table.n at.board.n walk.board.phased at.board.phased (score_on E tally.weights)
          (score_on E now.weights) (table_counts tally.table) (round_counts at.board) step teams phased score counts
          (read.0 yes),
      λ lowers. read.1
          (lowering-at at.board.n tally.table.n at.board.phased walk.board.phased (score_on E now.weights)
          (score_on E tally.weights) (round_counts at.board) (table_counts tally.table) step (sym teams) (sym phased)
          (sym score) (sym counts) lowers),
    )

pub full-on : {R : Type 0} (walk at : Walk) (tally : Tallied R) (step : Swap) (edit : Edits)
    → IsWalkOn tally.table.n (table_counts tally.table) walk → at ≡ record walk { edit = at.edit }
    → IsFullEdit at.board.n (round_counts at.board) step edit
    → IsFullEdit tally.table.n (table_counts tally.table) step edit
full-on {R} walk at tally step edit is same full =
    subst (λ (m : Counts). IsFullEdit tally.table.n m step edit)
    (ap (λ (w : Walk). round_counts w.board) same ∙ is.counts)
    (subst (λ (k : ℕ). IsFullEdit k (round_counts at.board) step edit)
    (ap (λ (w : Walk). w.board.n) same ∙ is.teams) full)

-- the moves of a walk are moves of its league
pub move-of_league : (n : ℕ) (m : Counts) (walk : Walk) (place : ℕ) (d : Swap) → IsWalkOn n m walk
    → place < length walk.moves.items → IsOfLeague n (get_or walk.moves.items place d)
move-of_league n m walk place d is within =
    All-get_or (IsOfLeague n) walk.moves.items place d within
    (subst (λ (moves : List Swap). All (IsOfLeague n) moves) (sym is.listed) (all_moves-of_league n))

-- the move at a place that lowers the score
pub found-at : (n : ℕ) (phased : Bool) (score : Counts → Score) (m : Counts) (moves : List Swap) (edit : Edits)
    (place : ℕ) (step : Swap) → place < length moves → step ≡ get_or moves place step
    → IsLowering n phased score m step → IsFullEdit n m step edit → IsFoundAt n phased score m moves edit place
found-at n phased score m moves edit place step within at lowers full =
    let here : (d : Swap) → step ≡ get_or moves place d = λ d. at ∙ get_or_default moves place step d within in
    record {
      within = within;
      lowering = λ d. subst (λ (s : Swap). IsLowering n phased score m s) (here d) lowers;
      full = λ d. subst (λ (s : Swap). IsFullEdit n m s edit) (here d) full;
    }

-- one more of the moves isn't such a one
pub none-more : (P : Swap → Type 0) (moves : List Swap) (start place : ℕ) (e : Swap) → place < length moves
    → AllWithin P moves start place → P (get_or moves place e) → AllWithin P moves start (place + 1)
none-more P moves start place e within before here k d from below =
    elim (cases_lt k place) as (λ _. P (get_or moves k d)) [
      | inl earlier ↦ before k d from earlier
      | inr later ↦
          let at : k ≡ place = omega (arith, later, below) in
          subst P (sym (ap (λ (j : ℕ). get_or moves j d) at ∙ get_or_default moves place d e within)) here
    ]

-- two parts of a round that meet
pub round-none : (P : Swap → Type 0) (moves : List Swap) (next : ℕ) → AllWithin P moves 0 next
    → AllWithin P moves next (length moves) → All P moves
round-none P moves next first second k d below =
    elim (cases_lt k next) as (λ _. P (get_or moves k d)) [
      | inl earlier ↦ first k d (omega arith) earlier
      | inr later ↦ second k d later below
    ]

-- the games stay twice
pub keeps-both : {R : Type 0} (first mid last : Tallied R) → KeepsGames first mid → KeepsGames mid last
    → KeepsGames first last
keeps-both {R} first mid last before after = record {
  weights = after.weights ∙ before.weights;
  teams = after.teams ∙ before.teams;
  counts = after.counts ∙ before.counts;
}

-- the move that a round found
pub found-lowers : (n : ℕ) (phased : Bool) (score : Counts → Score) (m : Counts) (walk tried : Walk) (place : ℕ)
    (step : Swap) → tried ≡ record walk { edit = tried.edit }
    → IsFoundAt n phased score m walk.moves.items tried.edit place
    → ((d : Swap) → step ≡ get_or tried.moves.items place d) → IsLowering n phased score m step
found-lowers n phased score m walk tried place step same found at =
    subst (λ (s : Swap). IsLowering n phased score m s)
    (sym (at step ∙ ap (λ (w : Walk). get_or w.moves.items place step) same)) (found.lowering step)

pub found-edit : (n : ℕ) (phased : Bool) (score : Counts → Score) (m : Counts) (walk tried taken : Walk) (place : ℕ)
    (step : Swap) → tried ≡ record walk { edit = tried.edit }
    → IsFoundAt n phased score m walk.moves.items tried.edit place
    → ((d : Swap) → step ≡ get_or tried.moves.items place d) → taken ≡ record tried { next = place + 1 }
    → IsFullEdit n m step taken.edit
found-edit n phased score m walk tried taken place step same found at is_taken =
    subst (λ (e : Edits). IsFullEdit n m step e) (sym (ap (λ (w : Walk). w.edit) is_taken))
    (subst (λ (s : Swap). IsFullEdit n m s tried.edit)
    (sym (at step ∙ ap (λ (w : Walk). get_or w.moves.items place step) same)) (found.full step))

-- what is found is of equal rules and counts
pub lowers-at : {R : Type 0} (E : Ghosts R) (tally kept : Tallied R) (phased said : Bool) (step : Swap)
    → KeepsGames tally kept → said ≡ phased
    → IsLowering kept.table.n said (score_on E kept.weights) (table_counts kept.table) step
    → IsLowering tally.table.n phased (score_on E tally.weights) (table_counts tally.table) step
lowers-at {R} E tally kept phased said step keeps same lowers =
    lowering-at tally.table.n kept.table.n phased said (score_on E tally.weights) (score_on E kept.weights)
    (table_counts tally.table) (table_counts kept.table) step keeps.teams same
    (ap (λ (w : List (Weighted R)). score_on E w) keeps.weights) keeps.counts lowers

pub full-at : {R : Type 0} (tally kept : Tallied R) (step : Swap) (edit : Edits) → KeepsGames tally kept
    → IsFullEdit kept.table.n (table_counts kept.table) step edit
    → IsFullEdit tally.table.n (table_counts tally.table) step edit
full-at {R} tally kept step edit keeps full =
    subst (λ (m : Counts). IsFullEdit tally.table.n m step edit) keeps.counts
    (subst (λ (k : ℕ). IsFullEdit k (table_counts kept.table) step edit) keeps.teams full)

-- where a whole round found none
pub none-round : {R : Type 0} (E : Ghosts R) (walk tried : Walk) (tally kept : Tallied R) (end : ℕ)
    → IsWalkOn tally.table.n (table_counts tally.table) walk → KeepsGames tally kept
    → tried ≡ record walk { edit = tried.edit } → end ≡ length walk.moves.items
    → AllWithin
    (λ step. IsLowering tally.table.n walk.board.phased (score_on E tally.weights) (table_counts tally.table) step → ⊥)
    walk.moves.items walk.next end
    → AllWithin
    (λ step. IsLowering kept.table.n tried.board.phased (score_on E kept.weights) (table_counts kept.table) step → ⊥)
    tried.moves.items 0 walk.next
    → All
    (λ step. IsLowering tally.table.n walk.board.phased (score_on E tally.weights) (table_counts tally.table) step → ⊥)
    walk.moves.items
none-round {R} E walk tried tally kept end is keeps same is_end first second =
    let n : ℕ = tally.table.n in
    let phased : Bool = walk.board.phased in
    let score : Counts → Score = score_on E tally.weights in
    let m : Counts = table_counts tally.table in
    let None_of : Swap → Type 0 = λ step. IsLowering n phased score m step → ⊥ in
    round-none None_of walk.moves.items walk.next
    (λ k d from below.
    let there : get_or tried.moves.items k d ≡ get_or walk.moves.items k d =
    ap (λ (w : Walk). get_or w.moves.items k d) same in
    λ lowers. second k d from below
    (lowering-at kept.table.n n tried.board.phased phased (score_on E kept.weights) score (table_counts kept.table) m
    (get_or tried.moves.items k d) (sym keeps.teams) (sym (ap (λ (w : Walk). w.board.phased) same))
    (sym (ap (λ (w : List (Weighted R)). score_on E w) keeps.weights)) (sym keeps.counts)
    (subst (λ (s : Swap). IsLowering n phased score m s) (sym there) lowers)))
    (subst (λ (last : ℕ). AllWithin None_of walk.moves.items walk.next last) is_end first)

-- what is found in the first part of a round, where its second part has none
pub found-round : {R : Type 0} (E : Ghosts R) (walk tried : Walk) (tally kept : Tallied R) (end : ℕ) (edit : Edits)
    (found : Option ℕ)
    → IsWalkOn tally.table.n (table_counts tally.table) walk → KeepsGames tally kept
    → tried ≡ record walk { edit = tried.edit } → end ≡ length walk.moves.items
    → AllWithin
    (λ step. IsLowering tally.table.n walk.board.phased (score_on E tally.weights) (table_counts tally.table) step → ⊥)
    walk.moves.items walk.next end
    → MatchOption found
    (AllWithin
    (λ step. IsLowering kept.table.n tried.board.phased (score_on E kept.weights) (table_counts kept.table) step → ⊥)
    tried.moves.items 0 walk.next)
    (IsFoundAt kept.table.n tried.board.phased (score_on E kept.weights) (table_counts kept.table) tried.moves.items edit)
    → MatchOption found
    (All
    (λ step. IsLowering tally.table.n walk.board.phased (score_on E tally.weights) (table_counts tally.table) step → ⊥)
    walk.moves.items)
    (IsFoundAt tally.table.n walk.board.phased (score_on E tally.weights) (table_counts tally.table) walk.moves.items
    edit)
found-round {R} E walk tried tally kept end edit None is keeps same is_end first second =
    none-round E walk tried tally kept end is keeps same is_end first second
found-round {R} E walk tried tally kept end edit (Some place) is keeps same is_end first at =
    let moves : tried.moves.items ≡ walk.moves.items = ap (λ (w : Walk). w.moves.items) same in
    record {
      within = subst (λ (l : List Swap). place < length l) moves at.within;
      lowering = λ d. lowers-at E tally kept walk.board.phased tried.board.phased (get_or walk.moves.items place d) keeps
          (ap (λ (w : Walk). w.board.phased) same)
          (subst (λ (l : List Swap). IsLowering kept.table.n tried.board.phased (score_on E kept.weights)
          (table_counts kept.table) (get_or l place d)) moves (at.lowering d));
      full = λ d. full-at tally kept (get_or walk.moves.items place d) edit keeps
          (subst (λ (l : List Swap). IsFullEdit kept.table.n (table_counts kept.table) (get_or l place d) edit) moves
          (at.full d));
    }

-- no move lowers the least score of all
pub least-settled : (n : ℕ) (phased : Bool) (score : Counts → Score) (m : Counts) → (score m).infeasibility ≡ 0
    → (score m).objective ≡ 0 → IsSettled n phased score m
least-settled n phased score m feasible free step lowers =
    omega (arith, lower-objective (score (moved n m step)) (score m) feasible lowers.lower, free)

-- ---- the walk after a round

pub IsWalkOn-tried : (n : ℕ) (m : Counts) (walk : Walk) (edit : Edits) (next : ℕ) → IsWalkOn n m walk
    → edit.n ≡ walk.edit.n → next ≤ length walk.moves.items
    → IsWalkOn n m (record { moves = walk.moves; next = next; board = walk.board; edit = edit; trail = walk.trail })
IsWalkOn-tried n m walk edit next is same_n within = record {
  teams = is.teams;
  counts = is.counts;
  edit_for = same_n ∙ is.edit_for;
  listed = is.listed;
  next_within = within;
}

pub IsWalkOn-room : (n k : ℕ) (m l : Counts) (walk : Walk) (trail : Moves) → IsWalkOn n m walk → n ≡ k → m ≡ l
    → IsWalkOn k l (record { moves = walk.moves; next = walk.next; board = walk.board; edit = walk.edit; trail = trail })
IsWalkOn-room n k m l walk trail is same_n same = record {
  teams = is.teams ∙ same_n;
  counts = is.counts ∙ same;
  edit_for = is.edit_for ∙ same_n;
  listed = is.listed ∙ ap (λ (j : ℕ). all_moves j) same_n;
  next_within = is.next_within;
}

-- ---- all moves made so far

pub IsDown-none : {R : Type 0} (E : Ghosts R) (walk : Walk) (tally : Tallied R)
    → IsWalkOn tally.table.n (table_counts tally.table) walk → walk.trail.list ≡ []
    → IsDown E tally.table.n walk.board.phased tally.weights (table_counts tally.table) walk tally 0
IsDown-none {R} E walk tally is none = record {
  weights = refl;
  teams = refl;
  walks = is;
  phased = refl;
  trail = subst (λ (trail : List Swap). IsTrail tally.table.n walk.board.phased (score_on E tally.weights)
      (table_counts tally.table) trail (table_counts tally.table)) (sym none) refl;
  many = ap (λ (trail : List Swap). length trail) none;
}

-- what a round leaves
pub IsDown-kept : {R : Type 0} (E : Ghosts R) (n : ℕ) (phased : Bool) (rules : List (Weighted R)) (first : Counts)
    (walk tried : Walk) (tally kept : Tallied R) (made : ℕ) → IsDown E n phased rules first walk tally made
    → KeepsGames tally kept → IsWalkOn tally.table.n (table_counts tally.table) tried
    → tried.board.phased ≡ walk.board.phased → tried.trail ≡ walk.trail
    → IsDown E n phased rules first tried kept made
IsDown-kept {R} E n phased rules first walk tried tally kept made is keeps on same_phased same_trail =
    let list : tried.trail.list ≡ walk.trail.list = ap (λ (moves : Moves). moves.list) same_trail in
    record {
      weights = keeps.weights ∙ is.weights;
      teams = keeps.teams ∙ is.teams;
      walks = subst (λ (k : ℕ). IsWalkOn k (table_counts kept.table) tried) is.teams
          (subst (λ (m : Counts). IsWalkOn tally.table.n m tried) (sym keeps.counts) on);
      phased = same_phased ∙ is.phased;
      trail = subst (λ (moves : List Swap). IsTrail n phased (score_on E rules) first moves (table_counts kept.table))
          (sym list)
          (subst (λ (m : Counts). IsTrail n phased (score_on E rules) first walk.trail.list m) (sym keeps.counts)
          is.trail);
      many = ap (λ (moves : List Swap). length moves) list ∙ is.many;
    }

-- one move more
pub IsDown-more : {R : Type 0} (E : Ghosts R) (n : ℕ) (phased : Bool) (rules : List (Weighted R)) (first : Counts)
    (walk moved_on : Walk) (tally after : Tallied R) (room : Moves) (step : Swap) (made : ℕ)
    → IsDown E n phased rules first walk tally made → room.list ≡ walk.trail.list
    → IsLowering n phased (score_on E rules) (table_counts tally.table) step → after.weights ≡ tally.weights
    → after.table.n ≡ tally.table.n
    → table_counts after.table ≡ moved tally.table.n (table_counts tally.table) step
    → IsWalkOn tally.table.n (table_counts after.table) moved_on → moved_on.board.phased ≡ walk.board.phased
    → moved_on.trail.list ≡ room.list ++ step ∷ []
    → IsDown E n phased rules first moved_on after (made + 1)
IsDown-more {R} E n phased rules first walk moved_on tally after room step made is same_list lowers weights teams counts on same_phased longer =
    let list : moved_on.trail.list ≡ walk.trail.list ++ step ∷ [] =
    longer ∙ ap (λ (moves : List Swap). moves ++ step ∷ []) same_list in
    record {
      weights = weights ∙ is.weights;
      teams = teams ∙ is.teams;
      walks = subst (λ (k : ℕ). IsWalkOn k (table_counts after.table) moved_on) is.teams on;
      phased = same_phased ∙ is.phased;
      trail = subst (λ (moves : List Swap). IsTrail n phased (score_on E rules) first moves (table_counts after.table))
          (sym list)
          (IsTrail-more n phased (score_on E rules) first (table_counts tally.table) (table_counts after.table)
          walk.trail.list step is.trail lowers
          (counts ∙ ap (λ (k : ℕ). moved k (table_counts tally.table) step) is.teams));
      many = omega (arith, ap (λ (moves : List Swap). length moves) list, length-append walk.trail.list (step ∷ []), is.many);
    }

-- what a round says of moves made so far
pub lowering-down : {R : Type 0} (E : Ghosts R) (n : ℕ) (phased : Bool) (rules : List (Weighted R)) (first : Counts)
    (walk : Walk) (tally kept : Tallied R) (made : ℕ) (step : Swap) → IsDown E n phased rules first walk tally made
    → KeepsGames tally kept
    → IsLowering tally.table.n walk.board.phased (score_on E tally.weights) (table_counts tally.table) step
    → IsLowering n phased (score_on E rules) (table_counts kept.table) step
lowering-down {R} E n phased rules first walk tally kept made step is keeps lowers =
    lowering-at n tally.table.n phased walk.board.phased (score_on E rules) (score_on E tally.weights)
    (table_counts kept.table) (table_counts tally.table) step is.teams is.phased
    (ap (λ (w : List (Weighted R)). score_on E w) is.weights) (sym keeps.counts) lowers

pub settled-down : {R : Type 0} (E : Ghosts R) (n : ℕ) (phased : Bool) (rules : List (Weighted R)) (first : Counts)
    (walk : Walk) (tally kept : Tallied R) (made : ℕ) → IsDown E n phased rules first walk tally made
    → KeepsGames tally kept
    → IsSettled tally.table.n walk.board.phased (score_on E tally.weights) (table_counts tally.table)
    → IsSettled n phased (score_on E rules) (table_counts kept.table)
settled-down {R} E n phased rules first walk tally kept made is keeps settled =
    settled-at n tally.table.n phased walk.board.phased (score_on E rules) (score_on E tally.weights)
    (table_counts kept.table) (table_counts tally.table) is.teams is.phased
    (ap (λ (w : List (Weighted R)). score_on E w) is.weights) (sym keeps.counts) settled

pub found_none : (b : Bool) → b ≡ false → b ≡ true → ⊥
found_none b first second = cc

-- what is known where the last round found a move, and where the watch ended it
pub Knows-found : (n : ℕ) (phased : Bool) (score : Counts → Score) (m : Counts) (may_stop : Type 0) (step : Swap)
    → IsLowering n phased score m step → Knows n phased score m may_stop false
Knows-found n phased score m may_stop step lowers = record {
  settled = λ said. absurd (let no : false ≡ true = said in cc);
  costly = λ said feasible. omega (arith, lower-objective (score (moved n m step)) (score m) feasible lowers.lower);
  lowers = λ said. inr (λ settled. settled step lowers);
}

pub Knows-ended : (n : ℕ) (phased : Bool) (score : Counts → Score) (m : Counts) (may_stop : Type 0) → may_stop
    → IsCostly (score m) → Knows n phased score m may_stop false
Knows-ended n phased score m may_stop stops costs = record {
  settled = λ said. absurd (let no : false ≡ true = said in cc);
  costly = λ said. costs;
  lowers = λ said. inl stops;
}

pub Knows-settled : (n : ℕ) (phased : Bool) (score : Counts → Score) (m : Counts) (may_stop : Type 0)
    → IsSettled n phased score m → Knows n phased score m may_stop true
Knows-settled n phased score m may_stop settled = record {
  settled = λ said. settled;
  costly = λ said. absurd (let no : true ≡ false = said in cc);
  lowers = λ said. absurd (let no : true ≡ false = said in cc);
}

-- what a match says
pub found-nothing : {T : Type 0} (A : Type 0) (B : T → Type 0) (found : Option T) → found ≡ None → MatchOption found A B → A
found-nothing {T} A B None is a = a
found-nothing {T} A B (Some it) is b = absurd (let no : Some it ≡ None = is in cc)

pub found-some : {T : Type 0} (A : Type 0) (B : T → Type 0) (found : Option T) (it : T) → found ≡ Some it
    → MatchOption found A B → B it
found-some {T} A B None it is a = absurd (let no : None ≡ Some it = is in cc)
found-some {T} A B (Some other) it is b = subst B (let same : Some other ≡ Some it = is in cc) b

pub costly-down : {R : Type 0} (E : Ghosts R) (n : ℕ) (phased : Bool) (rules : List (Weighted R)) (first : Counts)
    (walk : Walk) (tally kept : Tallied R) (made : ℕ) → IsDown E n phased rules first walk tally made
    → KeepsGames tally kept → IsCostly (score_on E tally.weights (table_counts tally.table))
    → IsCostly (score_on E rules (table_counts kept.table))
costly-down {R} E n phased rules first walk tally kept made is keeps costs =
    subst (λ (m : Counts). IsCostly (score_on E rules m)) (sym keeps.counts)
    (subst (λ (w : List (Weighted R)). IsCostly (score_on E w (table_counts tally.table))) is.weights costs)
