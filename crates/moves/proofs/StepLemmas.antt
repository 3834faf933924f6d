-- One step more of a walk, and what it has marked when it comes back.
use Rattle.std.proofs.Common.{◌≡◌, ◌≢◌, ℕ, suc, ◌<◌, ◌≤◌, Bool, true, false, ◌||◌, ◌==◌, ◌⊎◌, inl, inr, List, [], length, replicate, set, get_or, refl, arith, add-one, ap, subst, sym, ◌∙◌}
use Rattle.std.proofs.lemmas.Bool.{both_ways, cases_eq, eqb-true, eq-eqb, or_cases, or_left, or_right}
use Rattle.std.proofs.lemmas.List.{get_or-set_other, length-set}
use Rattle.std.proofs.lemmas.List.Sums.{sum_by-set}
use Rattle.league.proofs.RangeLemmas.{one_if, one_if-le}
use Rattle.league.specs.Counts.{Counts, slot_count}
use Rattle.league.specs.Sets.{is_in}
use Rattle.moves.specs.Closure.{reached}
use Rattle.moves.specs.Moves.{do_meet, follows, slots_linked, teams_linked}
use Rattle.moves.specs.Walks.{IsOnWay, IsSlotWalk, IsTeamWalk, is_marked, marked_count}
use Rattle.moves.proofs.WalkLemmas.{any_cons, count-mark, count-none, marked-le, marked-none, marked-set, marked-stays, marks_are, not_marked, reached-keep, reached-next}

-- a step of a walk, with one mark more
way_more : (next : ℕ → ℕ → Bool) (k x : ℕ) (marks : List Bool) (at to : ℕ) → IsOnWay next k x marks at → k ≤ length marks → is_marked marks at ≡ false → next at to ≡ true → to < k → IsOnWay next k x (set marks at true) to
way_more next k x marks at to way long unmarked leads lt =
    let within : at < length marks = omega (arith, way.below) in
    let one : marked_count (set marks at true) ≡ suc (marked_count marks) = count-mark marks at within unmarked ∙ add-one (marked_count marks) in
    let P : ℕ → ℕ → Type 0 = λ a c. is_in a (reached next k x c) ≡ true in
    record {
      below = lt;
      marked = λ a marked. elim (marked-set marks at a marked) as (λ _. a < k) [ inl before ↦ way.marked a before | inr same ↦ omega (arith, way.below, same) ];
      reaches = subst (P to) (sym one) (reached-next next k x (marked_count marks) at to way.reaches leads lt);
      reached_all = λ a marked. subst (P a) (sym one) (elim (marked-set marks at a marked) as (λ _. P a (suc (marked_count marks))) [
        | inl before ↦ reached-keep next k x (marked_count marks) a (way.reached_all a before) (way.marked a before)
        | inr same ↦ subst (λ (a : ℕ). P a (suc (marked_count marks))) (sym same) (reached-keep next k x (marked_count marks) at way.reaches way.below)
      ]);
    }

turned_sum : (x at : ℕ) (P : Type 0) → P ⊎ (at ≡ x) → P ⊎ (x ≡ at)
turned_sum x at P (inl p) = inl p
turned_sum x at P (inr e) = inr (sym e)

way_none : (next : ℕ → ℕ → Bool) (k x long : ℕ) → x < k → IsOnWay next k x (replicate long false) x
way_none next k x long lt =
    let none : marked_count (replicate long false) ≡ 0 = count-none long in
    let P : ℕ → Type 0 = λ c. is_in x (reached next k x c) ≡ true in
    record {
      below = lt;
      marked = λ a marked. absurd (marked-none long a marked);
      reaches = subst P (sym none) (any_cons (λ z. z == x) x [] ∙ or_left (x == x) (is_in x []) (eq-eqb x x refl));
      reached_all = λ a marked. absurd (marked-none long a marked);
    }

pub IsSlotWalk-more : (n : ℕ) (m : Counts) (i j x : ℕ) (marks : List Bool) (at to : ℕ) → IsSlotWalk n m i j x marks at
    → slot_count n ≤ length marks → is_marked marks at ≡ false → to < slot_count n → do_meet m i j to ≡ false
    → ((q : ℕ) → follows n m i j at q ≡ (q == to)) → IsSlotWalk n m i j x (set marks at true) to
IsSlotWalk-more n m i j x marks at to walk long unmarked lt apart leads =
    let within : at < length marks = omega (arith, walk.way.below) in
    record {
      way = way_more (follows n m i j) (slot_count n) x marks at to walk.way long unmarked (leads to ∙ eq-eqb to to refl) lt;
      closed = λ a b lt_b marked follows_b. elim (marked-set marks at a marked) as (λ _. (is_marked (set marks at true) b ≡ true) ⊎ (b ≡ to)) [
        | inl before ↦ inl (marked-stays marks at b within (walk.closed a b lt_b before follows_b))
        | inr same ↦ inr (eqb-true b to (sym (leads b) ∙ subst (λ (a : ℕ). follows n m i j a b ≡ true) same follows_b))
      ];
      started = inl (marked-stays marks at x within (turned_sum x at (is_marked marks x ≡ true) walk.started));
      apart = λ r marked. elim (marked-set marks at r marked) as (λ _. do_meet m i j r ≡ false) [
        | inl before ↦ walk.apart r before
        | inr same ↦ ap (λ (r : ℕ). do_meet m i j r) same ∙ walk.here
      ];
      here = apart;
    }

pub slot_walk_closed : (n : ℕ) (m : Counts) (i j x : ℕ) (marks : List Bool) (at : ℕ) → IsSlotWalk n m i j x marks at → is_marked marks at ≡ true → (a b : ℕ) → b < slot_count n → is_marked marks a ≡ true → follows n m i j a b ≡ true → is_marked marks b ≡ true
slot_walk_closed n m i j x marks at walk marked a b lt is follows_b = elim (walk.closed a b lt is follows_b) as (λ _. is_marked marks b ≡ true) [
  | inl yes_b ↦ yes_b
  | inr same ↦ subst (λ (b : ℕ). is_marked marks b ≡ true) (sym same) marked
]

-- where a walk of slots comes to a marked slot, the marks are the least set
pub slot_walk_end : (n : ℕ) (m : Counts) (i j x : ℕ) (marks : List Bool) (at : ℕ) → IsSlotWalk n m i j x marks at → is_marked marks at ≡ true → x < slot_count n → (r : ℕ) → is_marked marks r ≡ is_in r (slots_linked n m i j x)
slot_walk_end n m i j x marks at walk marked lt =
    marks_are (follows n m i j) (slot_count n) x (marked_count marks) (is_marked marks) lt (marked-le marks (slot_count n) walk.way.marked)
    (elim walk.started as (λ _. is_marked marks x ≡ true) [ inl is ↦ is | inr same ↦ subst (λ (a : ℕ). is_marked marks a ≡ true) same marked ])
    walk.way.marked walk.way.reached_all (slot_walk_closed n m i j x marks at walk marked)

pub IsSlotWalk-none : (n : ℕ) (m : Counts) (i j x k : ℕ) → x < slot_count n → do_meet m i j x ≡ false → IsSlotWalk n m i j x (replicate k false) x
IsSlotWalk-none n m i j x k lt apart = record {
  way = way_none (follows n m i j) (slot_count n) x k lt;
  closed = λ a b _ marked _. absurd (marked-none k a marked);
  started = inr refl;
  apart = λ r marked. absurd (marked-none k r marked);
  here = apart;
}

pub IsTeamWalk-none : (n : ℕ) (m : Counts) (x s t k : ℕ) → x < n → IsTeamWalk n m x s t (replicate k false) x
IsTeamWalk-none n m x s t k lt = record {
  way = way_none (λ a b. do_meet m a b s || do_meet m a b t) n x k lt;
  in_s = λ a b marked _. absurd (marked-none k a marked);
  in_t = λ a b marked _ _. absurd (marked-none k a marked);
  ends = λ marked. refl;
  came = inl (not_marked (is_marked (replicate k false) x) (marked-none k x), refl);
  started = inr refl;
}

-- a step of a walk of teams: from where it stands to the opponent in s, and on to that team's opponent in t
pub record IsTeamStep (n : ℕ) (m : Counts) (s t at met to : ℕ) : Type 0 where
  pub below_met : met < n
  pub below_to : to < n
  pub differ_met : met ≢ at
  pub differ_to : to ≢ met
  pub at_s : (b : ℕ) → do_meet m at b s ≡ (b == met)
  pub met_s : (b : ℕ) → do_meet m met b s ≡ (b == at)
  pub met_t : (b : ℕ) → do_meet m met b t ≡ (b == to)
  pub to_t : (b : ℕ) → do_meet m to b t ≡ (b == met)

-- the opponent of where the walk stands isn't marked yet
met_unmarked : (n : ℕ) (m : Counts) (x s t : ℕ) (marks : List Bool) (at met to : ℕ) → IsTeamWalk n m x s t marks at → IsTeamStep n m s t at met to → is_marked marks at ≡ false → is_marked marks met ≡ true → ⊥
met_unmarked n m x s t marks at met to walk step unmarked marked =
    both_ways (is_marked marks at) unmarked (walk.in_s met at marked (step.met_s at ∙ eq-eqb at at refl))

two_marks : (marks : List Bool) (p q a : ℕ) → is_marked (set (set marks p true) q true) a ≡ true → (is_marked marks a ≡ true) ⊎ ((a ≡ p) ⊎ (a ≡ q))
two_marks marks p q a marked = elim (marked-set (set marks p true) q a marked) as (λ _. (is_marked marks a ≡ true) ⊎ ((a ≡ p) ⊎ (a ≡ q))) [
  | inl first ↦ elim (marked-set marks p a first) as (λ _. (is_marked marks a ≡ true) ⊎ ((a ≡ p) ⊎ (a ≡ q))) [ inl before ↦ inl before | inr same ↦ inr (inl same) ]
  | inr same ↦ inr (inr same)
]

keep_marks : (marks : List Bool) (p q a : ℕ) → p < length marks → q < length marks → (is_marked marks a ≡ true) ⊎ ((a ≡ p) ⊎ (a ≡ q)) → is_marked (set (set marks p true) q true) a ≡ true
keep_marks marks p q a lt_p lt_q which =
    let longer : q < length (set marks p true) = omega (arith, length-set marks p true) in
    marked-stays (set marks p true) q a longer (elim which as (λ _. (is_marked (set marks p true) a ≡ true) ⊎ (a ≡ q)) [
      | inl before ↦ inl (marked-stays marks p a lt_p (inl before))
      | inr new ↦ elim new as (λ _. (is_marked (set marks p true) a ≡ true) ⊎ (a ≡ q)) [
        | inl is_p ↦ inl (marked-stays marks p a lt_p (inr is_p))
        | inr is_q ↦ inr is_q
      ]
    ])

team_ends : (n : ℕ) (m : Counts) (x s t : ℕ) (marks : List Bool) (at met to : ℕ) → IsTeamWalk n m x s t marks at → IsTeamStep n m s t at met to → is_marked marks at ≡ false → is_marked (set (set marks at true) met true) to ≡ true → to ≡ x
team_ends n m x s t marks at met to walk step unmarked marked =
    let meets : do_meet m to met t ≡ true = step.to_t met ∙ eq-eqb met met refl in
    elim (two_marks marks at met to marked) as (λ _. to ≡ x) [
      | inl before ↦ elim (cases_eq to x) as (λ _. to ≡ x) [
        | inl same ↦ same
        | inr other ↦ elim (walk.in_t to met before meets other) as (λ _. to ≡ x) [
          | inl is ↦ absurd (met_unmarked n m x s t marks at met to walk step unmarked is)
          | inr is ↦ absurd (step.differ_met is)
        ]
      ]
      | inr new ↦ elim new as (λ _. to ≡ x) [
        | inl to_at ↦ elim walk.came as (λ _. to ≡ x) [
          | inl first ↦ to_at ∙ first.1
          | inr from ↦ absurd (met_unmarked n m x s t marks at met to walk step unmarked (from met (subst (λ (a : ℕ). do_meet m a met t ≡ true) to_at meets)))
        ]
        | inr to_met ↦ absurd (step.differ_to to_met)
      ]
    ]

team_way : (n : ℕ) (m : Counts) (x s t : ℕ) (marks : List Bool) (at met to : ℕ) → IsTeamWalk n m x s t marks at → IsTeamStep n m s t at met to → n ≤ length marks → is_marked marks at ≡ false → IsOnWay (λ a b. do_meet m a b s || do_meet m a b t) n x (set (set marks at true) met true) to
team_way n m x s t marks at met to walk step long unmarked =
    let next : ℕ → ℕ → Bool = λ a b. do_meet m a b s || do_meet m a b t in
    let first : next at met ≡ true = or_left (do_meet m at met s) (do_meet m at met t) (step.at_s met ∙ eq-eqb met met refl) in
    let second : next met to ≡ true = or_right (do_meet m met to s) (do_meet m met to t) (step.met_t to ∙ eq-eqb to to refl) in
    let fresh : is_marked (set marks at true) met ≡ false =
    get_or-set_other marks at met true false step.differ_met ∙ not_marked (is_marked marks met) (met_unmarked n m x s t marks at met to walk step unmarked) in
    let halfway : IsOnWay next n x (set marks at true) met = way_more next n x marks at met walk.way long unmarked first step.below_met in
    way_more next n x (set marks at true) met to halfway (omega (arith, length-set marks at true)) fresh second step.below_to

pub IsTeamWalk-more : (n : ℕ) (m : Counts) (x s t : ℕ) (marks : List Bool) (at met to : ℕ) → IsTeamWalk n m x s t marks at → IsTeamStep n m s t at met to → n ≤ length marks → is_marked marks at ≡ false → IsTeamWalk n m x s t (set (set marks at true) met true) to
IsTeamWalk-more n m x s t marks at met to walk step long unmarked =
    let lt_at : at < length marks = omega (arith, walk.way.below) in
    let lt_met : met < length marks = omega (arith, step.below_met) in
    let later : List Bool = set (set marks at true) met true in
    let stays : (a : ℕ) → (is_marked marks a ≡ true) ⊎ ((a ≡ at) ⊎ (a ≡ met)) → is_marked later a ≡ true = λ a which. keep_marks marks at met a lt_at lt_met which in
    record {
      way = team_way n m x s t marks at met to walk step long unmarked;
      in_s = λ a b marked meets. stays b (elim (two_marks marks at met a marked) as (λ _. (is_marked marks b ≡ true) ⊎ ((b ≡ at) ⊎ (b ≡ met))) [
        | inl before ↦ inl (walk.in_s a b before meets)
        | inr new ↦ elim new as (λ _. (is_marked marks b ≡ true) ⊎ ((b ≡ at) ⊎ (b ≡ met))) [
          | inl a_at ↦ inr (inr (eqb-true b met (sym (step.at_s b) ∙ subst (λ (a : ℕ). do_meet m a b s ≡ true) a_at meets)))
          | inr a_met ↦ inr (inl (eqb-true b at (sym (step.met_s b) ∙ subst (λ (a : ℕ). do_meet m a b s ≡ true) a_met meets)))
        ]
      ]);
      in_t = λ a b marked meets other. elim (two_marks marks at met a marked) as (λ _. (is_marked later b ≡ true) ⊎ (b ≡ to)) [
        | inl before ↦ elim (walk.in_t a b before meets other) as (λ _. (is_marked later b ≡ true) ⊎ (b ≡ to)) [
          | inl is ↦ inl (stays b (inl is))
          | inr is ↦ inl (stays b (inr (inl is)))
        ]
        | inr new ↦ elim new as (λ _. (is_marked later b ≡ true) ⊎ (b ≡ to)) [
          | inl a_at ↦ elim walk.came as (λ _. (is_marked later b ≡ true) ⊎ (b ≡ to)) [
            | inl first ↦ absurd (other (a_at ∙ first.1))
            | inr from ↦ inl (stays b (inl (from b (subst (λ (a : ℕ). do_meet m a b t ≡ true) a_at meets))))
          ]
          | inr a_met ↦ inr (eqb-true b to (sym (step.met_t b) ∙ subst (λ (a : ℕ). do_meet m a b t ≡ true) a_met meets))
        ]
      ];
      ends = team_ends n m x s t marks at met to walk step unmarked;
      came = inr (λ b meets. stays b (inr (inr (eqb-true b met (sym (step.to_t b) ∙ meets)))));
      started = inl (stays x (elim walk.started as (λ _. (is_marked marks x ≡ true) ⊎ ((x ≡ at) ⊎ (x ≡ met))) [ inl is ↦ inl is | inr same ↦ inr (inl (sym same)) ]));
    }

team_from_start : (n : ℕ) (m : Counts) (x s t : ℕ) (marks : List Bool) (at : ℕ) → IsTeamWalk n m x s t marks at → is_marked marks at ≡ true → (b : ℕ) → do_meet m at b t ≡ true → is_marked marks b ≡ true
team_from_start n m x s t marks at walk marked b meets = elim walk.came as (λ _. is_marked marks b ≡ true) [
  | inl first ↦ absurd (both_ways (is_marked marks x) first.0 (subst (λ (a : ℕ). is_marked marks a ≡ true) first.1 marked))
  | inr from ↦ from b meets
]

pub team_walk_closed : (n : ℕ) (m : Counts) (x s t : ℕ) (marks : List Bool) (at : ℕ) → IsTeamWalk n m x s t marks at → is_marked marks at ≡ true → (a b : ℕ) → b < n → is_marked marks a ≡ true → (do_meet m a b s || do_meet m a b t) ≡ true → is_marked marks b ≡ true
team_walk_closed n m x s t marks at walk marked a b lt is linked =
    let back : at ≡ x = walk.ends marked in
    elim (or_cases (do_meet m a b s) (do_meet m a b t) linked) as (λ _. is_marked marks b ≡ true) [
      | inl in_s ↦ walk.in_s a b is in_s
      | inr in_t ↦ elim (cases_eq a x) as (λ _. is_marked marks b ≡ true) [
        | inl first ↦ team_from_start n m x s t marks at walk marked b (subst (λ (a : ℕ). do_meet m a b t ≡ true) (first ∙ sym back) in_t)
        | inr other ↦ elim (walk.in_t a b is in_t other) as (λ _. is_marked marks b ≡ true) [
          | inl yes_b ↦ yes_b
          | inr same ↦ subst (λ (b : ℕ). is_marked marks b ≡ true) (sym same) marked
        ]
      ]
    ]

pub team_start : (n : ℕ) (m : Counts) (x s t : ℕ) (marks : List Bool) (at : ℕ) → IsTeamWalk n m x s t marks at → is_marked marks at ≡ true → is_marked marks x ≡ true
team_start n m x s t marks at walk marked = elim walk.started as (λ _. is_marked marks x ≡ true) [
  | inl is ↦ is
  | inr same ↦ subst (λ (a : ℕ). is_marked marks a ≡ true) same marked
]

-- where a walk of teams comes to a marked team, the marks are the least set
pub team_walk_end : (n : ℕ) (m : Counts) (x s t : ℕ) (marks : List Bool) (at : ℕ) → IsTeamWalk n m x s t marks at → is_marked marks at ≡ true → x < n → (a : ℕ) → is_marked marks a ≡ is_in a (teams_linked n m x s t)
team_walk_end n m x s t marks at walk marked lt =
    marks_are (λ a b. do_meet m a b s || do_meet m a b t) n x (marked_count marks) (is_marked marks) lt (marked-le marks n walk.way.marked)
    (team_start n m x s t marks at walk marked)
    walk.way.marked walk.way.reached_all (team_walk_closed n m x s t marks at walk marked)

-- a mark never lowers the count
pub count-more : (marks : List Bool) (i : ℕ) → i < length marks → marked_count marks ≤ marked_count (set marks i true)
count-more marks i lt = omega (arith, sum_by-set (λ b. one_if b) marks i true false lt, one_if-le (get_or marks i false))

pub slot_start : (n : ℕ) (m : Counts) (i j x : ℕ) (marks : List Bool) (at : ℕ) → IsSlotWalk n m i j x marks at → is_marked marks at ≡ true → is_marked marks x ≡ true
slot_start n m i j x marks at walk marked = elim walk.started as (λ _. is_marked marks x ≡ true) [
  | inl is ↦ is
  | inr same ↦ subst (λ (a : ℕ). is_marked marks a ≡ true) same marked
]
