-- When a move leaves the first slots alone and betters a season.
use Rattle.std.proofs.Common.{◌≡◌, ◌↔◌, ℕ, ◌-◌, ◌^◌, ◌<◌, ◌≤◌, Bool, true, false, List, Option, Some, None}
use Rattle.std.proofs.Common.{inl, inr, subst, sym, ◌∙◌, arith}
use Rattle.std.specs.Prelude.{IsTrue, MatchOption, is_some}
use Rattle.std.specs.List.{All}
use Rattle.league.specs.Accepted.{MeetsHard, objective}
use Rattle.league.specs.Counts.{Counts, counts_of}
use Rattle.league.specs.Instance.{IsGame}
use Rattle.league.specs.Structure.{IsRoundRobin}
use Rattle.descent.proofs.EditLemmas.{edited-is}
use Rattle.moves.specs.Moves.{IsLegal, IsOfLeague, moved}
use Rattle.moves.specs.Round.{AreApart, Edits, IsEdit, edited}
use Rattle.moves.specs.declared.swap.Swap.{Swap}
use Rattle.rule_core.specs.declared.rule.Entries.{Ghosts}
use Rattle.descent.specs.HardSum.{hard_sum}
use Rattle.descent.specs.League.{AreRulesOf}
use Rattle.descent.specs.Tallies.{IsAtMost, IsWithin, infeasibility_on, objective_on}
use Rattle.descent.specs.declared.weigh.Sums.{Sums}
use Rattle.descent.specs.declared.weighted.Weighted.{Weighted}
use Rattle.descent.proofs.LeagueLemmas.{hard_sum-met, infeasibility-league, objective-league}
use Rattle.resume.specs.Kept.{Keeps}
use Rattle.resume.specs.Alone.{leaves_alone}
use Rattle.resume.specs.Changed.{IsNearer, changed_on}
use Rattle.resume.specs.Walks.{IsBetter, LeadsNearer, times_in}
use Rattle.resume.specs.declared.old_plan.OldPlan.{OldPlan}
use Rattle.resume.proofs.AloneLemmas.{edits-keep}
use Rattle.resume.proofs.ChangedLemmas.{changed-moved, nearer-moved}

-- ---- what a nearer season costs at most

pub none-fewer : (out into objective cost : ℕ) → into < out → IsNearer out cost into objective → ⊥
none-fewer out into objective cost more (inl fewer) = absurd (omega (arith, more, fewer))
none-fewer out into objective cost more (inr same) = absurd (omega (arith, more, same.0))

pub none-cheaper : (out into objective cost : ℕ) → out ≡ into → objective ≡ 0 → IsNearer out cost into objective → ⊥
none-cheaper out into objective cost as_many free (inl fewer) = absurd (omega (arith, as_many, fewer))
none-cheaper out into objective cost as_many free (inr same) = absurd (omega (arith, free, same.1))

-- where fewer games are taken out, it may cost anything
pub most-fewer : (out into objective cost : ℕ) → out < into
    → IsAtMost (2 ^ 128 - 1) cost ↔ IsNearer out cost into objective
most-fewer out into objective cost fewer = (λ most. inl fewer, λ nearer below. absurd (omega (arith, below)))

-- where as many are, it costs less
pub most-cheaper : (out into objective cost : ℕ) → out ≡ into → 0 < objective → objective < 2 ^ 128
    → IsAtMost (objective - 1) cost ↔ IsNearer out cost into objective
most-cheaper out into objective cost as_many some small = (there, back) where
  there : IsAtMost (objective - 1) cost → IsNearer out cost into objective
  there most = inr (as_many, omega (arith, some, most (omega (arith, some, small))))

  back : IsNearer out cost into objective → IsAtMost (objective - 1) cost
  back (inl fewer) below = absurd (omega (arith, as_many, fewer))
  back (inr same) below = omega (arith, some, same.1)

-- ---- what a tally says of an edit

zero-of : (x : ℕ) → x ≤ 0 → x ≡ 0
zero-of x le = omega (arith, le)

-- rules of a league cost at most these sums where each hard constraint is met, and the season is nearer
pub within-leads : {R : Type 0} (E : Ghosts R) (plan : OldPlan) (weights : List (Weighted R)) (m : Counts)
    (edit : Edits) (most : Sums) (out into cost : ℕ) → AreRulesOf E 1 plan.league.now weights
    → out ≡ times_in (counts_of plan.games.now) edit.out → into ≡ times_in (counts_of plan.games.now) edit.into
    → cost ≡ objective plan.league.now m → most.infeasibility ≡ 0
    → ((price : ℕ) → IsAtMost most.objective price ↔ IsNearer out price into cost)
    → IsWithin E most (edited m edit) weights ↔ LeadsNearer plan m edit
within-leads {R} E plan weights m edit most out into cost are is_out is_into is_cost none bound = (there, back) where
  after : Counts
  after = edited m edit

  hard : infeasibility_on E after weights ≡ hard_sum 1 plan.league.now after
  hard = infeasibility-league E 1 plan.league.now weights after are

  soft : objective_on E after weights ≡ objective plan.league.now after
  soft = objective-league E 1 plan.league.now weights after are

  met : (hard_sum 1 plan.league.now after ≡ 0) ↔ MeetsHard plan.league.now after
  met = hard_sum-met 1 plan.league.now after (omega arith)

  read : IsNearer out (objective plan.league.now after) into cost
      ↔ IsNearer (times_in (counts_of plan.games.now) edit.out) (objective plan.league.now after)
      (times_in (counts_of plan.games.now) edit.into) (objective plan.league.now m)
  read = rw is_out (rw is_into (rw is_cost (λ nearer. nearer, λ nearer. nearer)))

  there : IsWithin E most after weights → LeadsNearer plan m edit
  there within = (
    met.0 (sym hard ∙ zero-of (infeasibility_on E after weights)
        (subst (λ (top : ℕ). IsAtMost top (infeasibility_on E after weights)) none within.infeasibility (omega arith))),
    read.0 (subst (λ (price : ℕ). IsNearer out price into cost) soft
        ((bound (objective_on E after weights)).0 within.objective)),
  )

  back : LeadsNearer plan m edit → IsWithin E most after weights
  back leads = record {
    infeasibility =
        subst (λ (top : ℕ). IsAtMost top (infeasibility_on E after weights)) (sym none)
        (λ below. omega (arith, hard, met.1 leads.0));
    objective = (bound (objective_on E after weights)).1
        (subst (λ (price : ℕ). IsNearer out price into cost) (sym soft) (read.1 leads.1));
  }

-- where none is nearer, whatever it costs
pub none-leads : (plan : OldPlan) (m : Counts) (edit : Edits) (out into cost : ℕ)
    → out ≡ times_in (counts_of plan.games.now) edit.out → into ≡ times_in (counts_of plan.games.now) edit.into
    → cost ≡ objective plan.league.now m → ((price : ℕ) → IsNearer out price into cost → ⊥)
    → IsTrue false ↔ LeadsNearer plan m edit
none-leads plan m edit out into cost is_out is_into is_cost none = (
  λ is_true. absurd (let no : false ≡ true = is_true in cc),
  λ leads. absurd (none (objective plan.league.now (edited m edit))
      (subst (λ (first : ℕ). IsNearer out (objective plan.league.now (edited m edit)) into first) (sym is_cost)
      (subst (λ (there : ℕ). IsNearer out (objective plan.league.now (edited m edit)) there (objective plan.league.now m))
      (sym is_into)
      (subst (λ (gone : ℕ). IsNearer gone (objective plan.league.now (edited m edit))
      (times_in (counts_of plan.games.now) edit.into) (objective plan.league.now m)) (sym is_out) leads.1)))),
)

-- where something is found exactly if one of two facts holds that are one
pub some-leads : {X : Type 0} (found : Option X) (says : Bool) (Within Leads : Type 0) → says ≡ is_some found
    → MatchOption found (Within → ⊥) (λ x. Within) → Within ↔ Leads → IsTrue says ↔ Leads
some-leads {X} None says Within Leads is none both = (
  λ is_true. absurd (let no : false ≡ true = sym is ∙ is_true in cc),
  λ leads. absurd (none (both.1 leads)),
)
some-leads {X} (Some x) says Within Leads is within both = (λ is_true. both.0 within, λ leads. is)

-- ---- what an edit says of its move

-- a legal move on a double round robin, with its edit
pub record IsTried (plan : OldPlan) (m : Counts) (step : Swap) (edit : Edits) : Type 0 where
  pub legal : IsLegal plan.league.now.n plan.league.now.phased m step
  pub round : IsRoundRobin plan.league.now.n plan.league.now.phased m
  pub change : IsEdit m (moved plan.league.now.n m step) edit
  pub apart : AreApart edit
  pub out_fit : All (IsGame plan.league.now.n) edit.out
  pub into_fit : All (IsGame plan.league.now.n) edit.into

-- the same on a board
pub tried-on : (plan : OldPlan) (m counts : Counts) (n : ℕ) (phased : Bool) (step : Swap) (edit : Edits)
    → n ≡ plan.league.now.n → phased ≡ plan.league.now.phased → counts ≡ m → IsLegal n phased counts step
    → IsRoundRobin n phased counts → IsEdit counts (moved n counts step) edit → AreApart edit
    → All (IsGame n) edit.out → All (IsGame n) edit.into → IsTried plan m step edit
tried-on plan m counts n phased step edit teams phases same legal round change apart out_fit into_fit =
    let Legal : ℕ → Bool → Counts → Type 0 = λ k b c. IsLegal k b c step in
    let Changes : ℕ → Counts → Type 0 = λ k c. IsEdit c (moved k c step) edit in
    record {
      legal = subst (λ (c : Counts). Legal plan.league.now.n plan.league.now.phased c) same
          (subst (λ (b : Bool). Legal plan.league.now.n b counts) phases
          (subst (λ (k : ℕ). Legal k phased counts) teams legal));
      round = subst (λ (c : Counts). IsRoundRobin plan.league.now.n plan.league.now.phased c) same
          (subst (λ (b : Bool). IsRoundRobin plan.league.now.n b counts) phases
          (subst (λ (k : ℕ). IsRoundRobin k phased counts) teams round));
      change = subst (λ (c : Counts). Changes plan.league.now.n c) same
          (subst (λ (k : ℕ). Changes k counts) teams change);
      apart = apart;
      out_fit = subst (λ (k : ℕ). All (IsGame k) edit.out) teams out_fit;
      into_fit = subst (λ (k : ℕ). All (IsGame k) edit.into) teams into_fit;
    }

-- what is legal by the plan's league is legal on a board
pub legal-on : (plan : OldPlan) (m counts : Counts) (n : ℕ) (phased : Bool) (step : Swap) → n ≡ plan.league.now.n
    → phased ≡ plan.league.now.phased → counts ≡ m → IsLegal plan.league.now.n plan.league.now.phased m step
    → IsLegal n phased counts step
legal-on plan m counts n phased step teams phases same legal =
    subst (λ (k : ℕ). IsLegal k phased counts step) (sym teams)
    (subst (λ (b : Bool). IsLegal plan.league.now.n b counts step) (sym phases)
    (subst (λ (c : Counts). IsLegal plan.league.now.n plan.league.now.phased c step) (sym same) legal))

-- a move that isn't legal betters nothing
pub none-better : (plan : OldPlan) (m : Counts) (step : Swap) → (IsBetter plan m step → ⊥)
    → IsTrue false ↔ IsBetter plan m step
none-better plan m step none =
    (λ is_true. absurd (let no : false ≡ true = is_true in cc), λ better. absurd (none better))

-- whether a legal move betters a season, by its edit, which leaves the first slots alone
pub better-read : (plan : OldPlan) (m : Counts) (step : Swap) (edit : Edits) (result : Bool)
    → IsOfLeague plan.league.now.n step → All (IsGame plan.league.now.n) plan.games.now → IsTried plan m step edit
    → leaves_alone plan.k edit ≡ true → IsTrue result ↔ LeadsNearer plan m edit → IsTrue result ↔ IsBetter plan m step
better-read plan m step edit result of fit tried alone says = (there, back) where
  after : Counts
  after = moved plan.league.now.n m step

  same : edited m edit ≡ after
  same = edited-is m after edit tried.change

  keeps : (leaves_alone plan.k edit ≡ true) ↔ Keeps m plan.k after
  keeps = edits-keep plan.league.now.n plan.k plan.league.now.phased m after edit tried.round tried.legal.round_robin
      tried.change tried.apart tried.out_fit tried.into_fit

  nearer : IsNearer (times_in (counts_of plan.games.now) edit.out) (objective plan.league.now after)
      (times_in (counts_of plan.games.now) edit.into) (objective plan.league.now m)
      ↔ IsNearer (changed_on plan.k plan.games.now after) (objective plan.league.now after)
      (changed_on plan.k plan.games.now m) (objective plan.league.now m)
  nearer = nearer-moved (changed_on plan.k plan.games.now after) (changed_on plan.k plan.games.now m)
      (times_in (counts_of plan.games.now) edit.out) (times_in (counts_of plan.games.now) edit.into)
      (objective plan.league.now after) (objective plan.league.now m)
      (changed-moved plan.league.now.n plan.k plan.league.now.phased m after plan.games.now edit tried.round
      tried.legal.round_robin fit tried.change alone)

  Leads : Counts → Type 0
  Leads = λ counts. MeetsHard plan.league.now counts
      × IsNearer (times_in (counts_of plan.games.now) edit.out) (objective plan.league.now counts)
      (times_in (counts_of plan.games.now) edit.into) (objective plan.league.now m)

  there : IsTrue result → IsBetter plan m step
  there is_true =
      let leads : Leads after = subst Leads same (says.0 is_true) in
      record {
        of_league = of;
        legal = tried.legal;
        keeps = keeps.0 alone;
        accepted = record { round_robin = tried.legal.round_robin; hard = leads.0 };
        nearer = nearer.0 leads.1;
      }

  back : IsBetter plan m step → IsTrue result
  back better = says.1 (subst Leads (sym same) (better.accepted.hard, nearer.1 better.nearer))

-- a move whose edit doesn't leave the first slots alone betters nothing
pub better-alone : (plan : OldPlan) (m : Counts) (step : Swap) (edit : Edits) → IsTried plan m step edit
    → leaves_alone plan.k edit ≡ false → IsBetter plan m step → ⊥
better-alone plan m step edit tried touches better =
    let alone : leaves_alone plan.k edit ≡ true =
    (edits-keep plan.league.now.n plan.k plan.league.now.phased m (moved plan.league.now.n m step) edit tried.round
    tried.legal.round_robin tried.change tried.apart tried.out_fit tried.into_fit).1 better.keeps in
    absurd (let no : false ≡ true = sym touches ∙ alone in cc)
