-- What is found of a league whose first slots are played, answered.
use Rattle.std.proofs.Common.{◌≡◌, ℕ, ◌+◌, ◌-◌, ◌*◌, ◌≤◌, Bool, true, false, if◌then◌else◌, List}
use Rattle.std.proofs.Common.{Option, Some, Result, Ok, Err, arith, ap, inl, inr, refl, ◌∙◌}
use Rattle.std.proofs.Math.Nat.{mul-le-mul}
use Rattle.std.specs.Prelude.{IfOk}
use Rattle.std.specs.List.{All}
use Rattle.std.proofs.lemmas.List.Elements.{All-weaker}
use Rattle.league.specs.Accepted.{IsAccepted}
use Rattle.league.specs.Accepted as costs
use Rattle.league.specs.Counts.{counts_of, slot_count}
use Rattle.league.specs.Instance.{Instance, IsInstance, IsTeamCount}
use Rattle.league.specs.declared.game.Game.{Game}
use Rattle.clause_search.proofs.TidyLemmas.{IsTidy-wider}
use Rattle.robinx.specs.Pieces.{pieces}
use Rattle.robinx.specs.SolutionFile.{solution_of}
use Rattle.robinx.specs.Texts.{solution_text}
use Rattle.robinx.proofs.SolutionLemmas.{solution-reads_back}
use Rattle.solve.proofs.FewLemmas.{round_robin-few}
use Rattle.rows.specs.Rows.{Row}
use Rattle.encoding.specs.Variables.{h_count, has_breaks, hb_count, var_count, x_count}
use Rattle.encoding.proofs.NumberLemmas.{x_count-few}
use Rattle.answers.specs.SeenReply.{answer_of}
use Rattle.answers.specs.declared.reply.Reply.{Reply}
use Rattle.answers.specs.declared.status.Status.TheVariants.{Yes, Refuted, Spent}
use Rattle.refutation.specs.Logs.{log_of}
use Rattle.refutation.specs.Steps.{Step, is_linear}
use Rattle.refutation.specs.Texts.{log_text}
use Rattle.clause_search.specs.Answers.{IsSpentAt}
use Rattle.clause_search.specs.News.{IsTidy}
use Rattle.clause_search.proofs.SearchLemmas.{news-clauses}
use Rattle.break_counts.specs.BreakCounts.{are_few}
use Rattle.resume.specs.Kept.{resume_rows}
use Rattle.resume.specs.Answers.{IsResumedSeason, RefutesResuming}
use Rattle.command_resume.specs.Resumed.{IsFound, IsFoundBy}

-- ---- a league has few variables

with_breaks : (breaks : Bool) (games venues places : ℕ) → games ≤ 121680 → venues ≤ 3120 → places ≤ 3080
    → games + venues + (if breaks then 2 * places else 0) ≤ 130960
with_breaks true games venues places few_games few_venues few_places = omega (arith, few_games, few_venues, few_places)
with_breaks false games venues places few_games few_venues few_places = omega (arith, few_games, few_venues)

few_variables : (league : Instance) → IsInstance league → var_count league ≤ 130960
few_variables league instance =
    let small : league.n ≤ 40 = instance.teams.at_most in
    let slots : slot_count league.n ≤ 78 = omega (arith, small) in
    let later : slot_count league.n - 1 ≤ 77 = omega (arith, slots) in
    let venues : h_count league.n ≤ 40 * 78 = mul-le-mul small slots in
    let places : hb_count league.n ≤ 40 * 77 = mul-le-mul small later in
    with_breaks (has_breaks league.constraints) (x_count league.n) (h_count league.n) (hb_count league.n)
    (x_count-few league.n small) (omega (arith, venues)) (omega (arith, places))

-- ---- logs can be written

pub all_tidy : (league : Instance) (steps : List Step) → IsInstance league → All (IsTidy (var_count league)) steps
    → All (IsTidy 130960) steps
all_tidy league steps instance tidy =
    All-weaker (IsTidy (var_count league)) (IsTidy 130960)
    (λ step is_tidy. IsTidy-wider (var_count league) 130960 step (few_variables league instance) is_tidy) steps tidy

pub spent-clauses : (rows : List Row) (vars : ℕ) (limit : Option ℕ) (steps : List Step)
    → IsSpentAt rows vars limit steps → All (λ step. is_linear step ≡ false) steps
spent-clauses rows vars limit steps is = news-clauses rows vars steps is.spent.news

-- ---- replies, unless memory ran out

-- the text of a schedule that is accepted reads back
resumed-reads_back : (league : Instance) (played : List Game) (k : ℕ) (games : List Game) (cost : ℕ) (text : List ℕ)
    → IsTeamCount league.n → IsResumedSeason league played k games cost → text ≡ solution_text games (Some (0, cost))
    → solution_of league.n (pieces text) ≡ Ok games
resumed-reads_back league played k games cost text teams season is =
    ap (λ (written : List ℕ). solution_of league.n (pieces written)) is
    ∙ solution-reads_back league.n games (Some (0, cost)) teams.at_most
    (round_robin-few league.n league.phased games teams season.fit season.resumes.accepted.round_robin) season.fit

pub replied-planned : {E : Type 0} (league : Instance) (played : List Game) (k : ℕ) (conflicts : Option ℕ)
    (games : List Game) (cost : ℕ) (result : Result Reply E) → IsTeamCount league.n
    → IsResumedSeason league played k games cost
    → (IsAccepted league (counts_of played) → counts_of games ≡ counts_of played)
    → IfOk result (λ reply. (answer_of reply).status ≡ Yes)
    → IfOk result (λ reply. (answer_of reply).text ≡ solution_text games (Some (0, cost)))
    → IfOk result (λ reply. IsFound league played k conflicts (answer_of reply))
replied-planned {E} league played k conflicts games cost (Ok reply) teams season plan status text =
    let told : (answer_of reply).text ≡ solution_text games (Some (0, costs.objective league (counts_of games))) =
    text ∙ ap (λ (c : ℕ). solution_text games (Some (0, c))) season.cost in
    record {
      found = inl (record {
        games = games;
        season = record {
          resumes = season.resumes;
          fit = season.fit;
          in_order = season.in_order;
          cost = refl;
        };
        status = status;
        text = told;
        reads_back = resumed-reads_back league played k games cost (answer_of reply).text teams season text;
      });
      plan = λ accepted. record {
        games = games;
        same = plan accepted;
        in_order = season.in_order;
        status = status;
        text = told;
      };
    }
replied-planned {E} league played k conflicts games cost (Err error) teams season plan status text = tt

pub replied-excluded : {E : Type 0} (league : Instance) (played : List Game) (k : ℕ) (conflicts : Option ℕ)
    (steps : List Step) (result : Result Reply E) → RefutesResuming league played k conflicts steps
    → (IsAccepted league (counts_of played) → ⊥) → IfOk result (λ reply. (answer_of reply).status ≡ Refuted)
    → IfOk result (λ reply. (answer_of reply).text ≡ log_text steps)
    → IfOk result (λ reply. log_of (answer_of reply).text ≡ Ok steps)
    → IfOk result (λ reply. IsFound league played k conflicts (answer_of reply))
replied-excluded {E} league played k conflicts steps (Ok reply) refutes no_plan status text reads_back = record {
  found = inr (inl (record {
    steps = steps;
    refutes = refutes;
    status = status;
    text = text;
    reads_back = reads_back;
  }));
  plan = λ accepted. absurd (no_plan accepted);
}
replied-excluded {E} league played k conflicts steps (Err error) refutes no_plan status text reads_back = tt

pub replied-spent : {E : Type 0} (league : Instance) (played : List Game) (k : ℕ) (conflicts : Option ℕ)
    (steps : List Step) (result : Result Reply E)
    → IsSpentAt (resume_rows league (counts_of played) k) (var_count league) conflicts steps
    → (IsAccepted league (counts_of played) → ⊥) → IfOk result (λ reply. (answer_of reply).status ≡ Spent)
    → IfOk result (λ reply. (answer_of reply).text ≡ log_text steps)
    → IfOk result (λ reply. log_of (answer_of reply).text ≡ Ok steps)
    → IfOk result (λ reply. IsFound league played k conflicts (answer_of reply))
replied-spent {E} league played k conflicts steps (Ok reply) spent no_plan status text reads_back = record {
  found = inr (inr (record {
    steps = steps;
    spent = spent;
    status = status;
    text = text;
    reads_back = reads_back;
  }));
  plan = λ accepted. absurd (no_plan accepted);
}
replied-spent {E} league played k conflicts steps (Err error) spent no_plan status text reads_back = tt

-- a reply within the limit to which the search kept, of a league that allows its teams enough breaks
pub replied-by : {E : Type 0} (league : Instance) (played : List Game) (k : ℕ) (limits : Option ℕ → Type 0)
    (result : Result Reply E) (conflicts : Option ℕ) → are_few league ≡ false → limits conflicts
    → IfOk result (λ reply. IsFound league played k conflicts (answer_of reply))
    → IfOk result (λ reply. IsFoundBy league played k limits (answer_of reply))
replied-by league played k limits (Ok reply) conflicts enough is found = inr (enough, (conflicts, is, found))
replied-by league played k limits (Err error) conflicts enough is found = tt
