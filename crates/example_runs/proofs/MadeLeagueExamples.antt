-- What `make` and `trial` answer of two teams and seed 3.
use Rattle.std.proofs.Common.{◌≡◌, ℕ, Bool, true, false, List, []}
use Rattle.std.proofs.Common.{◌∷◌, ◌++◌, length, Option, Some, Ok, codes}
use Rattle.std.proofs.Common.{drop, get_or, All, ap, arith, refl, subst}
use Rattle.std.proofs.Common.{not, sym, ◌∙◌}
use Rattle.std.specs.Fmt.{digits}
use Rattle.std.proofs.lemmas.Bool.{not-true}
use Rattle.std.proofs.lemmas.List.Sums.{AllPass-from_list_all}
use Rattle.example_runs.proofs.Runs.{ended_with}
use Rattle.robin_run.specs.Run.{Writes}
use Rattle.rand_core.specs.Pcg32Seed.{pcg32_seed}
use Rattle.rand_core.specs.Steps.{u32_at, word_bytes}
use Rattle.robinx.specs.Pieces.{pieces, pieces_from}
use Rattle.robinx.specs.Tags.{attributes_at}
use Rattle.robinx.specs.InstanceFile.{instance_of}
use Rattle.robinx.specs.SolutionFile.{solution_of}
use Rattle.robinx.specs.Texts.{instance_text, solution_text}
use Rattle.robinx.specs.Walk.{walk}
use Rattle.league.specs.Accepted.{IsAccepted, objective}
use Rattle.league.specs.Counts.{counts_of}
use Rattle.league.specs.Instance.{Instance}
use Rattle.league.specs.declared.class.Class.{Class}
use Rattle.league.specs.declared.class.Class.TheVariants.{Br1, Br2, Ca1, Ca2, Ca3, Ca4, Fa2, Ga1, Se1}
use Rattle.league.specs.declared.class.Constraint.{Constraint}
use Rattle.league.specs.declared.class.Side.TheVariants.{H, A, Both}
use Rattle.league.specs.declared.class.Span.TheVariants.{Global}
use Rattle.league.proofs.AcceptedLemmas.{MeetsHard-from_sum}
use Rattle.circle_method.specs.Circle.{double_games}
use Rattle.answers.specs.Reply.{Answer}
use Rattle.answers.specs.declared.status.Status.TheVariants.{Yes, No, Refuted}
use Rattle.descent.specs.Descended.{Descended}
use Rattle.descent.specs.Score.{is_lower}
use Rattle.descent.specs.Settled.{IsSettled}
use Rattle.descent.proofs.SettledLemmas.{IsSettled-of_all}
use Rattle.moves.specs.Moves.{moved}
use Rattle.moves.specs.Neighbours.{all_moves}
use Rattle.moves.specs.declared.swap.Swap.{Swap}
use Rattle.solve.specs.Solutions.{IsDescent, league_score}
use Rattle.command_solve.specs.Solve.{IsSchedule, descent_text}
use Rattle.instance_gen.specs.Draws.{next, seeded, word}
use Rattle.instance_gen.specs.Made.{made_league}
use Rattle.command_solve.specs.MadeInstance.{IsMade}
use Rattle.command_solve.specs.Trial.{IsTrial, summary}
use Rattle.example_runs.proofs.LeastExamples.{one-fit}
use Rattle.example_runs.proofs.LeastExamples.{one-in_order, one_first}
use Rattle.example_runs.proofs.CommandExamples.{budgets, false_true, home_last, no_true, none}

-- ---- `make`: the league of two teams of seed 3, whose words were worked out apart from this workspace

abbrev hard : Class → Constraint
hard class = record { hard = true; penalty = 1; class = class }

abbrev soft : ℕ → Class → Constraint
soft penalty class = record { hard = false; penalty = penalty; class = class }

abbrev both : List ℕ
both = 0 ∷ 1 ∷ []

-- the circle's season meets all but the last: its two games are in slots next to each other
abbrev made : Instance
made = record {
  n = 2;
  phased = true;
  constraints =
      hard (Ca1 (1 ∷ []) 0 1 A both)
      ∷ soft 3 (Ca2 (1 ∷ []) both 0 1 Both (0 ∷ []))
      ∷ soft 2 (Ca2 (0 ∷ []) (1 ∷ []) 0 1 Both (0 ∷ []))
      ∷ soft 4 (Ca2 (1 ∷ []) both 0 1 Both (0 ∷ []))
      ∷ soft 5 (Ca2 (1 ∷ []) (0 ∷ []) 0 1 Both (0 ∷ []))
      ∷ soft 5 (Ca3 both both 0 2 3 H)
      ∷ soft 5 (Ca3 both both 0 2 3 A)
      ∷ soft 9 (Ca4 (0 ∷ []) (1 ∷ []) 0 1 H Global (0 ∷ []))
      ∷ soft 10 (Ca4 (1 ∷ []) (1 ∷ []) 0 0 H Global (0 ∷ []))
      ∷ hard (Ga1 ((0, 1) ∷ []) 1 1 (1 ∷ []))
      ∷ hard (Ga1 ((1, 0) ∷ []) 1 1 both)
      ∷ hard (Ga1 ((1, 0) ∷ []) 1 1 (0 ∷ []))
      ∷ hard (Ga1 ((0, 1) ∷ []) 1 1 both)
      ∷ soft 3 (Br1 (1 ∷ []) 2 Both both)
      ∷ hard (Br2 both 0 both)
      ∷ soft 10 (Br2 both 0 both)
      ∷ soft 10 (Fa2 both 2 both)
      ∷ hard (Se1 both 0)
      ∷ soft 2 (Se1 both 1)
      ∷ [];
}

pub made-is : made_league 2 (seeded 3) ≡ made
unfolding seeded word next pcg32_seed u32_at word_bytes
made-is = refl

abbrev written_league : Answer
written_league = record { status = Yes; text = instance_text made }

made-read : instance_of (pieces (instance_text made)) ≡ Ok made
unfolding attributes_at pieces_from walk digits
made-read = refl

made-accepts : IsAccepted made (counts_of one_first)
made-accepts = record {
  round_robin = record { pairs = refl; cells = refl; phases = refl };
  hard = MeetsHard-from_sum made (counts_of one_first) refl;
}

pub made-three : IsMade 2 3 written_league
made-three = record {
  made = ap (λ (league : Instance). let a : Answer = record { status = Yes; text = instance_text league } in a)
      (sym made-is);
  reads_back = made-read ∙ ap (λ (league : Instance). Ok league) (sym made-is);
  count = ap (λ (league : Instance). length league.constraints) made-is;
  accepts = subst (λ (league : Instance). IsAccepted league (counts_of (double_games 2))) (sym made-is) made-accepts;
}

pub written-three : Writes (ended_with Yes (Some []) (Some (instance_text made))) (IsMade 2 3)
written-three = record { answer = written_league; of_kind = made-three; ended = refl; written = refl }

no_yes : No ≡ Yes → ⊥
no_yes is = cc

pub made-no : (n seed : ℕ) (text : List ℕ) → IsMade n seed (record { status = No; text = text }) → ⊥
made-no n seed text is = no_yes (ap (λ (answer : Answer). answer.status) is.made)

pub written-no : (n seed : ℕ) (old new : Option (List ℕ)) → Writes (ended_with No old new) (IsMade n seed) → ⊥
written-no n seed old new is = no_yes (is.ended ∙ ap (λ (a : Answer). a.status) is.of_kind.made)

-- ---- `trial`: each season of that league costs 2, for the games next to each other, or misses a hard constraint

abbrev first_still : Descended
first_still = record { first = one_first; trail = []; settled = true }

abbrev is_lowered : Swap → Bool
is_lowered step =
    is_lower (league_score made (moved 2 (counts_of one_first) step)) (league_score made (counts_of one_first))

-- none of the seven moves lowers anything
none_lowers : All (λ step. not (is_lowered step) ≡ true) (all_moves 2)
none_lowers = AllPass-from_list_all (λ step. not (is_lowered step)) (all_moves 2) refl

made-settled : IsSettled 2 true (league_score made) (counts_of one_first)
made-settled =
    IsSettled-of_all 2 true (league_score made) (counts_of one_first) (all_moves 2) refl
    (λ k d within lowers.
    let step : Swap = get_or (all_moves 2) k d in
    false_true (sym (not-true (is_lowered step) (none_lowers k d within)) ∙ lowers.lower))

made-descent : IsDescent made 0 ⊥ one_first first_still
made-descent = record {
  first = made-accepts;
  fit = one-fit;
  in_order = one-in_order;
  trail = refl;
  few = omega arith;
  settled = λ yes. made-settled;
  spent = λ no. absurd (no_true no);
  costly = λ no. absurd (no_true no);
  lowers = λ no. absurd (no_true no);
}

abbrev made_found : Answer
made_found = record {
  status = Yes;
  text = codes "<?xml version=\"1.0\" encoding=\"UTF-8\"?>\n<Solution>\n<MetaData>\n"
      ++ codes "<ObjectiveValue infeasibility=\"0\" objective=\"2\"/>\n</MetaData>\n<Games>\n"
      ++ codes "<ScheduledMatch home=\"1\" away=\"0\" slot=\"0\"/>\n"
      ++ codes "<ScheduledMatch home=\"0\" away=\"1\" slot=\"1\"/>\n</Games>\n</Solution>\n"
      ++ codes "<!-- descent first=2 moves=0 settled=yes -->\n";
}

made_found-text : made_found.text ≡ solution_text one_first (Some (0, 2)) ++ descent_text 2 first_still
unfolding digits
made_found-text = refl

made_found-read : solution_of 2 (pieces made_found.text) ≡ Ok one_first
unfolding attributes_at pieces_from walk
made_found-read = refl

made-costs : objective made (counts_of one_first) ≡ 2
made-costs = refl

pub made-schedule : IsSchedule made 0 ⊥ made_found
made-schedule = record {
  games = one_first;
  descent = first_still;
  accepted = made-accepts;
  fit = one-fit;
  in_order = one-in_order;
  descends = made-descent;
  climbs = refl;
  settles = λ enough. refl;
  status = refl;
  text = made_found-text;
  reads_back = made_found-read;
}

abbrev trial_lines : List ℕ
trial_lines = codes "trial 2 3\nconstraints 19\nresult schedule\nobjective 2\nfirst 2\nmoves 0\nsettled yes\n"

trial-lines : trial_lines ≡ summary 2 3 made one_first first_still
unfolding digits
trial-lines = refl

abbrev trial_answer : Answer
trial_answer = record { status = Yes; text = trial_lines ++ made_found.text }

pub trial-three : IsTrial 2 3 made 0 ⊥ trial_answer
unfolding made-schedule
trial-three = record {
  solved = made_found;
  schedule = made-schedule;
  status = refl;
  text = ap (λ (front : List ℕ). front ++ made_found.text) trial-lines;
}

pub tried-three : Writes (ended_with Yes (Some []) (Some trial_answer.text)) (IsTrial 2 3 (made_league 2 (seeded 3)) budgets.moves ⊥)
tried-three = record {
  answer = trial_answer;
  of_kind = subst (λ (league : Instance). IsTrial 2 3 league 0 ⊥ trial_answer) (sym made-is) trial-three;
  ended = refl;
  written = refl;
}

-- a league without a season has none
pub trial-home : (n seed moves : ℕ) (may_stop : Type 0) (answer : Answer)
    → IsTrial n seed home_last moves may_stop answer → ⊥
trial-home n seed moves may_stop answer is = none is.schedule.games is.schedule.accepted

-- the lines stand in front: the first byte is that of `trial`
first_byte : (b : ℕ) (rest : List ℕ) → [] ≡ b ∷ rest → ⊥
first_byte b rest is = cc

pub trial-nothing : (n seed moves : ℕ) (may_stop : Type 0) (league : Instance)
    → IsTrial n seed league moves may_stop (record { status = Yes; text = [] }) → ⊥
trial-nothing n seed moves may_stop league is =
    first_byte 116 (drop 1 (summary n seed league is.schedule.games is.schedule.descent ++ is.solved.text)) is.text

pub tried-refuted : (n seed : ℕ) (may_stop : Type 0) (old new : Option (List ℕ))
    → Writes (ended_with Refuted old new) (IsTrial n seed (made_league n (seeded seed)) budgets.moves may_stop) → ⊥
tried-refuted n seed may_stop old new is = other_status (is.ended ∙ is.of_kind.status)
  where
    other_status : Refuted ≡ Yes → ⊥
    other_status same = cc
