-- What follows from an answer of `prove`.
use Rattle.std.proofs.Common.{◌∷◌, [], ◌≡◌, ◌⊎◌, ℕ, ◌+◌, List, length, Option, None, Some, Ok, codes, true, inl, inr, sym, ◌∙◌}
use Rattle.std.proofs.Common.{Bool, false, if◌then◌else◌}
use Rattle.std.specs.Prelude.{IsTrue}
use Rattle.robin_io.specs.Outside.{Store}
use Rattle.league.specs.Accepted.{IsAccepted}
use Rattle.league.specs.Counts.{counts_of}
use Rattle.league.specs.Instance.{Instance}
use Rattle.league.specs.declared.game.Game.{Game}
use Rattle.robinx.specs.Pieces.{pieces}
use Rattle.robinx.specs.InstanceFile.{instance_of}
use Rattle.robinx.specs.SolutionFile.{solution_of}
use Rattle.robinx.specs.declared.instance.TheConstants.{INSTANCE_LIMIT, SOLUTION_LIMIT}
use Rattle.answers.specs.Reply.{Answer}
use Rattle.answers.specs.Stages.{NoneFails, Outcome, says, takes}
use Rattle.answers.specs.declared.status.Status.{Status}
use Rattle.answers.specs.declared.status.Status.TheVariants.{Yes, No, File, Spent, ReadFault, Better}
use Rattle.answers.proofs.StageLemmas.{first-works, says-known, second-works, takes-known}
use Rattle.command_prove.proofs.BoundAnswers.{few-small, few-yes, reads-goes}
use Rattle.command_prove.specs.Floor.{IsShownWith}
use Rattle.command_prove.specs.Prove.{IsBettered, IsLeast, IsLeastByFloor, IsShown, IsShownBy, IsSpentBelow}
use Rattle.command_prove.specs.Prove.{IsWellFormedCase, proved}
use Rattle.command_prove.proofs.ProveStages.{solution_stages}

-- ---- what is shown

-- a well-formed case at which nothing fails is shown something
pub proved-well_formed : (store : Store)
    (instance solution : List ℕ) (league : Instance) (games : List Game) (shown : Instance → List Game → Outcome)
    (answer : Answer)
    → IsWellFormedCase store instance solution league games → NoneFails store (instance ∷ solution ∷ [])
    → proved store instance solution shown answer → shown league games answer
proved-well_formed store instance solution league games shown answer good works given =
    let pair = good.pair in
    let front : ℕ = length pair.first in
    let next : List ℕ → Outcome = λ first. says (codes "instance") (instance_of (pieces first))
    (solution_stages store solution shown (length first)) in
    let at_instance : next pair.first answer =
    takes-known (codes "instance") (store.contents instance) INSTANCE_LIMIT (store.took_more INSTANCE_LIMIT) (store.failed instance) next
    answer pair.first pair.first_known pair.first_within (first-works store instance (solution ∷ []) works) given in
    let at_league : solution_stages store solution shown front league answer =
    says-known (codes "instance") (instance_of (pieces pair.first)) league
    (solution_stages store solution shown front) answer pair.says_league at_instance in
    let at_bytes : List ℕ → Outcome = λ bytes. says (codes "solution") (solution_of league.n (pieces bytes))
    (shown league) in
    let at_solution : takes (codes "solution") (store.contents solution) SOLUTION_LIMIT (store.took_more (front + SOLUTION_LIMIT))
    (store.failed solution) at_bytes answer =
    few-small league (λ few. takes (codes "solution") (store.contents solution) SOLUTION_LIMIT
    (store.took_more (front + SOLUTION_LIMIT)) (store.failed solution) at_bytes) answer good.small at_league in
    let at_games : at_bytes pair.second answer =
    takes-known (codes "solution") (store.contents solution) SOLUTION_LIMIT (store.took_more (front + SOLUTION_LIMIT))
    (store.failed solution) at_bytes answer pair.second pair.second_known pair.second_within (second-works store instance solution [] works) at_solution in
    says-known (codes "solution") (solution_of league.n (pieces pair.second)) games (shown league)
    answer pair.says_games at_games

-- files that are known, where none is refused
pub proved-goes : (store : Store)
    (instance solution first second : List ℕ) (league : Instance) (games : List Game)
    (shown : Instance → List Game → Outcome) (answer : Answer) → store.contents instance ≡ Some first → store.contents solution ≡ Some second
    → instance_of (pieces first) ≡ Ok league → solution_of league.n (pieces second) ≡ Ok games
    → (answer.status ≡ File → ⊥) → (answer.status ≡ ReadFault → ⊥)
    → proved store instance solution shown answer → shown league games answer
proved-goes store instance solution first second league games shown answer first_known
    second_known says_league says_games no_file no_fault given =
    let front : ℕ = length first in
    let next : List ℕ → Outcome = λ bytes. says (codes "instance") (instance_of (pieces bytes))
    (solution_stages store solution shown (length bytes)) in
    let at_instance : next first answer =
    reads-goes (codes "instance") (store.contents instance) INSTANCE_LIMIT (store.took_more INSTANCE_LIMIT) (store.failed instance) next
    answer first first_known no_file no_fault given in
    let at_league : solution_stages store solution shown front league answer =
    says-known (codes "instance") (instance_of (pieces first)) league
    (solution_stages store solution shown front) answer says_league at_instance in
    let at_bytes : List ℕ → Outcome = λ bytes. says (codes "solution") (solution_of league.n (pieces bytes))
    (shown league) in
    let at_solution : takes (codes "solution") (store.contents solution) SOLUTION_LIMIT (store.took_more (front + SOLUTION_LIMIT))
    (store.failed solution) at_bytes answer =
    few-yes league (λ few. takes (codes "solution") (store.contents solution) SOLUTION_LIMIT
    (store.took_more (front + SOLUTION_LIMIT)) (store.failed solution) at_bytes) answer no_file at_league in
    let at_games : at_bytes second answer =
    reads-goes (codes "solution") (store.contents solution) SOLUTION_LIMIT (store.took_more (front + SOLUTION_LIMIT))
    (store.failed solution) at_bytes answer second second_known no_file no_fault at_solution in
    says-known (codes "solution") (solution_of league.n (pieces second)) games (shown league) answer
    says_games at_games

-- ---- statuses

pub other : (a b : Status) (answer : Answer) → answer.status ≡ a → answer.status ≡ b → a ≡ b
other a b answer first second = sym first ∙ second

-- the season is least, by a search or by a floor
pub shown-yes : {may_stop : Type 0} (league : Instance) (conflicts : Option ℕ) (games : List Game) (answer : Answer)
    → IsShown league conflicts may_stop games answer → answer.status ≡ Yes
    → IsLeast league conflicts games answer ⊎ IsLeastByFloor league conflicts games answer
shown-yes league conflicts games answer (inl h) is = let same : No ≡ Yes = other No Yes answer h.status is in cc
shown-yes league conflicts games answer (inr (inl h)) is = inl h
shown-yes league conflicts games answer (inr (inr (inl h))) is = inr h
shown-yes league conflicts games answer (inr (inr (inr (inl h)))) is =
    let same : Better ≡ Yes = other Better Yes answer h.status is in cc
shown-yes league conflicts games answer (inr (inr (inr (inr h)))) is =
    let same : Spent ≡ Yes = other Spent Yes answer h.status is in cc

pub shown-better : {may_stop : Type 0} (league : Instance) (conflicts : Option ℕ) (games : List Game) (answer : Answer)
    → IsShown league conflicts may_stop games answer → answer.status ≡ Better → IsBettered league games answer
shown-better league conflicts games answer (inl h) is =
    let same : No ≡ Better = other No Better answer h.status is in cc
shown-better league conflicts games answer (inr (inl h)) is =
    let same : Yes ≡ Better = other Yes Better answer h.status is in cc
shown-better league conflicts games answer (inr (inr (inl h))) is =
    let same : Yes ≡ Better = other Yes Better answer h.status is in cc
shown-better league conflicts games answer (inr (inr (inr (inl h)))) is = h
shown-better league conflicts games answer (inr (inr (inr (inr h)))) is =
    let same : Spent ≡ Better = other Spent Better answer h.status is in cc

no-feasible : (feasible : Bool) (status : Status) → status ≡ No → status ≡ (if feasible then Yes else No)
    → IsTrue feasible → ⊥
no-feasible true status ended is passes = let same : No ≡ Yes = sym ended ∙ is in cc
no-feasible false status ended is passes = cc

-- the answer is no exactly where the league doesn't accept the schedule
pub shown-no : {may_stop : Type 0} (league : Instance) (conflicts : Option ℕ) (games : List Game) (answer : Answer)
    → IsShown league conflicts may_stop games answer → answer.status ≡ No → IsAccepted league (counts_of games) → ⊥
shown-no league conflicts games answer (inl h) is accepted =
    no-feasible h.judgement.feasible answer.status is h.judgement.status (h.judgement.accepted.1 accepted)
shown-no league conflicts games answer (inr (inl h)) is accepted =
    let same : Yes ≡ No = other Yes No answer h.status is in cc
shown-no league conflicts games answer (inr (inr (inl h))) is accepted =
    let same : Yes ≡ No = other Yes No answer h.status is in cc
shown-no league conflicts games answer (inr (inr (inr (inl h)))) is accepted =
    let same : Better ≡ No = other Better No answer h.status is in cc
shown-no league conflicts games answer (inr (inr (inr (inr h)))) is accepted =
    let same : Spent ≡ No = other Spent No answer h.status is in cc

-- what is left of five cases
fifth : {A B C D E : Type 0} → A ⊎ (B ⊎ (C ⊎ (D ⊎ E))) → (A → ⊥) → (B → ⊥) → (C → ⊥) → (D → ⊥) → E
fifth (inl h) a b c d = absurd (a h)
fifth (inr (inl h)) a b c d = absurd (b h)
fifth (inr (inr (inl h))) a b c d = absurd (c h)
fifth (inr (inr (inr (inl h)))) a b c d = absurd (d h)
fifth (inr (inr (inr (inr h)))) a b c d = h

shown-spent : {may_stop : Type 0} (league : Instance) (conflicts : Option ℕ) (games : List Game) (answer : Answer)
    → IsShown league conflicts may_stop games answer → answer.status ≡ Spent
    → IsSpentBelow league conflicts may_stop games answer
shown-spent league conflicts games answer shown is =
    fifth shown
    (λ h. let same : No ≡ Spent = other No Spent answer h.status is in cc)
    (λ h. let same : Yes ≡ Spent = other Yes Spent answer h.status is in cc)
    (λ h. let same : Yes ≡ Spent = other Yes Spent answer h.status is in cc)
    (λ h. let same : Better ≡ Spent = other Better Spent answer h.status is in cc)

pub shown-refused : {may_stop : Type 0} (league : Instance) (conflicts : Option ℕ) (games : List Game) (answer : Answer)
    → (IsAccepted league (counts_of games) → ⊥) → IsShown league conflicts may_stop games answer → answer.status ≡ No
shown-refused league conflicts games answer fails (inl h) = h.status
shown-refused league conflicts games answer fails (inr (inl h)) = absurd (fails h.accepted)
shown-refused league conflicts games answer fails (inr (inr (inl h))) = absurd (fails h.accepted)
shown-refused league conflicts games answer fails (inr (inr (inr (inl h)))) = absurd (fails h.accepted)
shown-refused league conflicts games answer fails (inr (inr (inr (inr h)))) = absurd (fails h.accepted)

-- ---- files that are known

pub yes-no_file : (answer : Answer) → answer.status ≡ Yes → answer.status ≡ File → ⊥
yes-no_file answer is refused = let same : Yes ≡ File = other Yes File answer is refused in cc

pub yes-no_fault : (answer : Answer) → answer.status ≡ Yes → answer.status ≡ ReadFault → ⊥
yes-no_fault answer is refused = let same : Yes ≡ ReadFault = other Yes ReadFault answer is refused in cc

pub better-no_file : (answer : Answer) → answer.status ≡ Better → answer.status ≡ File → ⊥
better-no_file answer is refused = let same : Better ≡ File = other Better File answer is refused in cc

pub better-no_fault : (answer : Answer) → answer.status ≡ Better → answer.status ≡ ReadFault → ⊥
better-no_fault answer is refused = let same : Better ≡ ReadFault = other Better ReadFault answer is refused in cc

pub spent-no_file : (answer : Answer) → answer.status ≡ Spent → answer.status ≡ File → ⊥
spent-no_file answer is refused = let same : Spent ≡ File = other Spent File answer is refused in cc

pub spent-no_fault : (answer : Answer) → answer.status ≡ Spent → answer.status ≡ ReadFault → ⊥
spent-no_fault answer is refused = let same : Spent ≡ ReadFault = other Spent ReadFault answer is refused in cc

-- what an answer says by its status: where it is yes, the schedule's objective is the least; where it is a better
-- schedule, the league accepts that; where the budget is spent, no schedule costs less than a floor
pub record ShowsAs (league : Instance) (limits : Option ℕ → Type 0) (may_stop : Type 0) (games : List Game)
    (answer : Answer) : Type 0 where
  pub least : answer.status ≡ Yes
      → (conflicts : Option ℕ) × (IsLeast league conflicts games answer ⊎ IsLeastByFloor league conflicts games answer)
  pub better : answer.status ≡ Better → IsBettered league games answer
  pub spent : answer.status ≡ Spent → (conflicts : Option ℕ) × IsSpentBelow league conflicts may_stop games answer

pub proved-known : (store : Store)
    (instance solution first second : List ℕ) (league : Instance) (games : List Game) (limits : Option ℕ → Type 0)
    (may_stop : Type 0) (answer : Answer) → store.contents instance ≡ Some first → store.contents solution ≡ Some second
    → instance_of (pieces first) ≡ Ok league → solution_of league.n (pieces second) ≡ Ok games
    → proved store instance solution (IsShownWith None limits may_stop) answer → ShowsAs league limits may_stop games answer
proved-known store instance solution first second league games limits may_stop answer first_known second_known
    says_league says_games given = record {
      least = λ is.
          let shown : IsShownBy league limits may_stop games answer =
          proved-goes store instance solution first second league games (IsShownWith None limits may_stop) answer first_known second_known
          says_league says_games (yes-no_file answer is) (yes-no_fault answer is) given in
          (shown.0, shown-yes league shown.0 games answer shown.2 is);
      better = λ is.
          let shown : IsShownBy league limits may_stop games answer =
          proved-goes store instance solution first second league games (IsShownWith None limits may_stop) answer first_known second_known
          says_league says_games (better-no_file answer is) (better-no_fault answer is) given in
          shown-better league shown.0 games answer shown.2 is;
      spent = λ is.
          let shown : IsShownBy league limits may_stop games answer =
          proved-goes store instance solution first second league games (IsShownWith None limits may_stop) answer first_known second_known
          says_league says_games (spent-no_file answer is) (spent-no_fault answer is) given in
          (shown.0, shown-spent league shown.0 games answer shown.2 is);
    }
