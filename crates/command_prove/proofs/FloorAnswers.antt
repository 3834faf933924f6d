-- What follows from an answer of `prove` to a floor that is asked for.
use Rattle.std.proofs.Common.{◌≡◌, ◌⊎◌, ℕ, List, Option, Some, Ok, inl, inr}
use Rattle.robin_io.specs.Outside.{Store}
use Rattle.league.specs.Instance.{Instance}
use Rattle.league.specs.declared.game.Game.{Game}
use Rattle.robinx.specs.Pieces.{pieces}
use Rattle.robinx.specs.InstanceFile.{instance_of}
use Rattle.robinx.specs.SolutionFile.{solution_of}
use Rattle.answers.specs.Reply.{Answer}
use Rattle.answers.specs.declared.status.Status.TheVariants.{Yes, No, Spent, Better}
use Rattle.command_prove.specs.Floor.{IsFloorShown, IsFloorShownBy, IsMissed, IsReached, IsShownWith, IsUndercut}
use Rattle.command_prove.specs.Prove.{proved}
use Rattle.command_prove.proofs.ProveAnswers.{other, proved-goes, yes-no_file, yes-no_fault, better-no_file}
use Rattle.command_prove.proofs.ProveAnswers.{better-no_fault, spent-no_file, spent-no_fault}

-- ---- statuses

floor-yes : (league : Instance) (asked : ℕ) (conflicts : Option ℕ) (games : List Game) (answer : Answer)
    → IsFloorShown league asked conflicts games answer → answer.status ≡ Yes → IsReached league asked games answer
floor-yes league asked conflicts games answer (inl h) is = let same : No ≡ Yes = other No Yes answer h.status is in cc
floor-yes league asked conflicts games answer (inr (inl h)) is = h
floor-yes league asked conflicts games answer (inr (inr (inl h))) is =
    let same : Better ≡ Yes = other Better Yes answer h.0.status is in cc
floor-yes league asked conflicts games answer (inr (inr (inr h))) is =
    let same : Spent ≡ Yes = other Spent Yes answer h.status is in cc

floor-better : (league : Instance) (asked : ℕ) (conflicts : Option ℕ) (games : List Game) (answer : Answer)
    → IsFloorShown league asked conflicts games answer → answer.status ≡ Better
    → IsUndercut league asked games answer
floor-better league asked conflicts games answer (inl h) is =
    let same : No ≡ Better = other No Better answer h.status is in cc
floor-better league asked conflicts games answer (inr (inl h)) is =
    let same : Yes ≡ Better = other Yes Better answer h.status is in cc
floor-better league asked conflicts games answer (inr (inr (inl h))) is = h
floor-better league asked conflicts games answer (inr (inr (inr h))) is =
    let same : Spent ≡ Better = other Spent Better answer h.status is in cc

-- what is left of four cases
fourth : {A B C D : Type 0} → A ⊎ (B ⊎ (C ⊎ D)) → (A → ⊥) → (B → ⊥) → (C → ⊥) → D
fourth (inl h) a b c = absurd (a h)
fourth (inr (inl h)) a b c = absurd (b h)
fourth (inr (inr (inl h))) a b c = absurd (c h)
fourth (inr (inr (inr h))) a b c = h

floor-spent : (league : Instance) (asked : ℕ) (conflicts : Option ℕ) (games : List Game) (answer : Answer)
    → IsFloorShown league asked conflicts games answer → answer.status ≡ Spent
    → IsMissed league asked conflicts games answer
floor-spent league asked conflicts games answer shown is =
    fourth shown
    (λ h. let same : No ≡ Spent = other No Spent answer h.status is in cc)
    (λ h. let same : Yes ≡ Spent = other Yes Spent answer h.status is in cc)
    (λ h. let same : Better ≡ Spent = other Better Spent answer h.0.status is in cc)

-- ---- files that are known

-- what an answer says by its status: where it is yes, no schedule costs less than a floor that is high enough; where it
-- is a better schedule, that costs less than was asked for; where the budget is spent, none costs less than another floor
pub record FloorShowsAs (league : Instance) (asked : ℕ) (games : List Game) (answer : Answer) : Type 0 where
  pub reached : answer.status ≡ Yes → IsReached league asked games answer
  pub undercut : answer.status ≡ Better → IsUndercut league asked games answer
  pub missed : answer.status ≡ Spent → (conflicts : Option ℕ) × IsMissed league asked conflicts games answer

pub floor-known : (store : Store)
    (instance solution first second : List ℕ) (league : Instance) (games : List Game) (asked : ℕ)
    (limits : Option ℕ → Type 0) (may_stop : Type 0) (answer : Answer) → store.contents instance ≡ Some first
    → store.contents solution ≡ Some second → instance_of (pieces first) ≡ Ok league
    → solution_of league.n (pieces second) ≡ Ok games
    → proved store instance solution (IsShownWith (Some asked) limits may_stop) answer
    → FloorShowsAs league asked games answer
floor-known store instance solution first second league games asked limits may_stop answer first_known second_known
    says_league says_games given = record {
      reached = λ is.
          let shown : IsFloorShownBy league asked limits games answer =
          proved-goes store instance solution first second league games (IsShownWith (Some asked) limits may_stop) answer
          first_known second_known says_league says_games (yes-no_file answer is) (yes-no_fault answer is) given in
          floor-yes league asked shown.0 games answer shown.2 is;
      undercut = λ is.
          let shown : IsFloorShownBy league asked limits games answer =
          proved-goes store instance solution first second league games (IsShownWith (Some asked) limits may_stop) answer
          first_known second_known says_league says_games (better-no_file answer is) (better-no_fault answer is) given in
          floor-better league asked shown.0 games answer shown.2 is;
      missed = λ is.
          let shown : IsFloorShownBy league asked limits games answer =
          proved-goes store instance solution first second league games (IsShownWith (Some asked) limits may_stop) answer
          first_known second_known says_league says_games (spent-no_file answer is) (spent-no_fault answer is) given in
          (shown.0, floor-spent league asked shown.0 games answer shown.2 is);
    }
