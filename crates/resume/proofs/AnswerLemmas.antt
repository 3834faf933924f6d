-- What the old plan, and what a search finds, say of a league whose first slots are played.
use Rattle.std.proofs.Common.{◌≡◌, ℕ, ◌≤◌, Bool, true, false, not, List, Option, nat_lt, refl, ap, sym, subst, ◌∙◌}
use Rattle.std.specs.Prelude.{IsTrue}
use Rattle.std.proofs.lemmas.List.Elements.{All-weaker}
use Rattle.std.proofs.lemmas.List.Sorted.{All-permutation}
use Rattle.std.specs.List.{All}
use Rattle.std.specs.List.Sorted.{IsPermutation}
use Rattle.league.specs.Accepted.{IsAccepted}
use Rattle.league.specs.Accepted as costs
use Rattle.league.specs.Counts.{Counts, counts_of, slot_count}
use Rattle.league.specs.Instance.{Instance, IsGame, IsInstance}
use Rattle.league.specs.Order.{IsInOrder}
use Rattle.league.specs.declared.game.Game.{Game}
use Rattle.league.proofs.CountLemmas.{counts_of-permutation}
use Rattle.rows.specs.Rows.{Row}
use Rattle.rows.specs.Values.{assigned}
use Rattle.rows.proofs.TestLemmas.{SatisfiesAll-from_true, all_satisfied-true}
use Rattle.encoding.specs.Encoding.{rows_of}
use Rattle.encoding.specs.Known.{AreKnown, IsKnown}
use Rattle.encoding.specs.Variables.{var_count}
use Rattle.decoding.proofs.DecodeLemmas.{in_order}
use Rattle.decoding.proofs.SeasonRows.{both_satisfied}
use Rattle.refutation.specs.Steps.{Step}
use Rattle.refutation_check.specs.Within.{AreWithin, IsWithin}
use Rattle.clause_search.specs.Answers.{IsAnswer, IsSpentAt, Refutes}
use Rattle.clause_search.specs.declared.found.Found.{Found}
use Rattle.clause_search.specs.declared.found.Found.TheVariants as found
use Rattle.resume.specs.Kept.{kept_rows, resume_rows}
use Rattle.resume.specs.Resumable.{IsResumption}
use Rattle.resume.proofs.Faithful.{accepted_logs_exclude, resumption-from_rows}
use Rattle.decoding.proofs.GameLemmas.{decoded_fit}
use Rattle.resume.specs.Answers.{IsResumed, IsResumedSeason}
use Rattle.resume.specs.Found.{MeetsLeague, Tells}
use Rattle.resume.specs.declared.resumed.Resumed.{Resumed}
use Rattle.resume.specs.declared.resumed.Resumed.TheVariants.{Schedule, Refuted, Spent}

-- ---- the old plan

pub plan_resumes : (league : Instance) (played games : List Game) (cost : ℕ) → IsAccepted league (counts_of played)
    → All (IsGame league.n) played → IsPermutation played games → IsInOrder games
    → cost ≡ costs.objective league (counts_of played) → (k : ℕ) → IsResumedSeason league played k games cost
plan_resumes league played games cost accepted fit same order is k =
    let counts : counts_of games ≡ counts_of played = counts_of-permutation played games same in
    record {
      resumes = record {
        accepted = subst (λ (m : Counts). IsAccepted league m) (sym counts) accepted;
        keeps = λ i j s slot. ap (λ (m : Counts). nat_lt 0 (m i j s)) counts;
      };
      fit = All-permutation (IsGame league.n) played games same fit;
      in_order = order;
      cost = is ∙ ap (λ (m : Counts). costs.objective league m) (sym counts);
    }

-- ---- what a search finds

-- values that satisfy the resume rows satisfy the league's
pub meets_league : (league : Instance) (played : Counts) (k : ℕ) (limit : Option ℕ) (answer : Found)
    → IsAnswer (resume_rows league played k) (var_count league) limit answer → MeetsLeague league answer
meets_league league played k limit (found.Sat values) is = (
  is.0,
  SatisfiesAll-from_true (assigned values) (rows_of league)
      (both_satisfied (assigned values) (rows_of league) (kept_rows league.n played k)
      (all_satisfied-true (assigned values) (resume_rows league played k) is.1)).0,
)
meets_league league played k limit (found.Refuted log) is = tt
meets_league league played k limit (found.Spent log) is = tt

pub told_resumed : (league : Instance) (played : List Game) (k : ℕ) (limit : Option ℕ) (answer : Found)
    (resumed : Resumed) → IsInstance league → All (IsGame league.n) played → k ≤ slot_count league.n
    → IsAnswer (resume_rows league (counts_of played) k) (var_count league) limit answer
    → Tells league answer resumed → IsResumed league played k limit resumed
told_resumed league played k limit (found.Sat values) (Schedule games cost) is fit season answer told =
    record {
      resumes = subst (λ (gs : List Game). IsResumption league (counts_of played) k gs) (sym told.0)
          (resumption-from_rows league played k (assigned values) is fit season answer.1);
      fit = subst (λ (gs : List Game). All (IsGame league.n) gs) (sym told.0) (decoded_fit league.n (assigned values));
      in_order = in_order league.n (assigned values) games told.0;
      cost = told.1;
    }
told_resumed league played k limit (found.Sat values) (Refuted log) is fit season answer told = absurd told
told_resumed league played k limit (found.Sat values) (Spent log) is fit season answer told = absurd told
told_resumed league played k limit (found.Refuted log) (Schedule games cost) is fit season answer told = absurd told
told_resumed league played k limit (found.Refuted log) (Refuted shown) is fit season answer told =
    let refutes : Refutes (resume_rows league (counts_of played) k) (var_count league) limit shown =
    subst (λ (steps : List Step). Refutes (resume_rows league (counts_of played) k) (var_count league) limit steps)
    (sym told) answer in
    record {
      refutes = refutes;
      none = accepted_logs_exclude league played k shown is season refutes.accepted;
    }
told_resumed league played k limit (found.Refuted log) (Spent shown) is fit season answer told = absurd told
told_resumed league played k limit (found.Spent log) (Schedule games cost) is fit season answer told = absurd told
told_resumed league played k limit (found.Spent log) (Refuted shown) is fit season answer told = absurd told
told_resumed league played k limit (found.Spent log) (Spent shown) is fit season answer told =
    subst (λ (steps : List Step). IsSpentAt (resume_rows league (counts_of played) k) (var_count league) limit steps)
    (sym told) answer

-- ---- rows within the variables

pub within-from_known : (vars : ℕ) (rows : List Row) → AreKnown vars rows → AreWithin vars rows
within-from_known vars rows known =
    All-weaker (IsKnown vars) (IsWithin vars) (λ row is k d within. (is k d within).1) rows known

-- ---- what a test says

pub passed : (b : Bool) → not b ≡ false → IsTrue b
passed true is = refl
passed false is = cc
