-- What is found near the old plan, answered.
use Rattle.std.proofs.Common.{◌≡◌, ℕ, ◌≤◌, Bool, true, false, List, [], ◌∷◌, ◌++◌, length, decimal, codes}
use Rattle.std.proofs.Common.{Option, Some, Result, Ok, Err, ap, inl, inr, refl, subst, sym, ◌∙◌, append_assoc}
use Rattle.std.specs.Prelude.{◌⊎◌, IfOk}
use Rattle.std.specs.List.{All, flat_map, list_all}
use Rattle.std.proofs.lemmas.Bool.{and_from}
use Rattle.league.specs.Accepted.{IsAccepted}
use Rattle.league.specs.Accepted as costs
use Rattle.league.specs.Counts.{counts_of}
use Rattle.league.specs.Instance.{Instance, IsGame, IsTeamCount}
use Rattle.league.specs.declared.game.Game.{Game}
use Rattle.robinx.specs.Pieces.{pieces}
use Rattle.robinx.specs.SolutionFile.{solution_of}
use Rattle.robinx.specs.Texts.{solution_text}
use Rattle.robinx.proofs.CommentLemmas.{comment_line, is_plain_comment, is_plain_comment-decimal}
use Rattle.robinx.proofs.SolutionLemmas.{solution-reads_back_commented}
use Rattle.solve.proofs.FewLemmas.{round_robin-few}
use Rattle.answers.specs.Reply.{Answer}
use Rattle.answers.specs.SeenReply.{answer_of}
use Rattle.answers.specs.declared.reply.Reply.{Reply}
use Rattle.answers.specs.declared.status.Status.TheVariants.{Yes, Refuted, Spent}
use Rattle.refutation.specs.Logs.{log_of}
use Rattle.refutation.specs.Steps.{Step}
use Rattle.refutation.specs.Texts.{log_text}
use Rattle.break_counts.specs.BreakCounts.{are_few}
use Rattle.resume.specs.Nearing.{IsNearest}
use Rattle.resume.specs.Answers.{IsPlan, IsResumed, IsResumedSeason}
use Rattle.resume.specs.Near.{IsNearestAnswer, IsOpenNear, IsSettledNear, changed, open_games}
use Rattle.resume.specs.declared.near.Neared.{Neared}
use Rattle.resume.specs.declared.resumed.Resumed.{Resumed}
use Rattle.resume.specs.declared.resumed.Resumed.TheVariants as variants
use Rattle.resume.proofs.NearLemmas.{none-changed}
use Rattle.command_resume.specs.Near.{IsNear, IsNearBy, near_line}
use Rattle.command_resume.specs.NearWritten.{IsWritten}

-- ---- the comment is passed over

-- how the comment ends
abbrev end_of : Bool → List ℕ
end_of true = codes " settled=yes "
end_of false = codes " settled=no "

abbrev near_body : ℕ → ℕ → Bool → List ℕ
near_body changes games settled =
    codes " changed=" ++ (decimal changes ++ (codes " of=" ++ (decimal games ++ end_of settled)))

near-comment : (changes games : ℕ) (settled : Bool)
    → near_line changes games settled ≡ flat_map comment_line (near_body changes games settled ∷ [])
near-comment changes games true = simp append_assoc
near-comment changes games false = simp append_assoc

plain-end : (settled : Bool) → is_plain_comment (end_of settled) ≡ true
plain-end true = refl
plain-end false = refl

near-plain : (changes games : ℕ) (settled : Bool)
    → list_all is_plain_comment (near_body changes games settled ∷ []) ≡ true
near-plain changes games settled =
    let end : List ℕ = decimal games ++ end_of settled in
    and_from (is_plain_comment (near_body changes games settled)) true
    (is_plain_comment-decimal changes (codes " of=" ++ end)
    (is_plain_comment-decimal games (end_of settled) (plain-end settled)))
    refl

near-reads_back : (n : ℕ) (games : List Game) (cost changes all : ℕ) (settled : Bool) → n ≤ 40 → length games ≤ 10000
    → All (IsGame n) games
    → solution_of n (pieces (solution_text games (Some (0, cost)) ++ near_line changes all settled)) ≡ Ok games
near-reads_back n games cost changes all settled size few fit =
    ap (λ (comments : List ℕ). solution_of n (pieces (solution_text games (Some (0, cost)) ++ comments)))
    (near-comment changes all settled)
    ∙ solution-reads_back_commented n games (Some (0, cost)) (near_body changes all settled ∷ []) size few fit
    (near-plain changes all settled)

-- ---- what is found, as it is written

near-season : (league : Instance) (played : List Game) (k : ℕ) (conflicts : Option ℕ) (may_stop : Type 0)
    (games : List Game) (cost : ℕ) (settled : Bool) (answer : Answer) → IsTeamCount league.n
    → IsResumedSeason league played k games cost → (settled ≡ true → IsNearest league k played (counts_of games))
    → (settled ≡ false → may_stop ⊎ (IsNearest league k played (counts_of games) → ⊥))
    → (IsAccepted league (counts_of played) → counts_of games ≡ counts_of played) → answer.status ≡ Yes
    → answer.text ≡ solution_text games (Some (0, cost)) ++ near_line (changed k played games) (open_games k played) settled
    → IsNear league played k conflicts may_stop answer
near-season league played k conflicts may_stop games cost settled answer teams season nearest unsettled plan status text =
    let line : List ℕ = near_line (changed k played games) (open_games k played) settled in
    let told : answer.text ≡ solution_text games (Some (0, costs.objective league (counts_of games))) ++ line =
    text ∙ ap (λ (c : ℕ). solution_text games (Some (0, c)) ++ line) season.cost in
    record {
      found = inl (record {
        games = games;
        settled = settled;
        season = record {
          resumes = season.resumes;
          fit = season.fit;
          in_order = season.in_order;
          cost = refl;
        };
        nearest = nearest;
        open_yet = unsettled;
        status = status;
        text = told;
        reads_back = ap (λ (written : List ℕ). solution_of league.n (pieces written)) text
            ∙ near-reads_back league.n games cost (changed k played games) (open_games k played) settled teams.at_most
            (round_robin-few league.n league.phased games teams season.fit season.resumes.accepted.round_robin) season.fit;
      });
      plan = λ accepted. record {
        games = games;
        settled = settled;
        same = plan accepted;
        in_order = season.in_order;
        status = status;
        text = told
            ∙ ap
            (λ (c : ℕ). solution_text games (Some (0, costs.objective league (counts_of games)))
            ++ near_line c (open_games k played) settled)
            (none-changed k played games (plan accepted));
      };
    }

near-is : (league : Instance) (played : List Game) (k : ℕ) (conflicts : Option ℕ) (may_stop : Type 0)
    (resumed : Resumed) (settled : Bool) (answer : Answer) → IsTeamCount league.n
    → IsResumed league played k conflicts resumed → (settled ≡ true → IsNearestAnswer league k played resumed)
    → (settled ≡ false → may_stop ⊎ (IsNearestAnswer league k played resumed → ⊥))
    → (IsAccepted league (counts_of played) → IsPlan played resumed) → IsWritten played k settled resumed answer
    → IsNear league played k conflicts may_stop answer
near-is league played k conflicts may_stop (variants.Schedule games cost) settled answer teams is nearest unsettled plan written =
    near-season league played k conflicts may_stop games cost settled answer teams is nearest unsettled plan written.0 written.1
near-is league played k conflicts may_stop (variants.Refuted log) settled answer teams is nearest unsettled plan written = record {
  found = inr (inl (record {
    steps = log;
    refutes = is;
    status = written.0;
    text = written.1;
    reads_back = written.2;
  }));
  plan = λ accepted. absurd (plan accepted);
}
near-is league played k conflicts may_stop (variants.Spent log) settled answer teams is nearest unsettled plan written = record {
  found = inr (inr (record {
    steps = log;
    spent = is;
    status = written.0;
    text = written.1;
    reads_back = written.2;
  }));
  plan = λ accepted. absurd (plan accepted);
}

-- ---- replies, unless memory ran out

pub replied-season : {E : Type 0} (played : List Game) (k : ℕ) (settled : Bool) (resumed : Resumed) (games : List Game)
    (cost : ℕ) (result : Result Reply E) → resumed ≡ variants.Schedule games cost
    → IfOk result (λ reply. (answer_of reply).status ≡ Yes)
    → IfOk result (λ reply. (answer_of reply).text
    ≡ solution_text games (Some (0, cost)) ++ near_line (changed k played games) (open_games k played) settled)
    → IfOk result (λ reply. IsWritten played k settled resumed (answer_of reply))
replied-season {E} played k settled resumed games cost (Ok reply) is status text =
    subst (λ (one : Resumed). IsWritten played k settled one (answer_of reply)) (sym is) (status, text)
replied-season {E} played k settled resumed games cost (Err error) is status text = tt

pub replied-refuted : {E : Type 0} (played : List Game) (k : ℕ) (settled : Bool) (resumed : Resumed) (log : List Step)
    (result : Result Reply E) → resumed ≡ variants.Refuted log
    → IfOk result (λ reply. (answer_of reply).status ≡ Refuted)
    → IfOk result (λ reply. (answer_of reply).text ≡ log_text log)
    → IfOk result (λ reply. log_of (answer_of reply).text ≡ Ok log)
    → IfOk result (λ reply. IsWritten played k settled resumed (answer_of reply))
replied-refuted {E} played k settled resumed log (Ok reply) is status text reads_back =
    subst (λ (one : Resumed). IsWritten played k settled one (answer_of reply)) (sym is) (status, text, reads_back)
replied-refuted {E} played k settled resumed log (Err error) is status text reads_back = tt

pub replied-spent : {E : Type 0} (played : List Game) (k : ℕ) (settled : Bool) (resumed : Resumed) (log : List Step)
    (result : Result Reply E) → resumed ≡ variants.Spent log
    → IfOk result (λ reply. (answer_of reply).status ≡ Spent)
    → IfOk result (λ reply. (answer_of reply).text ≡ log_text log)
    → IfOk result (λ reply. log_of (answer_of reply).text ≡ Ok log)
    → IfOk result (λ reply. IsWritten played k settled resumed (answer_of reply))
replied-spent {E} played k settled resumed log (Ok reply) is status text reads_back =
    subst (λ (one : Resumed). IsWritten played k settled one (answer_of reply)) (sym is) (status, text, reads_back)
replied-spent {E} played k settled resumed log (Err error) is status text reads_back = tt

-- a reply within the limit to which the search kept, of a league that allows its teams enough breaks
pub near-by : {E : Type 0} (league : Instance) (played : List Game) (k : ℕ) (limits : Option ℕ → Type 0)
    (may_stop : Type 0) (near : Neared) (result : Result Reply E) (conflicts : Option ℕ) → IsTeamCount league.n
    → are_few league ≡ false → limits conflicts → IsResumed league played k conflicts near.answer → IsSettledNear league k played near
    → IsOpenNear league k played may_stop near → (IsAccepted league (counts_of played) → IsPlan played near.answer)
    → IfOk result (λ reply. IsWritten played k near.settled near.answer (answer_of reply))
    → IfOk result (λ reply. IsNearBy league played k limits may_stop (answer_of reply))
near-by {E} league played k limits may_stop near (Ok reply) conflicts teams enough kept is settled unsettled plan
    written =
    inr (
      enough,
      (
        conflicts,
        kept,
        near-is league played k conflicts may_stop near.answer near.settled (answer_of reply) teams is settled unsettled
            plan written,
      ),
    )
near-by {E} league played k limits may_stop near (Err error) conflicts teams enough kept is settled unsettled plan
    written =
    tt
