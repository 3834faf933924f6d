use Rattle.std.proofs.Common.{ℕ, List, Option, subst, sym}
use Rattle.robin_io.specs.Outside.{Store, store_between}
use Rattle.robin_io.proofs.StoreLemmas.{rest-between}
use Rattle.league.specs.Counts.{counts_of}
use Rattle.encoding.specs.Variables.{var_count}
use Rattle.answers.specs.SeenReply.{answer_of}
use Rattle.answers.specs.Stages.{Outcome}
use Rattle.answers.specs.declared.refusal.Refusal.{Refusal}
use Rattle.answers.proofs.StageLemmas.{Answers-wider}
use Rattle.command_check.specs.Check.{LogPassesRoom}
use Rattle.resume.specs.Kept.{resume_rows}
use Rattle.command_resume.specs.Audited.{audited}
use Rattle.command_resume.specs.declared.season.Season.{Season}
use Rattle.command_resume.proofs.StageLemmas.{at_log, audited-within, plays-wider}
use Rattle.command_resume.proofs.audited.audit_file.Goals as goal

-- the log has the contents that it had before the other files were read
pub returns-in-Ok-clause-answer : goal.returns-in-Ok-clause-answer
returns-in-Ok-clause-answer g c =
    let whole : Store = store_between g.S.Shelf c.args.shelf.now c.audit_log.new.shelf in
    let rest : Store = store_between g.S.Shelf c.season_in.new.shelf c.audit_log.new.shelf in
    Answers-wider _ _
    (audited-within whole rest c.args.audit.limit c.args.instance.now c.args.solution.now c.args.audit.k c.args.log.now
    c.in-Ok.season c.in-Ok.ensures.season
    (rest-between g.S.Shelf c.args.shelf.now c.season_in.new.shelf c.audit_log.new.shelf c.in-Ok.season.bytes
    c.season_in.ensures.contents c.in-Ok.ensures.count c.season_in.ensures.later))
    c.audit_log.result c.audit_log.ensures.answer

pub returns-in-Ok-clause-full : goal.returns-in-Ok-clause-full
returns-in-Ok-clause-full g c = λ is.
    let said = c.in-Ok.ensures.season in
    let season : Season = c.in-Ok.season in
    record {
      first = said.first;
      second = said.second;
      first_file = said.first_file;
      second_file = said.second_file;
      league = season.league;
      played = season.played;
      says_league = said.says_league;
      says_played = said.says_played;
      passes =
          subst
          (λ (slots : ℕ).
          LogPassesRoom (g.S.Shelf.contents c.args.shelf.now c.args.log.now)
          (resume_rows season.league (counts_of season.played) slots) (var_count season.league) c.args.audit.limit)
          said.slots_are
          (subst
          (λ (known : Option (List ℕ)).
          LogPassesRoom known (resume_rows season.league (counts_of season.played) season.slots) (var_count season.league)
          c.args.audit.limit)
          (c.season_in.ensures.contents c.args.log.now) (c.audit_log.ensures.full is));
    }

-- the first two files are refused
pub returns-in-Err-Refused-clause-answer : goal.returns-in-Err-Refused-clause-answer
returns-in-Err-Refused-clause-answer g c =
    let store : Store = store_between g.S.Shelf c.args.shelf.now c.season_in.new.shelf in
    let never : Season → Outcome = λ season answer. ⊥ in
    let whole : Outcome =
    audited store c.args.audit.limit c.args.instance.now c.args.solution.now c.args.audit.k c.args.log.now in
    let season = rw c.in-Err-Refused.field-0-is at c.in-Err-Refused.ensures.season in
    let refused : whole (answer_of c.in-Err-Refused.refusal.reply) =
    plays-wider store c.args.instance.now c.args.solution.now c.args.audit.k never
    (at_log store c.args.audit.limit c.args.log.now c.args.audit.k) (answer_of c.in-Err-Refused.refusal.reply)
    (λ season none. absurd none) season in
    subst (λ (refusal : Refusal). whole (answer_of refusal.reply)) (sym c.in-Err-Refused.refusal-is) refused
