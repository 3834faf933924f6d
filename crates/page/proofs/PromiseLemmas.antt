-- What a page may rely on holds, since the run was made and what is shown is its text.
use Rattle.std.proofs.Common.{◌≡◌, ◌≢◌, ◌<◌, ◌⊎◌, ℕ, List, [], ◌∷◌, Option, inl, inr, refl, sym, ap, ◌∙◌, arith}
use Rattle.command_line.specs.Words.{Command, reading}
use Rattle.answers.specs.Stages.{Outcome}
use Rattle.answers.specs.Status.{status_code}
use Rattle.answers.specs.declared.status.Status.{Status}
use Rattle.answers.specs.declared.status.Status.TheVariants.{Yes, No, Words, File, Refuted, Spent, ReadFault}
use Rattle.answers.specs.declared.status.Status.TheVariants.{WriteFault, Memory, Better}
use Rattle.command_check.specs.Validate.{IsJudgement}
use Rattle.page.specs.Files.{file_named}
use Rattle.page.specs.declared.files.Files.{Files}
use Rattle.robin_run.specs.Run.{Writes}
use Rattle.page.specs.Promises.{Promises, Shows}
use Rattle.page.specs.Ran.{run_over}
use Rattle.page.specs.Shown.{HasRun, IsAnswered, IsCut, IsShown, lines}

-- ---- statuses

yes-by-code : (ended : Status) → status_code ended ≡ 0 → ended ≡ Yes
yes-by-code Yes is = refl
yes-by-code No is = absurd (omega (arith, is))
yes-by-code Words is = absurd (omega (arith, is))
yes-by-code File is = absurd (omega (arith, is))
yes-by-code Refuted is = absurd (omega (arith, is))
yes-by-code Spent is = absurd (omega (arith, is))
yes-by-code ReadFault is = absurd (omega (arith, is))
yes-by-code WriteFault is = absurd (omega (arith, is))
yes-by-code Memory is = absurd (omega (arith, is))
yes-by-code Better is = absurd (omega (arith, is))

refuted-by-code : (ended : Status) → status_code ended ≡ 4 → ended ≡ Refuted
refuted-by-code Yes is = absurd (omega (arith, is))
refuted-by-code No is = absurd (omega (arith, is))
refuted-by-code Words is = absurd (omega (arith, is))
refuted-by-code File is = absurd (omega (arith, is))
refuted-by-code Refuted is = refl
refuted-by-code Spent is = absurd (omega (arith, is))
refuted-by-code ReadFault is = absurd (omega (arith, is))
refuted-by-code WriteFault is = absurd (omega (arith, is))
refuted-by-code Memory is = absurd (omega (arith, is))
refuted-by-code Better is = absurd (omega (arith, is))

-- with a status below 7 memory didn't run out
had-memory : (ended : Status) (status : ℕ) → status ≡ status_code ended → status < 7 → ended ≢ Memory
had-memory ended status is low memory =
    let eight : status ≡ 8 = is ∙ ap status_code memory in omega (arith, eight, low)

-- ---- what is shown

-- with a status below 7 the text is shown whole
whole : (ended : Status) (text : List ℕ) (faults status written : ℕ) (room : List ℕ)
    → IsShown ended text faults status written room ⊎ IsCut text faults status written room → status < 7
    → IsShown ended text faults status written room
whole ended text faults status written room (inl shown) low = shown
whole ended text faults status written room (inr cut) low =
    let seven : status ≡ 7 = cut.status_is in absurd (omega (arith, seven, low))

-- what the run wrote whole is shown
shows : (kind : Outcome) (words : List (List ℕ)) (files : Files) (taken : ℕ) (text : List ℕ) (faults : ℕ) (ended : Status)
    (status written : ℕ) (room : List ℕ)
    → Writes (run_over words files taken text faults ended) kind → IsShown ended text faults status written room
    → Shows kind status written room
shows kind words files taken text faults ended status written room writes shown = record {
  answer = writes.answer;
  of_kind = writes.of_kind;
  status_is = shown.status_is ∙ ap status_code writes.ended;
  text_is = shown.text_is ∙ writes.written;
}

-- ---- promises

-- a status that no run shows promises nothing
unshown : (command : Option Command) (files : Files) (status written : ℕ) (room : List ℕ) → 7 < status
    → Promises command files status written room
unshown command files status written room high = record {
  judged = λ instance solution league games is first says second tells low. absurd (omega (arith, high, low));
  refuted = λ instance log league is says yes. absurd (omega (arith, high, yes));
  unsolvable = λ instance budgets league is says none. absurd (omega (arith, high, none));
}

by-run : (words : List (List ℕ)) (files : Files) (status written : ℕ) (room : List ℕ)
    → HasRun words files status written room → Promises (reading words) files status written room
by-run words files status written room has = record {
  judged = λ instance solution league games is first says second tells low.
      let shown = whole has.ended has.text has.faults status written room has.shown low in
      let works = has.ran.works (had-memory has.ended status shown.status_is low) shown.whole (instance ∷ solution ∷ []) in
      let judged = (has.ran.promised.commands.validate instance solution is).judged league games
      (record {
        first = file_named files instance;
        second = file_named files solution;
        first_known = refl;
        second_known = refl;
        first_within = first;
        second_within = second;
        says_league = says;
        says_games = tells;
      }) works in
      shows (IsJudgement league games) words files has.ran.taken has.text has.faults has.ended status written room judged shown;
  refuted = λ instance log league is says yes.
      let shown = whole has.ended has.text has.faults status written room has.shown (omega (arith, yes)) in
      (has.ran.promised.commands.check instance log is).refuted league
      (record { bytes = file_named files instance; known = refl; says_league = says })
      (yes-by-code has.ended (sym shown.status_is ∙ yes));
  unsolvable = λ instance budgets league is says none.
      let shown = whole has.ended has.text has.faults status written room has.shown (omega (arith, none)) in
      (has.ran.promised.commands.solve instance budgets is).unsolvable league
      (record { bytes = file_named files instance; known = refl; says_league = says })
      (refuted-by-code has.ended (sym shown.status_is ∙ none));
}

pub promises : (words : List ℕ) (files : Files) (status written : ℕ) (room : List ℕ)
    → IsAnswered words files status written room → Promises (reading (lines words)) files status written room
promises words files status written room (inl unread) =
    let ten : status ≡ 10 = unread.0 in unshown (reading (lines words)) files status written room (omega (arith, ten))
promises words files status written room (inr (inl memory)) =
    let eight : status ≡ 8 = memory.0 in unshown (reading (lines words)) files status written room (omega (arith, eight))
promises words files status written room (inr (inr has)) = by-run (lines words) files status written room has
