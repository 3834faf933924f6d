-- What `rows` and `values` promise is kept.
use Rattle.std.proofs.Common.{◌∷◌, [], ◌≡◌, ℕ, ◌+◌, List, length, Option, Some, None, arith, Bool, Result, Ok, Err, codes, ap, inl}
use Rattle.std.proofs.Common.{inr, ◌≤◌, sym, subst, ◌∙◌}
use Rattle.std.specs.Io.KnownBytes.{Appends}
use Rattle.std.specs.Prelude.{IfSome}
use Rattle.robin_io.specs.Outside.{Output, Store}
use Rattle.robinx.specs.Pieces.{pieces}
use Rattle.robinx.specs.InstanceFile.{instance_of}
use Rattle.robinx.specs.declared.instance.TheConstants.{INSTANCE_LIMIT}
use Rattle.league.specs.Instance.{Instance}
use Rattle.command_line.specs.Words.Command.{Rows, Values}
use Rattle.command_line.specs.declared.goal.Goal.{Goal}
use Rattle.command_line.specs.declared.goal.Goal.TheVariants.{Accepted, AtMost, Least}
use Rattle.rows.specs.Literals.{Literal}
use Rattle.rows.specs.Rows.{Row}
use Rattle.rows.specs.Values.{assigned}
use Rattle.answers.specs.Reply.{Answer}
use Rattle.answers.specs.Stages.{NoneFails, Outcome, says, takes}
use Rattle.answers.specs.declared.status.Status.TheVariants.{Yes, No, File}
use Rattle.answers.proofs.StageLemmas.{first-works, says-known, second-works, takes-known, takes-yes}
use Rattle.encoding.specs.Encoding.{encoding_size, rows_of}
use Rattle.encoding.specs.Limit.{most_terms}
use Rattle.command_check.specs.Check.{encodes, most_log_bytes}
use Rattle.command_solve.specs.Solve.{IsWellFormedInstance}
use Rattle.encoding.specs.Shadow.{decoded}
use Rattle.opb_forms.specs.Texts.{opb_text}
use Rattle.command_rows.specs.Rowed.{league_rows, rows_answer, system_of}
use Rattle.opb_forms.specs.Values.{values_of}
use Rattle.command_rows.specs.Valued.{IsSeason, IsValued, found_of, missed_from, says_values, valued}
use Rattle.robin_run.specs.Rows.{WritesRows}
use Rattle.robin_run.specs.Run.{Answered, Run}
use Rattle.robin_run.specs.Values.{IsAcceptedSeason, JudgesValues, SaysLiterals}
use Rattle.robin_run.proofs.RunLemmas.{writes, writes-as}

-- ---- the league

-- the stages behind the instance file
abbrev league_from : (List ℕ → Instance → Outcome) → List ℕ → Outcome
league_from next bytes = says (codes "instance") (instance_of (pieces bytes)) (next bytes)

-- where the file says a league and nothing fails, the stages behind it give the answer
league-known : (store : Store) (instance : List ℕ) (bytes : List ℕ) (league : Instance)
    (next : List ℕ → Instance → Outcome) (answer : Answer) → store.contents instance ≡ Some bytes
    → length bytes ≤ INSTANCE_LIMIT → instance_of (pieces bytes) ≡ Ok league → (store.failed instance → ⊥)
    → takes (codes "instance") (store.contents instance) INSTANCE_LIMIT (store.took_more INSTANCE_LIMIT)
    (store.failed instance) (league_from next) answer
    → next bytes league answer
league-known store instance bytes league next answer known within says_league works given =
    says-known (codes "instance") (instance_of (pieces bytes)) league (next bytes) answer says_league
    (takes-known (codes "instance") (store.contents instance) INSTANCE_LIMIT (store.took_more INSTANCE_LIMIT)
    (store.failed instance) (league_from next) answer bytes known within works given)

-- where the answer is a yes, they give it too
league-yes : (store : Store) (instance : List ℕ) (bytes : List ℕ) (league : Instance)
    (next : List ℕ → Instance → Outcome) (answer : Answer) → store.contents instance ≡ Some bytes
    → instance_of (pieces bytes) ≡ Ok league → answer.status ≡ Yes
    → takes (codes "instance") (store.contents instance) INSTANCE_LIMIT (store.took_more INSTANCE_LIMIT)
    (store.failed instance) (league_from next) answer
    → next bytes league answer
league-yes store instance bytes league next answer known says_league ended given =
    let read = takes-yes (codes "instance") (store.contents instance) INSTANCE_LIMIT (store.took_more INSTANCE_LIMIT)
    (store.failed instance) (league_from next) answer ended given in
    let same : read.0 ≡ bytes = subst (λ (k : Option (List ℕ)). IfSome k (λ file. read.0 ≡ file)) known read.1.same in
    says-known (codes "instance") (instance_of (pieces bytes)) league (next bytes) answer says_league
    (subst (λ (b : List ℕ). league_from next b answer) same read.2)

-- ---- `rows`

rows-yes : (league : Instance) (goal : Goal) (answer : Answer) → answer.status ≡ Yes
    → league_rows goal league answer → answer ≡ rows_answer (system_of goal league)
rows-yes league Accepted answer ended (inl h) = h.1
rows-yes league Accepted answer ended (inr h) =
    let same : File ≡ Yes = sym (ap (λ (a : Answer). a.status) h.1) ∙ ended in absurd (cc)
rows-yes league (AtMost bound) answer ended (inl h) = h.1
rows-yes league (AtMost bound) answer ended (inr h) =
    let same : File ≡ Yes = sym (ap (λ (a : Answer). a.status) h.1) ∙ ended in absurd (cc)
rows-yes league Least answer ended (inl h) = h.1
rows-yes league Least answer ended (inr h) =
    let same : File ≡ Yes = sym (ap (λ (a : Answer). a.status) h.1) ∙ ended in absurd (cc)

pub writes-rows : (run : Run) → Answered run → WritesRows run
writes-rows run answered instance goal is = record {
  rowed = λ league said within works.
      writes run (instance ∷ []) (Rows instance goal) (league_rows goal league) answered is works
      (λ answer given. league-known run.store instance said.bytes league (λ bytes. league_rows goal) answer said.known
      within said.says_league (first-works run.store instance [] works.store) given);
  whole = λ league said ended.
      let whole = writes-as run (Rows instance goal) Yes answered is ended (λ same. cc) (λ same. cc) in
      let text : whole.answer.text ≡ opb_text (system_of goal league) =
      ap (λ (a : Answer). a.text)
      (rows-yes league goal whole.answer whole.status_is
      (league-yes run.store instance said.bytes league (λ bytes. league_rows goal) whole.answer said.known
      said.says_league whole.status_is whole.given)) in
      subst (λ (t : List ℕ). Appends run.output.before run.output.after t) text whole.written;
}

-- ---- `values`

-- the stages behind the file of values, and behind the instance file
abbrev said_by : Instance → List Row → List ℕ → Outcome
said_by league rows bytes = says_values (values_of bytes) (IsValued league rows)

abbrev values_from : Store → List ℕ → ℕ → Instance → List Row → Outcome
values_from store values front league rows =
    takes (codes "values") (store.contents values) most_log_bytes (store.took_more (front + most_log_bytes))
    (store.failed values) (said_by league rows)

abbrev judged_from : Store → List ℕ → List ℕ → Instance → Outcome
judged_from store values first league = encodes league (values_from store values (length first) league)

small-rows : (league : Instance) (next : List Row → Outcome) (answer : Answer) → encoding_size league ≤ most_terms
    → encodes league next answer → next (rows_of league) answer
small-rows league next answer small (inl h) = h.1
small-rows league next answer small (inr h) = absurd (omega (arith, small, h.0))

yes-rows : (league : Instance) (next : List Row → Outcome) (answer : Answer) → answer.status ≡ Yes
    → encodes league next answer → next (rows_of league) answer
yes-rows league next answer ended (inl h) = h.1
yes-rows league next answer ended (inr h) =
    let same : File ≡ Yes = sym (ap (λ (a : Answer). a.status) h.1) ∙ ended in absurd (cc)

valued-known : (store : Store) (instance values : List ℕ) (league : Instance) (lits : List Literal) (answer : Answer)
    → IsWellFormedInstance store instance league → SaysLiterals store values lits
    → NoneFails store (instance ∷ values ∷ []) → valued store instance values answer
    → IsValued league (rows_of league) lits answer
valued-known store instance values league lits answer good said works given =
    subst (λ (r : Result (List Literal) ℕ). says_values r (IsValued league (rows_of league)) answer) said.says_lits
    (takes-known (codes "values") (store.contents values) most_log_bytes
    (store.took_more (length good.bytes + most_log_bytes)) (store.failed values) (said_by league (rows_of league)) answer
    said.bytes said.known said.within (second-works store instance values [] works)
    (small-rows league (values_from store values (length good.bytes) league) answer good.small
    (league-known store instance good.bytes league (judged_from store values) answer good.known good.within
    good.says_league (first-works store instance (values ∷ []) works) given)))

-- a yes to values is a season
found-yes : (league : Instance) (values : ℕ → Bool) (missed : Option ℕ) (answer : Answer) → answer.status ≡ Yes
    → found_of league values missed answer → IsSeason league values answer
found-yes league values None answer ended season = season
found-yes league values (Some k) answer ended is =
    let same : No ≡ Yes = sym (ap (λ (a : Answer). a.status) is) ∙ ended in absurd (cc)

season-written : (league : Instance) (values : ℕ → Bool) (answer : Answer) (output : Output)
    → Appends output.before output.after answer.text → IsSeason league values answer → IsAcceptedSeason league output
season-written league values answer output written season = record {
  games = decoded league.n values;
  accepted = season.accepted;
  written = subst (λ (t : List ℕ). Appends output.before output.after t) season.text written;
}

said-season : (league : Instance) (rows : List Row) (said : Result (List Literal) ℕ) (answer : Answer)
    (output : Output) → answer.status ≡ Yes → Appends output.before output.after answer.text
    → says_values said (IsValued league rows) answer → IsAcceptedSeason league output
said-season league rows (Ok lits) answer output ended written found =
    season-written league (assigned found.values) answer output written
    (found-yes league (assigned found.values) (missed_from 1 rows (assigned found.values)) answer ended found.found)
said-season league rows (Err line) answer output ended written is =
    let same : File ≡ Yes = sym (ap (λ (a : Answer). a.status) is) ∙ ended in absurd (cc)

valued-accepted : (store : Store) (instance values bytes : List ℕ) (league : Instance) (answer : Answer)
    (output : Output) → store.contents instance ≡ Some bytes → instance_of (pieces bytes) ≡ Ok league
    → answer.status ≡ Yes → Appends output.before output.after answer.text → valued store instance values answer
    → IsAcceptedSeason league output
valued-accepted store instance values bytes league answer output known says_league ended written given =
    let read = takes-yes (codes "values") (store.contents values) most_log_bytes
    (store.took_more (length bytes + most_log_bytes)) (store.failed values) (said_by league (rows_of league)) answer ended
    (yes-rows league (values_from store values (length bytes) league) answer ended
    (league-yes store instance bytes league (judged_from store values) answer known says_league ended given)) in
    said-season league (rows_of league) (values_of read.0) answer output ended written read.2

pub judges-values : (run : Run) → Answered run → JudgesValues run
judges-values run answered instance values is = record {
  valued = λ league lits good said works.
      writes run (instance ∷ values ∷ []) (Values instance values) (IsValued league (rows_of league) lits) answered is
      works
      (λ answer given. valued-known run.store instance values league lits answer good said works.store given);
  accepted = λ league said ended.
      let whole = writes-as run (Values instance values) Yes answered is ended (λ same. cc) (λ same. cc) in
      valued-accepted run.store instance values said.bytes league whole.answer run.output said.known said.says_league
      whole.status_is whole.written whole.given;
}
