-- What `solve` answers from a season that is given: how its stages make it, and what follows of it.
use Rattle.std.proofs.Common.{◌∷◌, [], ◌≡◌, ℕ, ◌+◌, ◌≤◌, true, List, length, Option, None, Some, Result, Ok, Err}
use Rattle.std.proofs.Common.{codes, ap, inl, inr, sym, subst, ◌∙◌}
use Rattle.std.specs.Prelude.{IfSome}
use Rattle.robin_io.specs.Outside.{Store}
use Rattle.league.specs.Accepted.{IsAccepted, objective}
use Rattle.league.specs.Counts.{counts_of}
use Rattle.league.specs.Instance.{Instance, IsTeamCount}
use Rattle.league.specs.Structure.{IsRoundRobin}
use Rattle.league.specs.declared.game.Game.{Game}
use Rattle.circle_method.specs.Circle.{double_games}
use Rattle.robinx.specs.Pieces.{pieces}
use Rattle.robinx.specs.InstanceFile.{instance_of}
use Rattle.robinx.specs.SolutionFile.{solution_of}
use Rattle.robinx.specs.Walk.{Fault}
use Rattle.robinx.specs.declared.instance.TheConstants.{INSTANCE_LIMIT, SOLUTION_LIMIT}
use Rattle.answers.specs.Reply.{Answer}
use Rattle.answers.specs.SeenReply.{answer_of}
use Rattle.answers.specs.declared.reply.Reply.{Reply}
use Rattle.answers.specs.Stages.{IsFile, IsUnread, NoneFails, Outcome, says, takes}
use Rattle.answers.specs.declared.status.Status.{Status}
use Rattle.answers.specs.declared.status.Status.TheVariants.{Yes, No, File, ReadFault, Refuted, Spent}
use Rattle.answers.proofs.StageLemmas.{first-works, says-known, says-value, second-works, takes-known, takes-refuted, takes-yes}
use Rattle.robin_watch.specs.declared.budgets.Budgets.{Budgets}
use Rattle.encoding.specs.Limit.{most_terms}
use Rattle.encoding.specs.Encoding.{encoding_size, rows_of}
use Rattle.decoding.specs.Excluded.{NoneAccepted}
use Rattle.command_check.specs.Check.{encodes}
use Rattle.command_check.proofs.AnswerLemmas.{encodes-small}
use Rattle.command_check.specs.Validate.{IsWellFormedPair}
use Rattle.command_solve.specs.From.{IsBegun, IsFoundFrom, IsNoStart, IsWellFormedStart, begun}
use Rattle.command_solve.specs.Written.{IsWritten}
use Rattle.venue_counts.specs.VenueCounts.{are_crowded, are_short}
use Rattle.break_counts.specs.BreakCounts.{are_few}
use Rattle.solve.specs.Solutions.{CostsAtMost, HasSchedule, IsRefuted, IsSolutionBy}
use Rattle.solve.specs.declared.solved.Solved.{Solved}
use Rattle.command_solve.proofs.SolveAnswers.{found-refuted, found_by-unlimited, says-unspent, takes-unspent}
use Rattle.command_solve.proofs.SolveFound.{written-found, written-within}

-- ---- stages

-- the stages behind the league, where the instance file had so many bytes
abbrev start_stages : Store → List ℕ → Budgets → Type 0 → ℕ → Instance → Outcome
start_stages store solution budgets may_stop front league =
    takes (codes "solution") (store.contents solution) SOLUTION_LIMIT (store.took_more (front + SOLUTION_LIMIT))
    (store.failed solution)
    (λ bytes. says (codes "solution") (solution_of league.n (pieces bytes)) (IsBegun league budgets may_stop))

-- the instance file is read and says a league: what comes then is the answer
after-league : (store : Store) (instance solution : List ℕ) (budgets : Budgets) (may_stop : Type 0) (first : List ℕ) (league : Instance)
    → IsFile (store.contents instance) INSTANCE_LIMIT first → instance_of (pieces first) ≡ Ok league → (answer : Answer)
    → start_stages store solution budgets may_stop (length first) league answer → begun store instance solution budgets may_stop answer
after-league store instance solution budgets may_stop first league is_first says_league answer rest =
    inl (
      first,
      is_first,
      says-value (codes "instance") (instance_of (pieces first)) league
          (start_stages store solution budgets may_stop (length first)) answer says_league rest,
    )

-- the solution isn't read
pub begun-unread : (store : Store) (instance solution : List ℕ) (budgets : Budgets) (may_stop : Type 0) (first : List ℕ)
    (league : Instance) → IsFile (store.contents instance) INSTANCE_LIMIT first
    → instance_of (pieces first) ≡ Ok league → (answer : Answer)
    → IsUnread (codes "solution") (store.contents solution) SOLUTION_LIMIT (store.took_more (length first + SOLUTION_LIMIT))
    (store.failed solution) answer → begun store instance solution budgets may_stop answer
begun-unread store instance solution budgets may_stop first league is_first says_league answer unread =
    after-league store instance solution budgets may_stop first league is_first says_league answer (inr unread)

-- the solution is read: the rest is the answer to what it says
pub begun-last : (store : Store) (instance solution : List ℕ) (budgets : Budgets) (may_stop : Type 0) (first second : List ℕ)
    (league : Instance) → IsFile (store.contents instance) INSTANCE_LIMIT first
    → instance_of (pieces first) ≡ Ok league → IsFile (store.contents solution) SOLUTION_LIMIT second
    → (answer : Answer) → says (codes "solution") (solution_of league.n (pieces second)) (IsBegun league budgets may_stop) answer
    → begun store instance solution budgets may_stop answer
begun-last store instance solution budgets may_stop first second league is_first says_league is_second answer last =
    after-league store instance solution budgets may_stop first league is_first says_league answer (inl (second, is_second, last))

-- ---- a start

-- what is found from a start is what is found of its league, and costs no more than the start
pub found-answered : (league : Instance) (budgets : Budgets) (may_stop : Type 0) (start : List Game) (solved : Solved)
    (reply : Reply) → encoding_size league ≤ most_terms → IsTeamCount league.n
    → IsSolutionBy league budgets may_stop solved
    → (IsAccepted league (counts_of start) → CostsAtMost (objective league (counts_of start)) solved)
    → (IsAccepted league (counts_of (double_games league.n)) → HasSchedule solved)
    → (are_short league ≡ true → IsRefuted solved) → (are_crowded league ≡ true → IsRefuted solved)
    → (are_few league ≡ true → IsRefuted solved) → IsWritten league solved (answer_of reply)
    → encodes league (IsFoundFrom league start budgets may_stop) (answer_of reply)
found-answered league budgets may_stop start solved reply small teams by costs circle short crowded few written = inl (
  small,
  record {
    found = record {
      kept = by.kept;
      are_kept = by.are_kept;
      is_found = written-found league by.kept may_stop solved (answer_of reply) teams by.solution circle short crowded
          few written;
    };
    no_worse = λ accepted.
        written-within league by.kept may_stop (objective league (counts_of start)) solved (answer_of reply) teams
        by.solution (costs accepted) written;
  },
)

-- ---- what follows from an answer

other : (a b : Status) (answer : Answer) → answer.status ≡ a → answer.status ≡ b → a ≡ b
other a b answer first second = sym first ∙ second

begun-small : (league : Instance) (budgets : Budgets) (may_stop : Type 0) (start : List Game) (answer : Answer)
    → IsRoundRobin league.n league.phased (counts_of start) → encoding_size league ≤ most_terms
    → IsBegun league budgets may_stop start answer → IsFoundFrom league start budgets may_stop (rows_of league) answer
begun-small league budgets may_stop start answer round_robin small (inl h) = absurd (h.no_round_robin round_robin)
begun-small league budgets may_stop start answer round_robin small (inr h) =
    encodes-small league (IsFoundFrom league start budgets may_stop) answer small h.1

-- two well-formed files at which nothing fails: the answer is what their season begins
begun-known : (store : Store) (instance solution : List ℕ) (budgets : Budgets) (may_stop : Type 0) (league : Instance) (start : List Game)
    (answer : Answer) → IsWellFormedPair store instance solution league start
    → NoneFails store (instance ∷ solution ∷ []) → begun store instance solution budgets may_stop answer
    → IsBegun league budgets may_stop start answer
begun-known store instance solution budgets may_stop league start answer pair works given =
    let at_league : start_stages store solution budgets may_stop (length pair.first) league answer =
    says-known (codes "instance") (instance_of (pieces pair.first)) league
    (start_stages store solution budgets may_stop (length pair.first)) answer pair.says_league
    (takes-known (codes "instance") (store.contents instance) INSTANCE_LIMIT (store.took_more INSTANCE_LIMIT)
    (store.failed instance)
    (λ bytes. says (codes "instance") (instance_of (pieces bytes)) (start_stages store solution budgets may_stop (length bytes)))
    answer pair.first pair.first_known pair.first_within (first-works store instance (solution ∷ []) works) given) in
    says-known (codes "solution") (solution_of league.n (pieces pair.second)) start (IsBegun league budgets may_stop) answer
    pair.says_games
    (takes-known (codes "solution") (store.contents solution) SOLUTION_LIMIT
    (store.took_more (length pair.first + SOLUTION_LIMIT)) (store.failed solution)
    (λ bytes. says (codes "solution") (solution_of league.n (pieces bytes)) (IsBegun league budgets may_stop)) answer pair.second
    pair.second_known pair.second_within (second-works store instance solution [] works) at_league)

-- a well-formed start at which nothing fails: the answer is what is found from it
pub begun-well_formed : (store : Store) (instance solution : List ℕ) (budgets : Budgets) (may_stop : Type 0) (league : Instance)
    (start : List Game) (answer : Answer) → IsWellFormedStart store instance solution league start
    → NoneFails store (instance ∷ solution ∷ []) → begun store instance solution budgets may_stop answer
    → IsFoundFrom league start budgets may_stop (rows_of league) answer
begun-well_formed store instance solution budgets may_stop league start answer good works given =
    begun-small league budgets may_stop start answer good.round_robin good.small
    (begun-known store instance solution budgets may_stop league start answer good.pair works given)

judged-none : (league : Instance) (budgets : Budgets) (may_stop : Type 0) (start : List Game) (answer : Answer)
    → (IsRoundRobin league.n league.phased (counts_of start) → ⊥) → IsBegun league budgets may_stop start answer
    → IsNoStart league start answer
judged-none league budgets may_stop start answer none (inl h) = h
judged-none league budgets may_stop start answer none (inr h) = absurd (none h.0)

-- a season that is no start, and nothing fails: it is judged
pub begun-judged : (store : Store) (instance solution : List ℕ) (budgets : Budgets) (may_stop : Type 0) (league : Instance)
    (start : List Game) (answer : Answer) → IsWellFormedPair store instance solution league start
    → (IsRoundRobin league.n league.phased (counts_of start) → ⊥) → NoneFails store (instance ∷ solution ∷ [])
    → begun store instance solution budgets may_stop answer → IsNoStart league start answer
begun-judged store instance solution budgets may_stop league start answer pair none works given =
    judged-none league budgets may_stop start answer none
    (begun-known store instance solution budgets may_stop league start answer pair works given)

found-yes : (league : Instance) (budgets : Budgets) (may_stop : Type 0) (start : List Game) (answer : Answer) → answer.status ≡ Yes
    → encodes league (IsFoundFrom league start budgets may_stop) answer → IsFoundFrom league start budgets may_stop (rows_of league) answer
found-yes league budgets may_stop start answer ended (inl h) = h.1
found-yes league budgets may_stop start answer ended (inr h) =
    let same : File ≡ Yes = other File Yes answer (ap (λ (a : Answer). a.status) h.1) ended in absurd (cc)

begun-found : (league : Instance) (budgets : Budgets) (may_stop : Type 0) (start : List Game) (answer : Answer) → answer.status ≡ Yes
    → IsBegun league budgets may_stop start answer → IsFoundFrom league start budgets may_stop (rows_of league) answer
begun-found league budgets may_stop start answer ended (inl h) =
    let same : No ≡ Yes = other No Yes answer h.status ended in absurd (cc)
begun-found league budgets may_stop start answer ended (inr h) = found-yes league budgets may_stop start answer ended h.1

-- a file that is known, where the answer is yes
read-yes : (which : List ℕ) (known : Option (List ℕ)) (limit : ℕ) (long failed : Type 0) (next : List ℕ → Outcome)
    (answer : Answer) (file : List ℕ) → known ≡ Some file → answer.status ≡ Yes
    → takes which known limit long failed next answer → next file answer
read-yes which known limit long failed next answer file is ended given =
    let read = takes-yes which known limit long failed next answer ended given in
    let same : read.0 ≡ file = subst (λ (k : Option (List ℕ)). IfSome k (λ bytes. read.0 ≡ bytes)) is read.1.same in
    subst (λ (b : List ℕ). next b answer) same read.2

-- files that are known, where the answer is yes: it is what is found from the season of the second
pub begun-yes : (store : Store) (instance solution first second : List ℕ) (budgets : Budgets) (may_stop : Type 0) (league : Instance)
    (start : List Game) (answer : Answer) → store.contents instance ≡ Some first
    → store.contents solution ≡ Some second → instance_of (pieces first) ≡ Ok league
    → solution_of league.n (pieces second) ≡ Ok start → answer.status ≡ Yes
    → begun store instance solution budgets may_stop answer → IsFoundFrom league start budgets may_stop (rows_of league) answer
begun-yes store instance solution first second budgets may_stop league start answer first_known second_known says_league
    says_start ended given =
    let at_league : start_stages store solution budgets may_stop (length first) league answer =
    says-known (codes "instance") (instance_of (pieces first)) league
    (start_stages store solution budgets may_stop (length first)) answer says_league
    (read-yes (codes "instance") (store.contents instance) INSTANCE_LIMIT (store.took_more INSTANCE_LIMIT)
    (store.failed instance)
    (λ bytes. says (codes "instance") (instance_of (pieces bytes)) (start_stages store solution budgets may_stop (length bytes)))
    answer first first_known ended given) in
    begun-found league budgets may_stop start answer ended
    (says-known (codes "solution") (solution_of league.n (pieces second)) start (IsBegun league budgets may_stop) answer says_start
    (read-yes (codes "solution") (store.contents solution) SOLUTION_LIMIT
    (store.took_more (length first + SOLUTION_LIMIT)) (store.failed solution)
    (λ bytes. says (codes "solution") (solution_of league.n (pieces bytes)) (IsBegun league budgets may_stop)) answer second
    second_known ended at_league))

-- ---- refutations

encoded-refuted : (league : Instance) (budgets : Budgets) (may_stop : Type 0) (start : List Game) (answer : Answer)
    → answer.status ≡ Refuted → encodes league (IsFoundFrom league start budgets may_stop) answer → NoneAccepted league
encoded-refuted league budgets may_stop start answer ended (inl h) =
    found-refuted league h.1.found.kept may_stop (rows_of league) answer ended h.1.found.is_found
encoded-refuted league budgets may_stop start answer ended (inr h) =
    let same : File ≡ Refuted = other File Refuted answer (ap (λ (a : Answer). a.status) h.1) ended in absurd (cc)

said-refuted : (league : Instance) (budgets : Budgets) (may_stop : Type 0) (said : Result (List Game) Fault) (answer : Answer)
    → answer.status ≡ Refuted → says (codes "solution") said (IsBegun league budgets may_stop) answer → NoneAccepted league
said-refuted league budgets may_stop (Ok start) answer ended (inl h) =
    let same : No ≡ Refuted = other No Refuted answer h.status ended in absurd (cc)
said-refuted league budgets may_stop (Ok start) answer ended (inr h) = encoded-refuted league budgets may_stop start answer ended h.1
said-refuted league budgets may_stop (Err fault) answer ended is =
    let same : File ≡ Refuted = other File Refuted answer (ap (λ (a : Answer). a.status) is) ended in absurd (cc)

staged-refuted : (store : Store) (solution : List ℕ) (budgets : Budgets) (may_stop : Type 0) (front : ℕ) (league : Instance)
    (answer : Answer) → answer.status ≡ Refuted → start_stages store solution budgets may_stop front league answer
    → NoneAccepted league
staged-refuted store solution budgets may_stop front league answer ended (inl read) =
    said-refuted league budgets may_stop (solution_of league.n (pieces read.0)) answer ended read.2
staged-refuted store solution budgets may_stop front league answer ended (inr (inl h)) =
    let same : File ≡ Refuted = other File Refuted answer (ap (λ (a : Answer). a.status) h.2) ended in absurd (cc)
staged-refuted store solution budgets may_stop front league answer ended (inr (inr h)) =
    let same : ReadFault ≡ Refuted = other ReadFault Refuted answer (ap (λ (a : Answer). a.status) h.1) ended in absurd (cc)

-- where the answer is a refutation, the league of the instance file accepts no list of games
pub begun-refuted : (store : Store) (instance solution bytes : List ℕ) (budgets : Budgets) (may_stop : Type 0) (league : Instance)
    (answer : Answer) → store.contents instance ≡ Some bytes → instance_of (pieces bytes) ≡ Ok league
    → answer.status ≡ Refuted → begun store instance solution budgets may_stop answer → NoneAccepted league
begun-refuted store instance solution bytes budgets may_stop league answer known says_league ended given =
    staged-refuted store solution budgets may_stop (length bytes) league answer ended
    (says-known (codes "instance") (instance_of (pieces bytes)) league
    (start_stages store solution budgets may_stop (length bytes)) answer says_league
    (takes-refuted (codes "instance") (store.contents instance) INSTANCE_LIMIT (store.took_more INSTANCE_LIMIT)
    (store.failed instance)
    (λ first. says (codes "instance") (instance_of (pieces first)) (start_stages store solution budgets may_stop (length first)))
    answer bytes known ended given))

-- ---- where nothing may stop the run

encoded-unlimited : (league : Instance) (budgets : Budgets) (may_stop : Type 0) (start : List Game) (answer : Answer)
    → budgets.conflicts ≡ None → (may_stop → ⊥) → encodes league (IsFoundFrom league start budgets may_stop) answer
    → answer.status ≡ Spent → ⊥
encoded-unlimited league budgets may_stop start answer none never (inl h) ended =
    found_by-unlimited league budgets may_stop (rows_of league) answer none never h.1.found ended
encoded-unlimited league budgets may_stop start answer none never (inr h) ended =
    let same : File ≡ Spent = other File Spent answer (ap (λ (a : Answer). a.status) h.1) ended in cc

started-unlimited : (league : Instance) (budgets : Budgets) (may_stop : Type 0) (start : List Game) (answer : Answer)
    → budgets.conflicts ≡ None → (may_stop → ⊥) → IsBegun league budgets may_stop start answer
    → answer.status ≡ Spent → ⊥
started-unlimited league budgets may_stop start answer none never (inl h) ended =
    let same : No ≡ Spent = other No Spent answer h.status ended in cc
started-unlimited league budgets may_stop start answer none never (inr h) ended =
    encoded-unlimited league budgets may_stop start answer none never h.1 ended

-- without a budget of conflicts no answer is a budget that is spent
pub begun-unlimited : (store : Store) (instance solution : List ℕ) (budgets : Budgets) (may_stop : Type 0)
    (answer : Answer) → budgets.conflicts ≡ None → (may_stop → ⊥)
    → begun store instance solution budgets may_stop answer → answer.status ≡ Spent → ⊥
begun-unlimited store instance solution budgets may_stop answer none never =
    takes-unspent (codes "instance") (store.contents instance) INSTANCE_LIMIT (store.took_more INSTANCE_LIMIT)
    (store.failed instance)
    (λ first. says (codes "instance") (instance_of (pieces first)) (start_stages store solution budgets may_stop (length first)))
    answer
    (λ first.
    says-unspent (codes "instance") (instance_of (pieces first))
    (start_stages store solution budgets may_stop (length first)) answer
    (λ league.
    takes-unspent (codes "solution") (store.contents solution) SOLUTION_LIMIT
    (store.took_more (length first + SOLUTION_LIMIT)) (store.failed solution)
    (λ second. says (codes "solution") (solution_of league.n (pieces second)) (IsBegun league budgets may_stop)) answer
    (λ second.
    says-unspent (codes "solution") (solution_of league.n (pieces second)) (IsBegun league budgets may_stop) answer
    (λ start. started-unlimited league budgets may_stop start answer none never))))
