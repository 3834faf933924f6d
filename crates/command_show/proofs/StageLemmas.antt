-- How the stages of `show` make an answer.
use Rattle.std.proofs.Common.{◌≡◌, ℕ, ◌+◌, List, length, Result, Ok, codes, inl, inr, subst, sym}
use Rattle.robin_io.specs.Outside.{Store}
use Rattle.league.specs.Instance.{Instance}
use Rattle.robinx.specs.Pieces.{pieces}
use Rattle.robinx.specs.InstanceFile.{instance_of}
use Rattle.robinx.specs.SolutionFile.{solution_of}
use Rattle.robinx.specs.Names.{Names}
use Rattle.robinx.specs.NamesFile.{names_of}
use Rattle.robinx.specs.declared.instance.TheConstants.{INSTANCE_LIMIT, SOLUTION_LIMIT}
use Rattle.robinx.specs.Walk.{Fault}
use Rattle.answers.specs.Reply.{Answer}
use Rattle.answers.specs.SeenReply.{IsMalformed}
use Rattle.answers.specs.Stages.{IsFile, IsUnread, Outcome, says, takes}
use Rattle.answers.proofs.StageLemmas.{says-value}
use Rattle.command_show.specs.Show.{IsShown, form_text, shown}
use Rattle.command_show.specs.declared.form.Form.{Form}

-- the stages behind the solution file, behind the names, and behind the league
abbrev pub shown_from : Form → Instance → Names → List ℕ → Outcome
shown_from form league names second =
    says (codes "solution") (solution_of league.n (pieces second)) (IsShown league (form_text form league names))

abbrev pub read_from : Store → List ℕ → Form → List ℕ → Instance → Names → Outcome
read_from store solution form first league names =
    takes (codes "solution") (store.contents solution) SOLUTION_LIMIT (store.took_more (length first + SOLUTION_LIMIT))
    (store.failed solution) (shown_from form league names)

abbrev pub named_from : Store → List ℕ → Form → List ℕ → Instance → Outcome
named_from store solution form first league =
    says (codes "instance") (names_of league.n (pieces first)) (read_from store solution form first league)

-- the first file is read and says a league: what is answered at the names is the answer
pub after-league : (store : Store) (instance solution first : List ℕ) (form : Form) (league : Instance)
    → IsFile (store.contents instance) INSTANCE_LIMIT first → instance_of (pieces first) ≡ Ok league
    → (answer : Answer) → named_from store solution form first league answer → shown store instance solution form answer
after-league store instance solution first form league is_first says_league answer rest =
    inl (first, is_first, says-value (codes "instance") (instance_of (pieces first)) league (named_from store solution form first) answer says_league rest)

-- the names are known too: what is answered at the second file is the answer
pub after-names : (store : Store) (instance solution first : List ℕ) (form : Form) (league : Instance) (names : Names)
    → IsFile (store.contents instance) INSTANCE_LIMIT first → instance_of (pieces first) ≡ Ok league
    → names_of league.n (pieces first) ≡ Ok names
    → (answer : Answer) → read_from store solution form first league names answer
    → shown store instance solution form answer
after-names store instance solution first form league names is_first says_league says_names answer rest =
    after-league store instance solution first form league is_first says_league answer
    (says-value (codes "instance") (names_of league.n (pieces first)) names (read_from store solution form first league) answer says_names rest)

-- the second file isn't read
pub shown-unread : (store : Store) (instance solution first : List ℕ) (form : Form) (league : Instance) (names : Names)
    → IsFile (store.contents instance) INSTANCE_LIMIT first → instance_of (pieces first) ≡ Ok league
    → names_of league.n (pieces first) ≡ Ok names
    → (answer : Answer)
    → IsUnread (codes "solution") (store.contents solution) SOLUTION_LIMIT (store.took_more (length first + SOLUTION_LIMIT)) (store.failed solution) answer
    → shown store instance solution form answer
shown-unread store instance solution first form league names is_first says_league says_names answer unread =
    after-names store instance solution first form league names is_first says_league says_names answer (inr unread)

-- both files are read, and the first says a league with its names: the rest is the answer to the second
pub shown-last : (store : Store) (instance solution first second : List ℕ) (form : Form) (league : Instance) (names : Names)
    → IsFile (store.contents instance) INSTANCE_LIMIT first → instance_of (pieces first) ≡ Ok league
    → names_of league.n (pieces first) ≡ Ok names
    → IsFile (store.contents solution) SOLUTION_LIMIT second
    → (answer : Answer) → shown_from form league names second answer → shown store instance solution form answer
shown-last store instance solution first second form league names is_first says_league says_names is_second answer last =
    after-names store instance solution first form league names is_first says_league says_names answer (inl (second, is_second, last))

-- the names have a fault
pub shown-nameless : (store : Store) (instance solution first : List ℕ) (form : Form) (league : Instance)
    → IsFile (store.contents instance) INSTANCE_LIMIT first → instance_of (pieces first) ≡ Ok league
    → (answer : Answer) → IsMalformed (codes "instance") (names_of league.n (pieces first)) answer
    → shown store instance solution form answer
shown-nameless store instance solution first form league is_first says_league answer faulty =
    after-league store instance solution first form league is_first says_league answer
    (subst (λ (said : Result Names Fault). says (codes "instance") said (read_from store solution form first league) answer) (sym faulty.1) faulty.2)
