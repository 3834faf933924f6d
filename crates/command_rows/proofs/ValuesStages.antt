-- How the stages of `values` make an answer.
use Rattle.std.proofs.Common.{◌≡◌, ℕ, ◌+◌, ◌<◌, ◌≤◌, List, length, Bool, Option, Result, Ok, codes, inl, inr, sym, subst}
use Rattle.robin_io.specs.Outside.{Store}
use Rattle.league.specs.Instance.{Instance}
use Rattle.robinx.specs.Pieces.{pieces}
use Rattle.robinx.specs.InstanceFile.{instance_of}
use Rattle.robinx.specs.declared.instance.TheConstants.{INSTANCE_LIMIT}
use Rattle.answers.specs.Reply.{Answer, too_large}
use Rattle.answers.specs.Stages.{IsFile, IsUnread, takes}
use Rattle.answers.proofs.StageLemmas.{says-value}
use Rattle.command_check.specs.Check.{encodes, most_log_bytes}
use Rattle.encoding.specs.Limit.{most_terms}
use Rattle.rows.specs.Literals.{Literal}
use Rattle.encoding.specs.Encoding.{encoding_size, rows_of}
use Rattle.opb_forms.specs.Values.{values_of}
use Rattle.command_rows.specs.Valued.{IsValued, found_of, says_values, valued}

-- the stages behind the instance file, whose bytes were so many
abbrev pub values_stages : Store → List ℕ → ℕ → Instance → Answer → Type 0
values_stages store values front league =
    encodes league (λ rows. takes (codes "values") (store.contents values) most_log_bytes
    (store.took_more (front + most_log_bytes)) (store.failed values)
    (λ bytes. says_values (values_of bytes) (IsValued league rows)))

-- the instance file is read and says a league: what comes then is the answer
after-league : (store : Store) (instance values first : List ℕ) (league : Instance)
    → IsFile (store.contents instance) INSTANCE_LIMIT first → instance_of (pieces first) ≡ Ok league → (answer : Answer)
    → values_stages store values (length first) league answer → valued store instance values answer
after-league store instance values first league is_first says_league answer rest =
    inl (
      first,
      is_first,
      says-value (codes "instance") (instance_of (pieces first)) league
          (values_stages store values (length first)) answer says_league rest,
    )

-- the league's rows have too many terms
pub valued-large : (store : Store) (instance values first : List ℕ) (league : Instance)
    → IsFile (store.contents instance) INSTANCE_LIMIT first → instance_of (pieces first) ≡ Ok league → (answer : Answer)
    → (most_terms < encoding_size league) × (answer ≡ too_large (encoding_size league))
    → valued store instance values answer
valued-large store instance values first league is_first says_league answer large =
    after-league store instance values first league is_first says_league answer (inr large)

-- the file of values isn't read
pub valued-unread : (store : Store) (instance values first : List ℕ) (league : Instance)
    → IsFile (store.contents instance) INSTANCE_LIMIT first → instance_of (pieces first) ≡ Ok league
    → encoding_size league ≤ most_terms → (answer : Answer)
    → IsUnread (codes "values") (store.contents values) most_log_bytes
    (store.took_more (length first + most_log_bytes)) (store.failed values) answer
    → valued store instance values answer
valued-unread store instance values first league is_first says_league small answer unread =
    after-league store instance values first league is_first says_league answer (inl (small, inr unread))

-- the file of values is read: the rest is the answer to what it says
pub valued-last : (store : Store) (instance values first second : List ℕ) (league : Instance)
    → IsFile (store.contents instance) INSTANCE_LIMIT first → instance_of (pieces first) ≡ Ok league
    → encoding_size league ≤ most_terms → IsFile (store.contents values) most_log_bytes second → (answer : Answer)
    → says_values (values_of second) (IsValued league (rows_of league)) answer → valued store instance values answer
valued-last store instance values first second league is_first says_league small is_second answer last =
    after-league store instance values first league is_first says_league answer
    (inl (small, inl (second, is_second, last)))

-- ---- what is found

-- of a first row that is missed, or of none
pub found-given : (league : Instance) (values : ℕ → Bool) (missed found : Option ℕ) (answer : Answer) → found ≡ missed
    → found_of league values found answer → found_of league values missed answer
found-given league values missed found answer is given =
    subst (λ (o : Option ℕ). found_of league values o answer) is given

pub values-said : (league : Instance) (said : Result (List Literal) ℕ) (lits : List Literal) (answer : Answer)
    → said ≡ Ok lits → IsValued league (rows_of league) lits answer
    → says_values said (IsValued league (rows_of league)) answer
values-said league said lits answer is given =
    subst (λ (r : Result (List Literal) ℕ). says_values r (IsValued league (rows_of league)) answer) (sym is) given
