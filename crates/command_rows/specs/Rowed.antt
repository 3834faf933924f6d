-- What `rows` answers: the rows of a league as a text in OPB.
use Rattle.std.specs.Prelude.{◌≡◌, ℕ, List, codes, map, Option, Some, None, Ok}
use Rattle.robin_io.specs.Outside.{Store}
use Rattle.league.specs.Instance.{Instance}
use Rattle.robinx.specs.Pieces.{pieces}
use Rattle.robinx.specs.InstanceFile.{instance_of}
use Rattle.robinx.specs.declared.instance.TheConstants.{INSTANCE_LIMIT}
use Rattle.answers.specs.Reply.{Answer}
use Rattle.answers.specs.Stages.{◌>>=◌, Outcome, reads, says}
use Rattle.answers.specs.declared.status.Status.TheVariants.{Yes}
use Rattle.command_check.specs.Check.{encodes}
use Rattle.command_line.specs.declared.goal.Goal.{Goal}
use Rattle.command_line.specs.declared.goal.Goal.TheVariants.{Accepted, AtMost, Least}
use Rattle.rows.specs.Literals.{negate}
use Rattle.rows.specs.declared.lit.Term.{Term}
use Rattle.encoding.specs.Encoding.{rows_of}
use Rattle.encoding.specs.Variables.{var_count}
use Rattle.bound_rows.specs.BoundRows.{bound_rows, bound_vars, first_unit, league_groups}
use Rattle.bound_rows.specs.Softening.{costs}
use Rattle.command_prove.specs.Bound.{has_few_terms}
use Rattle.opb_forms.specs.Systems.{System}
use Rattle.opb_forms.specs.Texts.{opb_text}

-- the rows of a league's encoding
abbrev pub league_system : Instance → System
league_system league = record { vars = var_count league; least = None; rows = rows_of league }

-- the bound rows of a league and a bound
abbrev pub bound_system : Instance → ℕ → System
bound_system league bound =
    record { vars = bound_vars league; least = None; rows = bound_rows league bound }

-- a literal with its coefficient, negated
abbrev pub turned : Term → Term
turned t = record { coef = t.coef; lit = negate t.lit }

-- the unit variables of a league with what each costs: the objective row has their negations
abbrev pub prices : Instance → List Term
prices league = map turned (costs (first_unit league) (league_groups league))

-- the greatest bound that words can say, 2^64 - 1: with it the objective row demands nothing
abbrev pub greatest_bound : ℕ
greatest_bound = 18446744073709551615

-- what a season costs as a sum that is to be least, over the bound rows without a bound, each of which keeps its number
abbrev pub least_system : Instance → System
least_system league =
    record { vars = bound_vars league; least = Some (prices league); rows = bound_rows league greatest_bound }

-- the rows that ask for a season
abbrev pub system_of : Goal → Instance → System
system_of Accepted league = league_system league
system_of (AtMost bound) league = bound_system league bound
system_of Least league = least_system league

-- the text that says them
abbrev pub rows_answer : System → Answer
rows_answer system = record { status = Yes; text = opb_text system }

-- the rows of a league that ask for a season, unless they have too many terms
abbrev pub league_rows : Goal → Instance → Outcome
league_rows Accepted league = encodes league >>= λ rows answer. answer ≡ rows_answer (system_of Accepted league)
league_rows (AtMost bound) league =
    has_few_terms league >>= λ few answer. answer ≡ rows_answer (system_of (AtMost bound) league)
league_rows Least league = has_few_terms league >>= λ few answer. answer ≡ rows_answer (system_of Least league)

-- `rows`, over what a store shows
abbrev pub rowed : Store → List ℕ → Goal → Outcome
rowed store instance goal = do
  bytes ← reads store (codes "instance") instance INSTANCE_LIMIT 0
  league ← says (codes "instance") (instance_of (pieces bytes))
  league_rows goal league

-- these rows are those that ask for a season of the league that a file's contents say, where they are known
abbrev pub AreRowsOf : Option (List ℕ) → Goal → System → Type 0
AreRowsOf contents goal system =
    (bytes : List ℕ) (league : Instance) → contents ≡ Some bytes → instance_of (pieces bytes) ≡ Ok league
    → system ≡ system_of goal league
