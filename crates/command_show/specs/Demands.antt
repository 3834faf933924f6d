-- What `show` answers of a league alone: in words what its constraints demand, a line each.
use Rattle.std.specs.Prelude.{◌≡◌, ℕ, zero, suc, Bool, true, false, if◌then◌else◌, List, [], ◌++◌, length, codes}
use Rattle.std.specs.Prelude.{decimal, Option, Some, None, slice_get, unwrap_or}
use Rattle.std.specs.Bool.{beq}
use Rattle.std.specs.List.{find, flat_map, range_with_len}
use Rattle.std.specs.Option.{is_none}
use Rattle.robin_io.specs.Outside.{Store}
use Rattle.robinx.specs.Pieces.{pieces}
use Rattle.league.specs.Instance.{Instance}
use Rattle.league.specs.declared.class.Constraint.{Constraint}
use Rattle.robinx.specs.InstanceFile.{instance_of}
use Rattle.robinx.specs.declared.instance.TheConstants.{INSTANCE_LIMIT}
use Rattle.robinx.specs.Names.{Names}
use Rattle.robinx.specs.NamesFile.{names_of}
use Rattle.season_misses.specs.Demands.{constraint_text}
use Rattle.answers.specs.Reply.{Answer}
use Rattle.answers.specs.Stages.{◌>>=◌, Outcome, reads, says}
use Rattle.answers.specs.declared.status.Status.TheVariants.{Yes, File}
use Rattle.command_show.specs.Show.{labels_of}

-- the constraint with a number: in file order they have the numbers 1, 2, ..
abbrev pub constraint_numbered : List Constraint → ℕ → Option Constraint
constraint_numbered constraints zero = None
constraint_numbered constraints (suc k) = slice_get constraints k

-- the line of a constraint with its number, where it is hard, or where it is soft
abbrev pub demand_line : ℕ → List (List ℕ) → Bool → ℕ → Option Constraint → List ℕ
demand_line n labels hard number None = []
demand_line n labels hard number (Some c) =
    if beq c.hard hard then constraint_text n labels number c ++ codes "\n" else []

-- the same by the number alone
abbrev pub demand_at : Instance → List (List ℕ) → Bool → ℕ → List ℕ
demand_at league labels hard number =
    demand_line league.n labels hard number (constraint_numbered league.constraints number)

-- the lines of the constraints with these numbers: the hard ones, and then the soft ones
abbrev pub demands_text : Instance → List (List ℕ) → List ℕ → List ℕ
demands_text league labels numbers =
    flat_map (demand_at league labels true) numbers ++ flat_map (demand_at league labels false) numbers

-- the numbers of a list, or those of all constraints
abbrev pub numbers_asked : Instance → Option (List ℕ) → List ℕ
numbers_asked league asked = unwrap_or asked (range_with_len 1 (length league.constraints))

-- whether no constraint has a number, and the first such of some numbers
abbrev pub is_absent : Instance → ℕ → Bool
is_absent league number = is_none (constraint_numbered league.constraints number)

abbrev pub first_absent : Instance → List ℕ → Option ℕ
first_absent league numbers = find (is_absent league) numbers

-- no constraint has this number
abbrev pub absent_constraint : ℕ → Answer
absent_constraint k = record {
  status = File;
  text = codes "refused constraint " ++ (decimal k ++ codes " Unknown\n");
}

-- the answer to some numbers: the lines, or the first number that no constraint has
abbrev pub demands_answer : Instance → List (List ℕ) → List ℕ → Option ℕ → Answer
demands_answer league labels numbers None = record { status = Yes; text = demands_text league labels numbers }
demands_answer league labels numbers (Some k) = absent_constraint k

-- the answer to the numbers that are asked for, of a league with its names
abbrev pub AreDemands : Instance → Option (List ℕ) → Names → Answer → Type 0
AreDemands league asked names answer =
    answer ≡ demands_answer league (labels_of league.n names) (numbers_asked league asked)
    (first_absent league (numbers_asked league asked))

-- `show --demands`, over what a store shows
abbrev pub demanded : Store → List ℕ → Option (List ℕ) → Outcome
demanded store instance asked = do
  bytes ← reads store (codes "instance") instance INSTANCE_LIMIT 0
  league ← says (codes "instance") (instance_of (pieces bytes))
  names ← says (codes "instance") (names_of league.n (pieces bytes))
  AreDemands league asked names
