-- Worked examples, so that a wrong reading of the words, or a wrong way of a text, does not check.
use Rattle.std.proofs.Common.{◌≡◌, [], ◌∷◌, None, true, false, refl}
use Rattle.std.specs.Prelude.{codes}
use Rattle.answers.specs.declared.status.Status.TheVariants as ends
use Rattle.command_line.specs.Topics.{topic_of}
use Rattle.answers.specs.Goes.{goes_to}
use Rattle.answers.specs.Input.{is_twice, named_from}
use Rattle.answers.specs.Own.{is_name, left_from, values_from}
use Rattle.answers.specs.declared.goes.Goes.TheVariants as goes
use Rattle.answers.specs.declared.input.Place.TheVariants.{Argument}
use Rattle.answers.specs.declared.own.Own.TheVariants as own

-- ---- where a text goes

-- a season, its refutation, and what was learnt
pub solve-found : goes_to (topic_of (codes "solve")) ends.Yes ≡ goes.Out
solve-found = refl

pub solve-refuted : goes_to (topic_of (codes "solve")) ends.Refuted ≡ goes.Log
solve-refuted = refl

pub solve-spent : goes_to (topic_of (codes "solve")) ends.Spent ≡ goes.Log
solve-spent = refl

-- the report on a start that is none is no season
pub solve-no : goes_to (topic_of (codes "solve")) ends.No ≡ goes.Shown
solve-no = refl

-- a report that a season isn't accepted is what `validate` is asked for
pub validate-no : goes_to (topic_of (codes "validate")) ends.No ≡ goes.Out
validate-no = refl

-- the row that values miss is no season
pub values-no : goes_to (topic_of (codes "values")) ends.No ≡ goes.Shown
values-no = refl

-- the conflict is what `explain` is asked for
pub explain-refuted : goes_to (topic_of (codes "explain")) ends.Refuted ≡ goes.Out
explain-refuted = refl

pub prove-better : goes_to (topic_of (codes "prove")) ends.Better ≡ goes.Out
prove-better = refl

pub refused : goes_to None ends.Words ≡ goes.Shown
refused = refl

-- ---- the words of the program itself

-- `solve L --out F --tries 4 --quiet` leaves `solve L --tries 4`
pub left : left_from None (codes "solve" ∷ codes "L" ∷ codes "--out" ∷ codes "F" ∷ codes "--tries" ∷ codes "4" ∷ codes "--quiet" ∷ [])
    ≡ codes "solve" ∷ codes "L" ∷ codes "--tries" ∷ codes "4" ∷ []
left = refl

-- the value of `--out` is taken, whatever it is
pub left-value : left_from None (codes "--out" ∷ codes "--quiet" ∷ codes "L" ∷ []) ≡ codes "L" ∷ []
left-value = refl

-- one file, none behind the last word, and two
pub out-once : values_from own.Out None (codes "L" ∷ codes "--out" ∷ codes "F" ∷ codes "--log" ∷ codes "G" ∷ []) ≡ codes "F" ∷ []
out-once = refl

pub out-bare : values_from own.Out None (codes "L" ∷ codes "--out" ∷ []) ≡ [] ∷ []
out-bare = refl

pub out-twice : values_from own.Out None (codes "--out" ∷ codes "--out" ∷ codes "--out" ∷ codes "F" ∷ [])
    ≡ codes "--out" ∷ codes "F" ∷ []
out-twice = refl

pub name-empty : is_name [] ≡ false
name-empty = refl

pub name-dash : is_name (codes "-") ≡ false
name-dash = refl

pub name-dot : is_name (codes ".-") ≡ true
name-dot = refl

-- ---- standard input

-- `validate - S`
pub input-first : named_from (topic_of (codes "validate")) (Argument 0) (codes "-" ∷ codes "S" ∷ [])
    ≡ codes "/dev/stdin" ∷ codes "S" ∷ []
input-first = refl

-- the season of `--from`
pub input-from : named_from (topic_of (codes "solve")) (Argument 0) (codes "L" ∷ codes "--from" ∷ codes "-" ∷ [])
    ≡ codes "L" ∷ codes "--from" ∷ codes "/dev/stdin" ∷ []
input-from = refl

-- the value of any other option stays
pub input-value : named_from (topic_of (codes "solve")) (Argument 0) (codes "L" ∷ codes "--seed" ∷ codes "-" ∷ [])
    ≡ codes "L" ∷ codes "--seed" ∷ codes "-" ∷ []
input-value = refl

-- `--objective` has no value
pub input-flag : named_from (topic_of (codes "rows")) (Argument 0) (codes "--objective" ∷ codes "-" ∷ [])
    ≡ codes "--objective" ∷ codes "/dev/stdin" ∷ []
input-flag = refl

-- nor has `--near`
pub input-near : named_from (topic_of (codes "resume")) (Argument 0) (codes "--near" ∷ codes "-" ∷ codes "S" ∷ codes "-" ∷ [])
    ≡ codes "--near" ∷ codes "/dev/stdin" ∷ codes "S" ∷ codes "-" ∷ []
input-near = refl

-- the list of `part` and the number of `resume` are no files
pub input-list : named_from (topic_of (codes "part")) (Argument 0) (codes "-" ∷ codes "-" ∷ [])
    ≡ codes "/dev/stdin" ∷ codes "-" ∷ []
input-list = refl

pub input-slots : named_from (topic_of (codes "audit")) (Argument 0) (codes "L" ∷ codes "S" ∷ codes "-" ∷ codes "-" ∷ [])
    ≡ codes "L" ∷ codes "S" ∷ codes "-" ∷ codes "/dev/stdin" ∷ []
input-slots = refl

pub twice : is_twice (codes "/dev/stdin" ∷ codes "S" ∷ codes "/dev/stdin" ∷ []) ≡ true
twice = refl

pub once : is_twice (codes "S" ∷ codes "/dev/stdin" ∷ []) ≡ false
once = refl
