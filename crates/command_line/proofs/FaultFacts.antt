-- What options commands have, and what words are to be, so that a wrong definition does not check.
use Rattle.std.proofs.Common.{◌≡◌, true, false, Some, None, codes, refl}
use Rattle.command_line.specs.Faults.{fits, is_flag, is_question, option_role}
use Rattle.command_line.specs.declared.topic.Topic.TheVariants as topic
use Rattle.command_line.specs.declared.role.Role.TheVariants as role

pub option_role-some : (option_role topic.Solve (codes "--seed") ≡ Some role.Draws)
    × (option_role topic.Trial (codes "--tries") ≡ Some role.Tries)
    × (option_role topic.Solve (codes "--seconds") ≡ Some role.Seconds)
    × (option_role topic.Explain (codes "--conflicts") ≡ Some role.Conflicts)
    × (option_role topic.Prove (codes "--moves") ≡ None)
    × (option_role topic.Prove (codes "--floor") ≡ Some role.Floor)
    × (option_role topic.Explain (codes "--floor") ≡ None)
    × (option_role topic.Resume (codes "--seconds") ≡ Some role.Seconds)
    × (option_role topic.Explain (codes "--seconds") ≡ Some role.Seconds)
    × (option_role topic.Patterns (codes "--seconds") ≡ None)
    × (option_role topic.Check (codes "--conflicts") ≡ None)
    × (option_role topic.Check (codes "--room") ≡ Some role.Room)
    × (option_role topic.Values (codes "--room") ≡ None)
    × (option_role topic.Solve (codes "--from") ≡ Some role.Solution)
    × (option_role topic.Trial (codes "--from") ≡ None)
option_role-some = (refl, refl, refl, refl, refl, refl, refl, refl, refl, refl, refl, refl, refl, refl, refl)

pub fits-some : (fits role.Teams (codes "8") ≡ true)
    × (fits role.Teams (codes "7") ≡ false)
    × (fits role.Moves (codes "-1") ≡ false)
    × (fits role.Tries (codes "101") ≡ false)
    × (fits role.Conflicts (codes "all") ≡ true)
    × (fits role.Members (codes "2;1") ≡ false)
    × (fits role.Log (codes "-a") ≡ false)
    × (fits role.Slots (codes "03") ≡ false)
    × (fits role.Floor (codes "all") ≡ false)
fits-some = (refl, refl, refl, refl, refl, refl, refl, refl, refl)

-- `--objective` has no value, and `rows` alone has it
pub flags : (is_flag topic.Rows (codes "--objective") ≡ true)
    × (is_flag topic.Rows (codes "--bound") ≡ false)
    × (is_flag topic.Solve (codes "--objective") ≡ false)
    × (option_role topic.Rows (codes "--objective") ≡ None)
flags = (refl, refl, refl, refl)

-- `--near` has no value, and `resume` alone has it; beside it may stand the options of `trial`
pub near_words : (is_flag topic.Resume (codes "--near") ≡ true)
    × (is_flag topic.Solve (codes "--near") ≡ false)
    × (option_role topic.Resume (codes "--near") ≡ None)
    × (option_role topic.Resume (codes "--tries") ≡ Some role.Tries)
    × (option_role topic.Resume (codes "--from") ≡ None)
near_words = (refl, refl, refl, refl, refl)

-- `--demands` of `show` has a list behind it or none, and `--most` takes a number or `all`
pub show_words : (is_flag topic.Show (codes "--demands") ≡ true)
    × (is_flag topic.Show (codes "--most") ≡ false)
    × (option_role topic.Show (codes "--demands") ≡ None)
    × (fits role.Most (codes "all") ≡ true)
    × (fits role.Width (codes "all") ≡ false)
show_words = (refl, refl, refl, refl, refl)

pub questions : (is_question (codes "--help") ≡ true)
    × (is_question (codes "--version") ≡ true)
    × (is_question (codes "help") ≡ false)
questions = (refl, refl, refl)
