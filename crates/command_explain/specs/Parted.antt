-- What `part` answers: its stages in their order, and the league of some hard constraints.
use Rattle.std.specs.Prelude.{◌≡◌, ℕ, List, ◌++◌, codes, decimal, Option, None, Some, Ok}
use Rattle.robin_io.specs.Outside.{Store}
use Rattle.league.specs.Instance.{Instance}
use Rattle.robinx.specs.Pieces.{pieces}
use Rattle.robinx.specs.InstanceFile.{instance_of}
use Rattle.robinx.specs.Texts.{instance_text}
use Rattle.robinx.specs.declared.instance.TheConstants.{INSTANCE_LIMIT}
use Rattle.answers.specs.Reply.{Answer}
use Rattle.answers.specs.Stages.{◌>>=◌, Outcome, reads, says}
use Rattle.answers.specs.declared.status.Status.TheVariants.{Yes, File}
use Rattle.explain.specs.Parts.{first_unknown, part_of}

-- no hard constraint has this number
abbrev pub unknown_constraint : ℕ → Answer
unknown_constraint k = record {
  status = File;
  text = codes "refused constraint " ++ (decimal k ++ codes " Unknown\n");
}

-- the league of the constraints with some numbers, as an instance file, unless one of the numbers isn't a hard
-- constraint's: the first such
abbrev pub part_answer : Instance → List ℕ → Option ℕ → Answer
part_answer league members None = record { status = Yes; text = instance_text (part_of league members) }
part_answer league members (Some k) = unknown_constraint k

-- the answer is the part of the league, and a league that is written reads back as that part
pub record IsPart (league : Instance) (members : List ℕ) (answer : Answer) : Type 0 where
  pub is : answer ≡ part_answer league members (first_unknown league members)
  pub reads_back : answer.status ≡ Yes → instance_of (pieces answer.text) ≡ Ok (part_of league members)

-- `part`, over what a store shows
abbrev pub parted : Store → List ℕ → List ℕ → Outcome
parted store instance members = do
  bytes ← reads store (codes "instance") instance INSTANCE_LIMIT 0
  league ← says (codes "instance") (instance_of (pieces bytes))
  IsPart league members
