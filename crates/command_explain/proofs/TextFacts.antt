-- Worked texts, so that a wrong definition of what is written does not check.
use Rattle.std.proofs.Common.{◌≡◌, ℕ, List, [], ◌∷◌, Some, codes, refl}
use Rattle.std.specs.Fmt.{digits}
use Rattle.answers.specs.declared.status.Status.TheVariants.{File}
use Rattle.league.specs.Instance.{Instance}
use Rattle.refutation.specs.Steps.Step.{Clause}
use Rattle.explain.specs.declared.cases.Case.TheVariants.{Without, Undecided}
use Rattle.command_explain.specs.Parted.{part_answer}
use Rattle.command_explain.specs.Texts.{case_text, conflict_text, members_line, minimal_line}

pub members-two : (members_line (2 ∷ 17 ∷ []) ≡ codes "conflict 2 17\n") × (members_line [] ≡ codes "conflict\n")
unfolding digits
members-two = (refl, refl)

pub minimal-both : (minimal_line (Without [] ∷ Without [] ∷ []) ≡ codes "minimal yes\n")
    × (minimal_line (Without [] ∷ Undecided [] ∷ []) ≡ codes "minimal no\n")
minimal-both = (refl, refl)

pub undecided-none : case_text 8 (Undecided []) ≡ codes "undecided 8\nrefutation 1\nend\n"
unfolding digits
undecided-none = refl

-- a conflict of one member, which nothing was found out of
pub conflict-one : conflict_text (7 ∷ []) (Clause [] (1 ∷ 2 ∷ []) ∷ []) (Undecided [] ∷ [])
    ≡ codes "conflict 7\nminimal no\nrefutation 1\n0 1 2 0\nend\nundecided 7\nrefutation 1\nend\n"
unfolding digits
conflict-one = refl

pub unknown-three : (league : Instance) (members : List ℕ) → part_answer league members (Some 3)
    ≡ record { status = File; text = codes "refused constraint 3 Unknown\n" }
unfolding digits
unknown-three league members = refl
