-- Each page is that of its command.
use Rattle.std.proofs.Common.{◌≡◌, List, ℕ, ◌++◌, codes, true, Some, refl}
use Rattle.std.specs.Prelude.{nat_eq}
use Rattle.std.specs.List.{starts_with}
use Rattle.command_line.specs.declared.topic.Topic.{Topic}
use Rattle.command_line.specs.declared.topic.Topic.TheVariants as topic
use Rattle.answers.specs.Help.{help_text, version_answer}

pub version : version_answer.text ≡ codes "robin 3.1.9\n"
version = refl

-- a page begins with the words of a command
abbrev IsUsage : Topic → List ℕ → Type 0
IsUsage one name = starts_with nat_eq (help_text (Some one)) (codes "usage: robin " ++ (name ++ codes " ")) ≡ true

pub pages : (IsUsage topic.Validate (codes "validate"))
    × (IsUsage topic.Show (codes "show"))
    × (IsUsage topic.Solve (codes "solve"))
    × (IsUsage topic.Patterns (codes "patterns"))
    × (IsUsage topic.Explain (codes "explain"))
    × (IsUsage topic.Part (codes "part"))
    × (IsUsage topic.Check (codes "check"))
    × (IsUsage topic.Prove (codes "prove"))
    × (IsUsage topic.Bound (codes "bound"))
    × (IsUsage topic.Resume (codes "resume"))
    × (IsUsage topic.Audit (codes "audit"))
    × (IsUsage topic.Circle (codes "circle"))
    × (IsUsage topic.Make (codes "make"))
    × (IsUsage topic.Trial (codes "trial"))
pages = (refl, refl, refl, refl, refl, refl, refl, refl, refl, refl, refl, refl, refl, refl)
