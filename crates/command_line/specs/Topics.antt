-- Commands by their names.
use Rattle.std.specs.Prelude.{ℕ, List, [], ◌∷◌, codes, bytes_eq, Option, option_map}
use Rattle.std.specs.List.{find}
use Rattle.command_line.specs.declared.topic.Topic.{Topic}
use Rattle.command_line.specs.declared.topic.Topic.TheVariants.{Validate, Show, Solve, Patterns, Explain, Part, Check}
use Rattle.command_line.specs.declared.topic.Topic.TheVariants.{Prove, Bound, Resume, Audit, Rows, Values, Circle, Make}
use Rattle.command_line.specs.declared.topic.Topic.TheVariants.{Trial}

-- each command with its name
abbrev pub names : List (List ℕ × Topic)
names =
    (codes "validate", Validate)
    ∷ (codes "show", Show)
    ∷ (codes "solve", Solve)
    ∷ (codes "patterns", Patterns)
    ∷ (codes "explain", Explain)
    ∷ (codes "part", Part)
    ∷ (codes "check", Check)
    ∷ (codes "prove", Prove)
    ∷ (codes "bound", Bound)
    ∷ (codes "resume", Resume)
    ∷ (codes "audit", Audit)
    ∷ (codes "rows", Rows)
    ∷ (codes "values", Values)
    ∷ (codes "circle", Circle)
    ∷ (codes "make", Make)
    ∷ (codes "trial", Trial)
    ∷ []

-- the command of a name
abbrev pub topic_of : List ℕ → Option Topic
topic_of name = option_map (λ one. one.1) (find (λ one. bytes_eq name one.0) names)
