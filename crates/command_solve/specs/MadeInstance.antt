-- The league that `make` writes.
use Rattle.std.specs.Prelude.{◌≡◌, ℕ, ◌+◌, length, Ok}
use Rattle.league.specs.Accepted.{IsAccepted}
use Rattle.league.specs.Counts.{counts_of}
use Rattle.circle_method.specs.Circle.{double_games}
use Rattle.instance_gen.specs.Draws.{seeded}
use Rattle.instance_gen.specs.Made.{made_league}
use Rattle.robinx.specs.InstanceFile.{instance_of}
use Rattle.robinx.specs.Texts.{instance_text}
use Rattle.robinx.specs.Pieces.{pieces}
use Rattle.answers.specs.Reply.{Answer}
use Rattle.answers.specs.declared.status.Status.TheVariants.{Yes}

-- the made league of n teams and a seed, as an instance file
abbrev pub made_instance : ℕ → ℕ → Answer
made_instance n seed = record { status = Yes; text = instance_text (made_league n (seeded seed)) }

-- The made league is written, and reads back as this league, which has n + 17 constraints and accepts the schedule of
-- the circle method.
pub record IsMade (n seed : ℕ) (answer : Answer) : Type 0 where
  pub made : answer ≡ made_instance n seed
  pub reads_back : instance_of (pieces answer.text) ≡ Ok (made_league n (seeded seed))
  pub count : length (made_league n (seeded seed)).constraints ≡ n + 17
  pub accepts : IsAccepted (made_league n (seeded seed)) (counts_of (double_games n))
