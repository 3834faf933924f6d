-- Edits that leave the first slots alone.
use Rattle.std.specs.Prelude.{◌≡◌, ◌↔◌, ℕ, Bool, true, ◌&&◌}
use Rattle.std.specs.List.{All, list_all}
use Rattle.league.specs.Counts.{Counts}
use Rattle.league.specs.Instance.{IsGame}
use Rattle.league.specs.Structure.{IsRoundRobin}
use Rattle.moves.specs.Round.{AreApart, Edits, IsEdit}
use Rattle.resume.specs.Kept.{Keeps}
use Rattle.resume.specs.Changed.{is_open}

-- whether no game of an edit takes place below slot k
abbrev pub leaves_alone : ℕ → Edits → Bool
leaves_alone k edit = list_all (is_open k) edit.out && list_all (is_open k) edit.into

-- the law: an edit from one round robin to another, with no game in both of its lists, leaves the first k slots alone
-- exactly where the same games take place in them before and after
abbrev pub EditsKeep : Type 0
EditsKeep =
    (n k : ℕ) (phased : Bool) (before after : Counts) (edit : Edits)
    → IsRoundRobin n phased before
    → IsRoundRobin n phased after
    → IsEdit before after edit
    → AreApart edit
    → All (IsGame n) edit.out
    → All (IsGame n) edit.into
    → (leaves_alone k edit ≡ true) ↔ Keeps before k after
