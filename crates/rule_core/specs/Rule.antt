-- What it is to be the rule of a constraint.
use Rattle.std.specs.Prelude.{◌≡◌, ℕ, ◌≤◌, length}
use Rattle.league.specs.Counts.{Counts}
use Rattle.league.specs.Deviation.{entry_of, vector_of}
use Rattle.league.specs.declared.class.Class.{Class}
use Rattle.league.specs.declared.game.Game.{Game}
use Rattle.rule_core.specs.Touched.{is_watched, most_touched, touched_keys}
use Rattle.rule_core.specs.declared.rule.Entries.{Ghosts}

-- a rule, by what it says of its entries, is that of a constraint of this class in a league of n teams: its entries are
-- those of the constraint's vector, at most 1,600, a game touches those that it can change, and it watches the teams in
-- whose games alone one can
pub record IsRuleOf {R : Type 0} (E : Ghosts R) (n : ℕ) (class : Class) (rule : R) : Type 0 where
  pub teams : E.team_count rule ≡ n
  pub terms : (m : Counts) → E.term_count rule ≡ length (vector_of n m class)
  pub short : E.term_count rule ≤ 1600
  pub entries : (k : ℕ) (m : Counts) → E.entry rule k m ≡ entry_of n m class k
  pub reach : E.reach_of rule ≡ most_touched class
  pub touches : (g : Game) → E.touches rule g ≡ touched_keys class g
  pub watched : (t : ℕ) → E.watched rule t ≡ is_watched class t
