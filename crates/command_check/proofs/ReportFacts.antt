-- Worked parts of a report, so that a wrong definition does not check.
use Rattle.std.proofs.Common.{◌≡◌, ℕ, true, false, List, [], ◌∷◌, codes, refl}
use Rattle.std.specs.Fmt.{digits}
use Rattle.league.specs.Instance.{Instance}
use Rattle.league.specs.declared.class.Class.TheVariants.{Ca1, Ga1, Se1}
use Rattle.league.specs.declared.class.Constraint.{Constraint}
use Rattle.league.specs.declared.class.Side.TheVariants.{H}
use Rattle.league.specs.declared.game.Game.{Game}
use Rattle.command_check.specs.Report.{constraint_front, constraint_text, constraints_text, entries_text, head_text, lines_text, mode_word, report_text, structure_text, verdict_text, yes_or_no}

-- the parts of a report: two teams have two slots, and four have six
pub mode_word-both : (mode_word true ≡ codes "P") × (mode_word false ≡ codes "NULL")
mode_word-both = (refl, refl)

pub yes_or_no-both : (yes_or_no true ≡ codes "yes") × (yes_or_no false ≡ codes "no")
yes_or_no-both = (refl, refl)

pub head_text-both : (head_text 2 false 0 ≡ codes "teams 2\nslots 2\nmode NULL\ngames 0\n") × (head_text 4 true 13 ≡ codes "teams 4\nslots 6\nmode P\ngames 13\n")
unfolding digits
head_text-both = (refl, refl)

pub structure_text-some : structure_text 2 40 0 ≡ codes "structure pairs 2 cells 40 phases 0\n"
unfolding digits
structure_text-some = refl

pub entries_text-some : (entries_text [] ≡ []) × (entries_text (10 ∷ 0 ∷ 7 ∷ []) ≡ codes " 10 0 7")
unfolding digits
entries_text-some = (refl, refl)

abbrev pub separation : Constraint
separation = record { hard = true; penalty = 4294967295; class = Se1 (0 ∷ 1 ∷ []) 3 }

abbrev pub alone : Constraint
alone = record { hard = false; penalty = 0; class = Se1 [] 3 }

pub constraint_front-some : constraint_front 12 separation 34 ≡ codes "constraint 12 SE1 HARD penalty 4294967295 sum 34 entries"
unfolding digits
constraint_front-some = refl

-- the sum is that of the entries; an empty vector has nothing behind `entries`
pub constraint_text-some : constraint_text 1 separation (2 ∷ 3 ∷ []) ≡ codes "constraint 1 SE1 HARD penalty 4294967295 sum 5 entries 2 3\n"
unfolding digits
constraint_text-some = refl

pub constraints_text-some : (constraints_text 1 [] [] ≡ []) × (constraints_text 9 (separation ∷ alone ∷ []) ((2 ∷ []) ∷ [] ∷ []) ≡ codes "constraint 9 SE1 HARD penalty 4294967295 sum 2 entries 2\nconstraint 10 SE1 SOFT penalty 0 sum 0 entries\n")
unfolding digits
constraints_text-some = (refl, refl)

pub verdict_text-no : verdict_text 10 340282366920938463463374607431768211455 false ≡ codes "infeasibility 10\nobjective 340282366920938463463374607431768211455\nfeasible no\n"
unfolding digits
verdict_text-no = refl

abbrev pub game : ℕ → ℕ → ℕ → Game
game i j s = record { home = record { 0 = i }; away = record { 0 = j }; slot = record { 0 = s } }

-- A league of two teams that wants at most one home game of each in slot 0, and that 0-1 isn't played there
abbrev pub demanding : Instance
demanding = record {
  n = 2;
  phased = true;
  constraints =
      record { hard = true; penalty = 5; class = Ca1 (0 ∷ 1 ∷ []) 0 1 H (0 ∷ []) }
      ∷ record { hard = false; penalty = 7; class = Ga1 ((0, 1) ∷ []) 0 0 (0 ∷ []) }
      ∷ [];
}

-- the parts in their order, each number where it belongs
pub lines_text-some : lines_text demanding 9 (record { pairs_wrong = 1; cells_wrong = 2; phases_wrong = 3 }) ((4 ∷ 5 ∷
    []) ∷ (6 ∷ []) ∷ []) 10 11 true ≡ codes
    "teams 2\nslots 2\nmode P\ngames 9\nstructure pairs 1 cells 2 phases 3\nconstraint 1 CA1 HARD penalty 5 sum 9 entries 4 5\nconstraint 2 GA1 SOFT penalty 7 sum 6 entries 6\ninfeasibility 10\nobjective 11\nfeasible yes\n"
unfolding digits
lines_text-some = refl

-- 0-1 three times in slot 0, and nothing else: both ordered pairs are wrong, all four cells, and the one pair of the
-- first half; team 0 has two home games too many, and the game is played three times too often
abbrev pub thrice : List Game
thrice = game 0 1 0 ∷ game 0 1 0 ∷ game 0 1 0 ∷ []

abbrev pub thrice_report : List ℕ
thrice_report = codes "teams 2\nslots 2\nmode P\ngames 3\nstructure pairs 2 cells 4 phases 1\nconstraint 1 CA1 HARD penalty 5 sum 2 entries 2 0\nconstraint 2 GA1 SOFT penalty 7 sum 3 entries 3\ninfeasibility 10\nobjective 21\nfeasible no\n"

pub report_text-thrice : report_text demanding thrice false ≡ thrice_report
unfolding digits
report_text-thrice = refl
