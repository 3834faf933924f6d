-- Four teams whose first slots are played.
use Rattle.std.proofs.Common.{◌≡◌, ℕ, ◌-◌, true, false, List, [], ◌∷◌, map, length, get_or, refl}
use Rattle.league.specs.Counts.{Counts, counts_of}
use Rattle.league.specs.Instance.{Instance}
use Rattle.league.specs.declared.class.Class.TheVariants.{Ca1}
use Rattle.league.specs.declared.class.Side.TheVariants.{A}
use Rattle.league.specs.declared.game.Game.{Game}
use Rattle.league.proofs.DoubleFour.{eleven, game, last_game}
use Rattle.rows.specs.Cardinality.{at_least}
use Rattle.rows.specs.Literals.{no, yes}
use Rattle.rows.specs.Rows.{Row, size_of}
use Rattle.encoding.specs.Encoding.{encoding_size, rows_of}
use Rattle.encoding.specs.Variables.{var_count, x_var}
use Rattle.refutation.specs.Steps.Step.{Clause}
use Rattle.refutation.specs.Verdict.{verdict_of}
use Rattle.refutation.specs.declared.verdict.Cause.TheVariants.{NoConflict, UnknownRow}
use Rattle.refutation.specs.declared.verdict.Verdict.{Verdict}
use Rattle.refutation.specs.declared.verdict.Verdict.TheVariants.{Accepted, Rejected}
use Rattle.resume.specs.Kept.{is_played, kept_rows, resume_rows, resume_size}

abbrev four : List Game
four = last_game ∷ eleven

abbrev played : Counts
played = counts_of four

-- team 0 has no away game in slots 3 to 5
abbrev league : Instance
league = record {
  n = 4;
  phased = true;
  constraints =
      record { hard = true; penalty = 1; class = Ca1 (0 ∷ []) 0 0 A (3 ∷ 4 ∷ 5 ∷ []) } ∷ [];
}

abbrev nothing : Row
nothing = record { terms = []; degree = 0 }

abbrev row : ℕ → ℕ → Row
row k number = get_or (resume_rows league played k) (number - 1) nothing

pub league_rows : length (rows_of league) ≡ 153
league_rows = refl

-- the game of 0 and 1 isn't in slot 0
pub first : row 3 154 ≡ at_least 1 (no (x_var 4 0 1 0) ∷ [])
first = refl

-- the game of 0 and 1 is in slot 2
pub of_slot_2 : row 3 178 ≡ at_least 1 (yes (x_var 4 0 1 2) ∷ [])
of_slot_2 = refl

-- the last slot that is played is slot 2
pub last : row 3 189 ≡ at_least 1 (yes (x_var 4 3 2 2) ∷ [])
last = refl

pub counted : map (λ k. length (resume_rows league played k)) (0 ∷ 3 ∷ 6 ∷ []) ≡ 153 ∷ 189 ∷ 225 ∷ []
counted = refl

pub sizes : map (λ k. resume_size league k - encoding_size league) (0 ∷ 3 ∷ 6 ∷ []) ≡ 0 ∷ 36 ∷ 72 ∷ []
sizes = refl

pub sizes_are : map (λ k. size_of (resume_rows league played k)) (0 ∷ 3 ∷ 6 ∷ [])
    ≡ map (resume_size league) (0 ∷ 3 ∷ 6 ∷ [])
sizes_are = refl

-- a game that is listed twice is kept once
pub twice : kept_rows 4 (counts_of (last_game ∷ four)) 6 ≡ kept_rows 4 played 6
twice = refl

-- games from slot k on play no part
pub later : kept_rows 4 (counts_of (last_game ∷ [])) 5 ≡ kept_rows 4 (counts_of []) 5
later = refl

-- where no slot is played the league is free
pub free : resume_rows league played 0 ≡ rows_of league
free = refl

-- played slots rule games out as well as in: a schedule with a game more than was played doesn't keep
pub more : is_played (counts_of (game 0 2 2 ∷ four)) 0 2 2 ∷ is_played played 0 2 2 ∷ [] ≡ true ∷ false ∷ []
more = refl

abbrev judged : ℕ → List ℕ → Verdict
judged k hints = verdict_of (resume_rows league played k) (var_count league) (Clause [] hints ∷ [])

-- team 0 has no home game in slots 0 and 1, so with those of slots 3 to 5 and the one of slot 2 it would have four
pub audited : judged 3 (153 ∷ 178 ∷ 90 ∷ 146 ∷ []) ≡ Accepted
audited = refl

pub without_game : judged 3 (153 ∷ 90 ∷ 146 ∷ []) ≡ Rejected 1 NoConflict
without_game = refl

-- where only two slots are played there is no such row
pub two_slots : judged 2 (153 ∷ 178 ∷ 90 ∷ 146 ∷ []) ≡ Rejected 1 UnknownRow
two_slots = refl
