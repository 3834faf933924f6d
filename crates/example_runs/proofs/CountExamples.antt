-- Two teams, of which neither may be at home in slot 0, or of which each has to be: h(0,0) is 5, h(1,0) is 7. Their
-- logs add up the row of the slot and those of the teams.
use Rattle.std.proofs.Common.{◌≡◌, ℕ, ◌+◌, ◌*◌, ◌≤◌, true, false, List, [], ◌∷◌, length, map, get_or, refl, ap, arith}
use Rattle.std.proofs.Common.{lit<, lit≤}
use Rattle.std.specs.List.{All}
use Rattle.std.specs.Fmt.{digits}
use Rattle.std.proofs.lemmas.Bool.{ltb-true}
use Rattle.std.proofs.lemmas.List.Elements.{All-from_recursion}
use Rattle.league.specs.Instance.{Instance}
use Rattle.league.specs.declared.class.Class.TheVariants.{Ca1}
use Rattle.league.specs.declared.class.Side.TheVariants.{H}
use Rattle.rows.specs.Cardinality.{at_least}
use Rattle.rows.specs.Literals.{yes, no}
use Rattle.rows.specs.Rows.{Row}
use Rattle.encoding.specs.Encoding.{rows_of}
use Rattle.encoding.specs.Variables.{var_count}
use Rattle.refutation.specs.Logs.{most_bytes}
use Rattle.refutation.specs.Steps.{NamesRows, Step, hints_at}
use Rattle.refutation.specs.Steps.Step.{Clause, Linear}
use Rattle.refutation.specs.Texts.{step_text, version_of}
use Rattle.refutation.specs.Verdict.{verdict_of}
use Rattle.refutation.specs.Writable.{HasShortLines}
use Rattle.refutation.specs.declared.step.Part.{Part}
use Rattle.refutation.specs.declared.verdict.Verdict.TheVariants.{Accepted}
use Rattle.venue_counts.specs.CountLogs.{AddsUp, AreNamed, IsCrowdedCount, IsRefuting, IsShortCount, counted_rows}

abbrev league : ℕ → ℕ → Instance
league min max = record {
  n = 2;
  phased = true;
  constraints = record { hard = true; penalty = 1; class = Ca1 (0 ∷ 1 ∷ []) min max H (0 ∷ []) } ∷ [];
}

-- neither may be, and each has to be; 30 rows are those of the season, and the teams' are 31 and 32
abbrev short : Instance
short = league 0 0

abbrev crowded : Instance
crowded = league 1 1

abbrev once : ℕ → Part
once row = record { factor = 1; row = row }

abbrev log_of : List ℕ → List Step
log_of numbers = Linear (map once numbers) 1 ∷ Clause [] (33 ∷ []) ∷ []

-- ---- too few games: in slot 0 one of 5 and 7 is true, by row 23, and neither is

abbrev short_rows : List Row
short_rows = at_least 1 (yes 5 ∷ yes 7 ∷ []) ∷ at_least 1 (no 5 ∷ []) ∷ at_least 1 (no 7 ∷ []) ∷ []

pub named : AreNamed (rows_of short) (map once (23 ∷ 31 ∷ 32 ∷ [])) short_rows
named = record {
  numbers = refl;
  once =
      All-from_recursion (λ (part : Part). part.factor ≡ 1) (map once (23 ∷ 31 ∷ 32 ∷ []))
      (refl, (refl, (refl, tt)));
}

-- each row has to be named
pub named-fewer : AreNamed (rows_of short) (map once (23 ∷ 31 ∷ [])) short_rows → ⊥
named-fewer is = omega (arith, ap length is.numbers)

-- no row is taken twice, by a factor
pub twice : AreNamed (rows_of short) (record { factor = 2; row = 23 } ∷ []) (at_least 1 (yes 5 ∷ yes 7 ∷ []) ∷ []) → ⊥
twice is = omega (arith, is.once 0 (once 1) (lit< tt))

pub adds_up : AddsUp (rows_of short) short_rows (log_of (23 ∷ 31 ∷ 32 ∷ []))
adds_up = record { parts = map once (23 ∷ 31 ∷ 32 ∷ []); are_named = named; steps = refl }

-- the second step names the sum, and not the last row
pub adds_up-none : AddsUp (rows_of short) short_rows
    (Linear (map once (23 ∷ 31 ∷ 32 ∷ [])) 1 ∷ Clause [] (32 ∷ []) ∷ [])
    → ⊥
adds_up-none is =
    let hints : ◌≡◌ {A = ℕ} 32 33 = ap (λ (steps : List Step). get_or (hints_at steps 1) 0 0) is.steps in
    omega (arith, hints)

pub short-count : IsShortCount short (log_of (23 ∷ 31 ∷ 32 ∷ []))
short-count = record { side = H; slots = 0 ∷ []; short = refl; adds_up = adds_up }

-- ---- too many: in slot 0 one of 5 and 7 is false, by row 24, and neither may be

abbrev crowded_rows : List Row
crowded_rows = at_least 1 (no 5 ∷ no 7 ∷ []) ∷ at_least 1 (yes 5 ∷ []) ∷ at_least 1 (yes 7 ∷ []) ∷ []

pub crowded-count : IsCrowdedCount crowded (log_of (24 ∷ 31 ∷ 32 ∷ []))
crowded-count = record {
  side = H;
  slots = 0 ∷ [];
  crowded = refl;
  adds_up = record {
    parts = map once (24 ∷ 31 ∷ 32 ∷ []);
    are_named = record {
      numbers = refl;
      once =
          All-from_recursion (λ (part : Part). part.factor ≡ 1) (map once (24 ∷ 31 ∷ 32 ∷ []))
          (refl, (refl, (refl, tt)));
    };
    steps = refl;
  };
}

-- where nothing is asked for, each of two teams may be at home, and none has to be, in each of whichever slots: k slots
-- have k home games, 2 k are allowed, and none is asked for
abbrev free : Instance
free = record { n = 2; phased = true; constraints = [] }

pub no_counts : (log : List Step) → (IsShortCount free log → ⊥) × (IsCrowdedCount free log → ⊥)
no_counts log = (
  λ is. omega (arith, ltb-true (0 + length is.slots + length is.slots) (length is.slots * 1) is.short),
  λ is. omega (arith, ltb-true (length is.slots * 1) 0 is.crowded),
)

pub counted : (counted_rows 2 true (0 ∷ []) (λ i. 1) ≡ short_rows)
    × (counted_rows 2 false (0 ∷ []) (λ i. 1) ≡ crowded_rows)
counted = (refl, refl)

-- ---- both logs are accepted, and can be written

names_rows : (slot : ℕ) → 1 ≤ slot → All NamesRows (log_of (slot ∷ 31 ∷ 32 ∷ []))
names_rows slot some = All-from_recursion NamesRows (log_of (slot ∷ 31 ∷ 32 ∷ [])) (
  All-from_recursion (λ (part : Part). 1 ≤ part.row) (map once (slot ∷ 31 ∷ 32 ∷ []))
      (omega arith, (omega arith, (omega arith, tt))),
  (All-from_recursion (λ (hint : ℕ). 1 ≤ hint) (33 ∷ []) (omega arith, tt), tt),
)

-- `l 1 23 1 31 1 32 0 1` has 20 bytes, and `c 0 33 0` has 8
pub lengths : map (λ step. length (step_text (version_of (log_of (23 ∷ 31 ∷ 32 ∷ []))) step))
    (log_of (23 ∷ 31 ∷ 32 ∷ []))
    ≡ 20 ∷ 8 ∷ []
unfolding digits
lengths = refl

pub short_lines : HasShortLines (log_of (23 ∷ 31 ∷ 32 ∷ []))
unfolding digits
short_lines =
    All-from_recursion (λ (step : Step). length (step_text (version_of (log_of (23 ∷ 31 ∷ 32 ∷ []))) step) ≤ most_bytes)
    (log_of (23 ∷ 31 ∷ 32 ∷ [])) (lit≤ tt, (lit≤ tt, tt))

pub refuting-short : IsRefuting short (log_of (23 ∷ 31 ∷ 32 ∷ []))
refuting-short = record { accepted = refl; named = names_rows 23 (lit≤ tt); short_lines = short_lines }

crowded_lines : HasShortLines (log_of (24 ∷ 31 ∷ 32 ∷ []))
unfolding digits
crowded_lines =
    All-from_recursion (λ (step : Step). length (step_text (version_of (log_of (24 ∷ 31 ∷ 32 ∷ []))) step) ≤ most_bytes)
    (log_of (24 ∷ 31 ∷ 32 ∷ [])) (lit≤ tt, (lit≤ tt, tt))

pub refuting-crowded : IsRefuting crowded (log_of (24 ∷ 31 ∷ 32 ∷ []))
refuting-crowded = record { accepted = refl; named = names_rows 24 (lit≤ tt); short_lines = crowded_lines }

-- a hint behind the conflict isn't looked at: with the number 0 there the log is accepted, and can't be written
abbrev wild : List Step
wild = Linear (map once (23 ∷ 31 ∷ 32 ∷ [])) 1 ∷ Clause [] (33 ∷ 0 ∷ []) ∷ []

pub refuting-wild : (verdict_of (rows_of short) (var_count short) wild ≡ Accepted) × (IsRefuting short wild → ⊥)
refuting-wild = (refl, λ is. omega (arith, is.named 1 (Clause [] []) (lit< tt) 1 1 (lit< tt)))
