-- What bounds allow together, as the code finds it.
use Rattle.std.proofs.Common.{◌≡◌, ℕ, ◌+◌, ◌-◌, ◌*◌, ◌^◌, ◌<◌, ◌≤◌, true, false, not, min, List, length, get_or, refl, arith}
use Rattle.std.specs.List.{filter, range_with_len, sum_by}
use Rattle.std.proofs.lemmas.Bool.{lt-ltb}
use Rattle.std.proofs.lemmas.Nat.{mul-le}
use Rattle.league.specs.declared.class.Class.{Class}
use Rattle.league.specs.declared.class.Class.TheVariants.{Ca1, Ca2, Ca3, Ca4, Ga1, Br1, Br2, Fa2, Se1}
use Rattle.league.specs.declared.class.Constraint.{Constraint}
use Rattle.league.specs.declared.class.Side.{Side}
use Rattle.break_counts.specs.Sums.{allowed_together, allows, counts_break, is_counted, is_few_together, most_breaks}
use Rattle.break_counts.specs.Tables.{IsTable}
use Rattle.break_counts.specs.declared.stretch.Stretch.{Stretch}
use Rattle.break_counts.specs.declared.together.Summand.{Summand}
use Rattle.break_counts.proofs.TableLemmas.{IsNoBr2, outside-total}

-- ---- a class that bounds no breaks

abbrev pub IsNoBr1 : Class → Type 0
IsNoBr1 class = (teams : List ℕ) (intp : ℕ) (side : Side) (slots : List ℕ) → class ≡ Br1 teams intp side slots → ⊥

pub counts-none : (class : Class) (named i s : ℕ) → IsNoBr1 class → IsNoBr2 class
    → false ≡ counts_break class named i s
counts-none (Br1 teams intp side slots) named i s no_br1 no_br2 = absurd (no_br1 teams intp side slots refl)
counts-none (Br2 teams intp slots) named i s no_br1 no_br2 = absurd (no_br2 teams intp slots refl)
counts-none (Ca1 teams min max other others) named i s no_br1 no_br2 = refl
counts-none (Ca2 teams1 teams2 min max other others) named i s no_br1 no_br2 = refl
counts-none (Ca3 teams1 teams2 min max intp other) named i s no_br1 no_br2 = refl
counts-none (Ca4 teams1 teams2 min max other span others) named i s no_br1 no_br2 = refl
counts-none (Ga1 meetings min max others) named i s no_br1 no_br2 = refl
counts-none (Fa2 teams intp others) named i s no_br1 no_br2 = refl
counts-none (Se1 teams min) named i s no_br1 no_br2 = refl

pub allows-none : (class : Class) → IsNoBr1 class → IsNoBr2 class → 0 ≡ most_breaks class
allows-none (Br1 teams intp side slots) no_br1 no_br2 = absurd (no_br1 teams intp side slots refl)
allows-none (Br2 teams intp slots) no_br1 no_br2 = absurd (no_br2 teams intp slots refl)
allows-none (Ca1 teams min max other others) no_br1 no_br2 = refl
allows-none (Ca2 teams1 teams2 min max other others) no_br1 no_br2 = refl
allows-none (Ca3 teams1 teams2 min max intp other) no_br1 no_br2 = refl
allows-none (Ca4 teams1 teams2 min max other span others) no_br1 no_br2 = refl
allows-none (Ga1 meetings min max others) no_br1 no_br2 = refl
allows-none (Fa2 teams intp others) no_br1 no_br2 = refl
allows-none (Se1 teams min) no_br1 no_br2 = refl

-- ---- all together

pub all-together : (n : ℕ) (constraints : List Constraint) (bounds : List Summand) (stretches : List Stretch)
    (table : List ℕ) (beside total : ℕ) → IsTable n constraints stretches table
    → beside ≡ sum_by (λ i. get_or table i 0)
    (filter (λ i. not (is_counted constraints bounds stretches i)) (range_with_len 0 (length table)))
    → total ≡ min (sum_by (allows constraints) bounds) (2 ^ 64 - 1)
    → min (total + beside) (2 ^ 64 - 1) ≡ min (allowed_together n constraints bounds stretches) (2 ^ 64 - 1)
all-together n constraints bounds stretches table beside total is beside_is total_is =
    omega (
      arith,
      total_is,
      beside_is,
      outside-total n constraints stretches table (λ i. not (is_counted constraints bounds stretches i)) is,
    )

pub few-together : (n : ℕ) (constraints : List Constraint) (bounds : List Summand) (stretches : List Stretch)
    (allowed : ℕ) → allowed ≡ min (allowed_together n constraints bounds stretches) (2 ^ 64 - 1)
    → allowed < length stretches * (n - 2) → length stretches ≤ 2 → n ≤ 40
    → is_few_together n constraints bounds stretches ≡ true
few-together n constraints bounds stretches allowed is below few small =
    lt-ltb (allowed_together n constraints bounds stretches) (length stretches * (n - 2))
    (omega (arith, is, below, mul-le (length stretches) (n - 2) 2 38 few (omega (arith, small))))
