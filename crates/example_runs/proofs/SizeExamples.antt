-- The terms of the rows of forty teams in two phases, with hard demands for fairness over all teams and slots. Their
-- number is worked out, and no row is listed.
use Rattle.std.proofs.Common.{◌≡◌, ℕ, ◌+◌, ◌*◌, Bool, true, false, List, ◌++◌, replicate, length, zero, suc, refl, sym, ap, arith}
use Rattle.std.proofs.lemmas.List.Sums.{sum_by-append}
use Rattle.league.specs.Counts.{slots_of, teams_of}
use Rattle.league.specs.Instance.{Instance}
use Rattle.league.specs.declared.class.Class.{Class}
use Rattle.league.specs.declared.class.Class.TheVariants.{Fa2}
use Rattle.league.specs.declared.class.Constraint.{Constraint}
use Rattle.rows.specs.Rows.{Row, size_of}
use Rattle.encoding.specs.Encoding.{class_rows, constraint_rows, encoding_size}
use Rattle.encoding.specs.Season.{break_rows}
use Rattle.encoding.specs.Variables.{has_breaks}
use Rattle.encoding.proofs.ClassSizeLemmas.{size_of-fa2}
use Rattle.encoding.proofs.SeasonSizes.{season_terms, size_of-season, total_size}

abbrev hard : Class → Constraint
hard class = record { hard = true; penalty = 1; class = class }

abbrev phased_league : ℕ → List Constraint → Instance
phased_league n constraints = record { n = n; phased = true; constraints = constraints }

terms-append : (xs ys : List Row) → size_of (xs ++ ys) ≡ size_of xs + size_of ys
terms-append xs ys = sum_by-append (λ (r : Row). length r.terms) xs ys

-- one demand as often as it stands there
terms-replicate : (times n : ℕ) (class : Class) (terms : ℕ) → size_of (class_rows n class) ≡ terms
    → size_of (constraint_rows n (replicate times (hard class))) ≡ times * terms
terms-replicate zero n class terms is = omega arith
terms-replicate (suc times) n class terms is =
    omega (
      arith,
      terms-append (class_rows n class) (constraint_rows n (replicate times (hard class))),
      terms-replicate times n class terms is,
      is,
    )

-- a season's terms and those of one demand as often as it stands there, where no break is counted
terms-phased : (times n : ℕ) (class : Class) (terms : ℕ) → size_of (class_rows n class) ≡ terms
    → has_breaks (replicate times (hard class)) ≡ false
    → encoding_size (phased_league n (replicate times (hard class))) ≡ season_terms n true + times * terms
terms-phased times n class terms is none =
    let constraints : List Constraint = replicate times (hard class) in
    let breaks : Bool = has_breaks constraints in
    omega (
      arith,
      total_size (phased_league n constraints) n n true breaks constraints (season_terms n true)
          (size_of (break_rows n breaks)) (times * terms) refl refl refl refl refl (sym (size_of-season n true)) refl
          (sym (terms-replicate times n class terms is)),
      ap (λ (b : Bool). size_of (break_rows n b)) none,
    )

-- two rows of 2 (s + 1) terms in each slot s, for each of 780 pairs
abbrev fair : Class
fair = Fa2 (teams_of 40) 0 (slots_of 40)

fair-terms : size_of (class_rows 40 fair) ≡ 780 * 12324
fair-terms = size_of-fa2 40 (teams_of 40) 0 (slots_of 40)

-- 1,113,840 of the season, and 9,612,720 of each demand: with four demands the limit of 40,000,000 is kept
pub four-fair : encoding_size (phased_league 40 (replicate 4 (hard fair))) ≡ 39564720
four-fair = terms-phased 4 40 fair (780 * 12324) fair-terms refl

-- with five it is not
pub five-fair : encoding_size (phased_league 40 (replicate 5 (hard fair))) ≡ 49177440
five-fair = terms-phased 5 40 fair (780 * 12324) fair-terms refl
