-- How long the lines of steps with few items and small numbers are.
use Rattle.std.proofs.Common.{ℕ, ◌*◌, ◌≤◌, Bool, true, false, List, ◌++◌}
use Rattle.std.proofs.Common.{length, get_or, arith, decimal, length-append}
use Rattle.std.specs.Prelude.{codes}
use Rattle.std.specs.List.{All, flat_map, sum_by}
use Rattle.std.proofs.lemmas.Fmt.{length-decimal-le}
use Rattle.std.proofs.lemmas.List.Concat.{length-flat_map}
use Rattle.std.proofs.lemmas.List.Sums.{sum_by-le}
use Rattle.rows.specs.Literals.{Literal}
use Rattle.refutation.specs.Steps.Step.{Clause, Linear}
use Rattle.refutation.specs.Texts.{clause_mark, clause_text, linear_text, literal_text, literal_token, number_text}
use Rattle.refutation.specs.Texts.{part_text, sign_text}
use Rattle.refutation.specs.declared.step.Part.{Part}
use Rattle.refutation.specs.declared.version.Version.{Version}
use Rattle.refutation.specs.declared.version.Version.TheVariants.{One, Two}
use Rattle.break_counts.specs.Lines.{IsShort, most_number}

sign_short : (sign : Bool) → length (sign_text sign) ≤ 1
sign_short true = omega arith
sign_short false = omega arith

decimal_short : (n : ℕ) → n ≤ most_number → length (decimal n) ≤ 13
decimal_short n small = length-decimal-le 13 n (omega arith) (omega (arith, small)) (omega (arith, small))

number_short : (n : ℕ) → n ≤ most_number → length (number_text n) ≤ 14
number_short n small = omega (arith, length-append (decimal n) (codes " "), decimal_short n small)

literal_short : (l : Literal) → l.var ≤ most_number → length (literal_text l) ≤ 15
literal_short l small =
    omega (
      arith,
      length-append (literal_token l) (codes " "),
      length-append (sign_text l.positive) (decimal l.var),
      sign_short l.positive,
      decimal_short l.var small,
    )

part_short : (p : Part) → p.factor ≤ most_number → p.row ≤ most_number → length (part_text p) ≤ 28
part_short p factor row =
    omega (
      arith,
      length-append (number_text p.factor) (number_text p.row),
      number_short p.factor factor,
      number_short p.row row,
    )

mark_short : (version : Version) → length (clause_mark version) ≤ 2
mark_short One = omega arith
mark_short Two = omega arith

pub clause_short : (clause : List Literal) (hints : List ℕ) → All (λ l. l.var ≤ most_number) clause
    → All (λ hint. hint ≤ most_number) hints → length clause ≤ 100000 → length hints ≤ 100000
    → IsShort (Clause clause hints)
clause_short clause hints known small few_lits few_hints version =
    let lits : sum_by (λ l. length (literal_text l)) clause ≤ length clause * 15 =
    sum_by-le (λ l. length (literal_text l)) 15 clause
    (λ k d within. literal_short (get_or clause k d) (known k d within)) in
    let numbers : sum_by (λ n. length (number_text n)) hints ≤ length hints * 14 =
    sum_by-le (λ n. length (number_text n)) 14 hints
    (λ k d within. number_short (get_or hints k d) (small k d within)) in
    omega (
      arith,
      length-append (clause_mark version) (clause_text clause hints),
      mark_short version,
      length-append (flat_map literal_text clause) (codes "0 " ++ (flat_map number_text hints ++ codes "0")),
      length-append (codes "0 ") (flat_map number_text hints ++ codes "0"),
      length-append (flat_map number_text hints) (codes "0"),
      length-flat_map literal_text clause,
      length-flat_map number_text hints,
      lits,
      numbers,
      few_lits,
      few_hints,
    )

pub linear_short : (parts : List Part) (divisor : ℕ)
    → All (λ part. (part.factor ≤ most_number) × (part.row ≤ most_number)) parts → length parts ≤ 100000
    → divisor ≤ most_number → IsShort (Linear parts divisor)
linear_short parts divisor small few divides version =
    let texts : sum_by (λ p. length (part_text p)) parts ≤ length parts * 28 =
    sum_by-le (λ p. length (part_text p)) 28 parts
    (λ k d within. part_short (get_or parts k d) (small k d within).0 (small k d within).1) in
    omega (
      arith,
      length-append (codes "l ") (linear_text parts divisor),
      length-append (flat_map part_text parts) (codes "0 " ++ decimal divisor),
      length-append (codes "0 ") (decimal divisor),
      length-flat_map part_text parts,
      decimal_short divisor divides,
      texts,
      few,
    )
