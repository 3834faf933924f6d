-- How many terms resume rows have.
use Rattle.std.proofs.Common.{◌≡◌, ℕ, ◌+◌, ◌-◌, ◌*◌, length, arith, ap, ◌∙◌}
use Rattle.std.proofs.lemmas.List.FromFn.{length-range_with_len}
use Rattle.std.proofs.lemmas.List.Sums.{sum_by-append}
use Rattle.std.specs.List.{range_with_len, sum_by}
use Rattle.league.specs.Counts.{Counts, counts_of}
use Rattle.league.specs.Meetings.{meetings_of}
use Rattle.league.proofs.SumLemmas.{sum_by-flat_map, sum_by-map, sum_by-same}
use Rattle.rows.specs.Rows.{Row, size_of}
use Rattle.encoding.specs.Encoding.{rows_of}
use Rattle.encoding.proofs.SizeLemmas.{sum_by-constant}
use Rattle.encoding.proofs.SeasonSizes.{length-meetings_of}
use Rattle.resume.specs.Kept.{kept_row, kept_rows, kept_rows_in}
use Rattle.resume.specs.Resumable.{HaveSize}

in_slot : (n : ℕ) (played : Counts) (s : ℕ) → size_of (kept_rows_in n played s) ≡ n * (n - 1)
in_slot n played s =
    let terms : Row → ℕ = λ r. length r.terms in
    let counted : size_of (kept_rows_in n played s) ≡ sum_by (λ p. 1) (meetings_of n) =
    sum_by-map terms (kept_row n played s) (meetings_of n) in
    omega (arith, counted, sum_by-constant 1 (meetings_of n), length-meetings_of n)

kept_size : (n : ℕ) (played : Counts) (k : ℕ) → size_of (kept_rows n played k) ≡ k * (n * (n - 1))
kept_size n played k =
    let terms : Row → ℕ = λ r. length r.terms in
    sum_by-flat_map terms (kept_rows_in n played) (range_with_len 0 k)
    ∙ sum_by-same (λ s. size_of (kept_rows_in n played s)) (λ s. n * (n - 1)) (in_slot n played) (range_with_len 0 k)
    ∙ sum_by-constant (n * (n - 1)) (range_with_len 0 k)
    ∙ ap (λ (c : ℕ). c * (n * (n - 1))) (length-range_with_len 0 k)

turned : (k product : ℕ) → k * product ≡ product * k
turned k product = omega arith

pub have_size : HaveSize
have_size league played k =
    let more = kept_size league.n (counts_of played) k ∙ turned k (league.n * (league.n - 1)) in
    sum_by-append (λ r. length r.terms) (rows_of league) (kept_rows league.n (counts_of played) k)
    ∙ ap (λ (c : ℕ). size_of (rows_of league) + c) more
