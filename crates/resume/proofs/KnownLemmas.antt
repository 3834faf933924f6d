-- The variables of the resume rows are those of the league.
use Rattle.std.proofs.Common.{◌≡◌, ℕ, ◌<◌, ◌≤◌, true, [], get_or, arith}
use Rattle.std.proofs.lemmas.List.Elements.{All-append, All-cons, All-map, All-nil, All-weaker}
use Rattle.std.proofs.lemmas.List.Sums.{AllPass-from_list_all}
use Rattle.std.specs.List.{range_with_len}
use Rattle.league.specs.Counts.{Counts, slot_count}
use Rattle.league.specs.Instance.{Instance, IsInstance, is_meeting}
use Rattle.league.specs.Meetings.{meetings_of}
use Rattle.league.proofs.OneTermLemmas.{All-flat_map}
use Rattle.rows.specs.Cardinality.{unit}
use Rattle.rows.specs.declared.lit.Term.{Term}
use Rattle.encoding.specs.Encoding.{rows_of}
use Rattle.encoding.specs.Known.{AreKnown, IsKnown}
use Rattle.encoding.specs.Variables.{var_count, x_count, x_var}
use Rattle.encoding.proofs.AscendLemmas.{AscendsBy-below, AscendsBy-range}
use Rattle.encoding.proofs.PlaceLemmas.{x_place-below, x_var-place}
use Rattle.encoding.proofs.KnownLemmas.{rows_of-known}
use Rattle.decoding.proofs.MeetingLists.{meeting_parts, meetings_of-fit}
use Rattle.resume.specs.Kept.{kept_literal, kept_row, kept_rows, kept_rows_in, resume_rows}

kept_row-known : (vars n : ℕ) (played : Counts) (s : ℕ) (p : ℕ × ℕ) → x_count n ≤ vars → s < slot_count n
    → is_meeting n p ≡ true → IsKnown vars (kept_row n played s p)
kept_row-known vars n played s p wide slot meet =
    let one : Term → Type 0 = λ t. (1 ≤ t.lit.var) × (t.lit.var ≤ vars) in
    let parts = meeting_parts n p meet in
    let place = x_var-place n p.0 p.1 s in
    let below = x_place-below n p.0 p.1 s parts.0 parts.1 parts.2 slot in
    let known : (1 ≤ x_var n p.0 p.1 s) × (x_var n p.0 p.1 s ≤ vars) =
    (omega (arith, place), omega (arith, place, below, wide)) in
    All-cons one (unit (kept_literal n played s p)) [] known (All-nil one)

pub kept_rows-known : (vars n : ℕ) (played : Counts) (k : ℕ) → x_count n ≤ vars → k ≤ slot_count n
    → AreKnown vars (kept_rows n played k)
kept_rows-known vars n played k wide season =
    All-flat_map (IsKnown vars) (kept_rows_in n played) (range_with_len 0 k)
    (λ l d within.
    let s : ℕ = get_or (range_with_len 0 k) l d in
    let slot : s < k = AscendsBy-below (λ t. t) 0 (range_with_len 0 k) k (AscendsBy-range 0 k k (omega arith)) l d within in
    All-map (IsKnown vars) (kept_row n played s) (meetings_of n)
    (All-weaker (λ p. is_meeting n p ≡ true) (λ p. IsKnown vars (kept_row n played s p))
    (λ p meet. kept_row-known vars n played s p wide (omega (arith, slot, season)) meet) (meetings_of n)
    (AllPass-from_list_all (is_meeting n) (meetings_of n) (meetings_of-fit n))))

pub resume_rows-known : (league : Instance) (played : Counts) (k : ℕ) → IsInstance league → k ≤ slot_count league.n
    → AreKnown (var_count league) (resume_rows league played k)
resume_rows-known league played k is season =
    let wide : x_count league.n ≤ var_count league = omega arith in
    All-append (IsKnown (var_count league)) (rows_of league) (kept_rows league.n played k) (rows_of-known league is)
    (kept_rows-known (var_count league) league.n played k wide season)
