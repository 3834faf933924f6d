-- The marks beside rows of numbers.
use Rattle.std.proofs.Common.{◌≡◌, ◌≢◌, ◌⊎◌, ℕ, ◌<◌, Bool, true, ◌&&◌, ◌==◌, nat_lt, List, length, get_or, replicate}
use Rattle.std.proofs.Common.{arith, ap, sym, ◌∙◌, inl, inr}
use Rattle.std.proofs.lemmas.Bool.{cases_eq}
use Rattle.std.proofs.lemmas.Bool.Decides.{nat_tests}
use Rattle.std.proofs.lemmas.List.{length-replicate}
use Rattle.std.proofs.lemmas.Nat.{pow_pos}
use Rattle.std.proofs.lemmas.Nat.Bits.{bit_at-zero}
use Rattle.std.specs.Int.{bit_at}
use Rattle.league.specs.Grid.{number}
use Rattle.league.proofs.RangeLemmas.{one_if}
use Rattle.league.proofs.TableLemmas.{number-replicate, zero_at}
use Rattle.rule_core.specs.Tables.{AreMarked, HasMarks, IsMark, IsOneMore}
use Rattle.rule_core.specs.declared.counters.Counters.{Counters}

-- numbers of another row or column are the same
row_apart : (row i column k : ℕ) → i ≢ row → one_if ((row == i) && (column == k)) ≡ 0
row_apart row i column k differ = grind (arith, nat_tests)

column_apart : (row i column k : ℕ) → k ≢ column → one_if ((row == i) && (column == k)) ≡ 0
column_apart row i column k differ = grind (arith, nat_tests)

-- marks follow a number that changes
AreMarked-changed : (row column : ℕ) (there : Bool) (before between after : Counters) → AreMarked before
    → between.columns ≡ before.columns → between.marks.items ≡ before.marks.items
    → ((i k : ℕ) → (i ≢ row) ⊎ (k ≢ column)
    → number between.columns between.numbers.items i k ≡ number before.columns before.numbers.items i k)
    → nat_lt 0 (number between.columns between.numbers.items row column) ≡ there
    → IsMark row column there between after → AreMarked after
AreMarked-changed row column there before between after marked wide kept same is mark =
    let old : (i : ℕ) → get_or between.marks.items i 0 ≡ get_or before.marks.items i 0 =
    λ i. ap (λ (xs : List ℕ). get_or xs i 0) kept in
    let read : (i k : ℕ) → number after.columns after.numbers.items i k
    ≡ number between.columns between.numbers.items i k =
    λ i k. ap (λ (w : ℕ). number w after.numbers.items i k) mark.as_wide
    ∙ ap (λ (xs : List ℕ). number between.columns xs i k) mark.as_numbered in
    let apart : (i k : ℕ) → (i ≢ row) ⊎ (k ≢ column) → k < 78 → bit_at (get_or before.marks.items i 0) k
    ≡ one_if (nat_lt 0 (number after.columns after.numbers.items i k)) =
    λ i k differ lt. marked.each i k lt
    ∙ sym (ap (λ (x : ℕ). one_if (nat_lt 0 x)) (read i k ∙ same i k differ)) in
    record {
      small = λ i. elim (cases_eq i row) [
        | inl at_row ↦ omega (arith, ap (λ (r : ℕ). get_or after.marks.items r 0) at_row, mark.small)
        | inr away ↦ omega (arith, mark.others i away, old i, marked.small i)
      ];
      each = λ i k lt. elim (cases_eq i row) [
        | inl at_row ↦ elim (cases_eq k column) [
          | inl at_column ↦
              ap (λ (r : ℕ). bit_at (get_or after.marks.items r 0) k) at_row
              ∙ ap (λ (c : ℕ). bit_at (get_or after.marks.items row 0) c) at_column
              ∙ mark.here
              ∙ sym (ap one_if is)
              ∙ sym (ap (λ (x : ℕ). one_if (nat_lt 0 x)) (read row column))
              ∙ sym (ap (λ (c : ℕ). one_if (nat_lt 0 (number after.columns after.numbers.items row c))) at_column)
              ∙ sym (ap (λ (r : ℕ). one_if (nat_lt 0 (number after.columns after.numbers.items r k))) at_row)
          | inr beside ↦
              ap (λ (r : ℕ). bit_at (get_or after.marks.items r 0) k) at_row
              ∙ mark.along k lt beside
              ∙ ap (λ (x : ℕ). bit_at x k) (old row)
              ∙ sym (ap (λ (r : ℕ). bit_at (get_or before.marks.items r 0) k) at_row)
              ∙ apart i k (inr beside) lt
        ]
        | inr away ↦
            ap (λ (x : ℕ). bit_at x k) (mark.others i away ∙ old i) ∙ apart i k (inl away) lt
      ];
    }

-- with one more, the number isn't 0
pub AreMarked-more : (row column : ℕ) (before between after : Counters) → AreMarked before
    → IsOneMore row column before between → between.marks.items ≡ before.marks.items
    → IsMark row column true between after → AreMarked after
AreMarked-more row column before between after marked one kept mark =
    let here : one_if ((row == row) && (column == column)) ≡ 1 = grind (arith, nat_tests) in
    let more : 0 < number between.columns between.numbers.items row column =
    omega (arith, one.each row column, here) in
    AreMarked-changed row column true before between after marked one.as_wide kept
    (λ i k differ. elim differ [
      | inl away ↦ omega (arith, one.each i k, row_apart row i column k away)
      | inr beside ↦ omega (arith, one.each i k, column_apart row i column k beside)
    ])
    (grind (arith, nat_tests)) mark

-- with one less, it is as it is read
pub AreMarked-less : (row column left : ℕ) (there : Bool) (before between after : Counters) → AreMarked before
    → IsOneMore row column between before → between.marks.items ≡ before.marks.items
    → left ≡ number between.columns between.numbers.items row column → nat_lt 0 left ≡ there
    → IsMark row column there between after → AreMarked after
AreMarked-less row column left there before between after marked one kept read is mark =
    AreMarked-changed row column there before between after marked (sym one.as_wide) kept
    (λ i k differ. elim differ [
      | inl away ↦ omega (arith, one.each i k, row_apart row i column k away)
      | inr beside ↦ omega (arith, one.each i k, column_apart row i column k beside)
    ])
    (sym (ap (nat_lt 0) read) ∙ is) mark

-- the counters are one more, or one less, with the marks too
pub IsOneMore-marked : (row column r c : ℕ) (there : Bool) (before between after : Counters)
    → IsOneMore row column before between → IsMark r c there between after → IsOneMore row column before after
IsOneMore-marked row column r c there before between after one mark = record {
  as_wide = mark.as_wide ∙ one.as_wide;
  as_long = ap length mark.as_numbered ∙ one.as_long;
  each = λ i k. ap (λ (w : ℕ). number w after.numbers.items i k) mark.as_wide
      ∙ ap (λ (xs : List ℕ). number between.columns xs i k) mark.as_numbered ∙ one.each i k;
}

pub IsOneLess-marked : (row column r c : ℕ) (there : Bool) (before between after : Counters)
    → IsOneMore row column between before → IsMark r c there between after → IsOneMore row column after before
IsOneLess-marked row column r c there before between after one mark = record {
  as_wide = one.as_wide ∙ sym mark.as_wide;
  as_long = one.as_long ∙ sym (ap length mark.as_numbered);
  each = λ i k. omega (
    arith,
    one.each i k,
    ap (λ (w : ℕ). number w after.numbers.items i k) mark.as_wide,
    ap (λ (xs : List ℕ). number between.columns xs i k) mark.as_numbered,
  );
}

-- nothing is marked in new rows
pub HasMarks-none : (rows size : ℕ) (c : Counters) → c.numbers.items ≡ replicate size 0 → c.marks.items ≡ replicate rows 0 → HasMarks rows c
HasMarks-none rows size c zeros none =
    let read : (i : ℕ) → get_or c.marks.items i 0 ≡ 0 =
    λ i. ap (λ (xs : List ℕ). get_or xs i 0) none ∙ zero_at rows i in
    record {
      rows = ap length none ∙ length-replicate {A = ℕ} rows 0;
      marked = record {
        small = λ i. omega (arith, read i, pow_pos 78);
        each = λ i k lt. ap (λ (x : ℕ). bit_at x k) (read i) ∙ bit_at-zero k
            ∙ sym (ap (λ (x : ℕ). one_if (nat_lt 0 x))
            (ap (λ (xs : List ℕ). number c.columns xs i k) zeros ∙ number-replicate c.columns size i k));
      };
    }
