-- Counters in which one number is one more, or one less.
use Rattle.std.proofs.Common.{◌≡◌, ℕ, ◌+◌, ◌*◌, ◌-◌, ◌<◌, List, length, get_or, set, arith, ap, ◌∙◌}
use Rattle.std.proofs.lemmas.List.{length-set}
use Rattle.league.specs.Grid.{number}
use Rattle.league.proofs.TableLemmas.{number-inside, number-set_less, number-set_more, read_at}
use Rattle.rule_core.specs.Tables.{IsOneMore}
use Rattle.rule_core.specs.declared.counters.Counters.{Counters}

-- counters in which one more was written
pub IsOneMore-set_more : (before after : Counters) (row column read value : ℕ) → after.columns ≡ before.columns
    → after.numbers.items ≡ set before.numbers.items (row * before.columns + column) value → column < before.columns
    → row * before.columns + column < length before.numbers.items
    → read ≡ get_or before.numbers.items (row * before.columns + column) read → value ≡ read + 1
    → IsOneMore row column before after
IsOneMore-set_more before after row column read value wide items inside within was is =
    let xs = before.numbers.items in
    let place : ℕ = row * before.columns + column in
    let old : read ≡ get_or xs place 0 = read_at xs place read within was in
    record {
      as_wide = wide;
      as_long = ap length items ∙ length-set xs place value;
      each = λ i k. ap (λ (w : ℕ). number w after.numbers.items i k) wide ∙ ap (λ (ys : List ℕ). number before.columns ys i k) items ∙ number-set_more before.columns xs row column value inside within (omega arith) i k;
    }

-- counters in which one less was written
pub IsOneMore-set_less : (before after : Counters) (row column read value : ℕ) → before.columns ≡ after.columns
    → before.numbers.items ≡ set after.numbers.items (row * after.columns + column) value → column < after.columns
    → row * after.columns + column < length after.numbers.items
    → read ≡ get_or after.numbers.items (row * after.columns + column) read → value ≡ read - 1
    → 0 < number after.columns after.numbers.items row column → IsOneMore row column before after
IsOneMore-set_less before after row column read value wide items inside within was is there =
    let xs = after.numbers.items in
    let place : ℕ = row * after.columns + column in
    let old : read ≡ get_or xs place 0 = read_at xs place read within was in
    let back : value + 1 ≡ get_or xs place 0 = omega (arith, old, number-inside after.columns xs row column inside) in
    let less : (i k : ℕ) → number before.columns before.numbers.items i k ≡ number after.columns (set xs place value) i k = λ i k. ap (λ (w : ℕ). number w before.numbers.items i k) wide ∙ ap (λ (ys : List ℕ). number after.columns ys i k) items in
    record {
      as_wide = omega arith;
      as_long = omega (arith, ap length items, length-set xs place value);
      each = λ i k. omega (arith, less i k, number-set_less after.columns xs row column value inside within back i k);
    }
