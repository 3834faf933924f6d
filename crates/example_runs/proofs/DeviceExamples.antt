-- What devices count, what their faults say, and what a write leaves.
use Rattle.std.proofs.Common.{◌≡◌, ℕ, zero, suc, ◌-◌, ◌^◌, ◌≤◌, Bool, true, false, if◌then◌else◌, List, []}
use Rattle.std.proofs.Common.{◌∷◌, length, Option, Some, None, Ok, Err, IsSome, codes}
use Rattle.std.proofs.Common.{bytes_eq, option_map, get_or, ap, arith, refl}
use Rattle.std.proofs.Common.{sym}
use Rattle.std.specs.Option.{option_map_or}
use Rattle.std.proofs.lemmas.Slice.Eq.{bytes_eq-Decides}
use Rattle.robin_io.specs.Counts.{HasCause, HasOneCause, Rose}
use Rattle.robin_io.specs.Faults.{CountsFault}
use Rattle.robin_io.specs.ShelfView.{FileView, ShelfView, contents_in, faults_in, file_in}
use Rattle.robin_io.specs.Written.{AppendsPrefix}

-- ---- devices: a failing call raises the count of its file, and no count falls

abbrev threes : List ℕ → ℕ
threes name = 3

abbrev log_failed : List ℕ → ℕ
log_failed name = if bytes_eq name (codes "log") then 4 else 3

three_or_four : (b : Bool) → 3 ≤ (if b then 4 else 3)
three_or_four true = omega arith
three_or_four false = omega arith

pub cause-log : HasCause {T = ℕ} {E = ℕ} threes log_failed (codes "log") (Err 8)
cause-log = record { later = λ name. three_or_four (bytes_eq name (codes "log")); fault = omega arith }

-- a call that succeeds needs no cause, and another file's fault is none
pub cause-works : HasCause {T = ℕ} {E = ℕ} threes threes (codes "log") (Ok 8)
cause-works = record { later = λ name. omega arith; fault = tt }

stays : (n : ℕ) → n ≡ 3 → Rose 3 n → ⊥
stays n three rose = omega (arith, three, rose)

pub cause-other : HasCause {T = ℕ} {E = ℕ} threes log_failed (codes "league") (Err 8) → ⊥
cause-other is = stays 3 refl is.fault

falls_back : (n : ℕ) → n ≡ 3 → 4 ≤ n → ⊥
falls_back n three more = omega (arith, three, more)

pub cause-fallen : HasCause {T = ℕ} {E = ℕ} log_failed threes (codes "league") (Ok 8) → ⊥
cause-fallen is = falls_back 3 refl (is.later (codes "log"))

-- a count at its last value has risen
pub cause-last : HasOneCause {T = ℕ} {E = ℕ} (2 ^ 64 - 1) (2 ^ 64 - 1) (Err 8)
cause-last = record { later = omega arith; fault = omega arith }

pub cause-one_fallen : HasOneCause {T = ℕ} {E = ℕ} 4 3 (Ok 8) → ⊥
cause-one_fallen is = falls_back 3 refl is.later

pub cause-one : HasOneCause {T = ℕ} {E = ℕ} 3 4 (Err 8) × (HasOneCause {T = ℕ} {E = ℕ} 3 3 (Err 8) → ⊥)
cause-one = (record { later = omega arith; fault = omega arith }, λ is. stays 3 refl is.fault)

-- ---- faults of a store in memory: of `ab`, which has failed twice, and of names that have no file, 9 times

abbrev file : ℕ → FileView
file faults = record { name = codes "ab"; bytes = codes "xyz"; faults = faults }

abbrev shelf : ℕ → ℕ → ShelfView
shelf faults others = record {
  files = file faults ∷ [];
  started = None;
  left = None;
  taken = 0;
  other_faults = others;
  plan = [];
  calls = 0;
}

other_name : (name : List ℕ) → (name ≡ codes "ab" → ⊥) → (b : Bool) → bytes_eq (codes "ab") name ≡ b
    → IsSome (contents_in (shelf 2 9).files name)
    → faults_in (shelf 3 9).files 9 name ≡ faults_in (shelf 2 9).files 9 name
other_name name differs true same there = absurd (differs (sym ((bytes_eq-Decides (codes "ab") name).0 same)))
other_name name differs false other there = rw other refl

pub counts-own : CountsFault (codes "ab") (shelf 2 9) (shelf 3 9)
counts-own = record {
  risen = refl;
  other_files = λ name differs there. other_name name differs (bytes_eq (codes "ab") name) refl there;
  other_faults = refl;
}

kept : (o : Option FileView) → IsSome (option_map (λ (f : FileView). f.bytes) o)
    → option_map_or (λ (f : FileView). f.faults) o 10 ≡ option_map_or (λ (f : FileView). f.faults) o 9
kept (Some f) there = refl
kept None there = absurd (cc)

-- a name without a file raises the count that all these share
pub counts-common : CountsFault (codes "a") (shelf 2 9) (shelf 2 10)
counts-common = record {
  risen = refl;
  other_files = λ name differs there. kept (file_in (shelf 2 9).files name) there;
  other_faults = refl;
}

nine_ten : (n : ℕ) → n ≡ 10 → n ≡ 9 → ⊥
nine_ten n ten nine = omega (arith, ten, nine)

pub counts-both : CountsFault (codes "ab") (shelf 2 9) (shelf 3 10) → ⊥
counts-both is = nine_ten 10 refl is.other_faults

three_four : (n : ℕ) → n ≡ 4 → n ≡ 3 → ⊥
three_four n four three = omega (arith, four, three)

pub counts-twice : CountsFault (codes "ab") (shelf 2 9) (shelf 4 9) → ⊥
counts-twice is = three_four 4 refl is.risen

-- a second file, whose count is none of it
abbrev two_files : ℕ → ℕ → ShelfView
two_files faults other = record (shelf faults 9) {
  files = file faults ∷ record { name = codes "b"; bytes = []; faults = other } ∷ [];
}

b_ab : codes "b" ≡ codes "ab" → ⊥
b_ab is = omega (arith, ap (λ (name : List ℕ). length name) is)

one_zero : (n : ℕ) → n ≡ 1 → n ≡ 0 → ⊥
one_zero n one none = omega (arith, one, none)

pub counts-others : CountsFault (codes "ab") (two_files 2 0) (two_files 3 1) → ⊥
counts-others is = one_zero 1 refl (is.other_files (codes "b") b_ab refl)

-- ---- a write that was cut short: nothing or all of it may have been written, and no other bytes

pub prefix-ends : AppendsPrefix (Some (codes "> ")) (Some (codes "> ")) (codes "yes\n")
    × AppendsPrefix (Some (codes "> ")) (Some (codes "> yes\n")) (codes "yes\n")
prefix-ends = ((0, omega arith, refl), (4, omega arith, refl))

pub prefix-other : AppendsPrefix (Some (codes "> ")) (Some (codes "> no")) (codes "yes\n") → ⊥
prefix-other (zero, within, is) = cc
prefix-other (suc n, within, is) = omega (arith, ap (λ (text : List ℕ). get_or text 2 0) is)
