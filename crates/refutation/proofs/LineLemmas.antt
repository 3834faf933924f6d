-- Steps of groups, and what a line says.
use Rattle.std.proofs.Common.{◌≡◌, ℕ, ◌%◌, ◌≤◌, Bool, true, false, ◌&&◌, nat_eq, List, [], ◌∷◌}
use Rattle.std.proofs.Common.{length, map, Option, Some, None, Ok, Err, refl, sym, ap, ◌∙◌}
use Rattle.std.proofs.Common.{arith, zero-add, inl, inr, IsSome}
use Rattle.std.specs.Prelude.{codes, bytes_eq, is_some, if◌then◌else◌}
use Rattle.std.specs.List.{All, list_all, onto_first}
use Rattle.std.specs.Borrow.{Bor}
use Rattle.std.proofs.lemmas.Bool.{false≢true}
use Rattle.std.proofs.lemmas.List.Elements.{All-cons, All-head, All-nil, All-tail}
use Rattle.std.proofs.lemmas.List.Splits.{slice_split-cons_no, slice_split-cons_yes}
use Rattle.rows.specs.Literals.{Literal}
use Rattle.refutation.specs.Steps.Step.{Clause}
use Rattle.refutation.specs.Lines.{are_pairs, clause_step, groups_of, is_count, is_literal, is_small_number}
use Rattle.refutation.specs.Lines.{is_small_variable, is_space, is_zero, linear_step, literal, marked_step, number}
use Rattle.refutation.specs.Lines.{paired, tokens_of}
use Rattle.refutation.specs.Tokens.{StandsFirst, StandsWrong, tokens_left}
use Rattle.refutation.specs.Groups.{FindsGroup, IsBadGroup, IsGroup}
use Rattle.refutation.specs.Outcomes.{EndsLine, IsLast, IsLinear, ReadsClause, ReadsLinear}
use Rattle.refutation.specs.declared.fault.LogKind.{LogKind}
use Rattle.refutation.specs.declared.fault.LogKind.TheVariants.{BadLine, BadNumber}
use Rattle.refutation.specs.declared.fault.Stop.{Stop}
use Rattle.refutation.specs.declared.fault.Stop.TheVariants.{Form, Mem}
use Rattle.refutation.specs.declared.step.Part.{Part}
use Rattle.refutation.specs.declared.token.Item.{Item}
use Rattle.refutation.proofs.SplitLemmas.{split-parts}
use Rattle.refutation.proofs.TokenLemmas.{and_false, both_true, count-positive}

-- ---- clause steps

clause-bad : (group : List (List ℕ)) (others : List (List (List ℕ))) → list_all is_literal group ≡ false
    → clause_step (group ∷ others) ≡ Err BadLine
clause-bad group [] bad = refl
clause-bad group (hints ∷ []) bad = refl
clause-bad group (hints ∷ [] ∷ []) bad = rw bad refl
clause-bad group (hints ∷ [] ∷ more ∷ others) bad = refl
clause-bad group (hints ∷ (token ∷ tokens) ∷ others) bad = refl

-- the literals are wrong
pub clause-first_bad : (groups : List (List (List ℕ))) → IsBadGroup is_literal groups
    → clause_step groups ≡ Err BadLine
clause-first_bad groups wrong = ap clause_step wrong.found ∙ (elim wrong.bad [
  | inl bad ↦ clause-bad wrong.group wrong.others bad
  | inr none ↦ rw none refl
])

hints-bad : (group hints : List (List ℕ)) (others : List (List (List ℕ))) → list_all is_count hints ≡ false
    → clause_step (group ∷ hints ∷ others) ≡ Err BadLine
hints-bad group hints [] bad = refl
hints-bad group hints ([] ∷ []) bad = rw (bad, and_false (list_all is_literal group)) refl
hints-bad group hints ([] ∷ more ∷ others) bad = refl
hints-bad group hints ((token ∷ tokens) ∷ others) bad = refl

-- the hints are wrong
pub clause-second_bad : (groups : List (List (List ℕ))) (group : List (List ℕ)) (others : List (List (List ℕ)))
    → groups ≡ group ∷ others → IsBadGroup is_count others → clause_step groups ≡ Err BadLine
clause-second_bad groups group others is wrong =
    ap clause_step is ∙ ap (λ rest. clause_step (group ∷ rest)) wrong.found ∙ (elim wrong.bad [
      | inl bad ↦ hints-bad group wrong.group wrong.others bad
      | inr none ↦ rw none refl
    ])

-- nothing follows the literals
pub clause-cut : (groups : List (List (List ℕ))) (group : List (List ℕ)) → groups ≡ group ∷ groups_of []
    → clause_step groups ≡ Err BadLine
clause-cut groups group is = ap clause_step is

-- what is left of a line isn't nothing
clause-more-at : (group hints : List (List ℕ)) (token : List ℕ) (tokens : List (List ℕ)) (zero : Bool)
    → is_zero token ≡ zero → clause_step (group ∷ hints ∷ groups_of (token ∷ tokens)) ≡ Err BadLine
clause-more-at group hints token tokens true zero =
    let parts = split-parts is_zero tokens in
    ap (λ rest. clause_step (group ∷ hints ∷ rest)) (slice_split-cons_yes is_zero token tokens zero)
    ∙ ap (λ rest. clause_step (group ∷ hints ∷ [] ∷ rest)) parts.are
clause-more-at group hints token tokens false zero =
    let parts = split-parts is_zero tokens in
    ap (λ rest. clause_step (group ∷ hints ∷ rest)) (slice_split-cons_no is_zero token tokens zero)
    ∙ ap (λ rest. clause_step (group ∷ hints ∷ onto_first token rest)) parts.are

-- something follows the hints
pub clause-more : (groups : List (List (List ℕ))) (group hints : List (List ℕ)) (others : List (List (List ℕ)))
    (left : List ℕ)
    → groups ≡ group ∷ others → others ≡ hints ∷ groups_of (tokens_of left) → clause_step groups ≡ Err BadLine
clause-more groups group hints others left is hints_are =
    let parts = split-parts is_space left in
    ap clause_step is ∙ ap (λ rest. clause_step (group ∷ rest)) hints_are
    ∙ ap (λ tokens. clause_step (group ∷ hints ∷ groups_of tokens)) parts.are
    ∙ clause-more-at group hints parts.first parts.others (is_zero parts.first) refl

-- both are written as they have to be
module _ (groups : List (List (List ℕ))) (others : List (List (List ℕ))) (group hints : List (List ℕ))
    (is : groups ≡ group ∷ others) (behind : others ≡ hints ∷ groups_of [])
    (literals : list_all is_literal group ≡ true) (counts : list_all is_count hints ≡ true) where
  clause-form : clause_step groups ≡ clause_step (group ∷ hints ∷ [] ∷ [])
  clause-form = ap clause_step is ∙ ap (λ rest. clause_step (group ∷ rest)) behind

  pub clause-large : (list_all is_small_variable group && list_all is_small_number hints) ≡ false
      → clause_step groups ≡ Err BadNumber
  clause-large large = clause-form ∙ rw (literals, counts, large) refl

  pub clause-says : (list_all is_small_variable group && list_all is_small_number hints) ≡ true
      → clause_step groups ≡ Ok (Clause (map literal group) (map number hints))
  clause-says small = clause-form ∙ rw (literals, counts, small) refl

-- the exits of a clause's reader
pub clause-first : (groups : List (List (List ℕ))) (stop : Stop) (old new literals : List Literal) (hints : List ℕ)
    → FindsGroup is_literal is_small_variable literal groups (Err stop) old new
    → ReadsClause (clause_step groups) (Err stop) literals hints
clause-first groups (Form kind) old new literals hints found = clause-first_bad groups found.1 ∙ ap Err (sym found.0)
clause-first groups Mem old new literals hints found = tt

pub clause-unfinished : (groups : List (List (List ℕ))) (small : Bool) (old new : List Literal)
    → IsGroup is_literal is_small_variable literal groups small None old new → clause_step groups ≡ Err BadLine
clause-unfinished groups small old new first = clause-cut groups first.group first.found

module _ (groups : List (List (List ℕ))) (small : Bool) (left : Bor (List ℕ)) (old new : List Literal)
    (first : IsGroup is_literal is_small_variable literal groups small (Some left) old new) where
  pub clause-second : (stop : Stop) (before now hints : List ℕ) (literals : List Literal)
      → FindsGroup is_count is_small_number number (groups_of (tokens_of left.now)) (Err stop) before now
      → ReadsClause (clause_step groups) (Err stop) literals hints
  clause-second (Form kind) before now hints literals found =
      clause-second_bad groups first.group (groups_of (tokens_of left.now)) first.found found.1 ∙ ap Err (sym found.0)
  clause-second Mem before now hints literals found = tt

  pub clause-behind : (hints_small : Bool) (behind : Option (Bor (List ℕ))) (before now : List ℕ)
      → IsGroup is_count is_small_number number (groups_of (tokens_of left.now)) hints_small behind before now
      → is_some behind ≡ true → clause_step groups ≡ Err BadLine
  clause-behind hints_small None before now second some = absurd (false≢true some)
  clause-behind hints_small (Some rest) before now second some =
      clause-more groups first.group second.group (groups_of (tokens_of left.now)) rest.now first.found second.found

  pub clause-number : (hints_small : Bool) (behind : Option (Bor (List ℕ))) (before now : List ℕ)
      → IsGroup is_count is_small_number number (groups_of (tokens_of left.now)) hints_small behind before now
      → is_some behind ≡ false → (small && hints_small) ≡ false
      → clause_step groups ≡ Err BadNumber
  clause-number hints_small None before now second none large =
      clause-large groups (groups_of (tokens_of left.now)) first.group second.group first.found second.found
      first.written second.written (rw (← first.small_is, ← second.small_is) large)
  clause-number hints_small (Some rest) before now second none large = absurd (false≢true (sym none))

  pub clause-done : (hints_small : Bool) (behind : Option (Bor (List ℕ))) (before now : List ℕ)
      → IsGroup is_count is_small_number number (groups_of (tokens_of left.now)) hints_small behind before now
      → is_some behind ≡ false → small ≡ true → hints_small ≡ true → old ≡ [] → before ≡ []
      → clause_step groups ≡ Ok (Clause new now)
  clause-done hints_small None before now second none literals_fit hints_fit empty nothing =
      let some = sym first.small_is ∙ literals_fit in
      let fit = sym second.small_is ∙ hints_fit in
      clause-says groups (groups_of (tokens_of left.now)) first.group second.group first.found second.found
      first.written second.written (rw (some, fit) refl)
      ∙ rw (first.values some, second.values fit, empty, nothing) refl
  clause-done hints_small (Some rest) before now second none literals_fit hints_fit empty nothing =
      absurd (false≢true (sym none))

-- ---- linear steps

-- the numbers are wrong
linear-bad : (group : List (List ℕ)) (others : List (List (List ℕ))) → list_all is_count group ≡ false
    → linear_step (group ∷ others) ≡ Err BadLine
linear-bad group [] bad = refl
linear-bad group ([] ∷ others) bad = refl
linear-bad group ((divisor ∷ []) ∷ []) bad = rw bad refl
linear-bad group ((divisor ∷ []) ∷ more ∷ others) bad = refl
linear-bad group ((divisor ∷ more ∷ tokens) ∷ others) bad = refl

pub linear-first_bad : (groups : List (List (List ℕ))) → IsBadGroup is_count groups → linear_step groups ≡ Err BadLine
linear-first_bad groups wrong = ap linear_step wrong.found ∙ (elim wrong.bad [
  | inl bad ↦ linear-bad wrong.group wrong.others bad
  | inr none ↦ rw none refl
])

-- nothing follows the numbers
pub linear-cut : (groups : List (List (List ℕ))) (group : List (List ℕ)) → groups ≡ group ∷ groups_of []
    → linear_step groups ≡ Err BadLine
linear-cut groups group is = ap linear_step is

-- what follows isn't one number
pub linear-second_bad : (groups : List (List (List ℕ))) (group : List (List ℕ)) (others : List (List (List ℕ)))
    → groups ≡ group ∷ others
    → ((parts : List (List ℕ)) → linear_step (parts ∷ others) ≡ Err BadLine) → linear_step groups ≡ Err BadLine
linear-second_bad groups group others is bad = ap linear_step is ∙ bad group

wrong-divisor : (parts : List (List ℕ)) (token : List ℕ) (first : List (List ℕ)) (others : List (List (List ℕ)))
    → is_count token ≡ false → linear_step (parts ∷ (token ∷ first) ∷ others) ≡ Err BadLine
wrong-divisor parts token [] [] wrong = rw (wrong, and_false (are_pairs parts), and_false (list_all is_count parts))
    refl
wrong-divisor parts token [] (more ∷ others) wrong = refl
wrong-divisor parts token (next ∷ first) others wrong = refl

-- a token that is no number
pub last-wrong : (left : List ℕ) → StandsWrong is_count left → (parts : List (List ℕ))
    → linear_step (parts ∷ groups_of (tokens_of left)) ≡ Err BadLine
last-wrong left wrong parts =
    let groups = split-parts is_zero wrong.others in
    ap (λ tokens. linear_step (parts ∷ groups_of tokens)) wrong.tokens
    ∙ ap (λ rest. linear_step (parts ∷ rest)) (slice_split-cons_no is_zero wrong.token wrong.others wrong.wrong.0)
    ∙ ap (λ rest. linear_step (parts ∷ onto_first wrong.token rest)) groups.are
    ∙ wrong-divisor parts wrong.token groups.first groups.others wrong.wrong.1

-- `0` in place of the divisor
pub last-zero : (left : List ℕ) (behind : Option (Bor (List ℕ)))
    → StandsFirst is_count is_small_number number left None behind
    → (parts : List (List ℕ)) → linear_step (parts ∷ groups_of (tokens_of left)) ≡ Err BadLine
last-zero left behind first parts =
    ap (λ tokens. linear_step (parts ∷ groups_of tokens)) first.tokens
    ∙ ap (λ rest. linear_step (parts ∷ rest))
    (slice_split-cons_yes is_zero first.token (tokens_left behind) first.says)

more-behind : (parts : List (List ℕ)) (token next : List ℕ) (tokens : List (List ℕ)) (zero : Bool)
    → is_zero next ≡ zero → linear_step (parts ∷ onto_first token (groups_of (next ∷ tokens))) ≡ Err BadLine
more-behind parts token next tokens true zero =
    let groups = split-parts is_zero tokens in
    ap (λ rest. linear_step (parts ∷ onto_first token rest)) (slice_split-cons_yes is_zero next tokens zero)
    ∙ ap (λ rest. linear_step (parts ∷ (token ∷ []) ∷ rest)) groups.are
more-behind parts token next tokens false zero =
    let groups = split-parts is_zero tokens in
    ap (λ rest. linear_step (parts ∷ onto_first token rest)) (slice_split-cons_no is_zero next tokens zero)
    ∙ ap (λ rest. linear_step (parts ∷ onto_first token (onto_first next rest))) groups.are

-- something behind the divisor
pub last-more : (left : List ℕ) (read : Item ℕ) (behind : Bor (List ℕ))
    → StandsFirst is_count is_small_number number left (Some read) (Some behind)
    → (parts : List (List ℕ)) → linear_step (parts ∷ groups_of (tokens_of left)) ≡ Err BadLine
last-more left read behind first parts =
    let next = split-parts is_space behind.now in
    ap (λ tokens. linear_step (parts ∷ groups_of tokens)) first.tokens
    ∙ ap (λ rest. linear_step (parts ∷ rest))
    (slice_split-cons_no is_zero first.token (tokens_of behind.now) first.says.0)
    ∙ ap (λ tokens. linear_step (parts ∷ onto_first first.token (groups_of tokens))) next.are
    ∙ more-behind parts first.token next.first next.others (is_zero next.first) refl

pub last-some : (left : List ℕ) (read : Item ℕ) (behind : Option (Bor (List ℕ))) → IsSome behind
    → StandsFirst is_count is_small_number number left (Some read) behind
    → (parts : List (List ℕ)) → linear_step (parts ∷ groups_of (tokens_of left)) ≡ Err BadLine
last-some left read None some first parts = absurd (false≢true some)
last-some left read (Some behind) some first parts = last-more left read behind first parts

-- the one number
pub last-only : (left : List ℕ) (read : Item ℕ) → StandsFirst is_count is_small_number number left (Some read) None
    → IsLast (groups_of (tokens_of left)) read
last-only left read first = record {
  token = first.token;
  found = ap groups_of first.tokens ∙ slice_split-cons_no is_zero first.token [] first.says.0;
  written = first.says.1;
  small_is = first.says.2;
  value_is = first.says.3;
}

pub last-none : (left : List ℕ) (read : Item ℕ) (behind : Option (Bor (List ℕ))) → is_some behind ≡ false
    → StandsFirst is_count is_small_number number left (Some read) behind → IsLast (groups_of (tokens_of left)) read
last-none left read None none first = last-only left read first
last-none left read (Some behind) none first = absurd (false≢true (sym none))

-- pairs by their number
pub are_pairs-length : {X : Type 0} (xs : List X) → are_pairs xs ≡ nat_eq (length xs % 2) 0
are_pairs-length [] = refl
are_pairs-length (x ∷ []) = refl
are_pairs-length (x ∷ y ∷ xs) = are_pairs-length xs
    ∙ (let same : length xs % 2 ≡ length (x ∷ y ∷ xs) % 2 = omega arith in ap (λ n. nat_eq n 0) same)

pub same_pairs : {X Y : Type 0} (xs : List X) (ys : List Y) → length xs ≡ length ys → are_pairs xs ≡ are_pairs ys
same_pairs xs ys is = are_pairs-length xs ∙ ap (λ n. nat_eq (n % 2) 0) is ∙ sym (are_pairs-length ys)

-- the factors of numbers that are at least 1
pub paired-factors : (numbers : List ℕ) → All (λ n. 1 ≤ n) numbers
    → All (λ (part : Part). 1 ≤ part.factor) (paired numbers)
paired-factors [] least = All-nil (λ (part : Part). 1 ≤ part.factor)
paired-factors (x ∷ []) least = All-nil (λ (part : Part). 1 ≤ part.factor)
paired-factors (factor ∷ row ∷ numbers) least =
    All-cons (λ (part : Part). 1 ≤ part.factor) (record { factor = factor; row = row }) (paired numbers)
    (All-head (λ n. 1 ≤ n) factor (row ∷ numbers) least)
    (paired-factors numbers (All-tail (λ n. 1 ≤ n) row numbers (All-tail (λ n. 1 ≤ n) factor (row ∷ numbers) least)))

counts-positive : (tokens : List (List ℕ)) → list_all is_count tokens ≡ true → All (λ n. 1 ≤ n) (map number tokens)
counts-positive [] h = All-nil (λ n. 1 ≤ n)
counts-positive (token ∷ tokens) h =
    let parts = both_true (is_count token) (list_all is_count tokens) h in
    All-cons (λ n. 1 ≤ n) (number token) (map number tokens) (count-positive token parts.0)
    (counts-positive tokens parts.1)

-- both are written as they have to be
module _ (groups others : List (List (List ℕ))) (group : List (List ℕ)) (read : Item ℕ)
    (is : groups ≡ group ∷ others) (counts : list_all is_count group ≡ true) (last : IsLast others read) where
  linear-form : linear_step groups ≡ linear_step (group ∷ (last.token ∷ []) ∷ [])
  linear-form = ap linear_step is ∙ ap (λ rest. linear_step (group ∷ rest)) last.found

  pub linear-odd : are_pairs group ≡ false → linear_step groups ≡ Err BadLine
  linear-odd odd = linear-form ∙ rw (counts, odd) refl

  pub linear-large : are_pairs group ≡ true → (list_all is_small_number group && read.small) ≡ false
      → linear_step groups ≡ Err BadNumber
  linear-large pairs large = linear-form ∙ rw (counts, pairs, last.written, ← last.small_is, large) refl

  pub linear-says : (parts : List Part) → are_pairs group ≡ true
      → (list_all is_small_number group && read.small) ≡ true → parts ≡ paired (map number group)
      → IsLinear (linear_step groups) parts read.value
  linear-says parts pairs small are =
      let both = both_true (list_all is_small_number group) read.small small in
      let value = last.value_is (sym last.small_is ∙ both.1) in
      record {
        says = linear-form ∙ rw (counts, pairs, last.written, ← last.small_is, small, value, are) refl;
        factors = rw are (paired-factors (map number group) (counts-positive group counts));
        least = rw value (count-positive last.token last.written);
      }

-- the exits of a linear step's reader
pub linear-first : (groups : List (List (List ℕ))) (stop : Stop) (old new : List ℕ) (parts : List Part)
    → FindsGroup is_count is_small_number number groups (Err stop) old new
    → ReadsLinear (linear_step groups) (Err stop) parts
linear-first groups (Form kind) old new parts found = linear-first_bad groups found.1 ∙ ap Err (sym found.0)
linear-first groups Mem old new parts found = tt

pub linear-unfinished : (groups : List (List (List ℕ))) (small : Bool) (old new : List ℕ)
    → IsGroup is_count is_small_number number groups small None old new → linear_step groups ≡ Err BadLine
linear-unfinished groups small old new first = linear-cut groups first.group first.found

module _ (groups : List (List (List ℕ))) (small : Bool) (left : Bor (List ℕ)) (old new : List ℕ)
    (first : IsGroup is_count is_small_number number groups small (Some left) old new) where
  pub linear-second : (kind : LogKind) → EndsLine (groups_of (tokens_of left.now)) (Err kind)
      → linear_step groups ≡ Err kind
  linear-second kind ends = linear-second_bad groups first.group (groups_of (tokens_of left.now)) first.found ends.1
      ∙ ap Err (sym ends.0)

  same_count : old ≡ [] → are_pairs new ≡ are_pairs first.group
  same_count empty = same_pairs new first.group ((rw empty at first.count) ∙ zero-add (length first.group))

  pub linear-unpaired : (read : Item ℕ) → IsLast (groups_of (tokens_of left.now)) read → old ≡ []
      → are_pairs new ≡ false → linear_step groups ≡ Err BadLine
  linear-unpaired read last empty odd = linear-odd groups (groups_of (tokens_of left.now)) first.group read
      first.found first.written last (sym (same_count empty) ∙ odd)

  pub linear-number : (read : Item ℕ) → IsLast (groups_of (tokens_of left.now)) read → old ≡ []
      → are_pairs new ≡ true → (small && read.small) ≡ false → linear_step groups ≡ Err BadNumber
  linear-number read last empty pairs large =
      linear-large groups (groups_of (tokens_of left.now)) first.group read first.found first.written last
      (sym (same_count empty) ∙ pairs) (rw (← first.small_is) large)

  pub linear-done : (read : Item ℕ) (parts : List Part) → IsLast (groups_of (tokens_of left.now)) read → old ≡ []
      → are_pairs new ≡ true → small ≡ true → read.small ≡ true → parts ≡ paired new
      → IsLinear (linear_step groups) parts read.value
  linear-done read parts last empty pairs numbers_fit fits are =
      let fit = sym first.small_is ∙ numbers_fit in
      linear-says groups (groups_of (tokens_of left.now)) first.group read first.found first.written last parts
      (sym (same_count empty) ∙ pairs) (rw (fit, fits) refl)
      (are ∙ ap paired (rw empty at (first.values fit)))

-- ---- marks

nothing-marked : (c l : Bool)
    → (if c then clause_step (groups_of []) else (if l then linear_step (groups_of []) else Err BadLine))
    ≡ Err BadLine
nothing-marked true l = refl
nothing-marked false true = refl
nothing-marked false false = refl

-- a first token and nothing else
pub marked-alone : (tokens : List (List ℕ)) (mark : List ℕ) → tokens ≡ mark ∷ [] → marked_step tokens ≡ Err BadLine
marked-alone tokens mark is = ap marked_step is ∙ nothing-marked (bytes_eq mark (codes "c"))
    (bytes_eq mark (codes "l"))

pub marked-clause : (tokens others : List (List ℕ)) (mark : List ℕ) → tokens ≡ mark ∷ others
    → bytes_eq mark (codes "c") ≡ true → marked_step tokens ≡ clause_step (groups_of others)
marked-clause tokens others mark is c = ap marked_step is ∙ rw c refl

pub marked-linear : (tokens others : List (List ℕ)) (mark : List ℕ) → tokens ≡ mark ∷ others
    → bytes_eq mark (codes "c") ≡ false → bytes_eq mark (codes "l") ≡ true
    → marked_step tokens ≡ linear_step (groups_of others)
marked-linear tokens others mark is c l = ap marked_step is ∙ rw (c, l) refl

pub marked-other : (tokens others : List (List ℕ)) (mark : List ℕ) → tokens ≡ mark ∷ others
    → bytes_eq mark (codes "c") ≡ false → bytes_eq mark (codes "l") ≡ false
    → marked_step tokens ≡ Err BadLine
marked-other tokens others mark is c l = ap marked_step is ∙ rw (c, l) refl
