-- The line of a step reads back as the step.
use Rattle.std.proofs.Common.{◌≡◌, ℕ, ◌≤◌, Bool, true, false, List, [], ◌∷◌, ◌++◌, map, append_assoc, refl, arith}
use Rattle.std.proofs.Common.{ap, ◌∙◌, decimal}
use Rattle.std.specs.Prelude.{codes, Ok}
use Rattle.std.specs.List.{All, flat_map, list_all}
use Rattle.std.proofs.lemmas.Bool.Decides.{nat_tests}
use Rattle.std.proofs.lemmas.List.Elements.{All-nil, All-cons, All-head, All-tail, All-map, All-weaker}
use Rattle.std.proofs.lemmas.List.Splits.{slice_split_at, slice_split_none}
use Rattle.rows.specs.Literals.{Literal}
use Rattle.refutation.specs.Steps.{Step, NamesRows}
use Rattle.refutation.specs.Steps.Step.{Clause, Linear}
use Rattle.refutation.specs.Lines.{are_pairs, clause_step, groups_of, is_count, is_literal, is_small_number}
use Rattle.refutation.specs.Lines.{is_small_variable, is_space, is_zero, linear_step, literal, number, paired}
use Rattle.refutation.specs.Lines.{step_line, tokens_of}
use Rattle.refutation.specs.Texts.{clause_text, linear_text, literal_token, number_text, part_text, step_text}
use Rattle.refutation.specs.Written.{HasSmallNumbers, IsFactored, IsOf, IsSmall, IsVariable}
use Rattle.refutation.specs.declared.step.Part.{Part}
use Rattle.refutation.specs.declared.version.Version.{Version}
use Rattle.refutation.specs.declared.version.Version.TheVariants.{One, Two}
use Rattle.refutation.proofs.NumberTexts.{IsToken, decimal-token, is_count-decimal, is_literal-literal_token}
use Rattle.refutation.proofs.NumberTexts.{is_small_number-decimal, is_small_variable-literal_token, is_zero-decimal}
use Rattle.refutation.proofs.NumberTexts.{is_zero-literal_token, literal-literal_token, literal-token}
use Rattle.refutation.proofs.NumberTexts.{number-decimal}

-- ---- lists of tokens

byte-apart : (b : ℕ) → 33 ≤ b → is_space b ≡ false
byte-apart b least = grind (arith, nat_tests)

token-apart : (token : List ℕ) → IsToken token → All (λ b. is_space b ≡ false) token
token-apart token is = All-weaker (λ (b : ℕ). 33 ≤ b) (λ (b : ℕ). is_space b ≡ false) byte-apart token is

tokens_of-token : (token rest : List ℕ) → IsToken token → tokens_of (token ++ 32 ∷ rest) ≡ token ∷ tokens_of rest
tokens_of-token token rest is = slice_split_at is_space token 32 rest (token-apart token is) refl

tokens_of-last : (token : List ℕ) → IsToken token → tokens_of token ≡ token ∷ []
tokens_of-last token is = slice_split_none is_space token (token-apart token is)

-- tokens with a space behind each, and what comes then
tokens_of-spaced : {X : Type 0} (f : X → List ℕ) (xs : List X) (rest : List ℕ) → All (λ x. IsToken (f x)) xs
    → tokens_of (flat_map (λ x. f x ++ codes " ") xs ++ rest) ≡ map f xs ++ tokens_of rest
tokens_of-spaced {X} f [] rest are = refl
tokens_of-spaced {X} f (x ∷ xs) rest are =
    let more : List ℕ = flat_map (λ x. f x ++ codes " ") xs ++ rest in
    let regrouped : flat_map (λ x. f x ++ codes " ") (x ∷ xs) ++ rest ≡ f x ++ 32 ∷ more = simp append_assoc in
    ap tokens_of regrouped
    ∙ tokens_of-token (f x) more (All-head (λ (x : X). IsToken (f x)) x xs are)
    ∙ ap (λ (ts : List (List ℕ)). f x ∷ ts) (tokens_of-spaced f xs rest (All-tail (λ (x : X). IsToken (f x)) x xs are))

-- the tokens before the first `0` are a group
groups_of-group : (group rest : List (List ℕ)) → All (λ t. is_zero t ≡ false) group
    → groups_of (group ++ codes "0" ∷ rest) ≡ group ∷ groups_of rest
groups_of-group group rest apart = slice_split_at is_zero group (codes "0") rest apart refl

-- ---- lists of items

list_all-map : {X Y : Type 0} (test : Y → Bool) (f : X → Y) (xs : List X) → All (λ x. test (f x) ≡ true) xs
    → list_all test (map f xs) ≡ true
list_all-map {X} {Y} test f [] are = refl
list_all-map {X} {Y} test f (x ∷ xs) are =
    rw (All-head (λ (x : X). test (f x) ≡ true) x xs are)
    (list_all-map test f xs (All-tail (λ (x : X). test (f x) ≡ true) x xs are))

map-map_back : {X Y : Type 0} (g : Y → X) (f : X → Y) (xs : List X) → All (λ x. g (f x) ≡ x) xs → map g (map f xs) ≡ xs
map-map_back {X} {Y} g f [] are = refl
map-map_back {X} {Y} g f (x ∷ xs) are =
    ap (λ (y : X). y ∷ map g (map f xs)) (All-head (λ (x : X). g (f x) ≡ x) x xs are)
    ∙ ap (λ (ys : List X). x ∷ ys) (map-map_back g f xs (All-tail (λ (x : X). g (f x) ≡ x) x xs are))

-- a number that may stand in a line
pub record IsWritten (n : ℕ) : Type 0 where
  pub some : 1 ≤ n
  pub small : IsSmall n

-- ---- clause steps

-- the tokens of a clause step
tokens_of-clause : (clause : List Literal) (hints : List ℕ) → All IsVariable clause → All IsWritten hints
    → tokens_of (clause_text clause hints) ≡ map literal_token clause ++ codes "0" ∷
    (map decimal hints ++ codes "0" ∷ [])
tokens_of-clause clause hints lits rows =
    tokens_of-spaced literal_token clause (codes "0 " ++ (flat_map number_text hints ++ codes "0"))
    (All-weaker IsVariable (λ (lit : Literal). IsToken (literal_token lit)) literal-token clause lits)
    ∙ ap (λ (ts : List (List ℕ)). map literal_token clause ++ codes "0" ∷ ts)
    (tokens_of-spaced decimal hints (codes "0") (All-weaker IsWritten (λ (n : ℕ). IsToken (decimal n))
    (λ n is. decimal-token n is.small) hints rows))

groups_of-clause : (clause : List Literal) (hints : List ℕ) → All IsVariable clause → All IsWritten hints
    → groups_of (tokens_of (clause_text clause hints)) ≡ map literal_token clause ∷ map decimal hints ∷ [] ∷ []
groups_of-clause clause hints lits rows =
    ap groups_of (tokens_of-clause clause hints lits rows)
    ∙ groups_of-group (map literal_token clause) (map decimal hints ++ codes "0" ∷ [])
    (All-map (λ (t : List ℕ). is_zero t ≡ false) literal_token clause
    (All-weaker IsVariable (λ (lit : Literal). is_zero (literal_token lit) ≡ false) is_zero-literal_token clause lits))
    ∙ ap (λ (gs : List (List (List ℕ))). map literal_token clause ∷ gs)
    (groups_of-group (map decimal hints) []
    (All-map (λ (t : List ℕ). is_zero t ≡ false) decimal hints
    (All-weaker IsWritten (λ (n : ℕ). is_zero (decimal n) ≡ false)
    (λ n is. is_zero-decimal n is.some is.small) hints rows)))

counts : (ns : List ℕ) → All IsWritten ns → list_all is_count (map decimal ns) ≡ true
counts ns are = list_all-map is_count decimal ns (All-weaker IsWritten (λ (n : ℕ). is_count (decimal n) ≡ true)
    (λ n is. is_count-decimal n is.some is.small) ns are)

smalls : (ns : List ℕ) → All IsWritten ns → list_all is_small_number (map decimal ns) ≡ true
smalls ns are = list_all-map is_small_number decimal ns
    (All-weaker IsWritten (λ (n : ℕ). is_small_number (decimal n) ≡ true)
    (λ n is. is_small_number-decimal n is.small) ns are)

values : (ns : List ℕ) → All IsWritten ns → map number (map decimal ns) ≡ ns
values ns are = map-map_back number decimal ns (All-weaker IsWritten (λ (n : ℕ). number (decimal n) ≡ n)
    (λ n is. number-decimal n is.small) ns are)

clause_step-groups : (clause : List Literal) (hints : List ℕ) → All IsVariable clause → All IsWritten hints
    → clause_step (map literal_token clause ∷ map decimal hints ∷ [] ∷ []) ≡ Ok (Clause clause hints)
clause_step-groups clause hints lits rows =
    let written = list_all-map is_literal literal_token clause
    (All-weaker IsVariable (λ (lit : Literal). is_literal (literal_token lit) ≡ true) is_literal-literal_token
    clause lits) in
    let small = list_all-map is_small_variable literal_token clause
    (All-weaker IsVariable (λ (lit : Literal). is_small_variable (literal_token lit) ≡ true)
    is_small_variable-literal_token clause lits) in
    let read = map-map_back literal literal_token clause
    (All-weaker IsVariable (λ (lit : Literal). literal (literal_token lit) ≡ lit) literal-literal_token clause lits) in
    rw (written, counts hints rows, small, smalls hints rows, read, values hints rows) refl

pub step_line-clause : (clause : List Literal) (hints : List ℕ) → All IsVariable clause → All IsWritten hints
    → step_line One (clause_text clause hints) ≡ Ok (Clause clause hints)
step_line-clause clause hints lits rows =
    ap clause_step (groups_of-clause clause hints lits rows) ∙ clause_step-groups clause hints lits rows

-- ---- linear steps

-- factors and rows in turn
abbrev pub numbers_of : List Part → List ℕ
numbers_of [] = []
numbers_of (part ∷ parts) = part.factor ∷ part.row ∷ numbers_of parts

pub flat_map-part_text : (parts : List Part) → flat_map part_text parts ≡ flat_map number_text (numbers_of parts)
flat_map-part_text [] = refl
flat_map-part_text (part ∷ parts) =
    append_assoc (number_text part.factor) (number_text part.row) (flat_map part_text parts)
    ∙ ap (λ (xs : List ℕ). number_text part.factor ++ (number_text part.row ++ xs)) (flat_map-part_text parts)

are_pairs-numbers_of : (parts : List Part) → are_pairs (map decimal (numbers_of parts)) ≡ true
are_pairs-numbers_of [] = refl
are_pairs-numbers_of (part ∷ parts) = are_pairs-numbers_of parts

paired-numbers_of : (parts : List Part) → paired (numbers_of parts) ≡ parts
paired-numbers_of [] = refl
paired-numbers_of (part ∷ parts) = ap (λ (ps : List Part). part ∷ ps) (paired-numbers_of parts)

-- a part that may stand in a line
abbrev pub IsWrittenPart : Part → Type 0
IsWrittenPart part = IsWritten part.factor × IsWritten part.row

numbers_of-written : (parts : List Part) → All IsWrittenPart parts → All IsWritten (numbers_of parts)
numbers_of-written [] are = All-nil IsWritten
numbers_of-written (part ∷ parts) are =
    let head = All-head IsWrittenPart part parts are in
    All-cons IsWritten part.factor (part.row ∷ numbers_of parts) head.0
    (All-cons IsWritten part.row (numbers_of parts) head.1
    (numbers_of-written parts (All-tail IsWrittenPart part parts are)))

groups_of-linear : (parts : List Part) (divisor : ℕ) → All IsWrittenPart parts → IsWritten divisor
    → groups_of (tokens_of (linear_text parts divisor)) ≡ map decimal (numbers_of parts) ∷ (decimal divisor ∷ []) ∷ []
groups_of-linear parts divisor are is =
    let numbers = numbers_of-written parts are in
    let apart = All-map (λ (t : List ℕ). is_zero t ≡ false) decimal (numbers_of parts)
    (All-weaker IsWritten (λ (n : ℕ). is_zero (decimal n) ≡ false) (λ n is. is_zero-decimal n is.some is.small)
    (numbers_of parts) numbers) in
    let last_apart = All-cons (λ (t : List ℕ). is_zero t ≡ false) (decimal divisor) []
    (is_zero-decimal divisor is.some is.small) (All-nil (λ (t : List ℕ). is_zero t ≡ false)) in
    ap (λ (xs : List ℕ). groups_of (tokens_of (xs ++ (codes "0 " ++ decimal divisor)))) (flat_map-part_text parts)
    ∙ ap groups_of (tokens_of-spaced decimal (numbers_of parts) (codes "0 " ++ decimal divisor)
    (All-weaker IsWritten (λ (n : ℕ). IsToken (decimal n)) (λ n is. decimal-token n is.small)
    (numbers_of parts) numbers)
    ∙ ap (λ (ts : List (List ℕ)). map decimal (numbers_of parts) ++ codes "0" ∷ ts)
    (tokens_of-last (decimal divisor) (decimal-token divisor is.small)))
    ∙ groups_of-group (map decimal (numbers_of parts)) (decimal divisor ∷ []) apart
    ∙ ap (λ (gs : List (List (List ℕ))). map decimal (numbers_of parts) ∷ gs)
    (slice_split_none is_zero (decimal divisor ∷ []) last_apart)

linear_step-groups : (parts : List Part) (divisor : ℕ) → All IsWrittenPart parts → IsWritten divisor
    → linear_step (map decimal (numbers_of parts) ∷ (decimal divisor ∷ []) ∷ []) ≡ Ok (Linear parts divisor)
linear_step-groups parts divisor are is =
    let numbers = numbers_of-written parts are in
    let one = is_count-decimal divisor is.some is.small in
    let one_small = is_small_number-decimal divisor is.small in
    let value = number-decimal divisor is.small in
    rw (
      counts (numbers_of parts) numbers,
      are_pairs-numbers_of parts,
      one,
      smalls (numbers_of parts) numbers,
      one_small,
      values (numbers_of parts) numbers,
      paired-numbers_of parts,
      value,
    ) refl

pub step_line-linear : (parts : List Part) (divisor : ℕ) → All IsWrittenPart parts → IsWritten divisor
    → step_line Two (codes "l " ++ linear_text parts divisor) ≡ Ok (Linear parts divisor)
step_line-linear parts divisor are is =
    ap linear_step (groups_of-linear parts divisor are is) ∙ linear_step-groups parts divisor are is

-- ---- steps

written_hints : (hints : List ℕ) → All IsSmall hints → All (λ hint. 1 ≤ hint) hints → All IsWritten hints
written_hints hints small some = λ k d there. record { some = some k d there; small = small k d there }

written_parts : (parts : List Part) → All IsFactored parts → All (λ part. 1 ≤ part.row) parts → All IsWrittenPart parts
written_parts parts factored some = λ k d there.
    let is = factored k d there in
    (record { some = is.factor; small = is.small_factor }, record { some = some k d there; small = is.small_row })

pub step_line-step_text : (version : Version) (step : Step) → IsOf version step → HasSmallNumbers step
    → NamesRows step → step_line version (step_text version step) ≡ Ok step
step_line-step_text One (Clause clause hints) of small rows =
    step_line-clause clause hints small.0 (written_hints hints small.1 rows)
step_line-step_text One (Linear parts divisor) of small rows = absurd of
step_line-step_text Two (Clause clause hints) of small rows =
    step_line-clause clause hints small.0 (written_hints hints small.1 rows)
step_line-step_text Two (Linear parts divisor) of small rows =
    step_line-linear parts divisor (written_parts parts small.0 rows) (record { some = small.1; small = small.2 })
