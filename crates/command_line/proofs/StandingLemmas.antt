-- What an option says, by how often it stands, and what words are no command.
use Rattle.std.proofs.Common.{◌≡◌, ℕ, ◌<◌, ◌≤◌, ◌==◌, if◌then◌else◌, suc, Bool, true, false, ◌&&◌, List, [], ◌∷◌, length, map, string_bytes, String, Option, Some, None, codes, refl, arith, ap, subst, sym}
use Rattle.std.specs.Prelude.{option_and_then, option_map}
use Rattle.std.proofs.lemmas.Bool.Decides.{nat_tests}
use Rattle.std.proofs.lemmas.Slice.Eq.{bytes_eq-Decides}
use Rattle.command_line.specs.Standing.{is_near_alone, once_more, standing}
use Rattle.command_line.specs.Standing.Standing.{Never, Once, Often}
use Rattle.command_line.specs.Words.{arguments_of, files_and_number, is_file_name, is_near, is_option, near_files_and_number}
use Rattle.command_line.specs.Words.{number_in, one_file, one_number, plain, said, teams_and_seed, without_near}

pub standing-more : (value : List ℕ) (values : List (List ℕ)) → once_more value (standing values) ≡ standing (value ∷ values)
standing-more value [] = refl
standing-more value (first ∷ []) = refl
standing-more value (first ∷ second ∷ rest) = refl

pub said-never : {X : Type 0} (usual : X) (read : List ℕ → Option X) (values : List (List ℕ)) → Never ≡ standing values
    → Some usual ≡ said usual read values
said-never {X} usual read [] is = refl
said-never {X} usual read (value ∷ []) is = absurd (cc)
said-never {X} usual read (first ∷ second ∷ rest) is = absurd (cc)

once-value : (a b : List ℕ) → Once a ≡ Once b → a ≡ b
once-value a b same = cc

pub said-once : {X : Type 0} (usual : X) (read : List ℕ → Option X) (values : List (List ℕ)) (word : List ℕ)
    → Once word ≡ standing values → read word ≡ said usual read values
said-once {X} usual read [] word is = absurd (cc)
said-once {X} usual read (value ∷ []) word is = ap read (once-value word value is)
said-once {X} usual read (first ∷ second ∷ rest) word is = absurd (cc)

pub said-often : {X : Type 0} (usual : X) (read : List ℕ → Option X) (values : List (List ℕ)) → Often ≡ standing values
    → None ≡ said usual read values
said-often {X} usual read [] is = absurd (cc)
said-often {X} usual read (value ∷ []) is = absurd (cc)
said-often {X} usual read (first ∷ second ∷ rest) is = refl

-- ---- one file

named : (file : List ℕ) (b : Bool) → b ≡ true → (if b then Some file else None) ≡ Some file
named file true is = refl
named file false is = absurd (cc)

unnamed : (file : List ℕ) (b : Bool) → b ≡ false → (if b then Some file else None) ≡ None
unnamed file true is = absurd (cc)
unnamed file false is = refl

longer : (k : ℕ) → (suc k == 0) ≡ true → ⊥
longer k is = grind (arith, nat_tests)

pub one_file-alone : (file : List ℕ) (more : List (List ℕ)) → is_file_name file ≡ true → (length more == 0) ≡ true
    → Some file ≡ one_file (file ∷ more)
one_file-alone file [] name none = sym (named file (is_file_name file) name)
one_file-alone file (x ∷ more) name none = absurd (longer (length more) none)

pub one_file-refused : (file : List ℕ) (more : List (List ℕ)) → is_file_name file ≡ false → None ≡ one_file (file ∷ more)
one_file-refused file [] name = sym (unnamed file (is_file_name file) name)
one_file-refused file (x ∷ more) name = refl

pub one_file-more : (file : List ℕ) (more : List (List ℕ)) → (length more == 0) ≡ false → None ≡ one_file (file ∷ more)
one_file-more file [] some = absurd (cc)
one_file-more file (x ∷ more) some = refl

-- ---- one number

pub one_number-alone : (word : List ℕ) (more : List (List ℕ)) → (length more == 0) ≡ true
    → number_in word ≡ one_number (word ∷ more)
one_number-alone word [] none = refl
one_number-alone word (x ∷ more) none = absurd (longer (length more) none)

pub one_number-more : (word : List ℕ) (more : List (List ℕ)) → (length more == 0) ≡ false → None ≡ one_number (word ∷ more)
one_number-more word [] some = absurd (cc)
one_number-more word (x ∷ more) some = refl

-- ---- no argument

pub teams_and_seed-none : {Z : Type 0} (words : List (String Z)) → length words < 1
    → None ≡ teams_and_seed (arguments_of (map string_bytes words))
unfolding teams_and_seed
teams_and_seed-none {Z} [] few = refl
teams_and_seed-none {Z} (word ∷ words) few = absurd (omega arith)

-- ---- `--near` among arguments

-- it begins as an option does
pub near_option : (word : List ℕ) → is_near word ≡ true → is_option word ≡ true
near_option word is =
    subst (λ (w : List ℕ). is_option w ≡ true) (sym ((bytes_eq-Decides word (codes "--near")).0 is)) refl

-- the one argument is `--near` where the first is and none comes behind it
pub near_alone_first : (first : List ℕ) (more : List (List ℕ))
    → (is_near first && (length more == 0)) ≡ is_near_alone (first ∷ more)
near_alone_first first [] = by (is_near first) where
  by : (b : Bool) → (b && (0 == 0)) ≡ b
  by true = refl
  by false = refl
near_alone_first first (word ∷ more) = by (is_near first) where
  by : (b : Bool) → (b && (suc (length more) == 0)) ≡ false
  by true = grind (arith, nat_tests)
  by false = refl

-- a number with one further argument, which is `--near`
pub near_number_behind : (first : List ℕ) (more : List (List ℕ))
    → (if is_near_alone more then number_in first else None)
    ≡ option_and_then one_number (option_map (λ rest. first ∷ rest) (without_near more))
near_number_behind first [] = refl
near_number_behind first (word ∷ []) = by (is_near word) where
  by : (b : Bool) → (if b then number_in first else None)
      ≡ option_and_then one_number (option_map (λ rest. first ∷ rest) (if b then Some [] else None))
  by true = refl
  by false = refl
near_number_behind first (word ∷ next ∷ rest) = by (is_near word) (without_near (next ∷ rest)) where
  by : (b : Bool) (later : Option (List (List ℕ)))
      → None ≡ option_and_then one_number (option_map (λ rest. first ∷ rest)
      (if b then Some (next ∷ rest) else option_map (λ rest. word ∷ rest) later))
  by true later = refl
  by false None = refl
  by false (Some words) = refl

-- two files, and a number and `--near` behind them
pub near_files_behind : (first second : List ℕ) (more : List (List ℕ))
    → is_near first ≡ false → is_near second ≡ false
    → (if is_file_name first && is_file_name second
    then option_map (λ number. (first, second, number)) (option_and_then one_number (without_near more)) else None)
    ≡ near_files_and_number (first ∷ second ∷ more)
near_files_behind first second more one two = rw one (rw two (by (without_near more))) where
  none : (b : Bool) (o : Option (List ℕ × List ℕ × ℕ)) → o ≡ None → (if b then o else None) ≡ None
  none true o is = is
  none false o is = refl

  by : (later : Option (List (List ℕ)))
      → (if is_file_name first && is_file_name second
      then option_map {U = List ℕ × List ℕ × ℕ} (λ number. (first, second, number)) (option_and_then one_number later) else None)
      ≡ option_and_then files_and_number (option_map (λ rest. first ∷ rest) (option_map (λ rest. second ∷ rest) later))
  by None = none (is_file_name first && is_file_name second) None refl
  by (Some words) = refl

-- ---- words that are no command

pub plain-few : {Z : Type 0} (command : List ℕ) (words : List (String Z)) → length words < 1
    → None ≡ plain command (map string_bytes words)
plain-few {Z} command [] few = refl
plain-few {Z} command (a ∷ rest) few = absurd (omega arith)

pub plain-many : {Z : Type 0} (command : List ℕ) (words : List (String Z)) → 3 ≤ length words
    → None ≡ plain command (map string_bytes words)
plain-many {Z} command [] many = absurd (omega arith)
plain-many {Z} command (a ∷ []) many = absurd (omega arith)
plain-many {Z} command (a ∷ b ∷ []) many = absurd (omega arith)
plain-many {Z} command (a ∷ b ∷ c ∷ rest) many = refl
