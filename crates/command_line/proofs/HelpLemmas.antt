-- Help and the version take no words of a command.
use Rattle.std.proofs.Common.{◌≡◌, ℕ, if◌then◌else◌, Bool, true, false, List, [], ◌∷◌, Option, Some, None, is_some}
use Rattle.std.proofs.Common.{codes, refl, subst, sym, ◌∙◌}
use Rattle.std.proofs.lemmas.Slice.Eq.{bytes_eq-Decides}
use Rattle.std.specs.Prelude.{bytes_eq}
use Rattle.command_line.specs.Words.{asking, Command, following, helping, reading}
use Rattle.command_line.specs.Words.Command.{Help, Version}

same : (a b : List ℕ) → bytes_eq a b ≡ true → a ≡ b
same a b is = (bytes_eq-Decides a b).0 is

none_if : (b : Bool) (o : Option Command) → o ≡ None → (if b then None else o) ≡ None
none_if true o none = refl
none_if false o none = none

-- no command goes on with `--help` alone
name_help : (name : List ℕ) → following (name ∷ codes "--help" ∷ []) ≡ None
name_help name =
    none_if (bytes_eq name (codes "solve")) _
    (none_if (bytes_eq name (codes "patterns")) _
    (none_if (bytes_eq name (codes "explain")) _
    (none_if (bytes_eq name (codes "prove")) _
    (none_if (bytes_eq name (codes "resume")) _
    (none_if (bytes_eq name (codes "audit")) _
    (none_if (bytes_eq name (codes "trial")) _
    (none_if (bytes_eq name (codes "rows")) _
    (none_if (bytes_eq name (codes "show")) _
    (none_if (bytes_eq name (codes "check")) _
    (none_if (bytes_eq name (codes "bound")) _ (no_circle (bytes_eq name (codes "circle")))))))))))))
  where
    no_circle : (b : Bool) → (let none : Option Command = None in if b then none else none) ≡ None
    no_circle true = refl
    no_circle false = refl

alone : (word : List ℕ) (help version : Bool) → bytes_eq word (codes "--help") ≡ help
    → bytes_eq word (codes "--version") ≡ version
    → is_some (if help then Some (Help None) else (if version then Some Version else None)) ≡ true
    → following (word ∷ []) ≡ None
alone word true version at_help at_version some =
    subst (λ (w : List ℕ). following (w ∷ []) ≡ None) (sym (same word (codes "--help") at_help)) refl
alone word false true at_help at_version some =
    subst (λ (w : List ℕ). following (w ∷ []) ≡ None) (sym (same word (codes "--version") at_version)) refl
alone word false false at_help at_version some = absurd (let no : false ≡ true = some in cc)

both : (first second : List ℕ) (behind before : Bool) → bytes_eq second (codes "--help") ≡ behind
    → bytes_eq first (codes "--help") ≡ before
    → is_some (if behind then helping first else (if before then helping second else None)) ≡ true
    → following (first ∷ second ∷ []) ≡ None
both first second true before at_second at_first some =
    subst (λ (w : List ℕ). following (first ∷ w ∷ []) ≡ None) (sym (same second (codes "--help") at_second))
    (name_help first)
both first second false true at_second at_first some =
    subst (λ (w : List ℕ). following (w ∷ second ∷ []) ≡ None) (sym (same first (codes "--help") at_first)) refl
both first second false false at_second at_first some = absurd (let no : false ≡ true = some in cc)

pub following-asked : (words : List (List ℕ)) → is_some (asking words) ≡ true → following words ≡ None
following-asked [] some = refl
following-asked (word ∷ []) some =
    alone word (bytes_eq word (codes "--help")) (bytes_eq word (codes "--version")) refl refl some
following-asked (first ∷ second ∷ []) some =
    both first second (bytes_eq second (codes "--help")) (bytes_eq first (codes "--help")) refl refl some
following-asked (first ∷ second ∷ third ∷ rest) some = absurd (let no : false ≡ true = some in cc)

kept : (command : Command) (asked followed : Option Command) → (is_some asked ≡ true → followed ≡ None)
    → followed ≡ Some command → asked ≡ None
kept command None followed none is = refl
kept command (Some question) followed none is = let none_one : None ≡ Some command = sym (none refl) ∙ is in absurd (cc)

-- the words of a command are read as that command
pub reading-followed : (words : List (List ℕ)) (command : Command) → following words ≡ Some command
    → reading words ≡ Some command
reading-followed words command is =
    rw (kept command (asking words) (following words) (following-asked words) is) is
