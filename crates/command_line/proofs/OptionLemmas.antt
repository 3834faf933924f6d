-- The options of a command are those whose values are to be something.
use Rattle.std.proofs.Common.{◌≡◌, ℕ, if◌then◌else◌, Bool, true, false, ◌||◌, List, Option, Some, is_some}
use Rattle.std.proofs.Common.{codes, refl}
use Rattle.std.specs.Prelude.{bytes_eq}
use Rattle.std.specs.List.{list_any}
use Rattle.command_line.specs.Faults.{solve_option, timed_option}
use Rattle.command_line.specs.SeenOptions.{names_of, role_among}
use Rattle.command_line.specs.Words.{solve_options, timed_options}
use Rattle.command_line.specs.declared.option_names.Options.{Options}
use Rattle.command_line.specs.declared.option_names.Options.TheVariants as variants
use Rattle.command_line.specs.declared.role.Role.{Role}

-- one name more
or_more : (b : Bool) (role : Role) (o : Option Role) (p : Bool) → is_some o ≡ p
    → is_some (if b then Some role else o) ≡ (b || p)
or_more true role o p same = refl
or_more false role o p same = same

timed-named : (word : List ℕ) → is_some (timed_option word) ≡ list_any (λ name. bytes_eq word name) timed_options
timed-named word =
    or_more (bytes_eq word (codes "--conflicts")) _ _ _ (or_more (bytes_eq word (codes "--seconds")) _ _ _ refl)

solve-named : (word : List ℕ) → is_some (solve_option word) ≡ list_any (λ name. bytes_eq word name) solve_options
solve-named word =
    or_more (bytes_eq word (codes "--conflicts")) _ _ _
    (or_more (bytes_eq word (codes "--moves")) _ _ _
    (or_more (bytes_eq word (codes "--tries")) _ _ _
    (or_more (bytes_eq word (codes "--patterns")) _ _ _
    (or_more (bytes_eq word (codes "--seed")) _ _ _ (or_more (bytes_eq word (codes "--seconds")) _ _ _ refl)))))

pub role_among-named : (options : Options) (word : List ℕ)
    → is_some (role_among options word) ≡ list_any (λ name. bytes_eq word name) (names_of options)
role_among-named variants.Search word = or_more (bytes_eq word (codes "--conflicts")) _ _ _ refl
role_among-named variants.Timed word = timed-named word
role_among-named variants.Solve word = solve-named word
role_among-named variants.Start word = or_more (bytes_eq word (codes "--from")) _ _ _ (solve-named word)
role_among-named variants.Prove word = or_more (bytes_eq word (codes "--floor")) _ _ _ (timed-named word)
role_among-named variants.Log word = or_more (bytes_eq word (codes "--room")) _ _ _ refl
role_among-named variants.Rows word = or_more (bytes_eq word (codes "--bound")) _ _ _ refl
role_among-named variants.Show word =
    or_more (bytes_eq word (codes "--form")) _ _ _
    (or_more (bytes_eq word (codes "--most")) _ _ _ (or_more (bytes_eq word (codes "--width")) _ _ _ refl))
