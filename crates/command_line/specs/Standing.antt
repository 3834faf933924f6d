-- How often an option stands.
use Rattle.std.specs.Prelude.{ℕ, Bool, false, List, [], ◌∷◌}
use Rattle.command_line.specs.Words.{is_near}

-- never, once with its value, or more often
pub data Standing : Type 0 where
  Never : Standing
  Once : (value : List ℕ) → Standing
  Often : Standing

-- by the values of the option
abbrev pub standing : List (List ℕ) → Standing
standing [] = Never
standing (value ∷ []) = Once value
standing _ = Often

-- whether `--near` is the one argument of some
abbrev pub is_near_alone : List (List ℕ) → Bool
is_near_alone (word ∷ []) = is_near word
is_near_alone _ = false

-- once more, with this value
abbrev pub once_more : List ℕ → Standing → Standing
once_more value Never = Once value
once_more value (Once other) = Often
once_more value Often = Often
