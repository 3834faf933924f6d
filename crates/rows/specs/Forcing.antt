-- What a row makes of a partial assignment: each literal that it forces becomes true.
use Rattle.std.specs.Prelude.{ℕ, ◌&&◌, ◌==◌, if◌then◌else◌, List, map}
use Rattle.std.specs.List.{filter, fold}
use Rattle.rows.specs.Literals.{Literal}
use Rattle.rows.specs.Rows.{Row}
use Rattle.rows.specs.Partials.{as_value, is_forced, is_free}
use Rattle.rows.specs.declared.partial.Value.{Value}

-- a literal made true, if it is free
abbrev pub set_true : (ℕ → Value) → Literal → ℕ → Value
set_true values l v = if v == l.var && is_free (values v) then as_value l.positive else values v

-- literals made true in turn
abbrev pub all_set : (ℕ → Value) → List Literal → ℕ → Value
all_set values literals = fold set_true values literals

-- the literals that a row forces, in its order
abbrev pub forced_by : (ℕ → Value) → Row → List Literal
forced_by values row = map (λ t. t.lit) (filter (is_forced values row.terms row.degree) row.terms)

-- all of them made true
abbrev pub with_forced : (ℕ → Value) → Row → ℕ → Value
with_forced values row = all_set values (forced_by values row)
