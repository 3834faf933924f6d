-- The pattern rows of a league: those of its rows that speak of no game.
use Rattle.std.specs.Prelude.{ℕ, ◌+◌, ◌*◌, Bool, nat_lt, if◌then◌else◌, List}
use Rattle.std.specs.List.{filter, list_all}
use Rattle.league.specs.Instance.{Instance}
use Rattle.rows.specs.Rows.{Row}
use Rattle.encoding.specs.Encoding.{rows_of}
use Rattle.encoding.specs.Variables.{h_count, has_breaks, hb_count, x_count}

-- whether a row speaks of no game, where games have so many variables: the first ones
abbrev pub is_pattern_row : ℕ → Row → Bool
is_pattern_row games row = list_all (λ t. nat_lt games t.lit.var) row.terms

-- the pattern rows of a league, in order
abbrev pub pattern_rows : Instance → List Row
pattern_rows league = filter (is_pattern_row (x_count league.n)) (rows_of league)

-- how many variables are not those of games: of venues, and, where breaks have variables, of breaks
abbrev pub pattern_var_count : Instance → ℕ
pattern_var_count league = h_count league.n + (if has_breaks league.constraints then 2 * hb_count league.n else 0)
