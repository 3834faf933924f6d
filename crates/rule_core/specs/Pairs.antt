-- The keys of pairs of teams.
use Rattle.std.specs.Prelude.{ℕ, Bool, ◌&&◌, ◌||◌, ◌==◌, List}
use Rattle.league.specs.Meetings.{pairs_of}
use Rattle.rule_core.specs.Keys.{keys_where}

-- whether team t is one of a pair
abbrev pub has_team : ℕ → ℕ × ℕ → Bool
has_team t p = (p.0 == t) || (p.1 == t)

-- the keys of the pairs of these teams in which team t is
abbrev pub keys_with : List ℕ → ℕ → List ℕ
keys_with teams t = keys_where (has_team t) (pairs_of teams)

-- the key of the pair of two different teams t and u, where both are among these teams
abbrev pub key_between : List ℕ → ℕ → ℕ → List ℕ
key_between teams t u = keys_where (λ p. has_team t p && has_team u p) (pairs_of teams)
