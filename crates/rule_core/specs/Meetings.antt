-- Meetings of a league.
use Rattle.std.specs.Prelude.{ℕ, Bool, ◌&&◌, ◌==◌, List}
use Rattle.std.specs.List.{list_any}

-- the number of teams, and some meetings, each a home team and an away team
pub record MeetingList : Type 0 where
  pub n : ℕ
  pub list : List (ℕ × ℕ)

-- whether the meeting of a home team and an away team is one of these
abbrev pub is_listed : List (ℕ × ℕ) → ℕ → ℕ → Bool
is_listed meetings home away = list_any (λ p. (p.0 == home) && (p.1 == away)) meetings
