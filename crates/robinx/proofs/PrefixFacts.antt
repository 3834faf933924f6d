-- Each front of a file is cut off on its last line, but the one that lacks the last LF alone.
use Rattle.std.proofs.Common.{◌≡◌, ℕ, ◌+◌, Bool, true, false, List, [], take, refl}
use Rattle.std.specs.Prelude.{◌==◌, Result, Ok, Err}
use Rattle.std.specs.List.{list_all, range_with_len, count_by}
use Rattle.robinx.specs.Tags.{attributes_at}
use Rattle.robinx.specs.Pieces.{pieces, pieces_from}
use Rattle.robinx.specs.declared.tag_fault.FormKind.TheVariants.{Truncated}
use Rattle.robinx.specs.Walk.{Fault, walk}
use Rattle.robinx.specs.InstanceFile.{instance_of}
use Rattle.robinx.proofs.FileTexts.{text, replaced, league_lines}
use Rattle.league.specs.Instance.{Instance}

-- the lines of a league of two teams: those of four without two teams and four slots
abbrev two_teams : List ℕ
two_teams = text (replaced (replaced league_lines 20 4 []) 14 2 [])

abbrev is_cut : ℕ → Result Instance Fault → Bool
is_cut line (Ok league) = false
is_cut line (Err (Truncated, at)) = at == line
is_cut line (Err (_, at)) = false

-- for all lengths from `from` on
abbrev are_cut : ℕ → ℕ → Bool
are_cut from len = list_all (λ k. is_cut (1 + count_by (λ b. b == 10) (take k two_teams)) (instance_of (pieces (take k two_teams)))) (range_with_len from len)

pub instance_of-prefixes : are_cut 0 358 ≡ true
unfolding attributes_at pieces_from walk
instance_of-prefixes = refl

pub instance_of-whole : instance_of (pieces (take 358 two_teams)) ≡ Ok (record { n = 2; phased = true; constraints = [] })
unfolding attributes_at pieces_from walk
instance_of-whole = refl
