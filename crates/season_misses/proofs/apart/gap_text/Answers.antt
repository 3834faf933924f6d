use Rattle.std.proofs.Common.{◌≡◌, ◌++◌, List, ℕ, IfOk, codes, string_bytes, subst}
use Rattle.season_misses.specs.Lines.{gap_back, gap_front}
use Rattle.season_misses.proofs.PartLemmas.{two_parts}
use Rattle.season_misses.proofs.apart.gap_text.Goals as goal

pub returns-in_ok-back-in-Gap : goal.returns-in_ok-back-in-Gap
returns-in_ok-back-in-Gap c =
    rw c.in-Gap.is
    (subst (λ (t : List ℕ). IfOk c.format.result (λ text. string_bytes text ≡ t))
    (two_parts (λ (front back : List ℕ). front ++ (codes ", " ++ back))
    (string_bytes c.in_ok-front-in-Gap.front) (string_bytes c.in_ok-back-in-Gap.back)
    (gap_front c.args.who.now c.args.other.now c.in-Gap.earlier c.in-Gap.later) (gap_back c.args.names.now c.args.min c.in-Gap.earlier c.in-Gap.later)
    c.in_ok-front-in-Gap.ensures c.in_ok-back-in-Gap.ensures)
    c.format.ensures.ok)
