use Rattle.std.proofs.Common.{◌≡◌, ◌-◌, ◌++◌, ℕ, List, IfOk, length, codes, decimal, string_bytes, subst, ap, arith}
use Rattle.season_misses.specs.Lines.{breaks_text}
use Rattle.season_misses.proofs.PartLemmas.{two_parts}
use Rattle.season_misses.proofs.break_lines.breaks_line.Goals as goal

pub returns : goal.returns
returns c =
    let breaks = c.args.breaks.now in
    let much : c.saturating_sub-much.result ≡ length breaks - c.args.intp = omega (arith, c.saturating_sub-much.ensures, c.from.ensures) in
    subst (λ (t : List ℕ). IfOk c.format.result (λ text. string_bytes text ≡ t))
    (two_parts
    (λ (k l : List ℕ). c.args.who.now ++ (codes " has " ++ (decimal (length breaks) ++ (codes ", " ++ (k ++ (codes " too many: " ++ l))))))
    (decimal c.saturating_sub-much.result) (string_bytes c.in_ok-list.list) (decimal (length breaks - c.args.intp)) (breaks_text c.args.names.now breaks)
    (ap decimal much) c.in_ok-list.ensures)
    c.format.ensures.ok
