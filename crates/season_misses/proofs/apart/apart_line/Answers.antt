use Rattle.std.proofs.Common.{◌≡◌, ◌-◌, ◌++◌, List, IfOk, length, codes, decimal, string_bytes, refl, subst, ap, arith, ℕ}
use Rattle.season_misses.specs.Lines.{apart_front, played_too, slots_of_games}
use Rattle.season_misses.proofs.PartLemmas.{five_parts}
use Rattle.season_misses.proofs.apart.apart_line.Goals as goal

pub returns : goal.returns
returns c =
    let who = c.args.more.who.now in
    let games = c.args.more.games.now in
    let other = c.args.fewer.who.now in
    let fewer = c.args.fewer.games.now in
    let lead = apart_front c.args.slot who games other fewer in
    let apart : c.saturating_sub-apart.result ≡ length games - length fewer = omega (arith, c.saturating_sub-apart.ensures) in
    let much : c.saturating_sub-much.result ≡ length games - length fewer - c.args.intp = omega (arith, apart, c.saturating_sub-much.ensures, c.from.ensures) in
    subst (λ (t : List ℕ). IfOk c.format.result (λ text. string_bytes text ≡ t))
    (five_parts
    (λ (apart much home slots too : List ℕ). lead ++ (codes ", " ++ (apart ++ (codes " apart, " ++ (much ++ (codes " too many: " ++ (home ++ (codes " in " ++ (slots ++ too)))))))))
    (decimal c.saturating_sub-apart.result) (decimal c.saturating_sub-much.result) who (string_bytes c.in_ok-slots.slots) (string_bytes c.in_ok-too.too)
    (decimal (length games - length fewer)) (decimal (length games - length fewer - c.args.intp)) who (slots_of_games games) (played_too other fewer)
    (ap decimal apart) (ap decimal much) refl c.in_ok-slots.ensures c.in_ok-too.ensures)
    c.format.ensures.ok
