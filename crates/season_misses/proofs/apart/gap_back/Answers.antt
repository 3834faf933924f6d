use Rattle.std.proofs.Common.{◌≡◌, ◌-◌, ◌++◌, ℕ, List, [], ◌∷◌, IfOk, codes, decimal, string_bytes, subst, ap, ◌∙◌, arith}
use Rattle.season_misses.specs.Phrases.{many}
use Rattle.league.specs.Separation.{slots_between}
use Rattle.season_misses.specs.Games.{games_text}
use Rattle.season_misses.proofs.PartLemmas.{three_parts}
use Rattle.season_misses.proofs.apart.gap_back.Goals as goal

pub returns : goal.returns
returns c =
    let between = slots_between c.args.earlier.slot.0 c.args.later.slot.0 in
    let few : c.saturating_sub-few.result ≡ c.args.min - between = omega (arith, c.slots_between-between.ensures, c.saturating_sub-few.ensures) in
    subst (λ (t : List ℕ). IfOk c.format.result (λ text. string_bytes text ≡ t))
    (three_parts
    (λ (slots few list : List ℕ). slots ++ (codes " between, " ++ (few ++ (codes " too few: " ++ list))))
    (many c.from.result (codes "slot")) (decimal c.saturating_sub-few.result) (string_bytes c.in_ok-list.list)
    (many between (codes "slot")) (decimal (c.args.min - between)) (games_text c.args.names.now (c.args.earlier ∷ c.args.later ∷ []))
    (ap (λ (k : ℕ). many k (codes "slot")) (c.from.ensures ∙ c.slots_between-between.ensures)) (ap decimal few) c.in_ok-list.ensures)
    c.format.ensures.ok
