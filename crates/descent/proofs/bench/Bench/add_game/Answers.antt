use Rattle.std.proofs.Common.{◌≡◌, ◌++◌, ◌<◌, ℕ, List, ap, subst, sym, ◌∙◌, arith}
use Rattle.std.proofs.lemmas.List.Elements.{All-weaker}
use Rattle.std.specs.List.{All}
use Rattle.rule_core.specs.Keys.{KeyList}
use Rattle.descent.specs.KeySet.{AreAdded}
use Rattle.descent.proofs.bench.Bench.add_game.Goals as goal

pub add_keys-requires : goal.add_keys-requires
add_keys-requires g c =
    let rule = c.args.rule.now in
    let keys : c.touched.new.keys.list ≡ g.R.Entries.touches rule c.args.game =
    c.touched.ensures.list ∙ ap (λ (s : KeyList). s.list ++ g.R.Entries.touches rule c.args.game) c.clear.ensures in
    subst (λ (l : List ℕ). All (λ k. k < c.args.self.now.found.room) l) (sym keys)
    (All-weaker (λ k. k < g.R.Entries.term_count rule) (λ k. k < c.args.self.now.found.room)
    (λ k below. omega (arith, below, c.requires.room.terms)) (g.R.Entries.touches rule c.args.game)
    (g.met.R.Entries.below rule c.args.game c.requires.fits))

pub returns : goal.returns
returns g c =
    let rule = c.args.rule.now in
    let keys : c.touched.new.keys.list ≡ g.R.Entries.touches rule c.args.game =
    c.touched.ensures.list ∙ ap (λ (s : KeyList). s.list ++ g.R.Entries.touches rule c.args.game) c.clear.ensures in
    record {
      reach = c.touched.ensures.room ∙ ap (λ (s : KeyList). s.room) c.clear.ensures;
      found = subst (λ (l : List ℕ). AreAdded l c.args.self.now.found c.add_keys.new.found) keys c.add_keys.ensures;
    }
