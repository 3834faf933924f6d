use Rattle.std.proofs.Common.{◌≡◌, ℕ, inl, inr, arith, sym, subst}
use Rattle.propagate.specs.Numbered.{row_at}
use Rattle.propagate.specs.Watches.{IsPair, IsPairPushed, IsWatching}
use Rattle.propagate.specs.declared.watches.Watches.{Watches}
use Rattle.propagate.proofs.HangLemmas.{IsWatching-held, IsWatching-pair}
use Rattle.propagate.proofs.hang.hang_next.Goals as goal

pub returns-in-Some : goal.returns-in-Some
returns-in-Some c =
    let here : c.args.looked.rows ≡ c.args.watches.now.hung = omega arith in
    IsWatching-pair c.args.path.now c.args.watches.now c.push_pair.new.self c.args.looked.entries c.in-Some.pair
    c.requires.sound c.requires.looked c.requires.watching
    (omega (arith, c.requires.within, here))
    (subst (λ (k : ℕ). IsPair c.args.path.now (row_at c.args.path.now.rows k) c.in-Some.pair) here c.in-Some.ensures)
    c.push_pair.ensures.hung
    (subst (λ (k : ℕ). IsPairPushed c.args.watches.now.nodes.items c.push_pair.new.self.nodes.items c.in-Some.pair k)
    here c.push_pair.ensures.nodes)
    c.push_pair.ensures.slots (omega (arith, c.push_pair.ensures.more, here)) c.push_pair.ensures.capacity

pub returns-in-None : goal.returns-in-None
returns-in-None c =
    let here : c.args.watches.now.hung ≡ c.args.looked.rows = omega arith in
    elim c.hold.ensures [
      | inl same ↦
          subst (λ (w : Watches). IsWatching c.args.path.now w c.args.looked.entries) (sym same) c.requires.watching
      | inr held ↦
          IsWatching-held c.args.path.now c.args.watches.now c.hold.new.watches c.args.looked.entries
          c.args.looked.rows c.requires.watching here (omega (arith, c.requires.within, here)) held.0 held.1
    ]
