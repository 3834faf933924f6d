use Rattle.std.proofs.Common.{◌≡◌, ℕ, ◌≤◌, ◌<◌, List, length, get_or, arith, ap, subst, sym}
use Rattle.rows.specs.Partials.{IsQuietRow}
use Rattle.rows.specs.Rows.{Row}
use Rattle.rows.specs.declared.partial.Value.{Value}
use Rattle.propagate.specs.Links.{IsListed, links_of}
use Rattle.propagate.specs.Numbered.{row_at}
use Rattle.propagate.specs.Paths.{SeenPath}
use Rattle.propagate.specs.Trails.{values_of}
use Rattle.propagate.specs.declared.link.Link.{Link}
use Rattle.propagate.proofs.LinkLemmas.{row_at-front}
use Rattle.propagate.proofs.path.Path.past_quiet.Goals as goal

pub returns-clause-quiet : goal.returns-clause-quiet
returns-clause-quiet c =
    let listed : IsListed c.self.inside.counters.rows (length c.self.inside.counters.rows) c.args.lit (links_of c.self.inside.counters.lists c.args.lit) =
    subst (λ (ls : List Link). IsListed c.self.inside.counters.rows (length c.self.inside.counters.rows) c.args.lit ls) c.links-links.ensures.are c.links-links.ensures.listed in
    let count : length (links_of c.self.inside.counters.lists c.args.lit) ≡ length (links_of c.args.self.now.lists c.args.lit) =
    ap (λ (p : SeenPath). length (links_of p.lists c.args.lit)) c.self.view_is in
    subst (λ (p : SeenPath). (i : ℕ) (d : Link) → c.past_quiet.result ≤ i → i < c.args.at
    → IsQuietRow (values_of p.entries) (row_at p.rows (get_or (links_of p.lists c.args.lit) i d).row)) c.self.view_is
    (λ i d from before.
    let row : ℕ = (get_or (links_of c.self.inside.counters.lists c.args.lit) i d).row in
    let there : row < length c.self.inside.counters.rows = listed.inside i d (omega (arith, before, c.requires.within, count)) in
    subst (λ (r : Row). IsQuietRow (values_of c.self.inside.entries.items) r) (sym (row_at-front c.self.inside.counters.rows c.self.inside.added row there))
    (subst (λ (w : ℕ → Value). IsQuietRow w (row_at c.self.inside.counters.rows row)) c.self.invariant.kept.same (c.past_quiet.ensures.quiet i d from before)))
