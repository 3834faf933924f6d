use Rattle.std.proofs.Common.{◌≡◌, ℕ, ◌-◌, ◌<◌, List, length, get_or, inl, inr, refl, arith, ap, sym, subst, ◌∙◌}
use Rattle.std.proofs.lemmas.Bool.{cases_lt}
use Rattle.std.proofs.lemmas.List.{get_or_default}
use Rattle.rows.specs.Partials.{IsQuietRow}
use Rattle.rows.specs.Values.{valued}
use Rattle.propagate.specs.Links.{IsListed, links_of}
use Rattle.propagate.specs.Numbered.{row_at}
use Rattle.propagate.specs.declared.link.Link.{Link}
use Rattle.propagate.proofs.counters.Counters.past_quiet.Goals as goal

pub rows-init : goal.rows-init
rows-init c = record {
  within = omega arith;
  quiet = λ i d from before. absurd (omega arith);
}

pub link-link-requires-clause-there : goal.link-link-requires-clause-there
link-link-requires-clause-there c = omega (arith, c.requires.within, c.rows.invariant.within)

pub is_enough-requires : goal.is_enough-requires
is_enough-requires c =
    let listed : IsListed c.args.self.now.rows (length c.args.self.now.rows) c.args.lit (links_of c.args.self.now.lists c.args.lit) =
    subst (λ (ls : List Link). IsListed c.args.self.now.rows (length c.args.self.now.rows) c.args.lit ls) c.links-links.ensures.are c.links-links.ensures.listed in
    subst (λ (x : Link). x.row < length c.args.self.now.rows) (sym c.link-link.ensures)
    (listed.inside (c.rows.left - 1) c.link-link.result (omega (arith, c.requires.within, c.rows.invariant.within)))

pub rows-preserved : goal.rows-preserved
rows-preserved c = record {
  within = omega (arith, c.rows.invariant.within);
  quiet = λ i d from before. elim (cases_lt i c.rows.left) [
    | inl below ↦
        let here : c.rows.left - 1 ≡ i = omega arith in
        let within : c.rows.left - 1 < length (links_of c.args.self.now.lists c.args.lit) = omega (arith, c.requires.within, c.rows.invariant.within) in
        let link : c.link-link.result ≡ get_or (links_of c.args.self.now.lists c.args.lit) i d =
        c.link-link.ensures ∙ get_or_default (links_of c.args.self.now.lists c.args.lit) (c.rows.left - 1) c.link-link.result d within
        ∙ ap (λ (k : ℕ). get_or (links_of c.args.self.now.lists c.args.lit) k d) here in
        subst (λ (x : Link). IsQuietRow (valued c.args.self.now.values) (row_at c.args.self.now.rows x.row)) link
        (c.if-not-is_enough.ensures refl)
    | inr past ↦ c.rows.invariant.quiet i d past before
  ];
}

pub returns-then-not-is_enough-clause-within : goal.returns-then-not-is_enough-clause-within
returns-then-not-is_enough-clause-within c = c.rows.invariant.within

pub returns-then-not-is_enough-clause-quiet : goal.returns-then-not-is_enough-clause-quiet
returns-then-not-is_enough-clause-quiet c = c.rows.invariant.quiet

pub returns-clause-quiet : goal.returns-clause-quiet
returns-clause-quiet c = λ i d from before. c.rows.invariant.quiet i d (omega arith) before
