use Rattle.std.proofs.Common.{◌≡◌, ◌≤◌, ◌<◌, ◌+◌, ℕ, length, refl, inr, arith, ap, sym, subst, ◌∙◌}
use Rattle.std.specs.Prelude.{Contains}
use Rattle.std.proofs.lemmas.List.{get_or_read}
use Rattle.std.proofs.lemmas.Option.{none-some}
use Rattle.rows.specs.Cardinality.{unit}
use Rattle.propagate.specs.Numbered.{row_at}
use Rattle.propagate.specs.Paths.{SeenPath}
use Rattle.propagate.specs.Trails.{values_of}
use Rattle.propagate.specs.Watches.{AllFalseBut, IsOpenIn, node_at, partner_of}
use Rattle.propagate.specs.declared.watches.Node.{Node}
use Rattle.propagate.proofs.ChainLemmas.{no_node}
use Rattle.propagate.proofs.LookLemmas.{IsGrownOver-none, NamesConflict-at}
use Rattle.propagate.proofs.WalkLemmas.{IsNext-same, lit_known}
use Rattle.propagate.proofs.walk.look_at_node.Goals as goal

pub value-requires : goal.value-requires
value-requires c =
    let other_is : c.index.result.now ≡ node_at c.args.watches.now.nodes.items (partner_of c.args.place) =
    get_or_read c.args.watches.now.nodes.items c.partner.result c.index.result.now
    (omega (arith, c.requires.node.partner, c.partner.ensures)) c.index.ensures no_node
    ∙ ap (λ (k : ℕ). node_at c.args.watches.now.nodes.items k) c.partner.ensures in
    subst (λ (n : Node). n.lit.var ≤ c.args.path.now.vars) (sym other_is)
    (lit_known c.args.path.now (node_at c.args.watches.now.nodes.items (partner_of c.args.place)).row
    (node_at c.args.watches.now.nodes.items (partner_of c.args.place)).lit c.requires.sound
    (omega (arith, c.requires.other.to, c.requires.hung)) c.requires.other.there)

pub returns-in-Some : goal.returns-in-Some
returns-in-Some c =
    let other_is : c.index.result.now ≡ node_at c.args.watches.now.nodes.items (partner_of c.args.place) =
    get_or_read c.args.watches.now.nodes.items c.partner.result c.index.result.now
    (omega (arith, c.requires.node.partner, c.partner.ensures)) c.index.ensures no_node
    ∙ ap (λ (k : ℕ). node_at c.args.watches.now.nodes.items k) c.partner.ensures in
    let node_is : c.index-node.result.now ≡ node_at c.args.watches.now.nodes.items c.args.place =
    get_or_read c.args.watches.now.nodes.items c.args.place c.index-node.result.now c.requires.there
    c.index-node.ensures no_node in
    let found : IsOpenIn (values_of c.args.path.now.entries) (row_at c.args.path.now.rows c.index-node.result.now.row)
    c.var.result c.in-Some.found = c.in-Some.ensures.some in
    record {
      grown = IsGrownOver-none c.args.path.now c.requires.sound;
      next = record {
        there =
            subst (λ (n : Node). Contains (row_at c.args.path.now.rows n.row).terms (unit c.in-Some.found)) node_is
            found.there;
        apart = λ same. found.other (same ∙ sym (c.var.ensures.var ∙ ap (λ (n : Node). n.lit.var) other_is));
        open_or_same = inr found.not_false;
      };
      looked = λ none. inr found.not_false;
      conflict = tt;
    }

pub settle_last-requires : goal.settle_last-requires
settle_last-requires c =
    let other_is : c.index.result.now ≡ node_at c.args.watches.now.nodes.items (partner_of c.args.place) =
    get_or_read c.args.watches.now.nodes.items c.partner.result c.index.result.now
    (omega (arith, c.requires.node.partner, c.partner.ensures)) c.index.ensures no_node
    ∙ ap (λ (k : ℕ). node_at c.args.watches.now.nodes.items k) c.partner.ensures in
    let node_is : c.index-node.result.now ≡ node_at c.args.watches.now.nodes.items c.args.place =
    get_or_read c.args.watches.now.nodes.items c.args.place c.index-node.result.now c.requires.there
    c.index-node.ensures no_node in
    let row_is : c.index-node.result.now.row ≡ (node_at c.args.watches.now.nodes.items c.args.place).row =
    ap (λ (n : Node). n.row) node_is in
    record {
      sound = c.requires.sound;
      there = omega (arith, row_is, c.requires.node.from);
      within = omega (arith, row_is, c.requires.node.to, c.requires.hung);
      literal =
          subst (λ (n : Node). Contains (row_at c.args.path.now.rows c.index-node.result.now.row).terms (unit n.lit))
          (sym other_is)
          (subst (λ (k : ℕ). Contains (row_at c.args.path.now.rows k).terms
          (unit (node_at c.args.watches.now.nodes.items (partner_of c.args.place)).lit))
          (c.requires.node.same_row ∙ sym row_is) c.requires.other.there);
      others =
          subst (λ (v : ℕ). AllFalseBut v (values_of c.args.path.now.entries)
          (row_at c.args.path.now.rows c.index-node.result.now.row)) c.var.ensures.var
          (c.in_default-next_open.ensures.none refl);
    }

pub returns : goal.returns
returns c =
    let node_is : c.index-node.result.now ≡ node_at c.args.watches.now.nodes.items c.args.place =
    get_or_read c.args.watches.now.nodes.items c.args.place c.index-node.result.now c.requires.there
    c.index-node.ensures no_node in
    let rows : length c.settle_last.new.path.rows ≡ length c.args.path.now.rows =
    ap (λ (p : SeenPath). length p.rows) c.settle_last.ensures.grown.same in
    let there : c.index-node.result.now.row < length c.settle_last.new.path.rows =
    omega (arith, ap (λ (n : Node). n.row) node_is, c.requires.node.to, c.requires.hung, rows) in
    record {
      grown = c.settle_last.ensures.grown;
      next =
          IsNext-same c.args.path.now c.settle_last.new.path c.args.watches.now.hung c.args.watches.now.nodes.items
          c.args.place c.index-node.result.now.lit c.requires.node c.settle_last.ensures.grown
          (ap (λ (n : Node). n.lit) node_is);
      looked = λ none. absurd (none-some _ (sym none));
      conflict =
          NamesConflict-at c.settle_last.new.path.rows (values_of c.settle_last.new.path.entries)
          c.index-node.result.now.row (record { row = c.index-node.result.now.row + 1 }) there refl
          (c.if-settle_last.ensures.conflict refl);
    }
