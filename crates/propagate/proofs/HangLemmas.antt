-- A clause is watched from now on, or counted among those that need no look.
use Rattle.std.proofs.Common.{◌≡◌, ◌≢◌, ℕ, ◌+◌, ◌<◌, ◌≤◌, ◌⊎◌, List, [], ◌∷◌, ◌++◌, length, take}
use Rattle.std.proofs.Common.{refl, inl, inr, arith, ap, sym, subst, ◌∙◌}
use Rattle.std.specs.Prelude.{Contains}
use Rattle.std.specs.Vec.{vec_capacity}
use Rattle.std.proofs.lemmas.Bool.{cases_eq, cases_lt}
use Rattle.std.proofs.lemmas.List.{length_push}
use Rattle.rows.specs.Cardinality.{unit}
use Rattle.rows.specs.Literals.{Literal}
use Rattle.rows.specs.Rows.{Row}
use Rattle.rows.specs.Partials.{value_of}
use Rattle.rows.specs.declared.partial.Value.{Value}
use Rattle.rows.specs.declared.partial.Value.TheVariants.{True, False}
use Rattle.propagate.specs.Trails.{EachEntry, IsNew, level_of, values_of}
use Rattle.propagate.specs.Numbered.{row_at}
use Rattle.propagate.specs.Paths.{SeenPath}
use Rattle.propagate.specs.Looks.{AreSound}
use Rattle.propagate.specs.Watches.{AreBacked, AreHung, AreNodes, IsBacked, IsHeld, IsNode, IsPair, IsPairPushed}
use Rattle.propagate.specs.Watches.{IsWatching, node_at, partner_of}
use Rattle.propagate.specs.declared.entry.Entry.{Entry}
use Rattle.propagate.specs.declared.hang.Pair.{Pair}
use Rattle.propagate.specs.declared.watches.Node.{Node}
use Rattle.propagate.specs.declared.watches.Watches.{Watches}
use Rattle.propagate.proofs.BackedLemmas.{false_not_free, node_from, stays}
use Rattle.propagate.proofs.ChainLemmas.{node_at-end, node_at-front, partner-pair}
use Rattle.propagate.proofs.EntryLemmas.{none_decided}
use Rattle.propagate.proofs.LookLemmas.{news}

-- a node is backed, by itself and its partner
backed_from : (before now : ℕ → Value) (nodes : List Node) (j : ℕ) (a b : Node) → node_at nodes j
    ≡ a → node_at nodes (partner_of j) ≡ b
    → (value_of before a.lit ≡ False → value_of now b.lit ≡ True) → IsBacked before now nodes j
backed_from before now nodes j a b here there backed = λ fell.
    ap (λ (n : Node). value_of now n.lit) there ∙ backed (sym (ap (λ (n : Node). value_of before n.lit) here) ∙ fell)

-- the clause at the bound is watched
pub IsWatching-pair : (path : SeenPath) (before after : Watches) (looked : ℕ) (pair : Pair) → AreSound path
    → looked ≤ length path.entries → IsWatching path before looked
    → before.hung < length path.rows → IsPair path (row_at path.rows before.hung) pair
    → AreHung after.firsts.items after.nodes.items []
    → IsPairPushed before.nodes.items after.nodes.items pair before.hung → length after.firsts.items
    ≡ length before.firsts.items → after.hung ≡ before.hung + 1
    → vec_capacity before.nodes ≤ vec_capacity after.nodes → IsWatching path after looked
IsWatching-pair path before after looked pair sound within watching below is_pair hung pushed slots more capacity =
    record {
      slots = omega (arith, slots, watching.slots);
      room = omega (arith, watching.room, capacity, more, longer, below);
      hung = hung;
      nodes =
          subst (λ (xs : List Node). AreNodes path xs after.hung) (sym pushed.nodes)
          (subst (λ (k : ℕ). AreNodes path both k) (sym more) (record {
            even = omega (arith, watching.nodes.even, length_both);
            from = omega (arith, watching.nodes.from);
            to = omega (arith, below);
            each = each_node;
            covers = λ k from to. elim (cases_lt k before.hung) [
              | inl old ↦ elim (watching.nodes.covers k from old) [
                | inl has ↦
                    inl (has.0, omega (arith, has.1, length_both), ap (λ (x : Node). x.row) (front has.0 has.1) ∙ has.2)
                | inr held ↦ inr held
              ]
              | inr past ↦
                  inl (n, omega (arith, length_both), ap (λ (x : Node). x.row) at_first ∙ pushed.first_row ∙ omega arith)
            ];
          }));
      backed = subst (λ (xs : List Node). AreBacked xs path.entries looked) (sym pushed.nodes) (record {
        now = λ j inside. elim (place_of j inside) [
          | inl old ↦
              backed_old (values_of (take looked path.entries)) (values_of path.entries) j old (watching.backed.now j old)
          | inr last ↦ elim last [
            | inl same ↦
                subst (λ (k : ℕ). IsBacked (values_of (take looked path.entries)) (values_of path.entries) both k)
                (sym same)
                (backed_from (values_of (take looked path.entries)) (values_of path.entries) both n a b at_first
                at_partner (λ fell.
                absurd (is_pair.first_open (stays path.vars path.entries pair.first looked False each within
                false_not_free (first_value (values_of (take looked path.entries)) fell)))))
            | inr same ↦
                subst (λ (k : ℕ). IsBacked (values_of (take looked path.entries)) (values_of path.entries) both k)
                (sym same)
                (backed_from (values_of (take looked path.entries)) (values_of path.entries) both (n + 1) b a at_second
                at_partner_back (λ fell.
                ap (λ (l : Literal). value_of (values_of path.entries) l) pushed.first_lit
                ∙ is_pair.second_met (stays path.vars path.entries pair.second looked False each within false_not_free
                (second_value (values_of (take looked path.entries)) fell))))
          ]
        ];
        below = λ j inside k d before_it decided. elim (place_of j inside) [
          | inl old ↦
              backed_old (values_of (take k path.entries)) (values_of (take k path.entries)) j old
              (watching.backed.below j old k d before_it decided)
          | inr last ↦ elim last [
            | inl same ↦
                subst (λ (i : ℕ). IsBacked (values_of (take k path.entries)) (values_of (take k path.entries)) both i)
                (sym same)
                (backed_from (values_of (take k path.entries)) (values_of (take k path.entries)) both n a b at_first
                at_partner (λ fell.
                absurd (is_pair.first_opened k d before_it decided (first_value (values_of (take k path.entries)) fell))))
            | inr same ↦
                subst (λ (i : ℕ). IsBacked (values_of (take k path.entries)) (values_of (take k path.entries)) both i)
                (sym same)
                (backed_from (values_of (take k path.entries)) (values_of (take k path.entries)) both (n + 1) b a
                at_second at_partner_back (λ fell.
                absurd (is_pair.second_opened k d before_it decided (second_value (values_of (take k path.entries)) fell))))
          ]
        ];
      });
      given_below = watching.given_below;
    } where
      nodes : List Node
      nodes = before.nodes.items

      n : ℕ
      n = length nodes

      a : Node
      a = pushed.first

      b : Node
      b = pushed.second

      both : List Node
      both = nodes ++ a ∷ [] ++ b ∷ []

      each : EachEntry (IsNew path.vars) path.entries
      each = news path.rows path.vars path.entries sound.lawful

      length_one : length (nodes ++ a ∷ []) ≡ n + 1
      length_one = length_push nodes a

      length_both : length both ≡ n + 2
      length_both = omega (arith, length_push (nodes ++ a ∷ []) b, length_one)

      longer : length after.nodes.items ≡ n + 2
      longer = ap (λ (xs : List Node). length xs) pushed.nodes ∙ length_both

      front : (j : ℕ) → j < n → node_at both j ≡ node_at nodes j
      front j old = node_at-front (nodes ++ a ∷ []) b j (omega (arith, length_one)) ∙ node_at-front nodes a j old

      at_first : node_at both n ≡ a
      at_first = node_at-front (nodes ++ a ∷ []) b n (omega (arith, length_one)) ∙ node_at-end nodes a n refl

      at_second : node_at both (n + 1) ≡ b
      at_second = node_at-end (nodes ++ a ∷ []) b (n + 1) length_one

      at_partner : node_at both (partner_of n) ≡ b
      at_partner = ap (λ (k : ℕ). node_at both k) (partner-pair n watching.nodes.even).0 ∙ at_second

      at_partner_back : node_at both (partner_of (n + 1)) ≡ a
      at_partner_back = ap (λ (k : ℕ). node_at both k) (partner-pair n watching.nodes.even).1 ∙ at_first

      place_of : (j : ℕ) → j < length both → (j < n) ⊎ ((j ≡ n) ⊎ (j ≡ n + 1))
      place_of j inside = elim (cases_lt j n) [
        | inl old ↦ inl old
        | inr past ↦
            inr (elim (cases_eq j n) [
              | inl same ↦ inl same
              | inr other ↦ inr (omega (arith, inside, length_both, past, other))
            ])
      ]

      first_value : (values : ℕ → Value) → value_of values a.lit ≡ False → value_of values pair.first ≡ False
      first_value values fell = sym (ap (λ (l : Literal). value_of values l) pushed.first_lit) ∙ fell

      second_value : (values : ℕ → Value) → value_of values b.lit ≡ False → value_of values pair.second ≡ False
      second_value values fell = sym (ap (λ (l : Literal). value_of values l) pushed.second_lit) ∙ fell

      first_there : Contains (row_at path.rows a.row).terms (unit a.lit)
      first_there =
          subst (λ (k : ℕ). Contains (row_at path.rows k).terms (unit a.lit)) (sym pushed.first_row)
          (subst (λ (l : Literal). Contains (row_at path.rows before.hung).terms (unit l)) (sym pushed.first_lit)
          is_pair.first_there)

      second_there : Contains (row_at path.rows b.row).terms (unit b.lit)
      second_there =
          subst (λ (k : ℕ). Contains (row_at path.rows k).terms (unit b.lit)) (sym pushed.second_row)
          (subst (λ (l : Literal). Contains (row_at path.rows before.hung).terms (unit l)) (sym pushed.second_lit)
          is_pair.second_there)

      apart : b.lit.var ≢ a.lit.var
      apart =
          λ same. is_pair.apart (sym (ap (λ (l : Literal). l.var) pushed.second_lit)
          ∙ same ∙ ap (λ (l : Literal). l.var) pushed.first_lit)

      each_node : (j : ℕ) → j < length both → IsNode path.rows path.given (before.hung + 1) both j
      each_node j inside = elim (place_of j inside) [
        | inl old ↦
            node_from path.rows path.given (before.hung + 1) both j (node_at nodes j) (node_at nodes (partner_of j))
            (front j old) (front (partner_of j) (watching.nodes.each j old).partner)
            (omega (arith, (watching.nodes.each j old).partner, length_both)) (watching.nodes.each j old).from
            (omega (arith, (watching.nodes.each j old).to)) (watching.nodes.each j old).there
            (watching.nodes.each j old).same_row (watching.nodes.each j old).apart
        | inr last ↦ elim last [
          | inl same ↦
              subst (λ (k : ℕ). IsNode path.rows path.given (before.hung + 1) both k) (sym same)
              (node_from path.rows path.given (before.hung + 1) both n a b at_first at_partner
              (omega (arith, (partner-pair n watching.nodes.even).0, length_both))
              (omega (arith, pushed.first_row, watching.nodes.from)) (omega (arith, pushed.first_row)) first_there
              (pushed.second_row ∙ sym pushed.first_row) (λ one. apart (sym one)))
          | inr same ↦
              subst (λ (k : ℕ). IsNode path.rows path.given (before.hung + 1) both k) (sym same)
              (node_from path.rows path.given (before.hung + 1) both (n + 1) b a at_second at_partner_back
              (omega (arith, (partner-pair n watching.nodes.even).1, length_both))
              (omega (arith, pushed.second_row, watching.nodes.from)) (omega (arith, pushed.second_row)) second_there
              (pushed.first_row ∙ sym pushed.second_row) apart)
        ]
      ]

      backed_old : (earlier now : ℕ → Value) (j : ℕ) → j < n → IsBacked earlier now nodes j → IsBacked earlier now both j
      backed_old earlier now j old backed =
          backed_from earlier now both j (node_at nodes j) (node_at nodes (partner_of j)) (front j old)
          (front (partner_of j) (watching.nodes.each j old).partner) backed

-- the clause at the bound needs no look
pub IsWatching-held : (path : SeenPath) (before after : Watches) (looked place : ℕ) → IsWatching path before looked
    → before.hung ≡ place → before.hung < length path.rows
    → IsHeld (row_at path.rows place) path.entries → after ≡ record before { hung = place + 1 }
    → IsWatching path after looked
IsWatching-held path before after looked place watching at below held is =
    subst (λ (w : Watches). IsWatching path w looked) (sym is) (record {
      slots = watching.slots;
      room = omega (arith, watching.room, at);
      hung = watching.hung;
      nodes = record {
        even = watching.nodes.even;
        from = omega (arith, watching.nodes.from, at);
        to = omega (arith, below, at);
        each = λ i within. wider i (watching.nodes.each i within);
        covers = λ k from to. elim (cases_lt k place) [
          | inl old ↦ watching.nodes.covers k from (omega (arith, at))
          | inr past ↦
              let here : place ≡ k = omega arith in
              inr (subst (λ (i : ℕ). IsHeld (row_at path.rows i) path.entries) here held)
        ];
      };
      backed = watching.backed;
      given_below = watching.given_below;
    }) where
      wider : (i : ℕ) → IsNode path.rows path.given before.hung before.nodes.items i
          → IsNode path.rows path.given (place + 1) before.nodes.items i
      wider i node = record {
        partner = node.partner;
        from = node.from;
        to = omega (arith, node.to, at);
        there = node.there;
        same_row = node.same_row;
        apart = node.apart;
      }

-- a true literal where nothing was decided
pub IsHeld-true : (row : Row) (es : List Entry) (l : Literal) → level_of es ≡ 0 → Contains row.terms (unit l)
    → value_of (values_of es) l ≡ True → IsHeld row es
IsHeld-true row es l none there is = record {
  lit = l;
  there = there;
  now = is;
  below = λ k d within decided. absurd (none_decided es k d none within decided);
}
