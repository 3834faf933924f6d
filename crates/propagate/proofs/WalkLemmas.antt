-- Looks at the clauses that are watched at a literal which became false, one node after another.
use Rattle.std.proofs.Common.{◌≡◌, ◌≢◌, ℕ, zero, suc, ◌+◌, ◌%◌, ◌-◌, ◌<◌, ◌≤◌, ◌⊎◌, List, [], ◌∷◌, length, get_or, take}
use Rattle.std.proofs.Common.{Option, None, refl, inl, inr, arith, ap, sym, subst, ◌∙◌}
use Rattle.std.specs.Prelude.{slice_set, Contains, IfSome}
use Rattle.std.specs.List.{All}
use Rattle.std.specs.Vec.{vec_capacity}
use Rattle.std.proofs.lemmas.Bool.{cases_eq}
use Rattle.std.proofs.lemmas.List.{get_or-take, length-set, take_more}
use Rattle.std.proofs.lemmas.List.Elements.{All-head, All-tail}
use Rattle.rows.specs.Cardinality.{unit}
use Rattle.rows.specs.Codes.{code_of}
use Rattle.rows.specs.Forcing.{set_true}
use Rattle.rows.specs.Literals.{Literal, negate}
use Rattle.rows.specs.Partials.{opposite_of, value_of}
use Rattle.rows.specs.declared.partial.Value.{Value}
use Rattle.rows.specs.declared.partial.Value.TheVariants.{True, False}
use Rattle.propagate.specs.Trails.{EachEntry, IsNew, NamesConflict, values_of}
use Rattle.propagate.specs.Numbered.{row_at}
use Rattle.propagate.specs.Paths.{SeenPath}
use Rattle.propagate.specs.Looks.{AreSound, IsGrownOver}
use Rattle.propagate.specs.Watches.{AreBacked, AreHung, AreNodes, HasRoomForNodes, IsBacked, IsChain, IsNext}
use Rattle.propagate.specs.Watches.{IsNextBacked, IsNode, IsWatching, IsWatchingBut, node_at, partner_of}
use Rattle.propagate.specs.declared.entry.Conflict.{Conflict}
use Rattle.propagate.specs.declared.entry.Entry.{Entry}
use Rattle.propagate.specs.declared.watches.Node.{Node}
use Rattle.propagate.specs.declared.watches.Watches.{Watches}
use Rattle.propagate.proofs.BackedLemmas.{IsBacked-grown, IsBacked-hang, IsNode-hang, IsWatching-grown, back_kept}
use Rattle.propagate.proofs.BackedLemmas.{false_not_free, own_kept, stays, take_grown}
use Rattle.propagate.proofs.ChainLemmas.{AreHung-hang, AreHung-off, chain-apart, chain-few, chain-nil, chain-set}
use Rattle.propagate.proofs.ChainLemmas.{chain_is, new_node, node_at-other, node_at-same}
use Rattle.propagate.proofs.ClauseLemmas.{lit_there, true_not_false, true_not_free}
use Rattle.propagate.proofs.EntryLemmas.{no_entry, values_of-push}
use Rattle.propagate.proofs.LookLemmas.{AreSound-grown, IsGrownOver-none, IsGrownOver-trans, news}
use Rattle.propagate.proofs.ReachLemmas.{code_of-below, same_code, same_literal, value_of-negate}
use Rattle.propagate.proofs.ValueLemmas.{value_of-other, value_of-same}

-- ---- the literal that an entry made false

abbrev pub IsFalsifiedAt : List Entry → ℕ → Literal → Type 0
IsFalsifiedAt es looked l = (d : Entry) → negate (get_or es looked d).lit ≡ l

-- the values with one entry more
values_next : (es : List Entry) (looked : ℕ) → looked < length es → values_of (take (looked + 1) es)
    ≡ set_true (values_of (take looked es)) (get_or es looked no_entry).lit
values_next es looked there =
    ap values_of (take_more es looked no_entry there) ∙ values_of-push (take looked es) (get_or es looked no_entry)

pub falsified_next : (vars : ℕ) (es : List Entry) (looked : ℕ) (l : Literal) → EachEntry (IsNew vars) es
    → looked < length es → IsFalsifiedAt es looked l
    → value_of (values_of (take (looked + 1) es)) l ≡ False
falsified_next vars es looked l each there is =
    let e : Entry = get_or es looked no_entry in
    ap (λ (m : Literal). value_of (values_of (take (looked + 1) es)) m) (sym (is no_entry))
    ∙ value_of-negate (values_of (take (looked + 1) es)) e.lit
    ∙ ap (λ (w : ℕ → Value). opposite_of (value_of w e.lit)) (values_next es looked there)
    ∙ ap opposite_of (value_of-same (values_of (take looked es)) e.lit (each looked no_entry there).free)

pub falsified_now : (vars : ℕ) (es : List Entry) (looked : ℕ) (l : Literal) → EachEntry (IsNew vars) es
    → looked < length es → IsFalsifiedAt es looked l → value_of (values_of es) l ≡ False
falsified_now vars es looked l each there is =
    stays vars es l (looked + 1) False each (omega arith) false_not_free (falsified_next vars es looked l each there is)

-- another literal that is false then was false before
pub false_before : (vars : ℕ) (es : List Entry) (looked : ℕ) (l m : Literal) → EachEntry (IsNew vars) es
    → looked < length es → IsFalsifiedAt es looked l → m ≢ l
    → value_of (values_of (take (looked + 1) es)) m ≡ False → value_of (values_of (take looked es)) m ≡ False
false_before vars es looked l m each there is other fell = by (cases_eq m.var e.lit.var) where
  e : Entry
  e = get_or es looked no_entry

  fell_next : value_of (set_true (values_of (take looked es)) e.lit) m ≡ False
  fell_next = ap (λ (w : ℕ → Value). value_of w m) (sym (values_next es looked there)) ∙ fell

  by : (m.var ≡ e.lit.var) ⊎ (m.var ≢ e.lit.var) → value_of (values_of (take looked es)) m ≡ False
  by (inl same) =
      let is_e : m ≡ e.lit = same_literal e.lit m (λ negated. other (negated ∙ is no_entry)) same in
      absurd (true_not_false (sym (value_of-same (values_of (take looked es)) e.lit (each looked no_entry there).free)
      ∙ ap (λ (x : Literal). value_of (set_true (values_of (take looked es)) e.lit) x) (sym is_e) ∙ fell_next))
  by (inr differ) = sym (value_of-other (values_of (take looked es)) e.lit m differ) ∙ fell_next

-- an entry made a literal false still, where more entries came
pub falsified_grown : (old new : SeenPath) (looked : ℕ) (l : Literal) → looked < length old.entries
    → IsGrownOver old new → IsFalsifiedAt old.entries looked l → IsFalsifiedAt new.entries looked l
falsified_grown old new looked l there grown is = λ d.
    ap (λ (e : Entry). negate e.lit)
    (sym (get_or-take (length old.entries) new.entries looked d there)
    ∙ ap (λ (es : List Entry). get_or es looked d) grown.grown.kept)
    ∙ is d

-- ---- a walk

-- Some nodes that watched the literal are in no list yet; the others are backed by the next entry too, unless a
-- conflict
-- was found.
pub record IsWalking (old now : SeenPath) (watches : Watches) (hung looked : ℕ) (l : Literal) (loose : List ℕ)
    (at left : ℕ) (stopped : Option Conflict) : Type 0 where
  pub grown : IsGrownOver old now
  pub chain : IsChain watches.nodes.items at loose
  pub few : length loose ≤ left
  pub fallen : All (λ i. (node_at watches.nodes.items i).lit ≡ l) loose
  pub watching : IsWatchingBut now watches loose looked
  pub hung_is : watches.hung ≡ hung
  pub visited : stopped ≡ None → (i : ℕ) → i < length watches.nodes.items
      → Contains loose i ⊎ IsBacked (values_of (take (looked + 1) now.entries)) (values_of now.entries)
      watches.nodes.items i
  pub conflict : IfSome stopped (NamesConflict now.rows (values_of now.entries))

abbrev pub Walking : SeenPath → SeenPath → Watches → ℕ → ℕ → Literal → ℕ → ℕ → Option Conflict → Type 0
Walking old now watches hung looked l at left stopped =
    (loose : List ℕ) × IsWalking old now watches hung looked l loose at left stopped

-- as many nodes have as much room
pub room_kept : (rows : ℕ) (before after : Watches) → vec_capacity before.nodes ≤ vec_capacity after.nodes
    → after.hung ≡ before.hung → length after.nodes.items ≡ length before.nodes.items
    → HasRoomForNodes before rows → HasRoomForNodes after rows
room_kept rows before after more hung same room = omega (arith, room, hung, same, more)

-- the list was taken off
pub walking-none : (path : SeenPath) (before after : Watches) (looked slot at left : ℕ) (l : Literal) → AreSound path
    → IsWatching path before looked → looked < length path.entries
    → IsFalsifiedAt path.entries looked l → l.var ≤ path.vars → slot ≡ code_of l
    → at ≡ get_or before.firsts.items slot 0 → after.firsts.items ≡ slice_set before.firsts.items slot 0
    → after.nodes.items ≡ before.nodes.items → after.hung ≡ before.hung → vec_capacity before.nodes ≤ vec_capacity
    after.nodes → left ≡ length before.nodes.items → Walking path path after before.hung looked l at left None
walking-none path before after looked slot at left l sound watching there is known slot_is at_is firsts items hung
    room left_is = (
      watching.hung.lists slot,
      record {
        grown = IsGrownOver-none path sound;
        chain =
            subst (λ (xs : List Node). IsChain xs at loose) (sym items)
            (chain_is before.nodes.items (get_or before.firsts.items slot 0) at loose loose (sym at_is) refl chain);
        few = omega (arith, left_is, chain-few before.nodes.items (get_or before.firsts.items slot 0) loose chain);
        fallen = subst (λ (xs : List Node). All (λ i. (node_at xs i).lit ≡ l) loose) (sym items)
            (λ k d within. same_code (node_at before.nodes.items (get_or loose k d)).lit l
            (watching.hung.watching slot inside k d within ∙ slot_is));
        watching = record {
          slots =
              omega (arith, watching.slots, ap (λ (ns : List ℕ). length ns) firsts, length-set before.firsts.items slot 0);
          room =
              room_kept (length path.rows) before after room hung (ap (λ (ns : List Node). length ns) items) watching.room;
          hung =
              subst (λ (ns : List ℕ). AreHung ns after.nodes.items loose) (sym firsts)
              (subst (λ (xs : List Node). AreHung (slice_set before.firsts.items slot 0) xs loose) (sym items)
              (AreHung-off before.firsts.items before.nodes.items slot watching.hung inside));
          nodes =
              subst (λ (xs : List Node). AreNodes path xs after.hung) (sym items)
              (subst (λ (n : ℕ). AreNodes path before.nodes.items n) (sym hung) watching.nodes);
          backed = subst (λ (xs : List Node). AreBacked xs path.entries looked) (sym items) watching.backed;
          given_below = watching.given_below;
        };
        hung_is = hung;
        visited = λ none i within.
            subst (λ (xs : List Node). Contains loose i ⊎ IsBacked (values_of (take (looked + 1) path.entries))
            (values_of path.entries) xs i) (sym items)
            (by i (omega (arith, within, ap (λ (ns : List Node). length ns) items))
            (cases_eq (code_of (node_at before.nodes.items i).lit) slot));
        conflict = tt;
      },
    ) where
      loose : List ℕ
      loose = watching.hung.lists slot

      inside : slot < length before.firsts.items
      inside = omega (arith, slot_is, watching.slots, code_of-below l path.vars known)

      chain : IsChain before.nodes.items (get_or before.firsts.items slot 0) loose
      chain = watching.hung.chains slot inside

      in_list : (i : ℕ) → code_of (node_at before.nodes.items i).lit
          ≡ slot → Contains (watching.hung.lists (code_of (node_at before.nodes.items i).lit)) i ⊎ Contains [] i
          → Contains loose i
      in_list i same (inl has) = subst (λ (t : ℕ). Contains (watching.hung.lists t) i) same has
      in_list i same (inr has) = absurd (omega (arith, has.1))

      by : (i : ℕ) → i < length before.nodes.items → (code_of (node_at before.nodes.items i).lit ≡ slot)
          ⊎ (code_of (node_at before.nodes.items i).lit ≢ slot)
          → Contains loose i ⊎ IsBacked (values_of (take (looked + 1) path.entries)) (values_of path.entries)
          before.nodes.items i
      by i within (inl same) = inl (in_list i same (watching.hung.all i within))
      by i within (inr other) =
          inr (λ fell. watching.backed.now i within
          (false_before path.vars path.entries looked l (node_at before.nodes.items i).lit
          (news path.rows path.vars path.entries sound.lawful) there is
          (λ same. other (ap code_of same ∙ sym slot_is)) fell))

-- the next node
pub walking-head : (old now : SeenPath) (watches : Watches) (hung looked : ℕ) (l : Literal) (loose : List ℕ)
    (at left : ℕ) (stopped : Option Conflict)
    → IsWalking old now watches hung looked l loose at left stopped → 0 < at → (rest : List ℕ)
    × IsWalking old now watches hung looked l ((at - 1) ∷ rest) at left stopped
walking-head old now watches hung looked l [] at left stopped walking some = absurd (omega (arith, walking.chain))
walking-head old now watches hung looked l (i ∷ rest) at left stopped walking some =
    let here : i ≡ at - 1 = omega (arith, walking.chain.0) in
    (rest, subst (λ (k : ℕ). IsWalking old now watches hung looked l (k ∷ rest) at left stopped) here walking)

-- a node was looked at and hung again
pub IsWatching-hang : (path : SeenPath) (before after : Watches) (i looked : ℕ) (rest : List ℕ) (lit : Literal)
    → AreSound path → looked ≤ length path.entries
    → IsWatchingBut path before (i ∷ rest) looked → All (λ j. j ≢ i) rest → i < length before.nodes.items
    → value_of (values_of path.entries) (node_at before.nodes.items i).lit ≡ False
    → IsNext path before.nodes.items i lit
    → after.nodes.items ≡ slice_set before.nodes.items i
    (new_node lit (node_at before.nodes.items i).row (get_or before.firsts.items (code_of lit) 0))
    → after.firsts.items ≡ slice_set before.firsts.items (code_of lit) (i + 1)
    → after.hung ≡ before.hung → vec_capacity before.nodes ≤ vec_capacity after.nodes
    → code_of lit < length before.firsts.items → IsWatchingBut path after rest looked
IsWatching-hang path before after i looked rest lit sound within watching fresh there fell next items firsts hung room
    slot = record {
      slots =
          omega (
            arith,
            watching.slots,
            ap (λ (ns : List ℕ). length ns) firsts,
            length-set before.firsts.items (code_of lit) (i + 1),
          );
      room =
          room_kept (length path.rows) before after room hung
          (ap (λ (ns : List Node). length ns) items ∙ length-set nodes i x) watching.room;
      hung =
          subst (λ (ns : List ℕ). AreHung ns after.nodes.items rest) (sym firsts)
          (subst (λ (xs : List Node). AreHung (slice_set before.firsts.items (code_of lit) (i + 1)) xs rest) (sym items)
          (AreHung-hang before.firsts.items nodes i rest lit (node_at nodes i).row watching.hung fresh there slot));
      nodes =
          subst (λ (xs : List Node). AreNodes path xs after.hung) (sym items)
          (subst (λ (n : ℕ). AreNodes path (slice_set nodes i x) n) (sym hung) (record {
            even = subst (λ (n : ℕ). n % 2 ≡ 0) (sym (length-set nodes i x)) watching.nodes.even;
            from = watching.nodes.from;
            to = watching.nodes.to;
            each =
                λ j inside. IsNode-hang path.rows path.given before.hung nodes i j x watching.nodes.each there refl
                next.there next.apart inside;
            covers = λ k from to. elim (watching.nodes.covers k from to) [
              | inl has ↦ inl (has.0, omega (arith, has.1, length-set nodes i x), row_same has.0 ∙ has.2)
              | inr held ↦ inr held
            ];
          }));
      backed = subst (λ (xs : List Node). AreBacked xs path.entries looked) (sym items) (record {
        now = λ j inside.
            IsBacked-hang (values_of (take looked path.entries)) (values_of path.entries) nodes i j x there
            (λ one two. watching.backed.now j (kept_inside j inside))
            (own_kept (values_of (take looked path.entries)) (values_of path.entries) (values_of path.entries) nodes i lit
            (watching.backed.now i there)
            (stays path.vars path.entries lit looked False each within false_not_free) next.open_or_same)
            (back_kept (values_of (take looked path.entries)) (values_of path.entries) (values_of path.entries) nodes i
            lit (watching.backed.now (partner_of i) (watching.nodes.each i there).partner)
            (λ is. is) fell next.open_or_same);
        below = λ j inside k d before decided.
            IsBacked-hang (values_of (take k path.entries)) (values_of (take k path.entries)) nodes i j x there
            (λ one two. watching.backed.below j (kept_inside j inside) k d before decided)
            (own_kept (values_of (take k path.entries)) (values_of (take k path.entries)) (values_of path.entries) nodes i
            lit (watching.backed.below i there k d before decided)
            (stays path.vars path.entries lit k False each (omega arith) false_not_free) next.open_or_same)
            (back_kept (values_of (take k path.entries)) (values_of (take k path.entries)) (values_of path.entries) nodes
            i lit
            (watching.backed.below (partner_of i) (watching.nodes.each i there).partner k d before decided)
            (stays path.vars path.entries (node_at nodes i).lit k True each (omega arith) true_not_free) fell
            next.open_or_same);
      });
      given_below = watching.given_below;
    } where
      nodes : List Node
      nodes = before.nodes.items

      x : Node
      x = new_node lit (node_at nodes i).row (get_or before.firsts.items (code_of lit) 0)

      each : EachEntry (IsNew path.vars) path.entries
      each = news path.rows path.vars path.entries sound.lawful

      kept_inside : (j : ℕ) → j < length (slice_set nodes i x) → j < length nodes
      kept_inside j inside = omega (arith, length-set nodes i x)

      row_same : (j : ℕ) → (node_at (slice_set nodes i x) j).row ≡ (node_at nodes j).row
      row_same j = by (cases_eq j i) where
        by : (j ≡ i) ⊎ (j ≢ i) → (node_at (slice_set nodes i x) j).row ≡ (node_at nodes j).row
        by (inl same) =
            ap (λ (k : ℕ). (node_at (slice_set nodes i x) k).row) same
            ∙ ap (λ (n : Node). n.row) (node_at-same nodes i x there) ∙ ap (λ (k : ℕ). (node_at nodes k).row) (sym same)
        by (inr other) = ap (λ (n : Node). n.row) (node_at-other nodes i j x other)

-- the rest stays where a conflict was found before, and is backed by the next entry where none was
pub walking-step : (old now new : SeenPath) (before after : Watches) (hung looked : ℕ) (l : Literal) (i : ℕ)
    (rest : List ℕ) (at left next_at left_after : ℕ) (stopped found : Option Conflict) (lit : Literal)
    → AreSound old → looked < length old.entries → IsFalsifiedAt old.entries looked l
    → IsWalking old now before hung looked l (i ∷ rest) at left stopped → IsGrownOver now new
    → IsNext new before.nodes.items i lit
    → (found ≡ None → (stopped ≡ None) × IsNextBacked new before.nodes.items i lit)
    → IfSome found (NamesConflict new.rows (values_of new.entries))
    → after.nodes.items ≡ slice_set before.nodes.items i
    (new_node lit (node_at before.nodes.items i).row (get_or before.firsts.items (code_of lit) 0))
    → after.firsts.items ≡ slice_set before.firsts.items (code_of lit) (i + 1)
    → after.hung ≡ before.hung → vec_capacity before.nodes ≤ vec_capacity after.nodes
    → code_of lit < length before.firsts.items → next_at ≡ (node_at before.nodes.items i).next → left_after + 1
    ≡ left → IsWalking old new after hung looked l rest next_at left_after found
walking-step old now new before after hung looked l i rest at left next_at left_after stopped found lit sound there is
    walking grown next looked_at conflict items firsts hung_is room slot at_is left_is = record {
      grown = IsGrownOver-trans old now new walking.grown grown;
      chain =
          subst (λ (xs : List Node). IsChain xs next_at rest) (sym items)
          (chain_is (slice_set nodes i x) (node_at nodes i).next next_at rest rest (sym at_is) refl
          (chain-set nodes i x (node_at nodes i).next rest fresh walking.chain.2));
      few = omega (arith, walking.few);
      fallen = subst (λ (xs : List Node). All (λ j. (node_at xs j).lit ≡ l) rest) (sym items)
          (λ k d within. ap (λ (n : Node). n.lit) (node_at-other nodes i (get_or rest k d) x (fresh k d within))
          ∙ All-tail (λ (j : ℕ). (node_at nodes j).lit ≡ l) i rest walking.fallen k d within);
      watching =
          IsWatching-hang new before after i looked rest lit sound_new (omega arith) watching fresh inside fell next items
          firsts hung_is room slot;
      hung_is = hung_is ∙ walking.hung_is;
      visited = λ none j within.
          subst (λ (xs : List Node). Contains rest j ⊎ IsBacked (values_of (take (looked + 1) new.entries))
          (values_of new.entries) xs j) (sym items)
          (visit none j (omega (arith, within, ap (λ (ns : List Node). length ns) items, length-set nodes i x))
          (cases_eq j i));
      conflict = conflict;
    } where
      nodes : List Node
      nodes = before.nodes.items

      x : Node
      x = new_node lit (node_at nodes i).row (get_or before.firsts.items (code_of lit) 0)

      es : List Entry
      es = new.entries

      inside : i < length nodes
      inside = walking.chain.1

      fresh : All (λ j. j ≢ i) rest
      fresh = chain-apart nodes at i rest walking.chain

      sound_new : AreSound new
      sound_new = AreSound-grown old new sound (IsGrownOver-trans old now new walking.grown grown)

      each : EachEntry (IsNew new.vars) es
      each = news new.rows new.vars es sound_new.lawful

      there_now : looked < length now.entries
      there_now = omega (arith, there, walking.grown.grown.longer)

      there_new : looked < length es
      there_new = omega (arith, there_now, grown.grown.longer)

      watching : IsWatchingBut new before (i ∷ rest) looked
      watching = IsWatching-grown now new before (i ∷ rest) looked walking.watching (omega (arith, there_now)) grown

      is_new : IsFalsifiedAt es looked l
      is_new = falsified_grown old new looked l there (IsGrownOver-trans old now new walking.grown grown) is

      lit_is : (node_at nodes i).lit ≡ l
      lit_is = All-head (λ (j : ℕ). (node_at nodes j).lit ≡ l) i rest walking.fallen

      fell : value_of (values_of es) (node_at nodes i).lit ≡ False
      fell =
          ap (λ (m : Literal). value_of (values_of es) m) lit_is ∙ falsified_now new.vars es looked l each there_new is_new

      backed_then : (j : ℕ) → IsBacked (values_of (take (looked + 1) now.entries)) (values_of now.entries) nodes j
          → IsBacked (values_of (take (looked + 1) es)) (values_of es) nodes j
      backed_then j backed =
          subst (λ (xs : List Entry). IsBacked (values_of xs) (values_of es) nodes j)
          (sym (take_grown (looked + 1) now.entries es (omega arith) grown.grown))
          (IsBacked-grown new.vars (values_of (take (looked + 1) now.entries)) now.entries es nodes j each grown.grown
          backed)

      own : IsNextBacked new nodes i lit → value_of (values_of (take (looked + 1) es)) lit
          ≡ False → value_of (values_of es) (node_at nodes (partner_of i)).lit ≡ True
      own (inl met) was = met
      own (inr other) was = absurd (other (stays new.vars es lit (looked + 1) False each (omega arith) false_not_free was))

      back : value_of (values_of (take (looked + 1) es)) (node_at nodes (partner_of i)).lit
          ≡ False → value_of (values_of es) lit ≡ True
      back was =
          back_kept (values_of (take looked es)) (values_of es) (values_of es) nodes i lit
          (watching.backed.now (partner_of i) (watching.nodes.each i inside).partner) (λ same. same) fell
          next.open_or_same
          (false_before new.vars es looked l (node_at nodes (partner_of i)).lit each there_new is_new
          (λ same. (watching.nodes.each i inside).apart (ap (λ (m : Literal). m.var) (lit_is ∙ sym same))) was)

      in_rest : (j : ℕ) → j ≢ i → Contains (i ∷ rest) j → Contains rest j
      in_rest j other (zero, within, same) = absurd (other (sym same))
      in_rest j other (suc k, within, same) = (k, omega arith, same)

      hang_backed : (j : ℕ) → IsNextBacked new nodes i lit
          → (j ≢ i → j ≢ partner_of i → IsBacked (values_of (take (looked + 1) es)) (values_of es) nodes j)
          → IsBacked (values_of (take (looked + 1) es)) (values_of es) (slice_set nodes i x) j
      hang_backed j met old_one =
          IsBacked-hang (values_of (take (looked + 1) es)) (values_of es) nodes i j x inside old_one (own met) back

      visit : found ≡ None → (j : ℕ) → j < length nodes → (j ≡ i) ⊎ (j ≢ i) → Contains rest j
          ⊎ IsBacked (values_of (take (looked + 1) es)) (values_of es) (slice_set nodes i x) j
      visit none j within (inl same) = inr (hang_backed j (looked_at none).1 (λ other. absurd (other same)))
      visit none j within (inr other) = elim (walking.visited (looked_at none).0 j within) [
        | inl has ↦ inl (in_rest j other has)
        | inr backed ↦ inr (hang_backed j (looked_at none).1 (λ one two. backed_then j backed))
      ]

-- all nodes are hung
pub walking-watching : (old now : SeenPath) (watches : Watches) (hung looked : ℕ) (l : Literal) (loose : List ℕ)
    (at left : ℕ) (stopped : Option Conflict)
    → IsWalking old now watches hung looked l loose at left stopped → at ≡ 0 → IsWatching now watches looked
walking-watching old now watches hung looked l loose at left stopped walking none =
    subst (λ (is : List ℕ). IsWatchingBut now watches is looked)
    (chain-nil watches.nodes.items at loose walking.chain none) walking.watching

-- all nodes are backed by the next entry too
pub walking-end : (old now : SeenPath) (watches : Watches) (hung looked : ℕ) (l : Literal) (loose : List ℕ)
    (at left : ℕ) (stopped : Option Conflict)
    → IsWalking old now watches hung looked l loose at left stopped → at ≡ 0 → stopped ≡ None → IsWatching now watches
    (looked + 1)
walking-end old now watches hung looked l loose at left stopped walking none quiet =
    let watching : IsWatching now watches looked =
    walking-watching old now watches hung looked l loose at left stopped walking none in
    record {
      slots = watching.slots;
      room = watching.room;
      hung = watching.hung;
      nodes = watching.nodes;
      backed = record {
        now = λ i within. by i (walking.visited quiet i within);
        below = watching.backed.below;
      };
      given_below = watching.given_below;
    } where
      by : (i : ℕ) → Contains loose i ⊎ IsBacked (values_of (take (looked + 1) now.entries)) (values_of now.entries)
          watches.nodes.items i
          → IsBacked (values_of (take (looked + 1) now.entries)) (values_of now.entries) watches.nodes.items i
      by i (inl has) =
          absurd (omega (
            arith,
            has.1,
            ap (λ (is : List ℕ). length is) (chain-nil watches.nodes.items at loose walking.chain none),
          ))
      by i (inr backed) = backed

-- ---- what the walk's calls ask

pub falsified_known : (path : SeenPath) (looked : ℕ) (l : Literal) → AreSound path → looked < length path.entries
    → IsFalsifiedAt path.entries looked l → l.var ≤ path.vars
falsified_known path looked l sound there is =
    subst (λ (m : Literal). m.var ≤ path.vars) (is no_entry)
    (news path.rows path.vars path.entries sound.lawful looked no_entry there).known

-- a literal of a clause is known
pub lit_known : (path : SeenPath) (k : ℕ) (l : Literal) → AreSound path → k < length path.rows
    → Contains (row_at path.rows k).terms (unit l) → l.var ≤ path.vars
lit_known path k l sound within there =
    subst (λ (m : Literal). m.var ≤ path.vars) (lit_there (row_at path.rows k).terms l (unit l) there)
    (sound.known k (record { terms = []; degree = 0 }) within there.0 (unit l) there.1)

pub walking-slot : (old now new : SeenPath) (watches : Watches) (hung looked : ℕ) (l : Literal) (i : ℕ)
    (rest : List ℕ) (at left : ℕ) (stopped : Option Conflict) (lit : Literal) → AreSound old
    → IsWalking old now watches hung looked l (i ∷ rest) at left stopped → IsGrownOver now new
    → IsNext new watches.nodes.items i lit → code_of lit < length watches.firsts.items
walking-slot old now new watches hung looked l i rest at left stopped lit sound walking grown next =
    let sound_new : AreSound new = AreSound-grown old new sound (IsGrownOver-trans old now new walking.grown grown) in
    let vars : new.vars ≡ now.vars = ap (λ (p : SeenPath). p.vars) grown.same in
    let rows : length new.rows ≡ length now.rows = ap (λ (p : SeenPath). length p.rows) grown.same in
    let within : (node_at watches.nodes.items i).row < length new.rows =
    omega (arith, (walking.watching.nodes.each i walking.chain.1).to, walking.watching.nodes.to, rows) in
    omega (
      arith,
      walking.watching.slots,
      vars,
      code_of-below lit new.vars (lit_known new (node_at watches.nodes.items i).row lit sound_new within next.there),
    )

-- a node watches what it watched
pub IsNext-same : (old new : SeenPath) (hung : ℕ) (nodes : List Node) (i : ℕ) (l : Literal)
    → IsNode old.rows old.given hung nodes i → IsGrownOver old new → l ≡ (node_at nodes i).lit → IsNext new nodes i l
IsNext-same old new hung nodes i l node grown is =
    subst (λ (m : Literal). IsNext new nodes i m) (sym is) (record {
      there =
          subst (λ (p : SeenPath). Contains (row_at p.rows (node_at nodes i).row).terms (unit (node_at nodes i).lit))
          (sym grown.same) node.there;
      apart = node.apart;
      open_or_same = inl refl;
    })
