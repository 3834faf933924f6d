-- Nodes that are backed, and what they say of their clauses.
use Rattle.std.proofs.Common.{◌≡◌, ◌≢◌, ℕ, ◌+◌, ◌-◌, ◌<◌, ◌≤◌, ◌⊎◌, Bool, true, false, cond, List, length, take}
use Rattle.std.proofs.Common.{refl, inl, inr, arith, ap, sym, subst, ◌∙◌}
use Rattle.std.specs.Prelude.{slice_set, Contains}
use Rattle.std.proofs.lemmas.Bool.{cases_eq, false≢true}
use Rattle.std.proofs.lemmas.List.{length-set, take-take, take_all}
use Rattle.rows.specs.Cardinality.{unit}
use Rattle.rows.specs.Literals.{Literal}
use Rattle.rows.specs.Rows.{Row}
use Rattle.rows.specs.Partials.{IsQuietRow, opposite_of, value_of}
use Rattle.rows.specs.declared.partial.Value.{Value}
use Rattle.rows.specs.declared.partial.Value.TheVariants.{True, False, Free}
use Rattle.propagate.specs.Trails.{AreLawful, EachEntry, IsGrown, IsNew, is_decision, values_of}
use Rattle.propagate.specs.Numbered.{row_at}
use Rattle.propagate.specs.Paths.{SeenPath, with_entries}
use Rattle.propagate.specs.Looks.{AreSound, IsGrownOver, IsSeen}
use Rattle.propagate.specs.Watches.{AreBacked, IsBacked, IsClause, IsHeld, IsNode, IsWatchingBut, node_at, partner_of}
use Rattle.propagate.specs.declared.entry.Entry.{Entry}
use Rattle.propagate.specs.declared.watches.Node.{Node}
use Rattle.propagate.specs.declared.watches.Watches.{Watches}
use Rattle.propagate.proofs.CalmLemmas.{value_kept, value_of-kept}
use Rattle.propagate.proofs.ChainLemmas.{node_at-other, node_at-same, partner-other, partner-twice}
use Rattle.propagate.proofs.ClauseLemmas.{IsQuietRow-true, IsQuietRow-two, true_not_false, true_not_free}
use Rattle.propagate.proofs.EntryLemmas.{each-grown, quiet_row_below-grown}
use Rattle.propagate.proofs.LookLemmas.{news, quiet-steps}

-- ---- values that stay

pub false_not_free : False ≡ Free → ⊥
false_not_free same = cc

pub false_or : (v : Value) → (v ≡ False) ⊎ (v ≢ False)
false_or True = inr (λ same. true_not_false same)
false_or False = inl refl
false_or Free = inr (λ same. false_not_free (sym same))

set_is : (values : ℕ → Value) (l : Literal) (x : Value) → value_of values l ≡ x → x ≢ Free → values l.var ≢ Free
set_is values l x is other free = other (sym is ∙ by l.positive (values l.var) free) where
  by : (p : Bool) (v : Value) → v ≡ Free → cond p v (opposite_of v) ≡ Free
  by true v same = same
  by false v same = ap opposite_of same

-- a literal keeps its value while entries come
pub stays : (vars : ℕ) (es : List Entry) (l : Literal) (m : ℕ) (x : Value) → EachEntry (IsNew vars) es → m ≤ length es
    → x ≢ Free → value_of (values_of (take m es)) l ≡ x → value_of (values_of es) l ≡ x
stays vars es l m x each within other is =
    let sums : m + (length es - m) ≡ length es = omega arith in
    let kept : values_of es l.var ≡ values_of (take m es) l.var =
    ap (λ (xs : List Entry). values_of xs l.var) (sym (take_all (length es) es (omega arith)))
    ∙ ap (λ (n : ℕ). values_of (take n es) l.var) (sym sums)
    ∙ value_kept vars es l.var m (length es - m) each (omega arith) (set_is (values_of (take m es)) l x is other) in
    value_of-kept (values_of (take m es)) (values_of es) l kept ∙ is

pub grown_stays : (vars : ℕ) (old new : List Entry) (l : Literal) (x : Value) → EachEntry (IsNew vars) new
    → IsGrown old new → x ≢ Free → value_of (values_of old) l ≡ x → value_of (values_of new) l ≡ x
grown_stays vars old new l x each grown other is =
    stays vars new l (length old) x each grown.longer other
    (ap (λ (es : List Entry). value_of (values_of es) l) grown.kept ∙ is)

pub take_grown : (looked : ℕ) (old new : List Entry) → looked ≤ length old → IsGrown old new → take looked new
    ≡ take looked old
take_grown looked old new within grown =
    sym (take-take looked (length old) new within) ∙ ap (λ (es : List Entry). take looked es) grown.kept

-- ---- entries came

pub IsBacked-grown : (vars : ℕ) (before : ℕ → Value) (old new : List Entry) (nodes : List Node) (i : ℕ)
    → EachEntry (IsNew vars) new → IsGrown old new
    → IsBacked before (values_of old) nodes i → IsBacked before (values_of new) nodes i
IsBacked-grown vars before old new nodes i each grown backed =
    λ is. grown_stays vars old new (node_at nodes (partner_of i)).lit True each grown true_not_free (backed is)

not_decided : (e : Entry) → is_decision e ≡ false → is_decision e ≡ true → ⊥
not_decided e forced decided = absurd (false≢true (sym forced ∙ decided))

AreBacked-grown : (vars looked : ℕ) (old new : List Entry) (nodes : List Node) → EachEntry (IsNew vars) new
    → looked ≤ length old → IsGrown old new → AreBacked nodes old looked → AreBacked nodes new looked
AreBacked-grown vars looked old new nodes each within grown backed = record {
  now = λ i there.
      subst (λ (es : List Entry). IsBacked (values_of es) (values_of new) nodes i)
      (sym (take_grown looked old new within grown))
      (IsBacked-grown vars (values_of (take looked old)) old new nodes i each grown (backed.now i there));
  below = λ i there.
      each-grown (λ before e. is_decision e ≡ true → IsBacked (values_of before) (values_of before) nodes i) old new
      grown (backed.below i there)
      (λ before e forced decided. absurd (not_decided e forced decided));
}

IsHeld-grown : (vars : ℕ) (row : Row) (old new : List Entry) → EachEntry (IsNew vars) new → IsGrown old new
    → IsHeld row old → IsHeld row new
IsHeld-grown vars row old new each grown held = record {
  lit = held.lit;
  there = held.there;
  now = grown_stays vars old new held.lit True each grown true_not_free held.now;
  below =
      each-grown (λ before e. is_decision e ≡ true → value_of (values_of before) held.lit ≡ True) old new grown
      held.below
      (λ before e forced decided. absurd (not_decided e forced decided));
}

IsWatching-entries : (path : SeenPath) (watches : Watches) (loose : List ℕ) (looked : ℕ) (es : List Entry)
    → IsWatchingBut path watches loose looked → looked ≤ length path.entries
    → IsGrown path.entries es → AreLawful path.rows path.vars es → IsWatchingBut (with_entries path es) watches loose
    looked
IsWatching-entries path watches loose looked es watching within grown lawful =
    let each : EachEntry (IsNew path.vars) es = news path.rows path.vars es lawful in
    record {
      slots = watching.slots;
      room = watching.room;
      hung = watching.hung;
      nodes = record {
        even = watching.nodes.even;
        from = watching.nodes.from;
        to = watching.nodes.to;
        each = watching.nodes.each;
        covers = λ k from to. elim (watching.nodes.covers k from to) [
          | inl has ↦ inl has
          | inr held ↦ inr (IsHeld-grown path.vars (row_at path.rows k) path.entries es each grown held)
        ];
      };
      backed = AreBacked-grown path.vars looked path.entries es watches.nodes.items each within grown watching.backed;
      given_below =
          λ k below. quiet_row_below-grown (row_at path.rows k) path.entries es grown (watching.given_below k below);
    }

pub IsWatching-grown : (old new : SeenPath) (watches : Watches) (loose : List ℕ) (looked : ℕ)
    → IsWatchingBut old watches loose looked → looked ≤ length old.entries → IsGrownOver old new
    → IsWatchingBut new watches loose looked
IsWatching-grown old new watches loose looked watching within grown =
    subst (λ (p : SeenPath). IsWatchingBut p watches loose looked) (sym grown.same)
    (IsWatching-entries old watches loose looked new.entries watching within grown.grown grown.lawful)

-- ---- a node that is hung again

-- a node, by itself and its partner
pub node_from : (rows : List Row) (given hung : ℕ) (nodes : List Node) (j : ℕ) (a b : Node) → node_at nodes j
    ≡ a → node_at nodes (partner_of j) ≡ b → partner_of j < length nodes
    → given ≤ a.row → a.row < hung → Contains (row_at rows a.row).terms (unit a.lit)
    → b.row ≡ a.row → a.lit.var ≢ b.lit.var → IsNode rows given hung nodes j
node_from rows given hung nodes j a b here there within from to has rows_are apart = record {
  partner = within;
  from = omega (arith, from, ap (λ (n : Node). n.row) here);
  to = omega (arith, to, ap (λ (n : Node). n.row) here);
  there = subst (λ (n : Node). Contains (row_at rows n.row).terms (unit n.lit)) (sym here) has;
  same_row = ap (λ (n : Node). n.row) there ∙ rows_are ∙ sym (ap (λ (n : Node). n.row) here);
  apart = λ same. apart (sym (ap (λ (n : Node). n.lit.var) here) ∙ same ∙ ap (λ (n : Node). n.lit.var) there);
}

-- the partner of another node than these two is another too
other_partner : (i j : ℕ) → j ≢ partner_of i → partner_of j ≢ i
other_partner i j other same = other (sym (partner-twice j) ∙ ap partner_of same)

pub IsNode-hang : (rows : List Row) (given hung : ℕ) (nodes : List Node) (i j : ℕ) (x : Node)
    → ((k : ℕ) → k < length nodes → IsNode rows given hung nodes k) → i < length nodes
    → x.row ≡ (node_at nodes i).row → Contains (row_at rows x.row).terms (unit x.lit)
    → x.lit.var ≢ (node_at nodes (partner_of i)).lit.var
    → j < length (slice_set nodes i x) → IsNode rows given hung (slice_set nodes i x) j
IsNode-hang rows given hung nodes i j x each there row_is has apart within =
    elim (cases_eq j i) [
      | inl same ↦
          subst (λ (k : ℕ). IsNode rows given hung (slice_set nodes i x) k) (sym same)
          (node_from rows given hung (slice_set nodes i x) i x (node_at nodes (partner_of i)) here
          (node_at-other nodes i (partner_of i) x (partner-other i))
          (omega (arith, (each i there).partner, length-set nodes i x)) (omega (arith, row_is, (each i there).from))
          (omega (arith, row_is, (each i there).to)) has ((each i there).same_row ∙ sym row_is) apart)
      | inr not_here ↦ elim (cases_eq j (partner_of i)) [
        | inl same ↦
            subst (λ (k : ℕ). IsNode rows given hung (slice_set nodes i x) k) (sym same)
            (node_from rows given hung (slice_set nodes i x) (partner_of i) (node_at nodes (partner_of i)) x
            (node_at-other nodes i (partner_of i) x (partner-other i))
            (ap (λ (k : ℕ). node_at (slice_set nodes i x) k) (partner-twice i) ∙ here)
            (omega (arith, there, length-set nodes i x, partner-twice i))
            (each (partner_of i) (each i there).partner).from (each (partner_of i) (each i there).partner).to
            (each (partner_of i) (each i there).partner).there
            (row_is ∙ sym (each i there).same_row) (λ one. apart (sym one)))
        | inr not_there ↦
            let inside : j < length nodes = omega (arith, length-set nodes i x) in
            node_from rows given hung (slice_set nodes i x) j (node_at nodes j) (node_at nodes (partner_of j))
            (node_at-other nodes i j x not_here)
            (node_at-other nodes i (partner_of j) x (other_partner i j not_there))
            (omega (arith, (each j inside).partner, length-set nodes i x)) (each j inside).from (each j inside).to
            (each j inside).there
            (each j inside).same_row (each j inside).apart
      ]
    ] where
      here : node_at (slice_set nodes i x) i ≡ x
      here = node_at-same nodes i x there

-- a node that is hung again is backed, and its partner is, where these two are
pub IsBacked-hang : (before now : ℕ → Value) (nodes : List Node) (i j : ℕ) (x : Node) → i < length nodes
    → (j ≢ i → j ≢ partner_of i → IsBacked before now nodes j)
    → (value_of before x.lit ≡ False → value_of now (node_at nodes (partner_of i)).lit ≡ True)
    → (value_of before (node_at nodes (partner_of i)).lit ≡ False → value_of now x.lit ≡ True)
    → IsBacked before now (slice_set nodes i x) j
IsBacked-hang before now nodes i j x there old own back =
    elim (cases_eq j i) [
      | inl same ↦
          subst (λ (k : ℕ). IsBacked before now (slice_set nodes i x) k) (sym same)
          (λ fell. ap (λ (n : Node). value_of now n.lit) (node_at-other nodes i (partner_of i) x (partner-other i))
          ∙ own (sym (ap (λ (n : Node). value_of before n.lit) here) ∙ fell))
      | inr not_here ↦ elim (cases_eq j (partner_of i)) [
        | inl same ↦
            subst (λ (k : ℕ). IsBacked before now (slice_set nodes i x) k) (sym same)
            (λ fell. ap (λ (k : ℕ). value_of now (node_at (slice_set nodes i x) k).lit) (partner-twice i)
            ∙ ap (λ (n : Node). value_of now n.lit) here
            ∙ back (sym (ap (λ (n : Node). value_of before n.lit)
            (node_at-other nodes i (partner_of i) x (partner-other i))) ∙ fell))
        | inr not_there ↦
            λ fell. ap (λ (n : Node). value_of now n.lit)
            (node_at-other nodes i (partner_of j) x (other_partner i j not_there))
            ∙ old not_here not_there
            (sym (ap (λ (n : Node). value_of before n.lit) (node_at-other nodes i j x not_here)) ∙ fell)
      ]
    ] where
      here : node_at (slice_set nodes i x) i ≡ x
      here = node_at-same nodes i x there

-- the node's own literal still, or one that isn't false: the node is backed where it was, though its literal was false
pub own_kept : (before now latest : ℕ → Value) (nodes : List Node) (i : ℕ) (l : Literal) → IsBacked before now nodes i
    → (value_of before l ≡ False → value_of latest l ≡ False)
    → (l ≡ (node_at nodes i).lit) ⊎ (value_of latest l ≢ False) → value_of before l
    ≡ False → value_of now (node_at nodes (partner_of i)).lit ≡ True
own_kept before now latest nodes i l backed later (inl same) fell =
    backed (sym (ap (λ (m : Literal). value_of before m) same) ∙ fell)
own_kept before now latest nodes i l backed later (inr other) fell = absurd (other (later fell))

pub back_kept : (before now latest : ℕ → Value) (nodes : List Node) (i : ℕ) (l : Literal)
    → IsBacked before now nodes (partner_of i)
    → (value_of now (node_at nodes i).lit ≡ True → value_of latest (node_at nodes i).lit ≡ True)
    → value_of latest (node_at nodes i).lit ≡ False
    → (l ≡ (node_at nodes i).lit) ⊎ (value_of latest l ≢ False) → value_of before (node_at nodes (partner_of i)).lit
    ≡ False → value_of now l ≡ True
back_kept before now latest nodes i l backed later is choice fell =
    absurd (true_not_false
    (sym (later (ap (λ (k : ℕ). value_of now (node_at nodes k).lit) (sym (partner-twice i)) ∙ backed fell)) ∙ is))

-- ---- what nodes say of their clause

quiet-end : (row : Row) (vars looked : ℕ) (es : List Entry) → EachEntry (IsNew vars) es → looked ≤ length es
    → IsQuietRow (values_of (take looked es)) row → IsSeen row es looked
quiet-end row vars looked es each within quiet = λ none.
    let sums : looked + (length es - looked) ≡ length es = omega arith in
    subst (λ (xs : List Entry). IsQuietRow (values_of xs) row) (take_all (length es) es (omega arith))
    (subst (λ (n : ℕ). IsQuietRow (values_of (take n es)) row) sums
    (quiet-steps row vars es looked (length es - looked) each (omega arith) none quiet))

seen_node : (path : SeenPath) (watches : Watches) (loose : List ℕ) (looked i : ℕ) → AreSound path
    → IsWatchingBut path watches loose looked → looked ≤ length path.entries
    → i < length watches.nodes.items → IsSeen (row_at path.rows (node_at watches.nodes.items i).row) path.entries looked
seen_node path watches loose looked i sound watching within there =
    elim (false_or (value_of (values_of (take looked path.entries)) (node_at nodes i).lit)) [
      | inl fell ↦
          λ none. IsQuietRow-true (values_of path.entries) row (node_at nodes j).lit (clause i there) other_there
          (watching.backed.now i there fell)
      | inr open_one ↦ elim (false_or (value_of (values_of (take looked path.entries)) (node_at nodes j).lit)) [
        | inl fell ↦
            λ none. IsQuietRow-true (values_of path.entries) row (node_at nodes i).lit (clause i there)
            (watching.nodes.each i there).there
            (ap (λ (k : ℕ). value_of (values_of path.entries) (node_at nodes k).lit) (sym (partner-twice i))
            ∙ watching.backed.now j (watching.nodes.each i there).partner fell)
        | inr open_two ↦
            quiet-end row path.vars looked path.entries (news path.rows path.vars path.entries sound.lawful) within
            (IsQuietRow-two (values_of (take looked path.entries)) row (node_at nodes i).lit (node_at nodes j).lit
            (clause i there) (watching.nodes.each i there).there other_there
            (watching.nodes.each i there).apart open_one open_two)
      ]
    ] where
      nodes : List Node
      nodes = watches.nodes.items

      j : ℕ
      j = partner_of i

      row : Row
      row = row_at path.rows (node_at nodes i).row

      clause : (k : ℕ) → k < length nodes → IsClause (row_at path.rows (node_at nodes k).row)
      clause k inside =
          sound.clauses (node_at nodes k).row (watching.nodes.each k inside).from
          (omega (arith, (watching.nodes.each k inside).to, watching.nodes.to))

      other_there : Contains row.terms (unit (node_at nodes j).lit)
      other_there =
          subst (λ (k : ℕ). Contains (row_at path.rows k).terms (unit (node_at nodes j).lit))
          (watching.nodes.each i there).same_row (watching.nodes.each j (watching.nodes.each i there).partner).there

-- a clause that is watched or held waits no more
pub seen_hung : (path : SeenPath) (watches : Watches) (loose : List ℕ) (looked k : ℕ) → AreSound path
    → IsWatchingBut path watches loose looked → looked ≤ length path.entries
    → path.given ≤ k → k < watches.hung → IsSeen (row_at path.rows k) path.entries looked
seen_hung path watches loose looked k sound watching within from to =
    elim (watching.nodes.covers k from to) [
      | inl has ↦
          subst (λ (r : ℕ). IsSeen (row_at path.rows r) path.entries looked) has.2
          (seen_node path watches loose looked has.0 sound watching within has.1)
      | inr held ↦
          λ none. IsQuietRow-true (values_of path.entries) (row_at path.rows k) held.lit
          (sound.clauses k from (omega (arith, watching.nodes.to))) held.there held.now
    ]
