-- The lists of the nodes that watch a literal.
use Rattle.std.proofs.Common.{◌≡◌, ◌≢◌, ℕ, zero, suc, ◌+◌, ◌%◌, ◌==◌, ◌-◌, ◌<◌, ◌≤◌, ◌⊎◌, Bool, false, cond, List, []}
use Rattle.std.proofs.Common.{◌∷◌, ◌++◌, length, get_or, drop, replicate}
use Rattle.std.proofs.Common.{refl, inl, inr, arith, ap, sym, subst, ◌∙◌}
use Rattle.std.specs.Prelude.{slice_set, Contains}
use Rattle.std.specs.List.{All, sum_by}
use Rattle.std.proofs.lemmas.Bool.{cases_eq, cases_lt, eq-eqb, ne_eqb}
use Rattle.std.proofs.lemmas.List.{get_or_append_left, get_or_default, get_or_push, get_or-replicate, get_or-set_other}
use Rattle.std.proofs.lemmas.List.{get_or-set_same, length-drop, length-replicate, length-set, length_push, set_at}
use Rattle.std.proofs.lemmas.List.Elements.{All-cons, All-head, All-nil, All-replicate, All-set, All-tail}
use Rattle.std.proofs.lemmas.List.Sums.{sum_by-cons, sum_by-le, sum_by-set}
use Rattle.rows.specs.Codes.{code_of}
use Rattle.rows.specs.Literals.{Literal}
use Rattle.propagate.specs.Watches.{AreHung, IsChain, node_at, partner_of}
use Rattle.propagate.specs.declared.watches.Node.{Node}

-- ---- nodes

abbrev pub new_node : Literal → ℕ → ℕ → Node
new_node l row next = record { lit = l; row = row; next = next }

abbrev pub no_node : Node
no_node = record { lit = record { var = 0; positive = false }; row = 0; next = 0 }

pub node_at-other : (nodes : List Node) (i j : ℕ) (x : Node) → j ≢ i → node_at (slice_set nodes i x) j ≡ node_at nodes j
node_at-other nodes i j x other =
    get_or-set_other nodes i j x (record { lit = record { var = 0; positive = false }; row = 0; next = 0 }) other

pub node_at-same : (nodes : List Node) (i : ℕ) (x : Node) → i < length nodes → node_at (slice_set nodes i x) i ≡ x
node_at-same nodes i x within =
    get_or-set_same nodes i x (record { lit = record { var = 0; positive = false }; row = 0; next = 0 }) within

pub node_at-front : (nodes : List Node) (x : Node) (j : ℕ) → j < length nodes → node_at (nodes ++ x ∷ []) j
    ≡ node_at nodes j
node_at-front nodes x j within =
    get_or_append_left nodes (x ∷ []) (record { lit = record { var = 0; positive = false }; row = 0; next = 0 }) j
    within

pub node_at-end : (nodes : List Node) (x : Node) (j : ℕ) → length nodes ≡ j → node_at (nodes ++ x ∷ []) j ≡ x
node_at-end nodes x j is =
    get_or_push nodes x (record { lit = record { var = 0; positive = false }; row = 0; next = 0 }) j is

-- ---- chains

pub chain_is : (nodes : List Node) (m n : ℕ) (is js : List ℕ) → m ≡ n → is ≡ js → IsChain nodes m is
    → IsChain nodes n js
chain_is nodes m n is js at same chain =
    subst (λ (xs : List ℕ). IsChain nodes n xs) same (subst (λ (k : ℕ). IsChain nodes k is) at chain)

pub chain-set : (nodes : List Node) (i : ℕ) (x : Node) (at : ℕ) (is : List ℕ) → All (λ j. j ≢ i) is
    → IsChain nodes at is → IsChain (slice_set nodes i x) at is
chain-set nodes i x at [] apart chain = chain
chain-set nodes i x at (j ∷ js) apart chain =
    let other : j ≢ i = All-head (λ (k : ℕ). k ≢ i) j js apart in
    let next : (node_at nodes j).next ≡ (node_at (slice_set nodes i x) j).next =
    ap (λ (n : Node). n.next) (sym (node_at-other nodes i j x other)) in (
      chain.0,
      omega (arith, chain.1, length-set nodes i x),
      subst (λ (k : ℕ). IsChain (slice_set nodes i x) k js) next
          (chain-set nodes i x (node_at nodes j).next js (All-tail (λ (k : ℕ). k ≢ i) j js apart) chain.2),
    )

chain-push : (nodes : List Node) (x : Node) (at : ℕ) (is : List ℕ) → IsChain nodes at is
    → IsChain (nodes ++ x ∷ []) at is
chain-push nodes x at [] chain = chain
chain-push nodes x at (j ∷ js) chain =
    let next : (node_at nodes j).next ≡ (node_at (nodes ++ x ∷ []) j).next =
    ap (λ (n : Node). n.next) (sym (node_at-front nodes x j chain.1)) in (
      chain.0,
      omega (arith, chain.1, length_push nodes x),
      subst (λ (k : ℕ). IsChain (nodes ++ x ∷ []) k js) next (chain-push nodes x (node_at nodes j).next js chain.2),
    )

pub chain-below : (nodes : List Node) (at : ℕ) (is : List ℕ) → IsChain nodes at is → All (λ j. j < length nodes) is
chain-below nodes at [] chain = All-nil (λ (j : ℕ). j < length nodes)
chain-below nodes at (j ∷ js) chain =
    All-cons (λ (k : ℕ). k < length nodes) j js chain.1 (chain-below nodes (node_at nodes j).next js chain.2)

-- a number leads to one chain alone
chain-same : (nodes : List Node) (at : ℕ) (is js : List ℕ) → IsChain nodes at is → IsChain nodes at js → length is
    ≡ length js
chain-same nodes at [] [] first second = refl
chain-same nodes at [] (j ∷ js) first second = absurd (omega (arith, first, second.0))
chain-same nodes at (i ∷ is) [] first second = absurd (omega (arith, first.0, second))
chain-same nodes at (i ∷ is) (j ∷ js) first second =
    let here : i ≡ j = omega (arith, first.0, second.0) in
    omega (
      arith,
      chain-same nodes (node_at nodes j).next is js
          (subst (λ (k : ℕ). IsChain nodes (node_at nodes k).next is) here first.2) second.2,
    )

chain-drop : (nodes : List Node) (at : ℕ) (is : List ℕ) (k : ℕ) → IsChain nodes at is → k < length is
    → IsChain nodes (get_or is k 0 + 1) (drop k is)
chain-drop nodes at [] k chain within = absurd (omega arith)
chain-drop nodes at (j ∷ js) zero chain within = (refl, chain.1, chain.2)
chain-drop nodes at (j ∷ js) (suc k) chain within = chain-drop nodes (node_at nodes j).next js k chain.2 (omega arith)

-- no node comes twice in a chain
pub chain-apart : (nodes : List Node) (at i : ℕ) (is : List ℕ) → IsChain nodes at (i ∷ is) → All (λ j. j ≢ i) is
chain-apart nodes at i is chain = λ k d within same.
    let here : get_or is k 0 + 1 ≡ at = omega (arith, chain.0, get_or_default is k 0 d within, same) in
    let again : IsChain nodes at (drop k is) =
    subst (λ (n : ℕ). IsChain nodes n (drop k is)) here
    (chain-drop nodes (node_at nodes i).next is k chain.2 within) in
    absurd (omega (arith, chain-same nodes at (i ∷ is) (drop k is) chain again, length-drop k is))

pub chain-nil : (nodes : List Node) (at : ℕ) (is : List ℕ) → IsChain nodes at is → at ≡ 0 → is ≡ []
chain-nil nodes at [] chain none = refl
chain-nil nodes at (i ∷ is) chain none = absurd (omega (arith, chain.0))

-- ---- there are no more places in a chain than nodes

-- which places a chain has
record IsMarked (n : ℕ) (is : List ℕ) : Type 0 where
  marks : List ℕ
  as_many : length marks ≡ n
  sum_is : sum_by (λ m. m) marks ≡ length is
  at_most : All (λ m. m ≤ 1) marks
  others : (j : ℕ) → j < n → All (λ i. i ≢ j) is → get_or marks j 0 ≡ 0

sum_zeros : (n : ℕ) → sum_by (λ (m : ℕ). m) (replicate n 0) ≡ 0
sum_zeros zero = refl
sum_zeros (suc n) = omega (arith, sum_by-cons (λ (m : ℕ). m) 0 (replicate n 0), sum_zeros n)

marked : (nodes : List Node) (at : ℕ) (is : List ℕ) → IsChain nodes at is → IsMarked (length nodes) is
marked nodes at [] chain = record {
  marks = replicate (length nodes) 0;
  as_many = length-replicate (length nodes) 0;
  sum_is = sum_zeros (length nodes);
  at_most = All-replicate (λ (m : ℕ). m ≤ 1) (length nodes) 0 (omega arith);
  others = λ j within apart. get_or-replicate (length nodes) j 0 0 within;
}
marked nodes at (i ∷ is) chain = more (marked nodes (node_at nodes i).next is chain.2) where
  more : IsMarked (length nodes) is → IsMarked (length nodes) (i ∷ is)
  more m =
      let was : get_or m.marks i 0 ≡ 0 = m.others i chain.1 (chain-apart nodes at i is chain) in
      record {
        marks = slice_set m.marks i 1;
        as_many = length-set m.marks i 1 ∙ m.as_many;
        sum_is =
            omega (arith, m.sum_is, was, sum_by-set (λ (k : ℕ). k) m.marks i 1 0 (omega (arith, chain.1, m.as_many)));
        at_most = All-set (λ (k : ℕ). k ≤ 1) m.marks i 1 (omega arith) m.at_most;
        others = λ j within apart.
            let other : i ≢ j = All-head (λ (k : ℕ). k ≢ j) i is apart in
            get_or-set_other m.marks i j 1 0 (λ same. other (sym same))
            ∙ m.others j within (All-tail (λ (k : ℕ). k ≢ j) i is apart);
      }

pub chain-few : (nodes : List Node) (at : ℕ) (is : List ℕ) → IsChain nodes at is → length is ≤ length nodes
chain-few nodes at is chain =
    let m : IsMarked (length nodes) is = marked nodes at is chain in
    omega (arith, m.as_many, m.sum_is, sum_by-le (λ (k : ℕ). k) 1 m.marks m.at_most)

-- ---- the lists change

with_list : (ℕ → List ℕ) → ℕ → List ℕ → ℕ → List ℕ
with_list lists s is t = cond (t == s) is (lists t)

with_list-same : (lists : ℕ → List ℕ) (s : ℕ) (is : List ℕ) (t : ℕ) → t ≡ s → with_list lists s is t ≡ is
unfolding with_list
with_list-same lists s is t same = ap (λ (b : Bool). cond b is (lists t)) (eq-eqb t s same)

with_list-other : (lists : ℕ → List ℕ) (s : ℕ) (is : List ℕ) (t : ℕ) → t ≢ s → with_list lists s is t ≡ lists t
unfolding with_list
with_list-other lists s is t other = ap (λ (b : Bool). cond b is (lists t)) (ne_eqb t s other)

contains_nothing : (i : ℕ) → Contains {X = ℕ} [] i → ⊥
contains_nothing i has = absurd (omega (arith, has.1))

-- the list of a literal is taken off
pub AreHung-off : (firsts : List ℕ) (nodes : List Node) (s : ℕ) (hung : AreHung firsts nodes []) → s < length firsts
    → AreHung (slice_set firsts s 0) nodes (hung.lists s)
AreHung-off firsts nodes s hung there =
    record {
      lists = with_list hung.lists s [];
      chains = λ t within. elim (cases_eq t s) [
        | inl same ↦
            chain_is nodes 0 (get_or (slice_set firsts s 0) t 0) [] (with_list hung.lists s [] t)
            (sym (ap (λ (k : ℕ). get_or (slice_set firsts s 0) k 0) same ∙ get_or-set_same firsts s 0 0 there))
            (sym (with_list-same hung.lists s [] t same)) refl
        | inr other ↦
            chain_is nodes (get_or firsts t 0) (get_or (slice_set firsts s 0) t 0) (hung.lists t)
            (with_list hung.lists s [] t)
            (sym (get_or-set_other firsts s t 0 0 other)) (sym (with_list-other hung.lists s [] t other))
            (hung.chains t (inside t within))
      ];
      watching = λ t within. elim (cases_eq t s) [
        | inl same ↦
            subst (λ (is : List ℕ). All (λ i. code_of (node_at nodes i).lit ≡ t) is)
            (sym (with_list-same hung.lists s [] t same)) (All-nil (λ (i : ℕ). code_of (node_at nodes i).lit ≡ t))
        | inr other ↦
            subst (λ (is : List ℕ). All (λ i. code_of (node_at nodes i).lit ≡ t) is)
            (sym (with_list-other hung.lists s [] t other)) (hung.watching t (inside t within))
      ];
      apart = λ t within. elim (cases_eq t s) [
        | inl same ↦
            subst (λ (is : List ℕ). All (λ j. All (λ i. i ≢ j) (hung.lists s)) is)
            (sym (with_list-same hung.lists s [] t same)) (All-nil (λ (j : ℕ). All (λ i. i ≢ j) (hung.lists s)))
        | inr other ↦
            subst (λ (is : List ℕ). All (λ j. All (λ i. i ≢ j) (hung.lists s)) is)
            (sym (with_list-other hung.lists s [] t other))
            (λ k d below m e inner same.
            other (sym (hung.watching t (inside t within) k d below)
            ∙ ap (λ (i : ℕ). code_of (node_at nodes i).lit) (sym same) ∙ hung.watching s there m e inner))
      ];
      slots = λ i within. omega (arith, hung.slots i within, length-set firsts s 0);
      all = λ i within. elim (cases_eq (code_of (node_at nodes i).lit) s) [
        | inl same ↦ inr (in_lists i within same (hung.all i within))
        | inr other ↦ elim (hung.all i within) [
          | inl has ↦
              inl (subst (λ (is : List ℕ). Contains is i)
              (sym (with_list-other hung.lists s [] (code_of (node_at nodes i).lit) other)) has)
          | inr has ↦ absurd (contains_nothing i has)
        ]
      ];
    } where
      inside : (t : ℕ) → t < length (slice_set firsts s 0) → t < length firsts
      inside t within = omega (arith, length-set firsts s 0)

      in_lists : (i : ℕ) → i < length nodes → code_of (node_at nodes i).lit
          ≡ s → Contains (hung.lists (code_of (node_at nodes i).lit)) i ⊎ Contains [] i → Contains (hung.lists s) i
      in_lists i within same (inl has) = subst (λ (t : ℕ). Contains (hung.lists t) i) same has
      in_lists i within same (inr has) = absurd (contains_nothing i has)

-- a node is hung into the list of a literal
pub AreHung-hang : (firsts : List ℕ) (nodes : List Node) (i : ℕ) (loose : List ℕ) (l : Literal) (row : ℕ)
    → AreHung firsts nodes (i ∷ loose) → All (λ j. j ≢ i) loose → i < length nodes
    → code_of l < length firsts
    → AreHung (slice_set firsts (code_of l) (i + 1))
    (slice_set nodes i (new_node l row (get_or firsts (code_of l) 0))) loose
AreHung-hang firsts nodes i loose l row hung fresh within slot =
    record {
      lists = after;
      chains = λ t below. elim (cases_eq t s) [
        | inl same ↦
            chain_is nodes_after (i + 1) (get_or (slice_set firsts s (i + 1)) t 0) (i ∷ hung.lists s) (after t)
            (sym (ap (λ (k : ℕ). get_or (slice_set firsts s (i + 1)) k 0) same
            ∙ get_or-set_same firsts s (i + 1) 0 slot))
            (sym (with_list-same hung.lists s (i ∷ hung.lists s) t same)) (
              refl,
              omega (arith, within, length-set nodes i x),
              chain_is nodes_after (get_or firsts s 0) (node_at nodes_after i).next (hung.lists s) (hung.lists s)
                  (sym (ap (λ (n : Node). n.next) here)) refl
                  (chain-set nodes i x (get_or firsts s 0) (hung.lists s) (absent s slot) (hung.chains s slot)),
            )
        | inr other ↦
            chain_is nodes_after (get_or firsts t 0) (get_or (slice_set firsts s (i + 1)) t 0) (hung.lists t) (after t)
            (sym (get_or-set_other firsts s t (i + 1) 0 other))
            (sym (with_list-other hung.lists s (i ∷ hung.lists s) t other))
            (chain-set nodes i x (get_or firsts t 0) (hung.lists t) (absent t (inside t below))
            (hung.chains t (inside t below)))
      ];
      watching = λ t below. elim (cases_eq t s) [
        | inl same ↦
            subst (λ (is : List ℕ). All (λ j. code_of (node_at nodes_after j).lit ≡ t) is)
            (sym (with_list-same hung.lists s (i ∷ hung.lists s) t same))
            (All-cons (λ (j : ℕ). code_of (node_at nodes_after j).lit ≡ t) i (hung.lists s)
            (ap (λ (n : Node). code_of n.lit) here ∙ sym same)
            (subst (λ (u : ℕ). All (λ j. code_of (node_at nodes_after j).lit ≡ u) (hung.lists s)) (sym same)
            (still s slot)))
        | inr other ↦
            subst (λ (is : List ℕ). All (λ j. code_of (node_at nodes_after j).lit ≡ t) is)
            (sym (with_list-other hung.lists s (i ∷ hung.lists s) t other)) (still t (inside t below))
      ];
      apart = λ t below. elim (cases_eq t s) [
        | inl same ↦
            subst (λ (is : List ℕ). All (λ j. All (λ k. k ≢ j) loose) is)
            (sym (with_list-same hung.lists s (i ∷ hung.lists s) t same))
            (All-cons (λ (j : ℕ). All (λ k. k ≢ j) loose) i (hung.lists s) fresh (rest s slot))
        | inr other ↦
            subst (λ (is : List ℕ). All (λ j. All (λ k. k ≢ j) loose) is)
            (sym (with_list-other hung.lists s (i ∷ hung.lists s) t other)) (rest t (inside t below))
      ];
      slots = λ j below. elim (cases_eq j i) [
        | inl same ↦
            omega (
              arith,
              slot,
              ap (λ (k : ℕ). code_of (node_at nodes_after k).lit) same,
              ap (λ (n : Node). code_of n.lit) here,
              length-set firsts s (i + 1),
            )
        | inr other ↦
            omega (
              arith,
              hung.slots j (kept_below j below),
              ap (λ (n : Node). code_of n.lit) (node_at-other nodes i j x other),
              length-set firsts s (i + 1),
            )
      ];
      all = λ j below. elim (cases_eq j i) [
        | inl same ↦
            inl (subst (λ (t : ℕ). Contains (after t) j)
            (sym (ap (λ (k : ℕ). code_of (node_at nodes_after k).lit) same ∙ ap (λ (n : Node). code_of n.lit) here))
            (subst (λ (is : List ℕ). Contains is j) (sym (with_list-same hung.lists s (i ∷ hung.lists s) s refl))
            (0, omega arith, sym same)))
        | inr other ↦ elim (hung.all j (kept_below j below)) [
          | inl has ↦
              inl (subst (λ (t : ℕ). Contains (after t) j)
              (sym (ap (λ (n : Node). code_of n.lit) (node_at-other nodes i j x other)))
              (in_more (code_of (node_at nodes j).lit) j has (cases_eq (code_of (node_at nodes j).lit) s)))
          | inr has ↦ inr (in_rest j other has)
        ]
      ];
    } where
      s : ℕ
      s = code_of l

      x : Node
      x = new_node l row (get_or firsts s 0)

      nodes_after : List Node
      nodes_after = slice_set nodes i x

      after : ℕ → List ℕ
      after = with_list hung.lists s (i ∷ hung.lists s)

      here : node_at nodes_after i ≡ x
      here = node_at-same nodes i x within

      inside : (t : ℕ) → t < length (slice_set firsts s (i + 1)) → t < length firsts
      inside t below = omega (arith, length-set firsts s (i + 1))

      kept_below : (j : ℕ) → j < length nodes_after → j < length nodes
      kept_below j below = omega (arith, length-set nodes i x)

      absent : (t : ℕ) → t < length firsts → All (λ j. j ≢ i) (hung.lists t)
      absent t below =
          λ k d inner same. All-head (λ (m : ℕ). m ≢ get_or (hung.lists t) k d) i loose (hung.apart t below k d inner)
          (sym same)

      still : (t : ℕ) → t < length firsts → All (λ j. code_of (node_at nodes_after j).lit ≡ t) (hung.lists t)
      still t below =
          λ k d inner. ap (λ (n : Node). code_of n.lit)
          (node_at-other nodes i (get_or (hung.lists t) k d) x (absent t below k d inner))
          ∙ hung.watching t below k d inner

      rest : (t : ℕ) → t < length firsts → All (λ j. All (λ k. k ≢ j) loose) (hung.lists t)
      rest t below =
          λ k d inner. All-tail (λ (m : ℕ). m ≢ get_or (hung.lists t) k d) i loose (hung.apart t below k d inner)

      in_more : (t j : ℕ) → Contains (hung.lists t) j → (t ≡ s) ⊎ (t ≢ s) → Contains (after t) j
      in_more t j has (inl same) =
          subst (λ (is : List ℕ). Contains is j) (sym (with_list-same hung.lists s (i ∷ hung.lists s) t same))
          (let back : Contains (hung.lists s) j = subst (λ (u : ℕ). Contains (hung.lists u) j) same has in
          (suc back.0, omega (arith, back.1), back.2))
      in_more t j has (inr other) =
          subst (λ (is : List ℕ). Contains is j) (sym (with_list-other hung.lists s (i ∷ hung.lists s) t other)) has

      in_rest : (j : ℕ) → j ≢ i → Contains (i ∷ loose) j → Contains loose j
      in_rest j other (zero, inner, at) = absurd (other (sym at))
      in_rest j other (suc k, inner, at) = (k, omega arith, at)

-- a node comes, and is hung into the list of its literal
pub AreHung-push : (firsts : List ℕ) (nodes : List Node) (l : Literal) (row : ℕ) → AreHung firsts nodes []
    → code_of l < length firsts
    → AreHung (slice_set firsts (code_of l) (length nodes + 1))
    (nodes ++ new_node l row (get_or firsts (code_of l) 0) ∷ []) []
AreHung-push firsts nodes l row hung slot =
    subst (λ (xs : List Node). AreHung (slice_set firsts (code_of l) (n + 1)) xs []) (set_at nodes x [] x n refl)
    (AreHung-hang firsts (nodes ++ x ∷ []) n [] l row came (All-nil (λ (j : ℕ). j ≢ n))
    (omega (arith, length_push nodes x)) slot) where
      n : ℕ
      n = length nodes

      x : Node
      x = new_node l row (get_or firsts (code_of l) 0)

      front : (j : ℕ) → j < n → node_at (nodes ++ x ∷ []) j ≡ node_at nodes j
      front j below = node_at-front nodes x j below

      inner : (t : ℕ) → t < length firsts → All (λ j. j < n) (hung.lists t)
      inner t below = chain-below nodes (get_or firsts t 0) (hung.lists t) (hung.chains t below)

      last : (j : ℕ) → j < length (nodes ++ x ∷ []) → n ≤ j → n ≡ j
      last j below past = omega (arith, length_push nodes x)

      came : AreHung firsts (nodes ++ x ∷ []) (n ∷ [])
      came = record {
        lists = hung.lists;
        chains = λ t below. chain-push nodes x (get_or firsts t 0) (hung.lists t) (hung.chains t below);
        watching =
            λ t below k d within.
            ap (λ (y : Node). code_of y.lit) (front (get_or (hung.lists t) k d) (inner t below k d within))
            ∙ hung.watching t below k d within;
        apart =
            λ t below k d within. All-cons (λ (m : ℕ). m ≢ get_or (hung.lists t) k d) n []
            (λ same. absurd (omega (arith, inner t below k d within, same)))
            (All-nil (λ (m : ℕ). m ≢ get_or (hung.lists t) k d));
        slots = λ j below. elim (cases_lt j n) [
          | inl before ↦ omega (arith, hung.slots j before, ap (λ (y : Node). code_of y.lit) (front j before))
          | inr past ↦ omega (arith, slot, ap (λ (y : Node). code_of y.lit) (node_at-end nodes x j (last j below past)))
        ];
        all = λ j below. elim (cases_lt j n) [
          | inl before ↦ elim (hung.all j before) [
            | inl has ↦
                inl (subst (λ (t : ℕ). Contains (hung.lists t) j)
                (sym (ap (λ (y : Node). code_of y.lit) (front j before))) has)
            | inr has ↦ absurd (contains_nothing j has)
          ]
          | inr past ↦ inr (0, omega arith, last j below past)
        ];
      }

-- there is no node
pub AreHung-none : (slots : ℕ) → AreHung (replicate slots 0) [] []
AreHung-none slots = record {
  lists = λ t. [];
  chains = λ t within. get_or-replicate slots t 0 0 (omega (arith, length-replicate {A = ℕ} slots 0));
  watching = λ t within. All-nil (λ (i : ℕ). code_of (node_at [] i).lit ≡ t);
  apart = λ t within. All-nil (λ (j : ℕ). All (λ i. i ≢ j) []);
  slots = λ i within. absurd (omega arith);
  all = λ i within. absurd (omega arith);
}

-- ---- partners

even_partner : (i : ℕ) → i % 2 ≡ 0 → partner_of i ≡ i + 1
even_partner i even = ap (λ (b : Bool). cond b (i + 1) (i - 1)) (eq-eqb (i % 2) 0 even)

odd_partner : (i : ℕ) → i % 2 ≢ 0 → partner_of i ≡ i - 1
odd_partner i odd = ap (λ (b : Bool). cond b (i + 1) (i - 1)) (ne_eqb (i % 2) 0 odd)

pub partner-other : (i : ℕ) → partner_of i ≢ i
partner-other i = by (cases_eq (i % 2) 0) where
  by : (i % 2 ≡ 0) ⊎ (i % 2 ≢ 0) → partner_of i ≢ i
  by (inl even) same = absurd (omega (arith, even_partner i even, same))
  by (inr odd) same = absurd (omega (arith, odd_partner i odd, same, odd))

pub partner-twice : (i : ℕ) → partner_of (partner_of i) ≡ i
partner-twice i = by (cases_eq (i % 2) 0) where
  by : (i % 2 ≡ 0) ⊎ (i % 2 ≢ 0) → partner_of (partner_of i) ≡ i
  by (inl even) = ap partner_of (even_partner i even) ∙ odd_partner (i + 1) (omega (arith, even)) ∙ omega arith
  by (inr odd) = ap partner_of (odd_partner i odd) ∙ even_partner (i - 1) (omega (arith, odd)) ∙ omega (arith, odd)

-- the partners of two nodes that come last
pub partner-pair : (n : ℕ) → n % 2 ≡ 0 → (partner_of n ≡ n + 1) × (partner_of (n + 1) ≡ n)
partner-pair n even = (even_partner n even, odd_partner (n + 1) (omega (arith, even)) ∙ omega arith)

pub AreHung-pushed : (firsts after : List ℕ) (nodes more : List Node) (l : Literal) (row : ℕ)
    → AreHung firsts nodes [] → code_of l < length firsts
    → more ≡ nodes ++ new_node l row (get_or firsts (code_of l) 0) ∷ []
    → after ≡ slice_set firsts (code_of l) (length nodes + 1) → AreHung after more []
AreHung-pushed firsts after nodes more l row hung slot nodes_are firsts_are =
    subst (λ (ns : List ℕ). AreHung ns more []) (sym firsts_are)
    (subst (λ (xs : List Node). AreHung (slice_set firsts (code_of l) (length nodes + 1)) xs []) (sym nodes_are)
    (AreHung-push firsts nodes l row hung slot))
