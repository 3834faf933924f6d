-- Clauses that are watched at two of their literals.
use Rattle.std.specs.Prelude.{◌≡◌, ◌≢◌, ℕ, ◌+◌, ◌-◌, ◌*◌, ◌%◌, ◌==◌, ◌<◌, ◌≤◌, ◌⊎◌, true, false, if◌then◌else◌}
use Rattle.std.specs.Prelude.{List, [], ◌∷◌, ◌++◌, length, take}
use Rattle.std.specs.Prelude.{slice_index_or, Contains}
use Rattle.std.specs.List.{All}
use Rattle.std.specs.Vec.{vec_capacity}
use Rattle.rows.specs.Cardinality.{unit}
use Rattle.rows.specs.Codes.{code_of}
use Rattle.rows.specs.Literals.{Literal}
use Rattle.rows.specs.Rows.{Row}
use Rattle.rows.specs.Partials.{value_of}
use Rattle.rows.specs.declared.partial.Value.{Value}
use Rattle.rows.specs.declared.partial.Value.TheVariants.{True, False}
use Rattle.propagate.specs.Trails.{EachEntry, IsQuietRowBelow, is_decision, values_of}
use Rattle.propagate.specs.Numbered.{row_at}
use Rattle.propagate.specs.Paths.{SeenPath}
use Rattle.propagate.specs.declared.entry.Entry.{Entry}
use Rattle.propagate.specs.declared.hang.Pair.{Pair}
use Rattle.propagate.specs.declared.watches.Node.{Node}
use Rattle.propagate.specs.declared.watches.Watches.{Watches}

-- ---- clauses

-- at least one of its literals
pub record IsClause (row : Row) : Type 0 where
  pub degree_is : row.degree ≡ 1
  pub ones : All (λ t. t.coef ≡ 1) row.terms

-- each literal is false, but maybe that of one variable
abbrev pub AllFalseBut : ℕ → (ℕ → Value) → Row → Type 0
AllFalseBut v values row = All (λ t. (value_of values t.lit ≡ False) ⊎ ((1 ≤ v) × (t.lit.var ≡ v))) row.terms

-- a literal of the row that isn't false and not of this variable
pub record IsOpenIn (values : ℕ → Value) (row : Row) (v : ℕ) (l : Literal) : Type 0 where
  pub there : Contains row.terms (unit l)
  pub other : l.var ≢ v
  pub not_false : value_of values l ≢ False

-- before each decision the literal wasn't false
abbrev pub WasOpen : Literal → List Entry → Type 0
WasOpen l entries = EachEntry (λ before e. is_decision e ≡ true → value_of (values_of before) l ≢ False) entries

pub record IsLateIn (path : SeenPath) (row : Row) (v : ℕ) (l : Literal) : Type 0 where
  pub there : Contains row.terms (unit l)
  pub other : l.var ≢ v
  pub opened : WasOpen l path.entries

-- two literals of the row that may be watched: neither was false before a decision, and if the second one is false now
-- then the first is true
pub record IsPair (path : SeenPath) (row : Row) (pair : Pair) : Type 0 where
  pub first_there : Contains row.terms (unit pair.first)
  pub second_there : Contains row.terms (unit pair.second)
  pub apart : pair.second.var ≢ pair.first.var
  pub first_opened : WasOpen pair.first path.entries
  pub second_opened : WasOpen pair.second path.entries
  pub first_open : value_of (values_of path.entries) pair.first ≢ False
  pub second_met : value_of (values_of path.entries) pair.second
      ≡ False → value_of (values_of path.entries) pair.first ≡ True

-- ---- the lists of nodes

-- the node at a place, from 0
abbrev pub node_at : List Node → ℕ → Node
node_at nodes i = slice_index_or nodes i (record { lit = record { var = 0; positive = false }; row = 0; next = 0 })

-- the place of the other node of its clause
abbrev pub partner_of : ℕ → ℕ
partner_of i = if i % 2 == 0 then i + 1 else i - 1

-- the places of the nodes to which a number leads, one after another: one above a place, or 0 at the end
abbrev pub IsChain : List Node → ℕ → List ℕ → Type 0
IsChain nodes at [] = at ≡ 0
IsChain nodes at (i ∷ is) = (at ≡ i + 1) × (i < length nodes) × IsChain nodes (node_at nodes i).next is

-- each node is in the list of its literal, but those that were taken off
pub record AreHung (firsts : List ℕ) (nodes : List Node) (loose : List ℕ) : Type 0 where
  pub lists : ℕ → List ℕ
  pub chains : (s : ℕ) → s < length firsts → IsChain nodes (slice_index_or firsts s 0) (lists s)
  pub watching : (s : ℕ) → s < length firsts → All (λ i. code_of (node_at nodes i).lit ≡ s) (lists s)
  pub apart : (s : ℕ) → s < length firsts → All (λ j. All (λ i. i ≢ j) loose) (lists s)
  pub slots : (i : ℕ) → i < length nodes → code_of (node_at nodes i).lit < length firsts
  pub all : (i : ℕ) → i < length nodes → Contains (lists (code_of (node_at nodes i).lit)) i ⊎ Contains loose i

-- two nodes of a row came, which watch these literals
pub record IsPairPushed (old new : List Node) (pair : Pair) (row : ℕ) : Type 0 where
  pub first : Node
  pub second : Node
  pub first_lit : first.lit ≡ pair.first
  pub first_row : first.row ≡ row
  pub second_lit : second.lit ≡ pair.second
  pub second_row : second.row ≡ row
  pub nodes : new ≡ old ++ first ∷ [] ++ second ∷ []

-- ---- what nodes stand for

-- a node of a clause, whose other node watches another literal of it
pub record IsNode (rows : List Row) (given hung : ℕ) (nodes : List Node) (i : ℕ) : Type 0 where
  pub partner : partner_of i < length nodes
  pub from : given ≤ (node_at nodes i).row
  pub to : (node_at nodes i).row < hung
  pub there : Contains (row_at rows (node_at nodes i).row).terms (unit (node_at nodes i).lit)
  pub same_row : (node_at nodes (partner_of i)).row ≡ (node_at nodes i).row
  pub apart : (node_at nodes i).lit.var ≢ (node_at nodes (partner_of i)).lit.var

abbrev pub HasNode : List Node → ℕ → Type 0
HasNode nodes k = (i : ℕ) × (i < length nodes) × ((node_at nodes i).row ≡ k)

-- a literal of the row is true, and was so before each decision
pub record IsHeld (row : Row) (entries : List Entry) : Type 0 where
  pub lit : Literal
  pub there : Contains row.terms (unit lit)
  pub now : value_of (values_of entries) lit ≡ True
  pub below : EachEntry (λ before e. is_decision e ≡ true → value_of (values_of before) lit ≡ True) entries

-- where the node's literal was false before, that of the other node is true now
abbrev pub IsBacked : (ℕ → Value) → (ℕ → Value) → List Node → ℕ → Type 0
IsBacked before now nodes i =
    value_of before (node_at nodes i).lit ≡ False → value_of now (node_at nodes (partner_of i)).lit ≡ True

-- the nodes stand for clauses, and each clause below a bound has nodes or needs none
pub record AreNodes (path : SeenPath) (nodes : List Node) (hung : ℕ) : Type 0 where
  pub even : length nodes % 2 ≡ 0
  pub from : path.given ≤ hung
  pub to : hung ≤ length path.rows
  pub each : (i : ℕ) → i < length nodes → IsNode path.rows path.given hung nodes i
  pub covers : (k : ℕ) → path.given ≤ k → k < hung → HasNode nodes k ⊎ IsHeld (row_at path.rows k) path.entries

-- each node is backed, by what was looked at and now, and before each decision
pub record AreBacked (nodes : List Node) (entries : List Entry) (looked : ℕ) : Type 0 where
  pub now : (i : ℕ) → i < length nodes → IsBacked (values_of (take looked entries)) (values_of entries) nodes i
  pub below : (i : ℕ) → i < length nodes
      → EachEntry (λ before e. is_decision e ≡ true → IsBacked (values_of before) (values_of before) nodes i) entries

-- room for the nodes of the rows from the bound on
abbrev pub HasRoomForNodes : Watches → ℕ → Type 0
HasRoomForNodes watches rows = length watches.nodes.items + 2 * (rows - watches.hung) ≤ vec_capacity watches.nodes

-- the clauses of a path are watched, where so many entries were looked at, but those nodes are in no list
pub record IsWatchingBut (path : SeenPath) (watches : Watches) (loose : List ℕ) (looked : ℕ) : Type 0 where
  pub slots : length watches.firsts.items ≡ 2 * path.vars + 2
  pub room : HasRoomForNodes watches (length path.rows)
  pub hung : AreHung watches.firsts.items watches.nodes.items loose
  pub nodes : AreNodes path watches.nodes.items watches.hung
  pub backed : AreBacked watches.nodes.items path.entries looked
  pub given_below : (k : ℕ) → k < path.given → IsQuietRowBelow (row_at path.rows k) path.entries

abbrev pub IsWatching : SeenPath → Watches → ℕ → Type 0
IsWatching path watches looked = IsWatchingBut path watches [] looked

pub record IsSameWatches (old new : Watches) : Type 0 where
  pub firsts : new.firsts.items ≡ old.firsts.items
  pub nodes : new.nodes.items ≡ old.nodes.items
  pub hung : new.hung ≡ old.hung
  pub room : vec_capacity old.nodes ≤ vec_capacity new.nodes

-- ---- what a look at a clause leaves

-- what a node may watch from now on: another literal of the clause than the other node, and the one that it watches or
-- one that isn't false
pub record IsNext (path : SeenPath) (nodes : List Node) (i : ℕ) (l : Literal) : Type 0 where
  pub there : Contains (row_at path.rows (node_at nodes i).row).terms (unit l)
  pub apart : l.var ≢ (node_at nodes (partner_of i)).lit.var
  pub open_or_same : (l ≡ (node_at nodes i).lit) ⊎ (value_of (values_of path.entries) l ≢ False)

-- what a node may watch from now on is backed
abbrev pub IsNextBacked : SeenPath → List Node → ℕ → Literal → Type 0
IsNextBacked path nodes i l =
    (value_of (values_of path.entries) (node_at nodes (partner_of i)).lit ≡ True)
    ⊎ (value_of (values_of path.entries) l ≢ False)
