-- Constraints in their groups, and what they are read as.
use Rattle.std.proofs.Common.{◌≡◌, ℕ, ◌+◌, ◌<◌, ◌≤◌, Bool, true, false, cond, List, [], ◌∷◌, ◌++◌, length, length-append, Some, None, Ok, refl, sym, ap, ◌∙◌, subst, append_assoc, arith}
use Rattle.std.specs.Prelude.{codes, nat_lt, bytes_eq}
use Rattle.std.specs.List.{All}
use Rattle.std.proofs.lemmas.Bool.Decides.{nat_tests}
use Rattle.std.proofs.lemmas.List.{append-nil}
use Rattle.std.proofs.lemmas.List.Elements.{All-tail, All-head}
use Rattle.std.proofs.lemmas.Slice.Eq.{bytes_eq-Decides}
use Rattle.league.specs.Instance.{class_fits}
use Rattle.league.specs.Names.{name_of, name_text}
use Rattle.league.specs.declared.class.Class.{Class}
use Rattle.league.specs.declared.class.Class.TheVariants.{Ca1, Ca2, Ca3, Ca4, Ga1, Br1, Br2, Fa2, Se1}
use Rattle.league.specs.declared.class.Constraint.{Constraint}
use Rattle.robinx.specs.declared.tag.TagKind.TheVariants.{Start, End, Empty}
use Rattle.robinx.specs.Tags.{Attribute}
use Rattle.robinx.specs.Texts.{group_of, constraint_attributes, constraint_line, constraints_after, opens, closes, between}
use Rattle.robinx.specs.Elements as elements
use Rattle.robinx.specs.Walk.{Open, Position, at_piece}
use Rattle.robinx.specs.Classes.{constraint_of}
use Rattle.robinx.specs.InstanceFile.{Draft, instance_meaning, with_constraint}
use Rattle.robinx.specs.declared.element.Element.{Element}
use Rattle.robinx.specs.declared.element.Element.TheVariants as element
use Rattle.robinx.specs.declared.element.GroupName.{GroupName}
use Rattle.robinx.specs.declared.element.GroupName.TheVariants.{Basic, Capacity, Game, Break, Fairness, Separation}
use Rattle.robinx.specs.Held.{IsHeld}
use Rattle.robinx.proofs.TagLemmas.{is_plain_name}
use Rattle.robinx.proofs.StepLemmas.{tag, BeginsTag, Reads, Reads-tag_line, Reads-start_line, Reads-end_line}
use Rattle.robinx.proofs.ClassLemmas.{constraint-read, values-plain, names-new, attributes-few, class_name-plain}

-- an element of which no text is read
abbrev pub opened : Element → ℕ → List (List ℕ) → Open
opened e line names = record { element = e; line = line; seen = names; text = [] }

abbrev pub position : Open → List Open → Draft → Position Draft
position inner outer draft = record { inner = inner; outer = outer; passing = None; read = draft }

group-plain : (g : GroupName) → is_plain_name (elements.group_name g) ≡ true
group-plain Basic = refl
group-plain Capacity = refl
group-plain Game = refl
group-plain Break = refl
group-plain Fairness = refl
group-plain Separation = refl

-- what holds of each constraint of a league of n teams
pub record CanStand (n : ℕ) (c : Constraint) : Type 0 where
  pub held : IsHeld c
  pub fits : class_fits n c.class ≡ true

pub constraints-begin : (constraints : List Constraint) (end : List ℕ) → BeginsTag end → BeginsTag (constraints_after None constraints ++ end)
constraints-begin [] end begins = begins
constraints-begin (c ∷ constraints) end begins = (_, refl)

module _ (line : ℕ) (outer : List Open) where
  -- among the groups, and in a group
  abbrev pub among : Draft → Position Draft
  among draft = position (opened element.Constraints line []) outer draft

  abbrev within : ℕ → GroupName → Draft → Position Draft
  within start g draft = position (opened (element.Group g) start []) (opened element.Constraints line [] ∷ outer) draft

  group-starts : (g : GroupName) (at : ℕ) (draft : Draft) → at_piece instance_meaning Start (tag Start (elements.group_name g) [] at) (among draft) ≡ Ok (within at g draft)
  group-starts Basic at draft = refl
  group-starts Capacity at draft = refl
  group-starts Game at draft = refl
  group-starts Break at draft = refl
  group-starts Fairness at draft = refl
  group-starts Separation at draft = refl

  group-ends : (g : GroupName) (at start : ℕ) (draft : Draft) → at_piece instance_meaning End (tag End (elements.group_name g) [] at) (within start g draft) ≡ Ok (among draft)
  group-ends Basic at start draft = refl
  group-ends Capacity at start draft = refl
  group-ends Game at start draft = refl
  group-ends Break at start draft = refl
  group-ends Fairness at start draft = refl
  group-ends Separation at start draft = refl

  class-stands : (c : Class) (attributes : List Attribute) (g : GroupName) (at start : ℕ) (draft next : Draft) → with_constraint (name_of c) attributes draft ≡ Ok next
      → at_piece instance_meaning Empty (tag Empty (codes (name_text (name_of c))) attributes at) (within start g draft) ≡ Ok (within start g next)
  class-stands (Ca1 i min max side s) attributes g at start draft next is = rw is refl
  class-stands (Ca2 i j min max side s) attributes g at start draft next is = rw is refl
  class-stands (Ca3 i j min max intp side) attributes g at start draft next is = rw is refl
  class-stands (Ca4 i j min max side span s) attributes g at start draft next is = rw is refl
  class-stands (Ga1 ps min max s) attributes g at start draft next is = rw is refl
  class-stands (Br1 i intp side s) attributes g at start draft next is = rw is refl
  class-stands (Br2 i intp s) attributes g at start draft next is = rw is refl
  class-stands (Fa2 i intp s) attributes g at start draft next is = rw is refl
  class-stands (Se1 i min) attributes g at start draft next is = rw is refl

  -- the line that begins a group
  group-opened : (g : GroupName) (rest : List ℕ) (draft x : Draft) → BeginsTag rest → ((start : ℕ) → Reads instance_meaning rest (within start g draft) x)
      → Reads instance_meaning (opens (Some (elements.group_name g)) ++ rest) (among draft) x
  group-opened g rest draft x begins on =
      rw (append_assoc (elements.group_name g) (codes ">\n") rest)
      (Reads-start_line instance_meaning (elements.group_name g) [] rest (among draft) x (λ at. within at g draft) (group-plain g) (omega arith) refl refl begins (λ at. group-starts g at draft) (λ at. refl) on)

  -- the line that ends a group
  group-closed : (g : GroupName) (start : ℕ) (rest : List ℕ) (draft x : Draft) → BeginsTag rest → Reads instance_meaning rest (among draft) x
      → Reads instance_meaning (closes (Some (elements.group_name g)) ++ rest) (within start g draft) x
  group-closed g start rest draft x begins on =
      rw (append_assoc (elements.group_name g) (codes ">\n") rest)
      (Reads-end_line instance_meaning (elements.group_name g) rest (within start g draft) x (λ at. among draft) (group-plain g) begins (λ at. group-ends g at start draft) (λ at. refl) (λ at. on))

  -- ---- constraints, one after another

  module _ (n : ℕ) (size : n ≤ 40) (phased : Bool) (team_ids slot_ids : List ℕ) where
    -- what was read up to here
    abbrev pub drafted : List Constraint → Draft
    drafted constraints = record { phased = phased; teams = team_ids; slots = slot_ids; n = n; constraints = constraints }

    room : (len : ℕ) → len < 20000 → nat_lt len 20000 ≡ true
    room len h = grind (arith, nat_tests)

    one_more : (so_far : List Constraint) (c : Constraint) → length so_far < 20000 → CanStand n c
        → with_constraint (name_of c.class) (constraint_attributes c) (drafted so_far) ≡ Ok (drafted (so_far ++ c ∷ []))
    one_more so_far c few stands =
        let space : nat_lt (length so_far) 20000 ≡ true = room (length so_far) few in
        let read : constraint_of (name_of c.class) n (constraint_attributes c) ≡ Ok c = constraint-read n c size stands.held stands.fits in
        rw (space, read) refl

    -- a line, and then the others
    one_line : (c : Constraint) (so_far : List Constraint) (g : GroupName) (start : ℕ) (rest : List ℕ) (x : Draft) → length so_far < 20000 → CanStand n c → BeginsTag rest
        → Reads instance_meaning rest (within start g (drafted (so_far ++ c ∷ []))) x → Reads instance_meaning (constraint_line c ++ rest) (within start g (drafted so_far)) x
    one_line c so_far g start rest x few stands begins on =
        Reads-tag_line instance_meaning (codes (name_text (name_of c.class))) (constraint_attributes c) rest (within start g (drafted so_far)) x (λ at. within start g (drafted (so_far ++ c ∷ [])))
        (class_name-plain c.class) (attributes-few c) (names-new c) (values-plain c) begins
        (λ at. class-stands c.class (constraint_attributes c) g at start (drafted so_far) (drafted (so_far ++ c ∷ [])) (one_more so_far c few stands)) (λ at. refl) (λ at. on)

    begins_by : (t : Bool) (one other rest : List ℕ) → BeginsTag one → BeginsTag rest → BeginsTag (cond t [] (one ++ other) ++ rest)
    begins_by true one other rest first second = second
    begins_by false one other rest first second =
        (first.0 ++ other ++ rest, ap (λ (l : List ℕ). l ++ other ++ rest) first.1)

    line-begins : (c : Constraint) (rest : List ℕ) → BeginsTag (constraint_line c ++ rest)
    line-begins c rest = (_, refl)

    after-begins : (g : GroupName) (constraints : List Constraint) (end : List ℕ) → BeginsTag (constraints_after (Some (elements.group_name g)) constraints ++ end)
    after-begins g [] end = (_, refl)
    after-begins g (c ∷ constraints) end =
        let own : List ℕ = elements.group_name (group_of (name_of c.class)) in
        let rest : List ℕ = constraint_line c ++ constraints_after (Some own) constraints in
        let whole : between (Some (elements.group_name g)) (Some own) ++ (rest ++ end) ≡ (between (Some (elements.group_name g)) (Some own) ++ rest) ++ end = sym (append_assoc (between (Some (elements.group_name g)) (Some own)) rest end) in
        let begins : BeginsTag (between (Some (elements.group_name g)) (Some own) ++ (rest ++ end)) =
        begins_by (bytes_eq (elements.group_name g) own) (closes (Some (elements.group_name g))) (opens (Some own)) (rest ++ end) (_, refl) (_, refl) in
        subst BeginsTag whole begins

    -- the constraints after this one in a group of this name, from wherever the group begins
    abbrev ReadsAfter : Constraint → List Constraint → List Constraint → List ℕ → Draft → Type 0
    ReadsAfter c constraints so_far end x = (k : GroupName) (from : ℕ) → Reads instance_meaning (constraints_after (Some (elements.group_name k)) constraints ++ end) (within from k (drafted (so_far ++ c ∷ []))) x

    -- the line of a constraint in a group that has the name of its own, and then the others
    line_in : (c : Constraint) (constraints so_far : List Constraint) (k : GroupName) (from : ℕ) (end : List ℕ) (x : Draft) → elements.group_name (group_of (name_of c.class)) ≡ elements.group_name k → ReadsAfter c constraints so_far end x
        → CanStand n c → length so_far < 20000 → Reads instance_meaning (constraint_line c ++ (constraints_after (Some (elements.group_name (group_of (name_of c.class)))) constraints ++ end)) (within from k (drafted so_far)) x
    line_in c constraints so_far k from end x own later stands few =
        rw own (one_line c so_far k from (constraints_after (Some (elements.group_name k)) constraints ++ end) x few stands (after-begins k constraints end) (later k from))

    -- where the next constraint is of a group of the same name, or of another
    by_name : (c : Constraint) (constraints so_far : List Constraint) (g h : GroupName) (start : ℕ) (end : List ℕ) (x : Draft) (t : Bool) → bytes_eq (elements.group_name g) (elements.group_name h) ≡ t
        → elements.group_name (group_of (name_of c.class)) ≡ elements.group_name h → ReadsAfter c constraints so_far end x → CanStand n c → length so_far < 20000
        → Reads instance_meaning (constraints_after (Some (elements.group_name g)) (c ∷ constraints) ++ end) (within start g (drafted so_far)) x
    by_name c constraints so_far g h start end x true is same later stands few =
        let a : List ℕ = elements.group_name g in
        let own : List ℕ = elements.group_name (group_of (name_of c.class)) in
        let line : List ℕ = constraint_line c in
        let after : List ℕ = constraints_after (Some own) constraints in
        let gap : between (Some a) (Some own) ≡ [] =
        ap (λ (o : List ℕ). cond (bytes_eq a o) [] (closes (Some a) ++ opens (Some o))) same ∙ ap (λ (t : Bool). cond t [] (closes (Some a) ++ opens (Some (elements.group_name h)))) is in
        let text : (between (Some a) (Some own) ++ (line ++ after)) ++ end ≡ line ++ (after ++ end) = ap (λ (l : List ℕ). (l ++ (line ++ after)) ++ end) gap ∙ append_assoc line after end in
        let equal : a ≡ elements.group_name h = (bytes_eq-Decides a (elements.group_name h)).0 is in
        subst (λ (l : List ℕ). Reads instance_meaning l (within start g (drafted so_far)) x) (sym text) (line_in c constraints so_far g start end x (same ∙ sym equal) later stands few)
    by_name c constraints so_far g h start end x false is same later stands few =
        let a : List ℕ = elements.group_name g in
        let b : List ℕ = elements.group_name h in
        let own : List ℕ = elements.group_name (group_of (name_of c.class)) in
        let line : List ℕ = constraint_line c in
        let after : List ℕ = constraints_after (Some own) constraints in
        let gap : between (Some a) (Some own) ≡ closes (Some a) ++ opens (Some b) =
        ap (λ (o : List ℕ). cond (bytes_eq a o) [] (closes (Some a) ++ opens (Some o))) same ∙ ap (λ (t : Bool). cond t [] (closes (Some a) ++ opens (Some b))) is in
        let text : (between (Some a) (Some own) ++ (line ++ after)) ++ end ≡ closes (Some a) ++ (opens (Some b) ++ (line ++ (after ++ end))) =
        ap (λ (l : List ℕ). (l ++ (line ++ after)) ++ end) gap
        ∙ append_assoc (closes (Some a) ++ opens (Some b)) (line ++ after) end
        ∙ append_assoc (closes (Some a)) (opens (Some b)) ((line ++ after) ++ end)
        ∙ ap (λ (l : List ℕ). closes (Some a) ++ (opens (Some b) ++ l)) (append_assoc line after end) in
        subst (λ (l : List ℕ). Reads instance_meaning l (within start g (drafted so_far)) x) (sym text)
        (group-closed g start (opens (Some b) ++ (line ++ (after ++ end))) (drafted so_far) x (_, refl)
        (group-opened h (line ++ (after ++ end)) (drafted so_far) x (line-begins c (after ++ end)) (λ from. line_in c constraints so_far h from end x same later stands few)))

    -- constraints that can stand are read one by one, in whatever group the walk is
    in_group : (constraints so_far : List Constraint) (g : GroupName) (start : ℕ) (end : List ℕ) (x : Draft) → length so_far + length constraints ≤ 20000 → All (CanStand n) constraints → BeginsTag end
        → Reads instance_meaning end (among (drafted (so_far ++ constraints))) x
        → Reads instance_meaning (constraints_after (Some (elements.group_name g)) constraints ++ end) (within start g (drafted so_far)) x
    in_group [] so_far g start end x few stand begins on =
        let text : constraints_after (Some (elements.group_name g)) [] ++ end ≡ closes (Some (elements.group_name g)) ++ end = ap (λ (l : List ℕ). l ++ end) (append-nil (closes (Some (elements.group_name g)))) in
        let all : so_far ++ [] ≡ so_far = append-nil so_far in
        rw text (group-closed g start end (drafted so_far) x begins (rw all at on))
    in_group (c ∷ constraints) so_far g start end x few stand begins on =
        let more : so_far ++ c ∷ constraints ≡ (so_far ++ c ∷ []) ++ constraints = sym (append_assoc so_far (c ∷ []) constraints) in
        let room_left : length (so_far ++ c ∷ []) + length constraints ≤ 20000 = omega (arith, length-append so_far (c ∷ [])) in
        let later : ReadsAfter c constraints so_far end x = λ k from. in_group constraints (so_far ++ c ∷ []) k from end x room_left (All-tail (CanStand n) c constraints stand) begins (rw more at on) in
        by_name c constraints so_far g (group_of (name_of c.class)) start end x (bytes_eq (elements.group_name g) (elements.group_name (group_of (name_of c.class)))) refl refl later (All-head (CanStand n) c constraints stand) (omega arith)

    -- all constraints
    pub constraints-read : (constraints : List Constraint) (end : List ℕ) (x : Draft) → length constraints ≤ 20000 → All (CanStand n) constraints → BeginsTag end
        → Reads instance_meaning end (among (drafted constraints)) x → Reads instance_meaning (constraints_after None constraints ++ end) (among (drafted [])) x
    constraints-read [] end x few stand begins on = on
    constraints-read (c ∷ constraints) end x few stand begins on =
        let h : GroupName = group_of (name_of c.class) in
        let own : List ℕ = elements.group_name (group_of (name_of c.class)) in
        let line : List ℕ = constraint_line c in
        let after : List ℕ = constraints_after (Some own) constraints in
        let text : (opens (Some own) ++ (line ++ after)) ++ end ≡ opens (Some (elements.group_name h)) ++ (line ++ (after ++ end)) =
        append_assoc (opens (Some own)) (line ++ after) end
        ∙ ap (λ (l : List ℕ). opens (Some own) ++ l) (append_assoc line after end)
        ∙ ap (λ (o : List ℕ). opens (Some o) ++ (line ++ (after ++ end))) refl in
        let later : ReadsAfter c constraints [] end x = λ k from. in_group constraints (c ∷ []) k from end x (omega arith) (All-tail (CanStand n) c constraints stand) begins on in
        subst (λ (l : List ℕ). Reads instance_meaning l (among (drafted [])) x) (sym text)
        (group-opened h (line ++ (after ++ end)) (drafted []) x (line-begins c (after ++ end)) (λ from. line_in c constraints [] h from end x refl later (All-head (CanStand n) c constraints stand) (omega arith)))
