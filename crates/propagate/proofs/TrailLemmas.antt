-- What the calls of a trail do to how far it was looked at and to its watches.
use Rattle.std.proofs.Common.{◌≡◌, ◌≢◌, ℕ, ◌+◌, ◌*◌, ◌%◌, ◌-◌, ◌<◌, ◌≤◌, true, false, List, [], ◌∷◌, ◌++◌, length}
use Rattle.std.proofs.Common.{get_or, take, replicate}
use Rattle.std.proofs.Common.{Option, Some, None, refl, inl, inr, arith, ap, sym, subst, ◌∙◌}
use Rattle.std.specs.Prelude.{Contains, IfSome, is_none}
use Rattle.std.specs.List.{All, AllPairs}
use Rattle.std.proofs.lemmas.Bool.{cases_lt, false≢true}
use Rattle.std.proofs.lemmas.List.{get_or_push, length-replicate, length_push, take-append-le, take_all}
use Rattle.std.proofs.lemmas.List.Elements.{All-map, All-push}
use Rattle.std.proofs.lemmas.Option.{get_or_from_slice_get, slice_get_within}
use Rattle.rows.specs.Cardinality.{at_least, unit}
use Rattle.rows.specs.Literals.{Literal, negate}
use Rattle.rows.specs.Rows.{IsRow, Row}
use Rattle.rows.specs.Partials.{IsQuiet, IsQuietRow, reach, value_of}
use Rattle.rows.specs.declared.lit.Term.{Term}
use Rattle.rows.specs.declared.partial.Value.{Value}
use Rattle.rows.specs.declared.partial.Value.TheVariants.{True, Free}
use Rattle.rows.proofs.UnitLemmas.{IsRow-at_least}
use Rattle.propagate.specs.Trails.{AreLawful, EachEntry, IsBackTo, IsForcedBy, IsLawful, IsNew, IsNumbered}
use Rattle.propagate.specs.Trails.{IsQuietRowBelow, IsSettled, KnowsVariables, is_decision, level_of, values_of}
use Rattle.propagate.specs.Links.{Lacks}
use Rattle.propagate.specs.Numbered.{row_at}
use Rattle.propagate.specs.Paths.{SeenPath, with_entries}
use Rattle.propagate.specs.Looks.{AreGivenSeen, AreSound, IsGrownOver, IsReady, IsSeen, IsTrail}
use Rattle.propagate.specs.Watches.{AreBacked, AreHung, AreNodes, HasRoomForNodes, IsBacked, IsClause, IsHeld, IsNode}
use Rattle.propagate.specs.Watches.{IsSameWatches, IsWatching, node_at, partner_of}
use Rattle.propagate.specs.declared.entry.Conflict.{Conflict}
use Rattle.propagate.specs.declared.entry.Entry.{Entry}
use Rattle.propagate.specs.declared.settle.Looked.{Looked}
use Rattle.propagate.specs.declared.watches.Node.{Node}
use Rattle.propagate.specs.declared.watches.Watches.{Watches}
use Rattle.propagate.proofs.BackedLemmas.{IsWatching-grown, seen_hung, stays}
use Rattle.propagate.proofs.ChainLemmas.{AreHung-none}
use Rattle.propagate.proofs.ClauseLemmas.{true_not_free}
use Rattle.propagate.proofs.EntryLemmas.{IsBackTo-less, IsGrown-same, each-push, each-take, no_entry, quiet_row-back}
use Rattle.propagate.proofs.EntryLemmas.{quiet_row_below-back, quiet_row_below-push}
use Rattle.propagate.proofs.EntryLemmas.{level_of-push}
use Rattle.propagate.proofs.LinkLemmas.{row_at-end, row_at-front}
use Rattle.propagate.proofs.LookLemmas.{AreLawful-more, IsReady-grown, news, quiet-push}

-- ---- a new trail

pub IsTrail-none : (path : SeenPath) (watches : Watches) → All IsRow path.rows
    → All (KnowsVariables path.vars) path.rows → path.entries ≡ [] → path.given ≡ length path.rows
    → watches.firsts.items ≡ replicate (2 * path.vars + 2) 0 → watches.nodes.items ≡ [] → watches.hung ≡ path.given
    → IsTrail path watches (record { entries = 0; rows = 0 })
IsTrail-none path watches proper known none given firsts nodes hung = record {
  ready = record {
    sound = record {
      proper = proper;
      known = known;
      lawful = λ k d within. absurd (nothing k within);
      given = omega (arith, given);
      clauses = λ k from to. absurd (omega (arith, given));
    };
    entries = omega arith;
    rows = omega arith;
    seen = λ k below. absurd (omega arith);
  };
  watching = record {
    slots = ap (λ (ns : List ℕ). length ns) firsts ∙ length-replicate (2 * path.vars + 2) 0;
    room = omega (arith, no_nodes, hung, given);
    hung =
        subst (λ (ns : List ℕ). AreHung ns watches.nodes.items []) (sym firsts)
        (subst (λ (xs : List Node). AreHung (replicate (2 * path.vars + 2) 0) xs []) (sym nodes)
        (AreHung-none (2 * path.vars + 2)));
    nodes = record {
      even = subst (λ (n : ℕ). n % 2 ≡ 0) (sym no_nodes) refl;
      from = omega (arith, hung);
      to = omega (arith, hung, given);
      each = λ i within. absurd (omega (arith, no_nodes));
      covers = λ k from to. absurd (omega (arith, hung));
    };
    backed = record {
      now = λ i within. absurd (omega (arith, no_nodes));
      below = λ i within. absurd (omega (arith, no_nodes));
    };
    given_below = λ k less i d within. absurd (nothing i within);
  };
} where
  nothing : (k : ℕ) → k < length path.entries → ⊥
  nothing k within = absurd (omega (arith, ap (λ (es : List Entry). length es) none))

  no_nodes : length watches.nodes.items ≡ 0
  no_nodes = ap (λ (xs : List Node). length xs) nodes

-- ---- turns

pub IsTrail-grown : (old new : SeenPath) (watches : Watches) (looked : Looked) → IsTrail old watches looked
    → IsGrownOver old new → IsTrail new watches looked
IsTrail-grown old new watches looked trail grown = record {
  ready = IsReady-grown old new looked trail.ready grown;
  watching = IsWatching-grown old new watches [] looked.entries trail.watching trail.ready.entries grown;
}

-- an entry more was looked at
pub IsTrail-visited : (path : SeenPath) (watches : Watches) (looked : Looked) (rows : ℕ) → IsReady path looked
    → IsWatching path watches (looked.entries + 1) → looked.entries < length path.entries
    → AreGivenSeen path looked → rows ≤ looked.rows → rows ≤ watches.hung
    → IsTrail path watches (record { entries = looked.entries + 1; rows = rows })
IsTrail-visited path watches looked rows ready watching there given_seen at_most hung = record {
  ready = record {
    sound = ready.sound;
    entries = omega arith;
    rows = omega (arith, ready.rows);
    seen = λ k below. elim (cases_lt k path.given) [
      | inl given ↦ given_seen k given (omega arith)
      | inr past ↦
          seen_hung path watches [] (looked.entries + 1) k ready.sound watching (omega arith) past (omega arith)
    ];
  };
  watching = watching;
}

-- ---- a decision

-- a row that is named is quiet where all are
quiet_named : (rows : List Row) (values : ℕ → Value) (number : ℕ) (row : Row) → IsQuiet values rows
    → IsNumbered rows number row → IsQuietRow values row
quiet_named rows values number row quiet numbered =
    subst (λ (r : Row). IsQuietRow values r) (get_or_from_slice_get rows (number - 1) row row numbered.there)
    (quiet (number - 1) row (slice_get_within rows (number - 1) row numbered.there))

-- where the rows are quiet propagation adds nothing
pub nothing_added : (old new : SeenPath) → IsQuiet (values_of old.entries) old.rows → IsGrownOver old new → new ≡ old
nothing_added old new quiet grown =
    grown.same ∙ ap (λ (es : List Entry). with_entries old es)
    (IsGrown-same old.entries new.entries grown.grown as_many) where
      forces_none : (row : Row) (t : Term) → IsQuietRow (values_of old.entries) row → Contains row.terms t
          → value_of (values_of old.entries) t.lit ≡ Free
          → reach (values_of old.entries) row.terms < row.degree + t.coef → ⊥
      forces_none row t row_quiet there free needed =
          absurd (omega (
            arith,
            needed,
            subst (λ (u : Term). value_of (values_of old.entries) u.lit
                ≡ Free → row.degree + u.coef ≤ reach (values_of old.entries) row.terms) there.2
                (row_quiet.none_forced there.0 t there.1) free,
          ))

      by_none : (lit : Literal) (reason : Option ℕ) → is_none reason
          ≡ false → IfSome reason (IsForcedBy old.rows old.entries lit) → ⊥
      by_none lit None some by = absurd (false≢true (sym some))
      by_none lit (Some number) some by =
          forces_none by.row by.term (quiet_named old.rows (values_of old.entries) number by.row quiet by.numbered)
          by.forces.there by.forces.free by.forces.needed

      as_many : length new.entries ≡ length old.entries
      as_many = elim (cases_lt (length old.entries) (length new.entries)) [
        | inl more ↦
            absurd (by_none (get_or new.entries (length old.entries) no_entry).lit
            (get_or new.entries (length old.entries) no_entry).reason
            (grown.grown.forced (length old.entries) no_entry (omega arith) more)
            (subst (λ (es : List Entry). IfSome (get_or new.entries (length old.entries) no_entry).reason
            (IsForcedBy old.rows es (get_or new.entries (length old.entries) no_entry).lit)) grown.grown.kept
            (grown.lawful (length old.entries) no_entry more).reason))
        | inr same ↦ omega (arith, grown.grown.longer)
      ]

-- where the rows are quiet propagation finds no conflict
pub no_conflict : (rows : List Row) (values : ℕ → Value) (found : Option Conflict) → IsQuiet values rows
    → IsSettled rows values found → found ≡ None
no_conflict rows values None quiet settled = refl
no_conflict rows values (Some conflict) quiet settled =
    absurd (omega (
      arith,
      settled.conflict_is,
      (quiet_named rows values conflict.row settled.row quiet settled.numbered).no_conflict,
    ))

-- a decision where all rows are quiet and all entries were looked at
pub IsTrail-decide : (old new : SeenPath) (watches : Watches) (looked : Looked) (lit : Literal)
    → IsTrail old watches looked → looked.entries ≡ length old.entries → 1 ≤ lit.var → lit.var ≤ old.vars
    → value_of (values_of old.entries) lit ≡ Free → IsQuiet (values_of old.entries) old.rows
    → new ≡ with_entries old
    (old.entries ++ record { lit = lit; level = level_of old.entries + 1; reason = None } ∷ [])
    → IsTrail new watches looked
IsTrail-decide old new watches looked lit trail all from_one known free quiet grows =
    subst (λ (p : SeenPath). IsTrail p watches looked) (sym grows) next where
      e : Entry
      e = record { lit = lit; level = level_of old.entries + 1; reason = None }

      es : List Entry
      es = old.entries ++ e ∷ []

      lawful_e : IsLawful old.rows old.vars old.entries e
      lawful_e = record {
        new = record { from_one = from_one; known = known; free = free; level = sym (level_of-push old.entries e) };
        reason = tt;
      }

      lawful : AreLawful old.rows old.vars es
      lawful = each-push (IsLawful old.rows old.vars) old.entries e trail.ready.sound.lawful lawful_e

      each : EachEntry (IsNew old.vars) es
      each = news old.rows old.vars es lawful

      quiet_at : (k : ℕ) → k < length old.rows → IsQuietRow (values_of old.entries) (row_at old.rows k)
      quiet_at k within = quiet k (record { terms = []; degree = 0 }) within

      whole : take looked.entries old.entries ≡ old.entries
      whole = take_all looked.entries old.entries (omega (arith, all))

      front : take looked.entries es ≡ old.entries
      front = take-append-le looked.entries old.entries (e ∷ []) (omega (arith, all)) ∙ whole

      true_still : (l : Literal) → value_of (values_of old.entries) l ≡ True → value_of (values_of es) l ≡ True
      true_still l is =
          stays old.vars es l looked.entries True each (omega (arith, all, length_push old.entries e)) true_not_free
          (ap (λ (xs : List Entry). value_of (values_of xs) l) front ∙ is)

      backed_at : (i : ℕ) → i < length watches.nodes.items → IsBacked (values_of old.entries) (values_of old.entries)
          watches.nodes.items i
      backed_at i within =
          subst (λ (xs : List Entry). IsBacked (values_of xs) (values_of old.entries) watches.nodes.items i) whole
          (trail.watching.backed.now i within)

      held_still : (row : Row) → IsHeld row old.entries → IsHeld row es
      held_still row held = record {
        lit = held.lit;
        there = held.there;
        now = true_still held.lit held.now;
        below =
            each-push (λ before d. is_decision d ≡ true → value_of (values_of before) held.lit ≡ True) old.entries e
            held.below (λ decided. held.now);
      }

      next : IsTrail (with_entries old es) watches looked
      next = record {
        ready = record {
          sound = record {
            proper = trail.ready.sound.proper;
            known = trail.ready.sound.known;
            lawful = lawful;
            given = trail.ready.sound.given;
            clauses = trail.ready.sound.clauses;
          };
          entries = omega (arith, all, length_push old.entries e);
          rows = trail.ready.rows;
          seen = λ k below none.
              let lacks : Lacks (negate e.lit) (row_at old.rows k).terms =
              subst (λ (x : Entry). Lacks (negate x.lit) (row_at old.rows k).terms)
              (get_or_push old.entries e e (length old.entries) refl)
              (none (length old.entries) e (omega (arith, all)) (omega (arith, length_push old.entries e))) in
              quiet-push (row_at old.rows k) old.entries e free lacks (quiet_at k (omega (arith, trail.ready.rows)));
        };
        watching = record {
          slots = trail.watching.slots;
          room = trail.watching.room;
          hung = trail.watching.hung;
          nodes = record {
            even = trail.watching.nodes.even;
            from = trail.watching.nodes.from;
            to = trail.watching.nodes.to;
            each = trail.watching.nodes.each;
            covers = λ k from to. elim (trail.watching.nodes.covers k from to) [
              | inl has ↦ inl has
              | inr held ↦ inr (held_still (row_at old.rows k) held)
            ];
          };
          backed = record {
            now = λ i within fell.
                true_still (node_at watches.nodes.items (partner_of i)).lit
                (backed_at i within (sym
                (ap (λ (xs : List Entry). value_of (values_of xs) (node_at watches.nodes.items i).lit) front)
                ∙ fell));
            below = λ i within.
                each-push (λ before d. is_decision d ≡ true → IsBacked (values_of before) (values_of before)
                watches.nodes.items i) old.entries e (trail.watching.backed.below i within)
                (λ decided. backed_at i within);
          };
          given_below = λ k below.
              quiet_row_below-push (row_at old.rows k) old.entries e
              (quiet_at k (omega (arith, trail.ready.sound.given))) (trail.watching.given_below k below);
        };
      }

-- ---- levels are taken off

pub IsTrail-back : (old new : SeenPath) (watches : Watches) (looked after : Looked) (level : ℕ)
    → IsTrail old watches looked → new ≡ with_entries old new.entries
    → IsBackTo level old.entries new.entries → level < level_of old.entries
    → after ≡ record { entries = length new.entries; rows = watches.hung } → IsTrail new watches after
IsTrail-back old new watches looked after level trail same back less is =
    subst (λ (l : Looked). IsTrail new watches l) (sym is)
    (subst (λ (p : SeenPath). IsTrail p watches (record { entries = length new.entries; rows = watches.hung }))
    (sym same) (record {
      ready = record {
        sound = sound;
        entries = omega arith;
        rows = trail.watching.nodes.to;
        seen = λ k below. elim (cases_lt k old.given) [
          | inl given ↦
              λ none. quiet_row-back (row_at old.rows k) level old.entries es back less
              (trail.watching.given_below k given)
          | inr past ↦ seen_hung (with_entries old es) watches [] (length es) k sound watching (omega arith) past below
        ];
      };
      watching = watching;
    })) where
      es : List Entry
      es = new.entries

      shorter : length es < length old.entries
      shorter = IsBackTo-less level old.entries es back less

      whole : take (length es) es ≡ es
      whole = take_all (length es) es (omega arith)

      sound : AreSound (with_entries old es)
      sound = record {
        proper = trail.ready.sound.proper;
        known = trail.ready.sound.known;
        lawful =
            subst (λ (xs : List Entry). AreLawful old.rows old.vars xs) (sym back.front)
            (each-take (IsLawful old.rows old.vars) old.entries (length es) back.shorter trail.ready.sound.lawful);
        given = trail.ready.sound.given;
        clauses = trail.ready.sound.clauses;
      }

      held_back : (row : Row) → IsHeld row old.entries → IsHeld row es
      held_back row held = record {
        lit = held.lit;
        there = held.there;
        now =
            ap (λ (xs : List Entry). value_of (values_of xs) held.lit) back.front
            ∙ held.below (length es) no_entry shorter (back.next no_entry shorter);
        below =
            subst (λ (xs : List Entry).
            EachEntry (λ before d. is_decision d ≡ true → value_of (values_of before) held.lit ≡ True) xs)
            (sym back.front)
            (each-take (λ before d. is_decision d ≡ true → value_of (values_of before) held.lit ≡ True) old.entries
            (length es) back.shorter held.below);
      }

      watching : IsWatching (with_entries old es) watches (length es)
      watching = record {
        slots = trail.watching.slots;
        room = trail.watching.room;
        hung = trail.watching.hung;
        nodes = record {
          even = trail.watching.nodes.even;
          from = trail.watching.nodes.from;
          to = trail.watching.nodes.to;
          each = trail.watching.nodes.each;
          covers = λ k from to. elim (trail.watching.nodes.covers k from to) [
            | inl has ↦ inl has
            | inr held ↦ inr (held_back (row_at old.rows k) held)
          ];
        };
        backed = record {
          now = λ i within.
              subst (λ (xs : List Entry). IsBacked (values_of xs) (values_of es) watches.nodes.items i) (sym whole)
              (subst (λ (xs : List Entry). IsBacked (values_of xs) (values_of xs) watches.nodes.items i)
              (sym back.front)
              (trail.watching.backed.below i within (length es) no_entry shorter (back.next no_entry shorter)));
          below = λ i within.
              subst (λ (xs : List Entry).
              EachEntry (λ before d. is_decision d ≡ true → IsBacked (values_of before) (values_of before)
              watches.nodes.items i) xs) (sym back.front)
              (each-take (λ before d. is_decision d ≡ true → IsBacked (values_of before) (values_of before)
              watches.nodes.items i) old.entries (length es) back.shorter
              (trail.watching.backed.below i within));
        };
        given_below =
            λ k below. quiet_row_below-back (row_at old.rows k) level old.entries es back
            (trail.watching.given_below k below);
      }

-- ---- a clause comes

-- room was made
pub IsWatching-same : (path : SeenPath) (before after : Watches) (looked : ℕ) → IsSameWatches before after
    → IsWatching path before looked → IsWatching path after looked
IsWatching-same path before after looked same watching = record {
  slots = ap (λ (ns : List ℕ). length ns) same.firsts ∙ watching.slots;
  room = omega (arith, watching.room, same.hung, same.room, ap (λ (xs : List Node). length xs) same.nodes);
  hung =
      subst (λ (ns : List ℕ). AreHung ns after.nodes.items []) (sym same.firsts)
      (subst (λ (xs : List Node). AreHung before.firsts.items xs []) (sym same.nodes) watching.hung);
  nodes =
      subst (λ (xs : List Node). AreNodes path xs after.hung) (sym same.nodes)
      (subst (λ (n : ℕ). AreNodes path before.nodes.items n) (sym same.hung) watching.nodes);
  backed = subst (λ (xs : List Node). AreBacked xs path.entries looked) (sym same.nodes) watching.backed;
  given_below = watching.given_below;
}

pub IsTrail-same : (path : SeenPath) (before after : Watches) (looked : Looked) → IsSameWatches before after
    → IsTrail path before looked → IsTrail path after looked
IsTrail-same path before after looked same trail =
    record { ready = trail.ready; watching = IsWatching-same path before after looked.entries same trail.watching }

abbrev with_rows : SeenPath → List Row → SeenPath
with_rows path rows = record path { rows = rows }

-- a clause stands behind the rows
pub IsTrail-add : (old new : SeenPath) (before after : Watches) (looked : Looked) (clause : List Literal)
    → IsTrail old before looked → IsSameWatches before after
    → HasRoomForNodes after (length old.rows + 1)
    → new ≡ record old { rows = new.rows } → new.rows ≡ old.rows ++ at_least 1 clause ∷ []
    → All (λ l. l.var ≤ old.vars) clause → AllPairs (λ l m. l.var ≢ m.var) clause → IsTrail new after looked
IsTrail-add old new before after looked clause trail same room path_same rows_are known differ =
    subst (λ (p : SeenPath). IsTrail p after looked) (sym path_same)
    (subst (λ (rs : List Row). IsTrail (with_rows old rs) after looked) (sym rows_are) next) where
      rows : List Row
      rows = old.rows ++ at_least 1 clause ∷ []

      longer : length rows ≡ length old.rows + 1
      longer = length_push old.rows (at_least 1 clause)

      front : (k : ℕ) → k < length old.rows → row_at rows k ≡ row_at old.rows k
      front k within = row_at-front old.rows (at_least 1 clause ∷ []) k within

      kept : IsWatching old after looked.entries
      kept = IsWatching-same old before after looked.entries same trail.watching

      is_clause : IsClause (at_least 1 clause)
      is_clause = record { degree_is = refl; ones = All-map (λ t. t.coef ≡ 1) unit clause (λ k d within. refl) }

      last_is : (k : ℕ) → length old.rows ≡ k → row_at rows k ≡ at_least 1 clause
      last_is k is = row_at-end old.rows (at_least 1 clause) k is

      clause_at : (k : ℕ) → old.given ≤ k → k < length rows → IsClause (row_at rows k)
      clause_at k from to = elim (cases_lt k (length old.rows)) [
        | inl before_it ↦
            subst (λ (r : Row). IsClause r) (sym (front k before_it)) (trail.ready.sound.clauses k from before_it)
        | inr past ↦ subst (λ (r : Row). IsClause r) (sym (last_is k (omega (arith, longer)))) is_clause
      ]

      node_more : (i : ℕ) → IsNode old.rows old.given after.hung after.nodes.items i
          → IsNode rows old.given after.hung after.nodes.items i
      node_more i node = record {
        partner = node.partner;
        from = node.from;
        to = node.to;
        there =
            subst (λ (r : Row). Contains r.terms (unit (node_at after.nodes.items i).lit))
            (sym (front (node_at after.nodes.items i).row (omega (arith, node.to, kept.nodes.to)))) node.there;
        same_row = node.same_row;
        apart = node.apart;
      }

      next : IsTrail (with_rows old rows) after looked
      next = record {
        ready = record {
          sound = record {
            proper =
                All-push IsRow old.rows (at_least 1 clause) trail.ready.sound.proper (IsRow-at_least 1 clause differ);
            known =
                All-push (KnowsVariables old.vars) old.rows (at_least 1 clause) trail.ready.sound.known
                (All-map (λ t. t.lit.var ≤ old.vars) unit clause known);
            lawful = AreLawful-more old.rows (at_least 1 clause ∷ []) old.vars old.entries trail.ready.sound.lawful;
            given = omega (arith, trail.ready.sound.given, longer);
            clauses = clause_at;
          };
          entries = trail.ready.entries;
          rows = omega (arith, trail.ready.rows, longer);
          seen =
              λ k below. subst (λ (r : Row). IsSeen r old.entries looked.entries)
              (sym (front k (omega (arith, trail.ready.rows)))) (trail.ready.seen k below);
        };
        watching = record {
          slots = kept.slots;
          room = subst (λ (n : ℕ). HasRoomForNodes after n) (sym longer) room;
          hung = kept.hung;
          nodes = record {
            even = kept.nodes.even;
            from = kept.nodes.from;
            to = omega (arith, kept.nodes.to, longer);
            each = λ i within. node_more i (kept.nodes.each i within);
            covers = λ k from to. elim (kept.nodes.covers k from to) [
              | inl has ↦ inl has
              | inr held ↦
                  inr (subst (λ (r : Row). IsHeld r old.entries) (sym (front k (omega (arith, kept.nodes.to)))) held)
            ];
          };
          backed = kept.backed;
          given_below = λ k below.
              subst (λ (r : Row). IsQuietRowBelow r old.entries)
              (sym (front k (omega (arith, trail.ready.sound.given)))) (kept.given_below k below);
        };
      }
