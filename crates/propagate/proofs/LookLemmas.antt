-- Looks at rows: what they force, and which rows still wait for one.
use Rattle.std.proofs.Common.{◌≡◌, ℕ, zero, suc, ◌+◌, ◌-◌, ◌<◌, ◌≤◌, true, false, List, [], ◌∷◌, ◌++◌, length, get_or, take}
use Rattle.std.proofs.Common.{Some, None, refl, inl, inr, arith, ap, sym, subst, ◌∙◌}
use Rattle.std.specs.Prelude.{slice_get}
use Rattle.std.proofs.lemmas.Bool.{cases_lt}
use Rattle.std.proofs.lemmas.List.{get_or_default, get_or-take, take_all, take_more}
use Rattle.std.proofs.lemmas.List.Elements.{All-from_get_or}
use Rattle.std.proofs.lemmas.Option.{IfSome_then, none-some, slice_get-get_or}
use Rattle.rows.specs.Forcing.{set_true}
use Rattle.rows.specs.Literals.{Literal, negate}
use Rattle.rows.specs.Rows.{Row}
use Rattle.rows.specs.Partials.{IsInConflict, IsQuiet, IsQuietRow, reach, value_of}
use Rattle.rows.specs.declared.lit.Term.{Term}
use Rattle.rows.specs.declared.partial.Value.{Value}
use Rattle.rows.specs.declared.partial.Value.TheVariants.{True, Free}
use Rattle.propagate.specs.Trails.{AreLawful, EachEntry, IsForcedBy, IsGrown, IsLawful, IsNew, IsNumbered, NamesConflict, level_of, values_of}
use Rattle.propagate.specs.Links.{IsLastBelow, IsListed, Lacks, LeadsBelow, links_of}
use Rattle.propagate.specs.Numbered.{row_at}
use Rattle.propagate.specs.Paths.{SeenPath, with_entries}
use Rattle.propagate.specs.Looks.{AreGivenSeen, AreSound, IsForcedIn, IsGrownOver, IsReady, IsSeen, IsUnforced}
use Rattle.propagate.specs.declared.entry.Conflict.{Conflict}
use Rattle.propagate.specs.declared.entry.Entry.{Entry}
use Rattle.propagate.specs.declared.force.Forced.{Forced}
use Rattle.propagate.specs.declared.link.Link.{Link}
use Rattle.propagate.specs.declared.settle.Looked.{Looked}
use Rattle.propagate.proofs.EntryLemmas.{IsGrown-none, IsGrown-push, IsGrown-trans, each-push, each-weaker, level_of-push, values_of-push}
use Rattle.propagate.proofs.ReachLemmas.{reach-lacks}
use Rattle.propagate.proofs.ValueLemmas.{AreApart, reach-own, value_of-same, was_free}

-- ---- growing

pub IsGrownOver-none : (path : SeenPath) → AreSound path → IsGrownOver path path
IsGrownOver-none path sound = record { same = refl; grown = IsGrown-none path.entries; lawful = sound.lawful }

pub IsGrownOver-trans : (old mid new : SeenPath) → IsGrownOver old mid → IsGrownOver mid new → IsGrownOver old new
IsGrownOver-trans old mid new first then = record {
  same = then.same ∙ ap (λ (p : SeenPath). with_entries p new.entries) first.same;
  grown = IsGrown-trans old.entries mid.entries new.entries first.grown then.grown;
  lawful = subst (λ (p : SeenPath). AreLawful p.rows p.vars new.entries) first.same then.lawful;
}

pub AreSound-grown : (old new : SeenPath) → AreSound old → IsGrownOver old new → AreSound new
AreSound-grown old new sound grown =
    let next : AreSound (with_entries old new.entries) = record {
      proper = sound.proper;
      known = sound.known;
      lawful = grown.lawful;
      given = sound.given;
      clauses = sound.clauses;
    } in
    subst (λ (p : SeenPath). AreSound p) (sym grown.same) next

-- ---- one row

-- the row at a place has the number one above it
pub IsNumbered-at : (rows : List Row) (place number : ℕ) → place < length rows → number ≡ place + 1 → IsNumbered rows number (row_at rows place)
IsNumbered-at rows place number there is = record {
  from_one = omega arith;
  there =
      let before : number - 1 ≡ place = omega arith in
      ap (λ (k : ℕ). slice_get rows k) before ∙ slice_get-get_or rows place (record { terms = []; degree = 0 }) there;
}

-- an entry that a row forces
abbrev pub forced_entry : List Entry → Literal → ℕ → Entry
forced_entry es l number = record { lit = l; level = level_of es; reason = Some number }

pub IsLawful-forced : (rows : List Row) (vars place number k : ℕ) (t : Term) (es : List Entry) → place < length rows → number ≡ place + 1
    → k < length (row_at rows place).terms → t ≡ get_or (row_at rows place).terms k t → 1 ≤ t.lit.var → t.lit.var ≤ vars
    → value_of (values_of es) t.lit ≡ Free → (row_at rows place).degree ≤ reach (values_of es) (row_at rows place).terms
    → reach (values_of es) (row_at rows place).terms < (row_at rows place).degree + t.coef
    → IsLawful rows vars es (forced_entry es t.lit number)
IsLawful-forced rows vars place number k t es there is inside at from_one known free no_conflict needed = record {
  new = record {
    from_one = from_one;
    known = known;
    free = free;
    level = omega (arith, level_of-push es (forced_entry es t.lit number));
  };
  reason = record {
    row = row_at rows place;
    numbered = IsNumbered-at rows place number there is;
    term = t;
    literal = refl;
    forces = record { no_conflict = no_conflict; there = (k, inside, sym at); free = free; needed = needed };
  };
}

no_row : Row
no_row = record { terms = []; degree = 0 }

no_term : Term
no_term = record { coef = 0; lit = record { var = 0; positive = false } }

pub apart_in : (path : SeenPath) (place : ℕ) → AreSound path → place < length path.rows → AreApart (row_at path.rows place).terms
apart_in path place sound there = (sound.proper place (record { terms = []; degree = 0 }) there).variables

-- the terms of a row before a place force nothing, where the row has so much slack
pub record IsForcedUpTo (place slack from : ℕ) (old now : SeenPath) : Type 0 where
  pub grown : IsGrownOver old now
  pub reach_is : (row_at now.rows place).degree + slack ≡ reach (values_of now.entries) (row_at now.rows place).terms
  pub done : IsUnforced (values_of now.entries) (row_at now.rows place).terms slack 0 from

pub IsForcedUpTo-none : (place slack : ℕ) (path : SeenPath) → AreSound path
    → (row_at path.rows place).degree + slack ≡ reach (values_of path.entries) (row_at path.rows place).terms → IsForcedUpTo place slack 0 path path
IsForcedUpTo-none place slack path sound is = record {
  grown = IsGrownOver-none path sound;
  reach_is = is;
  done = λ j d from below free. absurd (omega arith);
}

true_not_free : True ≡ Free → ⊥
true_not_free same = cc

-- the next forced literal is made true
pub IsForcedUpTo-more : (place slack from number : ℕ) (f : Forced) (old now new : SeenPath) → AreSound old → place < length now.rows → number ≡ place + 1 → 1 ≤ f.lit.var
    → IsForcedUpTo place slack from old now → IsForcedIn (values_of now.entries) (row_at now.rows place).terms slack from f
    → new ≡ with_entries now (now.entries ++ forced_entry now.entries f.lit number ∷ []) → IsForcedUpTo place slack (f.place + 1) old new
IsForcedUpTo-more place slack from number f old now new sound there is from_one so_far forced grows =
    subst (λ (p : SeenPath). IsForcedUpTo place slack (f.place + 1) old p) (sym grows) next where
      row : Row
      row = row_at now.rows place

      t : Term
      t = get_or row.terms f.place no_term

      lit_is : t.lit ≡ f.lit
      lit_is = forced.literal no_term

      at : t ≡ get_or row.terms f.place t
      at = get_or_default row.terms f.place no_term t forced.there

      e : Entry
      e = forced_entry now.entries f.lit number

      es : List Entry
      es = now.entries ++ e ∷ []

      values_are : values_of es ≡ set_true (values_of now.entries) f.lit
      values_are = values_of-push now.entries e

      sound_now : AreSound now
      sound_now = AreSound-grown old now sound so_far.grown

      free : value_of (values_of now.entries) t.lit ≡ Free
      free = ap (λ (l : Literal). value_of (values_of now.entries) l) lit_is ∙ forced.free

      known : t.lit.var ≤ now.vars
      known = sound_now.known place (record { terms = []; degree = 0 }) there f.place no_term forced.there

      lawful_t : IsLawful now.rows now.vars now.entries (forced_entry now.entries t.lit number)
      lawful_t = IsLawful-forced now.rows now.vars place number f.place t now.entries there is forced.there at
          (subst (λ (l : Literal). 1 ≤ l.var) (sym lit_is) from_one) known free (omega (arith, so_far.reach_is)) (omega (arith, so_far.reach_is, forced.needed no_term))

      lawful : IsLawful now.rows now.vars now.entries e
      lawful = subst (λ (l : Literal). IsLawful now.rows now.vars now.entries (forced_entry now.entries l number)) lit_is lawful_t

      reach_same : reach (values_of es) row.terms ≡ reach (values_of now.entries) row.terms
      reach_same =
          ap (λ (w : ℕ → Value). reach w row.terms) (values_are ∙ ap (λ (l : Literal). set_true (values_of now.entries) l) (sym lit_is))
          ∙ reach-own (values_of now.entries) row.terms f.place t (apart_in now place sound_now there) forced.there at free

      still_free : (j : ℕ) (d : Term) → value_of (values_of es) (get_or row.terms j d).lit ≡ Free → value_of (values_of now.entries) (get_or row.terms j d).lit ≡ Free
      still_free j d is_free =
          was_free (values_of now.entries) f.lit (get_or row.terms j d).lit forced.free
          (ap (λ (w : ℕ → Value). value_of w (get_or row.terms j d).lit) (sym values_are) ∙ is_free)

      not_here : (j : ℕ) (d : Term) → j ≡ f.place → value_of (values_of es) (get_or row.terms j d).lit ≡ Free → ⊥
      not_here j d here is_free =
          let lit : (get_or row.terms j d).lit ≡ f.lit = ap (λ (i : ℕ). (get_or row.terms i d).lit) here ∙ forced.literal d in
          true_not_free (sym (value_of-same (values_of now.entries) f.lit forced.free)
          ∙ ap (λ (w : ℕ → Value). value_of w f.lit) (sym values_are)
          ∙ ap (λ (l : Literal). value_of (values_of es) l) (sym lit) ∙ is_free)

      next : IsForcedUpTo place slack (f.place + 1) old (with_entries now es)
      next = record {
        grown = record {
          same = ap (λ (p : SeenPath). with_entries p es) so_far.grown.same;
          grown = IsGrown-push old.entries now.entries e so_far.grown.grown refl;
          lawful =
              subst (λ (p : SeenPath). AreLawful p.rows p.vars es) so_far.grown.same
              (each-push (IsLawful now.rows now.vars) now.entries e sound_now.lawful lawful);
        };
        reach_is = so_far.reach_is ∙ sym reach_same;
        done = λ j d past below is_free.
            elim (cases_lt j from) [
              | inl before ↦ so_far.done j d (omega arith) before (still_free j d is_free)
              | inr later ↦ elim (cases_lt j f.place) [
                | inl before ↦ forced.before j d later before (still_free j d is_free)
                | inr here ↦ absurd (not_here j d (omega arith) is_free)
              ]
            ];
      }

-- no term forces anything
pub IsQuietRow-forced : (place slack from : ℕ) (old now : SeenPath) → IsForcedUpTo place slack from old now
    → IsUnforced (values_of now.entries) (row_at now.rows place).terms slack from (length (row_at now.rows place).terms)
    → IsQuietRow (values_of now.entries) (row_at now.rows place)
IsQuietRow-forced place slack from old now so_far rest = record {
  no_conflict = omega (arith, so_far.reach_is);
  none_forced = λ j d inside is_free.
      let small : (get_or (row_at now.rows place).terms j d).coef ≤ slack =
      elim (cases_lt j from) [
        | inl before ↦ so_far.done j d (omega arith) before is_free
        | inr later ↦ rest j d later inside is_free
      ] in
      omega (arith, so_far.reach_is);
}

-- ---- rows that wait

-- a literal more is true whose negation the row lacks
pub quiet-push : (row : Row) (before : List Entry) (e : Entry) → value_of (values_of before) e.lit ≡ Free → Lacks (negate e.lit) row.terms
    → IsQuietRow (values_of before) row → IsQuietRow (values_of (before ++ e ∷ [])) row
quiet-push row before e free lacks quiet =
    let next : IsQuietRow (set_true (values_of before) e.lit) row = record {
      no_conflict = omega (arith, reach-lacks (values_of before) e.lit row.terms free lacks, quiet.no_conflict);
      none_forced = λ j d inside is_free.
          omega (
            arith,
            reach-lacks (values_of before) e.lit row.terms free lacks,
            quiet.none_forced j d inside (was_free (values_of before) e.lit (get_or row.terms j d).lit free is_free),
          );
    } in
    subst (λ (w : ℕ → Value). IsQuietRow w row) (sym (values_of-push before e)) next

-- no entry from a place on makes one of these literals false
abbrev pub NoneFalse : List Term → List Entry → ℕ → Type 0
NoneFalse terms es from = (j : ℕ) (d : Entry) → from ≤ j → j < length es → Lacks (negate (get_or es j d).lit) terms

pub quiet-steps : (row : Row) (vars : ℕ) (es : List Entry) (m n : ℕ) → EachEntry (IsNew vars) es → m + n ≤ length es → NoneFalse row.terms es m
    → IsQuietRow (values_of (take m es)) row → IsQuietRow (values_of (take (m + n) es)) row
quiet-steps row vars es m zero each within none quiet =
    let same : m ≡ m + zero = omega arith in
    subst (λ (k : ℕ). IsQuietRow (values_of (take k es)) row) same quiet
quiet-steps row vars es m (suc n) each within none quiet =
    let there : m < length es = omega arith in
    let e : Entry = get_or es m (record { lit = record { var = 0; positive = true }; level = 0; reason = None }) in
    let step : IsQuietRow (values_of (take m es ++ e ∷ [])) row =
    quiet-push row (take m es) e (each m _ there).free (none m _ (omega arith) there) quiet in
    let next : IsQuietRow (values_of (take (m + 1) es)) row =
    subst (λ (xs : List Entry). IsQuietRow (values_of xs) row) (sym (take_more es m _ there)) step in
    let sums : m + 1 + n ≡ m + suc n = omega arith in
    subst (λ (k : ℕ). IsQuietRow (values_of (take k es)) row) sums
    (quiet-steps row vars es (m + 1) n each (omega arith) (λ j d past inside. none j d (omega arith) inside) next)

-- entries that are lawful are new
pub news : (rows : List Row) (vars : ℕ) (es : List Entry) → AreLawful rows vars es → EachEntry (IsNew vars) es
news rows vars es lawful = each-weaker (IsLawful rows vars) (IsNew vars) es (λ before e is. is.new) lawful

-- rows that wait still wait where entries came
pub seen-grown : (row : Row) (rows : List Row) (vars : ℕ) (old new : List Entry) (from : ℕ) → from ≤ length old → AreLawful rows vars new → IsGrown old new
    → IsSeen row old from → IsSeen row new from
seen-grown row rows vars old new from within lawful grown seen = λ none.
    let quiet : IsQuietRow (values_of old) row = seen (λ j d past inside.
    subst (λ (e : Entry). Lacks (negate e.lit) row.terms)
    (sym (get_or-take (length old) new j d inside) ∙ ap (λ (es : List Entry). get_or es j d) grown.kept)
    (none j d past (omega (arith, grown.longer)))) in
    let sums : length old + (length new - length old) ≡ length new = omega (arith, grown.longer) in
    subst (λ (es : List Entry). IsQuietRow (values_of es) row) (take_all (length new) new (omega arith))
    (subst (λ (k : ℕ). IsQuietRow (values_of (take k new)) row) sums
    (quiet-steps row vars new (length old) (length new - length old) (news rows vars new lawful) (omega (arith, grown.longer))
    (λ j d past inside. none j d (omega arith) inside)
    (subst (λ (es : List Entry). IsQuietRow (values_of es) row) (sym grown.kept) quiet)))

-- a row that the next entry doesn't touch
pub seen-next : (row : Row) (es : List Entry) (from : ℕ) → ((d : Entry) → Lacks (negate (get_or es from d).lit) row.terms) → IsSeen row es from → IsSeen row es (from + 1)
seen-next row es from lacks seen = λ none.
    seen (λ j d past inside. elim (cases_lt from j) [
      | inl later ↦ none j d (omega arith) inside
      | inr here ↦
          let is : from ≡ j = omega arith in
          subst (λ (i : ℕ). Lacks (negate (get_or es i d).lit) row.terms) is (lacks d)
    ])

-- ---- how far a path was looked at

pub ready-entries : (path : SeenPath) (looked : Looked) (es : List Entry) → IsReady path looked → IsGrown path.entries es → AreLawful path.rows path.vars es
    → IsReady (with_entries path es) looked
ready-entries path looked es ready grown lawful = record {
  sound = record {
    proper = ready.sound.proper;
    known = ready.sound.known;
    lawful = lawful;
    given = ready.sound.given;
    clauses = ready.sound.clauses;
  };
  entries = omega (arith, ready.entries, grown.longer);
  rows = ready.rows;
  seen = λ k below. seen-grown (row_at path.rows k) path.rows path.vars path.entries es looked.entries ready.entries lawful grown (ready.seen k below);
}

pub IsReady-grown : (old new : SeenPath) (looked : Looked) → IsReady old looked → IsGrownOver old new → IsReady new looked
IsReady-grown old new looked ready grown =
    subst (λ (p : SeenPath). IsReady p looked) (sym grown.same) (ready-entries old looked new.entries ready grown.grown grown.lawful)

-- the next row is quiet
pub IsReady-row : (path : SeenPath) (old new : Looked) → IsReady path old → old.rows < length path.rows → IsQuietRow (values_of path.entries) (row_at path.rows old.rows)
    → new ≡ record old { rows = old.rows + 1 } → IsReady path new
IsReady-row path old new ready there quiet is =
    let next : IsReady path (record old { rows = old.rows + 1 }) = record {
      sound = ready.sound;
      entries = ready.entries;
      rows = omega arith;
      seen = λ k below. elim (cases_lt k old.rows) [
        | inl before ↦ ready.seen k before
        | inr past ↦
            let here : old.rows ≡ k = omega arith in
            subst (λ (i : ℕ). IsSeen (row_at path.rows i) path.entries old.entries) here (λ none. quiet)
      ];
    } in
    subst (λ (l : Looked). IsReady path l) (sym is) next

-- nothing waits
pub IsQuiet-ready : (path : SeenPath) (looked : Looked) → IsReady path looked → length path.entries ≤ looked.entries → looked.rows ≡ length path.rows
    → IsQuiet (values_of path.entries) path.rows
IsQuiet-ready path looked ready entries rows =
    All-from_get_or (IsQuietRow (values_of path.entries)) path.rows (record { terms = []; degree = 0 })
    (λ j inside. ready.seen j (omega (arith, rows)) (λ i d past within. absurd (omega arith)))

pub NamesConflict-at : (rows : List Row) (values : ℕ → Value) (place : ℕ) (conflict : Conflict) → place < length rows → conflict ≡ record { row = place + 1 }
    → IsInConflict values (row_at rows place) → NamesConflict rows values conflict
NamesConflict-at rows values place conflict there is in_conflict =
    let named : NamesConflict rows values (record { row = place + 1 }) = record {
      row = row_at rows place;
      numbered = IsNumbered-at rows place (place + 1) there refl;
      conflict_is = in_conflict;
    } in
    subst (λ (c : Conflict). NamesConflict rows values c) (sym is) named

-- ---- the rows of one entry

-- Of the rows in which the literal stands, those from a bound on no longer wait for this entry.
pub record IsVisiting (old now : SeenPath) (looked : Looked) (l : Literal) (at : ℕ) : Type 0 where
  pub grown : IsGrownOver old now
  pub ready : IsReady now looked
  pub there : looked.entries < length now.entries
  pub literal : (d : Entry) → negate (get_or now.entries looked.entries d).lit ≡ l
  pub bound : ℕ
  pub within : bound ≤ now.given
  pub listed : IsListed now.rows now.given l (links_of now.lists l)
  pub leads : LeadsBelow now.rows (links_of now.lists l) l bound at
  pub above : (k : ℕ) → bound ≤ k → k < now.given → k < looked.rows → IsSeen (row_at now.rows k) now.entries (looked.entries + 1)

pub IsVisiting-none : (path : SeenPath) (looked : Looked) (l : Literal) (at : ℕ) → IsReady path looked → looked.entries < length path.entries
    → ((d : Entry) → negate (get_or path.entries looked.entries d).lit ≡ l) → IsListed path.rows path.given l (links_of path.lists l) → at ≡ length (links_of path.lists l) → IsVisiting path path looked l at
IsVisiting-none path looked l at ready there is listed count = record {
  grown = IsGrownOver-none path ready.sound;
  ready = ready;
  there = there;
  literal = is;
  bound = path.given;
  within = omega arith;
  listed = listed;
  leads = subst (λ (n : ℕ). LeadsBelow path.rows (links_of path.lists l) l path.given n) (sym count) listed.all;
  above = λ k past inside below. absurd (omega arith);
}

-- the next row of a literal
pub visiting_last : (old now : SeenPath) (looked : Looked) (l : Literal) (at : ℕ) (x : Link) → (visiting : IsVisiting old now looked l at) → 0 < at → x ≡ get_or (links_of now.lists l) (at - 1) x
    → IsLastBelow now.rows l visiting.bound x
visiting_last old now looked l at x visiting some read =
    subst (λ (y : Link). IsLastBelow now.rows l visiting.bound y) (sym read) (visiting.leads.some (at - 1) x (omega arith))

lacked : (row : Row) (es : List Entry) (from : ℕ) (l : Literal) → ((d : Entry) → negate (get_or es from d).lit ≡ l) → Lacks l row.terms → IsSeen row es from → IsSeen row es (from + 1)
lacked row es from l is lacks seen = seen-next row es from (λ d. subst (λ (m : Literal). Lacks m row.terms) (sym (is d)) lacks) seen

-- one row more was looked at
pub IsVisiting-more : (old now new : SeenPath) (looked : Looked) (l : Literal) (at : ℕ) (link : Link) → IsVisiting old now looked l at → 0 < at → link ≡ get_or (links_of now.lists l) (at - 1) link
    → IsGrownOver now new → IsQuietRow (values_of new.entries) (row_at new.rows link.row) → IsVisiting old new looked l (at - 1)
IsVisiting-more old now new looked l at link visiting some read grown quiet =
    subst (λ (p : SeenPath). IsVisiting old p looked l (at - 1)) (sym grown.same) next where
      es : List Entry
      es = new.entries

      last : IsLastBelow now.rows l visiting.bound link
      last = visiting_last old now looked l at link visiting some read

      quiet_now : IsQuietRow (values_of es) (row_at now.rows link.row)
      quiet_now = subst (λ (p : SeenPath). IsQuietRow (values_of es) (row_at p.rows link.row)) grown.same quiet

      grow : (k : ℕ) → IsSeen (row_at now.rows k) now.entries (looked.entries + 1) → IsSeen (row_at now.rows k) es (looked.entries + 1)
      grow k seen = seen-grown (row_at now.rows k) now.rows now.vars now.entries es (looked.entries + 1) (omega (arith, visiting.there)) grown.lawful grown.grown seen

      next : IsVisiting old (with_entries now es) looked l (at - 1)
      next = record {
        grown = record {
          same = ap (λ (p : SeenPath). with_entries p es) visiting.grown.same;
          grown = IsGrown-trans old.entries now.entries es visiting.grown.grown grown.grown;
          lawful = subst (λ (p : SeenPath). AreLawful p.rows p.vars es) visiting.grown.same grown.lawful;
        };
        ready = ready-entries now looked es visiting.ready grown.grown grown.lawful;
        there = omega (arith, visiting.there, grown.grown.longer);
        literal = λ d.
            ap (λ (e : Entry). negate e.lit)
            (sym (get_or-take (length now.entries) es looked.entries d visiting.there) ∙ ap (λ (xs : List Entry). get_or xs looked.entries d) grown.grown.kept)
            ∙ visiting.literal d;
        bound = link.row;
        within = omega (arith, last.below, visiting.within);
        listed = visiting.listed;
        leads =
            subst (λ (x : Link). LeadsBelow now.rows (links_of now.lists l) l x.row (at - 1)) (sym read)
            (visiting.listed.each (at - 1) link (omega (arith, visiting.leads.within)));
        above = λ k past inside below. elim (cases_lt link.row k) [
          | inl later ↦ elim (cases_lt k visiting.bound) [
            | inl between ↦
                grow k (lacked (row_at now.rows k) now.entries looked.entries l visiting.literal (last.between k later between) (visiting.ready.seen k below))
            | inr above ↦ grow k (visiting.above k above inside below)
          ]
          | inr here ↦
              let is : link.row ≡ k = omega arith in
              subst (λ (i : ℕ). IsSeen (row_at now.rows i) es (looked.entries + 1)) is (λ none. quiet_now)
        ];
      }

-- rows that are quiet are passed over
pub IsVisiting-past : (old now : SeenPath) (looked : Looked) (l : Literal) (to n : ℕ) → IsVisiting old now looked l (to + n)
    → ((i : ℕ) (d : Link) → to ≤ i → i < to + n → IsQuietRow (values_of now.entries) (row_at now.rows (get_or (links_of now.lists l) i d).row)) → IsVisiting old now looked l to
IsVisiting-past old now looked l to zero visiting quiet =
    let same : to + zero ≡ to = omega arith in
    subst (λ (at : ℕ). IsVisiting old now looked l at) same visiting
IsVisiting-past old now looked l to (suc n) visiting quiet =
    let no_link : Link = record { row = 0; coef = 0 } in
    let link : Link = get_or (links_of now.lists l) (to + n) no_link in
    let place : to + suc n - 1 ≡ to + n = omega arith in
    let within : to + n < length (links_of now.lists l) = omega (arith, visiting.leads.within) in
    let read : link ≡ get_or (links_of now.lists l) (to + suc n - 1) link =
    get_or_default (links_of now.lists l) (to + n) no_link link within ∙ ap (λ (i : ℕ). get_or (links_of now.lists l) i link) (sym place) in
    let next : IsVisiting old now looked l (to + suc n - 1) =
    IsVisiting-more old now now looked l (to + suc n) link visiting (omega arith) read (IsGrownOver-none now visiting.ready.sound) (quiet (to + n) no_link (omega arith) (omega arith)) in
    IsVisiting-past old now looked l to n (subst (λ (at : ℕ). IsVisiting old now looked l at) place next)
    (λ i d from before. quiet i d from (omega arith))

-- the links that are left
pub IsVisiting-left : (old now : SeenPath) (looked : Looked) (l : Literal) (at to : ℕ) → to ≤ at → IsVisiting old now looked l at
    → ((i : ℕ) (d : Link) → to ≤ i → i < at → IsQuietRow (values_of now.entries) (row_at now.rows (get_or (links_of now.lists l) i d).row)) → IsVisiting old now looked l to
IsVisiting-left old now looked l at to within visiting quiet =
    let sums : to + (at - to) ≡ at = omega arith in
    IsVisiting-past old now looked l to (at - to) (subst (λ (n : ℕ). IsVisiting old now looked l n) (sym sums) visiting)
    (λ i d from before. quiet i d from (omega arith))

-- all rows of the entry were
pub AreGivenSeen-end : (old now : SeenPath) (looked : Looked) (l : Literal) (at : ℕ) → IsVisiting old now looked l at → at ≡ 0 → AreGivenSeen now looked
AreGivenSeen-end old now looked l at visiting ended = λ k inside below.
    elim (cases_lt k visiting.bound) [
      | inl before ↦ lacked (row_at now.rows k) now.entries looked.entries l visiting.literal (visiting.leads.none ended k before) (visiting.ready.seen k below)
      | inr past ↦ visiting.above k past inside below
    ]

-- ---- the trail's other calls

slice_get-append : {X : Type 0} (xs ys : List X) (k : ℕ) (x : X) → slice_get xs k ≡ Some x → slice_get (xs ++ ys) k ≡ Some x
slice_get-append [] ys k x is = absurd (none-some x is)
slice_get-append (y ∷ xs) ys zero x is = is
slice_get-append (y ∷ xs) ys (suc k) x is = slice_get-append xs ys k x is

forced_among : (rows more : List Row) (before : List Entry) (lit : Literal) (number : ℕ) → IsForcedBy rows before lit number → IsForcedBy (rows ++ more) before lit number
forced_among rows more before lit number by = record {
  row = by.row;
  numbered = record {
    from_one = by.numbered.from_one;
    there = slice_get-append rows more (number - 1) by.row by.numbered.there;
  };
  term = by.term;
  literal = by.literal;
  forces = by.forces;
}

-- what is lawful over rows is so where more rows come
pub AreLawful-more : (rows more : List Row) (vars : ℕ) (es : List Entry) → AreLawful rows vars es → AreLawful (rows ++ more) vars es
AreLawful-more rows more vars es lawful =
    each-weaker (IsLawful rows vars) (IsLawful (rows ++ more) vars) es (λ before e is. record {
      new = is.new;
      reason = IfSome_then e.reason is.reason (λ number by. forced_among rows more before e.lit number by);
    }) lawful

pub forced_known : (path : SeenPath) (place slack from : ℕ) (f : Forced) → AreSound path → place < length path.rows
    → IsForcedIn (values_of path.entries) (row_at path.rows place).terms slack from f → f.lit.var ≤ path.vars
forced_known path place slack from f sound there forced =
    subst (λ (l : Literal). l.var ≤ path.vars) (forced.literal no_term) (sound.known place (record { terms = []; degree = 0 }) there f.place no_term forced.there)
