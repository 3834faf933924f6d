-- Entries that are added at the end, or taken off there.
use Rattle.std.proofs.Common.{◌≡◌, ℕ, ◌+◌, ◌-◌, ◌<◌, ◌≤◌, Bool, true, false, cond, List, [], ◌∷◌, ◌++◌, length, get_or, take, map, None}
use Rattle.std.proofs.Common.{refl, inl, inr, arith, ap, sym, subst, ◌∙◌}
use Rattle.std.proofs.lemmas.Bool.{cases_lt, false≢true}
use Rattle.std.proofs.lemmas.List.{get_or-take, get_or_append_left, get_or_push, length-take-le, length_push, map-append, take-append-le, take-take, take_all, take_at, take_more}
use Rattle.std.proofs.lemmas.List.Sums.{count_by-le-length, fold_push, sum_by_push, sum_by-take-le}
use Rattle.std.proofs.lemmas.List.Elements.{All-push}
use Rattle.rows.specs.Partials.{IsQuiet, IsQuietRow}
use Rattle.rows.specs.Forcing.{all_set, set_true}
use Rattle.rows.specs.Rows.{Row}
use Rattle.rows.specs.declared.partial.Value.TheVariants.{Free}
use Rattle.propagate.specs.Trails.{EachEntry, IsBackTo, IsGrown, IsQuietBelow, IsQuietRowBelow, is_decision, level_of, values_of}
use Rattle.propagate.specs.declared.entry.Entry.{Entry}

-- ---- values and levels

-- what holds of each entry, with one entry more literal is true
pub values_of-push : (es : List Entry) (e : Entry) → values_of (es ++ e ∷ []) ≡ set_true (values_of es) e.lit
values_of-push es e =
    ap (λ ls. all_set (λ v. Free) ls) (map-append (λ (e : Entry). e.lit) es (e ∷ []))
    ∙ fold_push set_true (λ v. Free) (map (λ e. e.lit) es) e.lit

pub level_of-push : (es : List Entry) (e : Entry) → level_of (es ++ e ∷ []) ≡ level_of es + cond (is_decision e) 1 0
level_of-push es e = sum_by_push (λ x. cond (is_decision x) 1 0) es e

pub level_of-take_le : (es : List Entry) (n : ℕ) → level_of (take n es) ≤ level_of es
level_of-take_le es n = sum_by-take-le (λ x. cond (is_decision x) 1 0) es n

-- ---- each entry

pub each-nil : (P : List Entry → Entry → Type 0) → EachEntry P []
each-nil P = λ k d within. absurd (omega arith)

-- an entry of a longer list that stands in the front
abbrev At : (List Entry → Entry → Type 0) → List Entry → ℕ → Entry → Type 0
At P es k d = P (take k es) (get_or es k d)

at_front : (P : List Entry → Entry → Type 0) (es more : List Entry) (k : ℕ) (d : Entry) → k < length es → At P es k d → At P (es ++ more) k d
at_front P es more k d within at =
    subst (λ front. P front (get_or (es ++ more) k d)) (sym (take-append-le k es more (omega arith)))
    (subst (λ x. P (take k es) x) (sym (get_or_append_left es more d k within)) at)

at_end : (P : List Entry → Entry → Type 0) (es : List Entry) (e d : Entry) (k : ℕ) → k ≡ length es → P es e → At P (es ++ e ∷ []) k d
at_end P es e d k end new =
    subst (λ front. P front (get_or (es ++ e ∷ []) k d)) (sym (take_at es (e ∷ []) k (sym end)))
    (subst (λ x. P es x) (sym (get_or_push es e d k (sym end))) new)

-- one more
pub each-push : (P : List Entry → Entry → Type 0) (es : List Entry) (e : Entry) → EachEntry P es → P es e → EachEntry P (es ++ e ∷ [])
each-push P es e each new = λ k d within.
    elim (cases_lt k (length es)) [
      | inl front ↦ at_front P es (e ∷ []) k d front (each k d front)
      | inr past ↦ at_end P es e d k (omega (arith, length_push es e)) new
    ]

at_taken : (P : List Entry → Entry → Type 0) (es : List Entry) (n k : ℕ) (d : Entry) → k < n → At P es k d → At P (take n es) k d
at_taken P es n k d below at =
    subst (λ front. P front (get_or (take n es) k d)) (sym (take-take k n es (omega arith)))
    (subst (λ x. P (take k es) x) (sym (get_or-take n es k d below)) at)

from_taken : (P : List Entry → Entry → Type 0) (es : List Entry) (n k : ℕ) (d : Entry) → k < n → At P (take n es) k d → At P es k d
from_taken P es n k d below at =
    subst (λ front. P front (get_or es k d)) (take-take k n es (omega arith))
    (subst (λ x. P (take k (take n es)) x) (get_or-take n es k d below) at)

-- what holds of each entry holds of those in front
pub each-take : (P : List Entry → Entry → Type 0) (es : List Entry) (n : ℕ) → n ≤ length es → EachEntry P es → EachEntry P (take n es)
each-take P es n inside each = λ k d within.
    let below : k < n = omega (arith, length-take-le n es inside) in
    at_taken P es n k d below (each k d (omega arith))

pub each-weaker : (P Q : List Entry → Entry → Type 0) (es : List Entry) → ((before : List Entry) (e : Entry) → P before e → Q before e) → EachEntry P es → EachEntry Q es
each-weaker P Q es weaker each = λ k d within. weaker (take k es) (get_or es k d) (each k d within)

-- ---- entries with reasons that were added

pub IsGrown-none : (es : List Entry) → IsGrown es es
IsGrown-none es = record {
  longer = omega arith;
  kept = take_all (length es) es (omega arith);
  forced = λ k d from within. absurd (omega arith);
}

pub IsGrown-push : (old now : List Entry) (e : Entry) → IsGrown old now → is_decision e ≡ false → IsGrown old (now ++ e ∷ [])
IsGrown-push old now e grown forced = record {
  longer = omega (arith, length_push now e, grown.longer);
  kept = take-append-le (length old) now (e ∷ []) grown.longer ∙ grown.kept;
  forced = λ k d from within.
      elim (cases_lt k (length now)) [
        | inl front ↦ ap is_decision (get_or_append_left now (e ∷ []) d k front) ∙ grown.forced k d from front
        | inr past ↦ ap is_decision (get_or_push now e d k (omega (arith, length_push now e))) ∙ forced
      ];
}

pub IsGrown-trans : (old mid now : List Entry) → IsGrown old mid → IsGrown mid now → IsGrown old now
IsGrown-trans old mid now first then = record {
  longer = omega (arith, first.longer, then.longer);
  kept = sym (take-take (length old) (length mid) now first.longer) ∙ ap (λ es. take (length old) es) then.kept ∙ first.kept;
  forced = λ k d from within.
      elim (cases_lt k (length mid)) [
        | inl front ↦
            ap is_decision (sym (get_or-take (length mid) now k d front) ∙ ap (λ es. get_or es k d) then.kept)
            ∙ first.forced k d from front
        | inr past ↦ then.forced k d past within
      ];
}

-- as many entries are the same entries
pub IsGrown-same : (old now : List Entry) → IsGrown old now → length now ≡ length old → now ≡ old
IsGrown-same old now grown same = sym (take_all (length old) now (omega arith)) ∙ grown.kept

-- what holds of each old entry and of each added one
pub each-grown : (P : List Entry → Entry → Type 0) (old now : List Entry) → IsGrown old now → EachEntry P old
    → ((before : List Entry) (e : Entry) → is_decision e ≡ false → P before e) → EachEntry P now
each-grown P old now grown each added = λ k d within.
    elim (cases_lt k (length old)) [
      | inl front ↦
          from_taken P now (length old) k d front
          (subst (λ es. At P es k d) (sym grown.kept) (each k d front))
      | inr past ↦ added (take k now) (get_or now k d) (grown.forced k d past within)
    ]

-- ---- before each decision the rows were quiet

abbrev QuietBefore : List Row → List Entry → Entry → Type 0
QuietBefore rows before e = is_decision e ≡ true → IsQuiet (values_of before) rows

-- no decision came
pub quiet_below-grown : (rows : List Row) (old now : List Entry) → IsGrown old now → IsQuietBelow rows old → IsQuietBelow rows now
quiet_below-grown rows old now grown quiet =
    each-grown (QuietBefore rows) old now grown quiet (λ before e forced decision. absurd (false≢true (sym forced ∙ decision)))

-- a decision came where the rows were quiet
pub quiet_below-push : (rows : List Row) (old now : List Entry) (e : Entry) → now ≡ old ++ e ∷ [] → IsQuiet (values_of old) rows → IsQuietBelow rows old → IsQuietBelow rows now
quiet_below-push rows old now e is quiet below =
    subst (λ (es : List Entry). IsQuietBelow rows es) (sym is) (each-push (QuietBefore rows) old e below (λ decision. quiet))

-- entries were taken off
pub quiet_below-back : (rows : List Row) (level : ℕ) (old now : List Entry) → IsBackTo level old now → IsQuietBelow rows old → IsQuietBelow rows now
quiet_below-back rows level old now back below =
    subst (λ (es : List Entry). IsQuietBelow rows es) (sym back.front) (each-take (QuietBefore rows) old (length now) back.shorter below)

-- a row came that was quiet too
pub quiet_below-add : (rows new : List Row) (row : Row) (es : List Entry) → new ≡ rows ++ row ∷ [] → IsQuietBelow rows es → IsQuietRowBelow row es → IsQuietBelow new es
quiet_below-add rows new row es is below calm =
    subst (λ (rs : List Row). IsQuietBelow rs es) (sym is)
    (λ k d within decision. All-push (IsQuietRow (values_of (take k es))) rows row (below k d within decision) (calm k d within decision))

-- ---- the same of one row

abbrev QuietRowBefore : Row → List Entry → Entry → Type 0
QuietRowBefore row before e = is_decision e ≡ true → IsQuietRow (values_of before) row

pub quiet_row_below-grown : (row : Row) (old now : List Entry) → IsGrown old now → IsQuietRowBelow row old → IsQuietRowBelow row now
quiet_row_below-grown row old now grown quiet =
    each-grown (QuietRowBefore row) old now grown quiet (λ before e forced decision. absurd (false≢true (sym forced ∙ decision)))

pub quiet_row_below-push : (row : Row) (old : List Entry) (e : Entry) → IsQuietRow (values_of old) row → IsQuietRowBelow row old → IsQuietRowBelow row (old ++ e ∷ [])
quiet_row_below-push row old e quiet below = each-push (QuietRowBefore row) old e below (λ decision. quiet)

pub quiet_row_below-back : (row : Row) (level : ℕ) (old now : List Entry) → IsBackTo level old now → IsQuietRowBelow row old → IsQuietRowBelow row now
quiet_row_below-back row level old now back below =
    subst (λ (es : List Entry). IsQuietRowBelow row es) (sym back.front) (each-take (QuietRowBefore row) old (length now) back.shorter below)

-- ---- entries that are taken off, one by one

-- down to a level or less
pub record IsBackUpTo (level : ℕ) (old now : List Entry) : Type 0 where
  pub shorter : length now ≤ length old
  pub front : now ≡ take (length now) old
  pub at_least : level ≤ level_of now
  pub above : length now < length old → level < level_of (take (length now + 1) old)

pub IsBackUpTo-none : (level : ℕ) (old : List Entry) → level ≤ level_of old → IsBackUpTo level old old
IsBackUpTo-none level old at_least = record {
  shorter = omega arith;
  front = sym (take_all (length old) old (omega arith));
  at_least = at_least;
  above = λ less. absurd (omega arith);
}

one_at_most : (b : Bool) → cond b 1 0 ≤ 1
one_at_most true = omega arith
one_at_most false = omega arith

-- the level of one entry more
pub level_of-more : (es : List Entry) (k : ℕ) (d : Entry) → k < length es → level_of (take (k + 1) es) ≡ level_of (take k es) + cond (is_decision (get_or es k d)) 1 0
level_of-more es k d within = ap level_of (take_more es k d within) ∙ level_of-push (take k es) (get_or es k d)

pub no_entry : Entry
no_entry = record { lit = record { var = 0; positive = true }; level = 0; reason = None }

-- there is an entry where there is a decision
pub entries-some : (level : ℕ) (es : List Entry) → level < level_of es → 1 ≤ length es
entries-some level es below = omega (arith, count_by-le-length is_decision es)

pub IsBackUpTo-more : (level : ℕ) (old now new : List Entry) → IsBackUpTo level old now → level < level_of now → new ≡ take (length now - 1) now → IsBackUpTo level old new
IsBackUpTo-more level old now new back below is =
    let some : 1 ≤ length now = entries-some level now below in
    let new_length : length new ≡ length now - 1 = ap length is ∙ length-take-le (length now - 1) now (omega arith) in
    let again : length new + 1 ≡ length now = omega arith in
    let level_is : level_of now ≡ level_of new + cond (is_decision (get_or now (length now - 1) no_entry)) 1 0 =
    ap level_of (sym (take_all (length now - 1 + 1) now (omega arith)))
    ∙ level_of-more now (length now - 1) no_entry (omega arith)
    ∙ ap (λ (es : List Entry). level_of es + cond (is_decision (get_or now (length now - 1) no_entry)) 1 0) (sym is) in
    record {
      shorter = omega (arith, back.shorter);
      front =
          is ∙ ap (λ (es : List Entry). take (length now - 1) es) back.front
          ∙ take-take (length now - 1) (length now) old (omega arith)
          ∙ ap (λ (n : ℕ). take n old) (sym new_length);
      at_least = omega (arith, level_is, one_at_most (is_decision (get_or now (length now - 1) no_entry)));
      above = λ less. subst (λ (es : List Entry). level < level_of es) (back.front ∙ ap (λ (n : ℕ). take n old) (sym again)) below;
    }

decides : (b : Bool) (level : ℕ) → level < level + cond b 1 0 → b ≡ true
decides true level more = refl
decides false level more = absurd (omega arith)

pub IsBackTo-end : (level : ℕ) (old now : List Entry) → IsBackUpTo level old now → level_of now ≤ level → IsBackTo level old now
IsBackTo-end level old now back at_most = record {
  shorter = back.shorter;
  front = back.front;
  level_is = omega (arith, back.at_least);
  next = λ d less.
      let level_is : level_of (take (length now) old) ≡ level = ap level_of (sym back.front) ∙ omega (arith, back.at_least) in
      decides (is_decision (get_or old (length now) d)) level
      (omega (arith, back.above less, level_is, level_of-more old (length now) d less));
}

-- ---- what is left

-- fewer decisions are fewer entries
pub IsBackTo-less : (level : ℕ) (old now : List Entry) → IsBackTo level old now → level < level_of old → length now < length old
IsBackTo-less level old now back less =
    elim (cases_lt (length now) (length old)) [
      | inl below ↦ below
      | inr all ↦ absurd (omega (arith, back.level_is, ap level_of (back.front ∙ take_all (length now) old all)))
    ]

-- the rows were quiet where they were so before each decision
pub quiet-back : (rows : List Row) (level : ℕ) (old now : List Entry) → IsBackTo level old now → level < level_of old → IsQuietBelow rows old → IsQuiet (values_of now) rows
quiet-back rows level old now back less below =
    let shorter : length now < length old = IsBackTo-less level old now back less in
    subst (λ (es : List Entry). IsQuiet (values_of es) rows) (sym back.front) (below (length now) no_entry shorter (back.next no_entry shorter))

pub quiet_row-back : (row : Row) (level : ℕ) (old now : List Entry) → IsBackTo level old now → level < level_of old → IsQuietRowBelow row old → IsQuietRow (values_of now) row
quiet_row-back row level old now back less below =
    let shorter : length now < length old = IsBackTo-less level old now back less in
    subst (λ (es : List Entry). IsQuietRow (values_of es) row) (sym back.front) (below (length now) no_entry shorter (back.next no_entry shorter))

-- nothing was taken off
pub IsBackTo-none : (level : ℕ) (es : List Entry) → level ≡ level_of es → IsBackTo level es es
IsBackTo-none level es is = record {
  shorter = omega arith;
  front = sym (take_all (length es) es (omega arith));
  level_is = sym is;
  next = λ d less. absurd (omega arith);
}

-- at level 0 there is no decision
pub none_decided : (es : List Entry) (k : ℕ) (d : Entry) → level_of es ≡ 0 → k < length es → is_decision (get_or es k d) ≡ true → ⊥
none_decided es k d none within decided =
    absurd (omega (
      arith,
      level_of-more es k d within,
      ap {B = ℕ} (λ (b : Bool). cond b 1 0) decided,
      level_of-take_le es (k + 1),
    ))

pub quiet_row_below-none : (row : Row) (es : List Entry) → level_of es ≡ 0 → IsQuietRowBelow row es
quiet_row_below-none row es none = λ k d within decided. absurd (none_decided es k d none within decided)
