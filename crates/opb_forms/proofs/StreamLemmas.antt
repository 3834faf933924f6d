-- Texts on their way to a sink, one after another.
use Rattle.std.proofs.Common.{◌≡◌, ℕ, zero, suc, ◌+◌, ◌<◌, ◌≤◌, List, [], ◌∷◌, ◌++◌, length, get_or, take, drop, append_assoc, append-nil}
use Rattle.std.proofs.Common.{refl, sym, ap, ◌∙◌, subst, arith, Option, Result, Ok, Err}
use Rattle.std.specs.Prelude.{IfSome, OnErr, OnOk, slice_get}
use Rattle.std.specs.Io.KnownBytes.{Appends}
use Rattle.std.proofs.KnownBytes.{Appends-nil, Appends-trans}
use Rattle.std.proofs.Math.Seq.{take-append-add}
use Rattle.std.specs.List.{All, flat_map}
use Rattle.std.proofs.lemmas.List.{flat_map_more, length-append, take-append-drop, take-append-le, take_more}
use Rattle.std.proofs.lemmas.List.Concat.{flat_map-append}
use Rattle.std.proofs.lemmas.List.Elements.{All-more}
use Rattle.robin_io.specs.Written.{AppendsPrefix}
use Rattle.robin_io.specs.declared.failed.Failed.{Failed}
use Rattle.robin_io.specs.declared.sink.Sink as sink
use Rattle.rows.specs.Rows.{Row}
use Rattle.rows.specs.declared.lit.Term.{Term}
use Rattle.opb_forms.specs.Streams.{Goes, Sends}

abbrev pub Known : Type 0
Known = Option (List ℕ)

-- ---- lists

-- what two texts put together are, where a part was taken of the first
joined : (taken rest more waits waited first second : List ℕ) → taken ++ rest ≡ waited ++ first
    → more ++ waits ≡ rest ++ second → (taken ++ more) ++ waits ≡ waited ++ (first ++ second)
joined taken rest more waits waited first second one two =
    append_assoc taken more waits
    ∙ ap (λ (xs : List ℕ). taken ++ xs) two
    ∙ sym (append_assoc taken rest second)
    ∙ ap (λ (xs : List ℕ). xs ++ second) one
    ∙ append_assoc waited first second

-- what two texts put together are, where the second was cut
cut_later : (taken rest waited first second : List ℕ) (n : ℕ) → taken ++ rest ≡ waited ++ first
    → take (length taken + n) (waited ++ (first ++ second)) ≡ taken ++ take n (rest ++ second)
cut_later taken rest waited first second n one =
    ap (take (length taken + n))
    (sym (append_assoc waited first second)
    ∙ ap (λ (xs : List ℕ). xs ++ second) (sym one)
    ∙ append_assoc taken rest second)
    ∙ take-append-add taken (rest ++ second) n

cut_length : (taken rest waited first second : List ℕ) (n : ℕ) → taken ++ rest ≡ waited ++ first
    → n ≤ length (rest ++ second) → length taken + n ≤ length (waited ++ (first ++ second))
cut_length taken rest waited first second n one within =
    let whole : length taken + length rest ≡ length waited + length first =
    sym (length-append taken rest) ∙ ap length one ∙ length-append waited first in
    let behind : n ≤ length rest + length second = subst (λ (k : ℕ). n ≤ k) (length-append rest second) within in
    let all : length (waited ++ (first ++ second)) ≡ length waited + (length first + length second) =
    length-append waited (first ++ second) ∙ ap (λ (k : ℕ). length waited + k) (length-append first second) in
    omega (arith, whole, behind, all)

-- a front of a text is one of a longer text
cut_sooner : (waited first second : List ℕ) (n : ℕ) → n ≤ length (waited ++ first)
    → take n (waited ++ (first ++ second)) ≡ take n (waited ++ first)
cut_sooner waited first second n within =
    ap (take n) (sym (append_assoc waited first second)) ∙ take-append-le n (waited ++ first) second within

longer : (waited first second : List ℕ) (n : ℕ) → n ≤ length (waited ++ first)
    → n ≤ length (waited ++ (first ++ second))
longer waited first second n within =
    let all : length (waited ++ (first ++ second)) ≡ length (waited ++ first) + length second =
    ap length (sym (append_assoc waited first second)) ∙ length-append (waited ++ first) second in
    omega (arith, all, within)

-- five pieces, one after another
pub grown : (v0 v1 v2 v3 v4 v5 a b c d e : List ℕ) → v1 ≡ v0 ++ a → v2 ≡ v1 ++ b → v3 ≡ v2 ++ c → v4 ≡ v3 ++ d
    → v5 ≡ v4 ++ e → v5 ≡ v0 ++ (a ++ (b ++ (c ++ (d ++ e))))
grown v0 v1 v2 v3 v4 v5 a b c d e one two three four five =
    five
    ∙ ap (λ (v : List ℕ). v ++ e) (four
    ∙ ap (λ (v : List ℕ). v ++ d) (three
    ∙ ap (λ (v : List ℕ). v ++ c) (two
    ∙ ap (λ (v : List ℕ). v ++ b) one)))
    ∙ simp append_assoc

-- ---- texts

pub Goes-none : (known : Known) (waited : List ℕ) → Goes known known waited waited []
Goes-none known waited =
    record { taken = []; written = Appends-nil known; whole = sym (append-nil waited) }

-- all that waited was written
pub Goes-all : (before after : Known) (waited : List ℕ) → Appends before after waited → Goes before after waited [] []
Goes-all before after waited written = record { taken = waited; written = written; whole = refl }

pub Goes-then : (before between after : Known) (waited rest waits first second : List ℕ)
    → Goes before between waited rest first → Goes between after rest waits second
    → Goes before after waited waits (first ++ second)
Goes-then before between after waited rest waits first second one two = record {
  taken = one.taken ++ two.taken;
  written = Appends-trans before between after one.taken two.taken one.written two.written;
  whole = joined one.taken rest two.taken waits waited first second one.whole two.whole;
}

-- more waits
pub Goes-more : (before after : Known) (waited rest waits first second : List ℕ)
    → Goes before after waited rest first → waits ≡ rest ++ second → Goes before after waited waits (first ++ second)
Goes-more before after waited rest waits first second one more = record {
  taken = one.taken;
  written = one.written;
  whole = ap (λ (xs : List ℕ). one.taken ++ xs) more
      ∙ sym (append_assoc one.taken rest second)
      ∙ ap (λ (xs : List ℕ). xs ++ second) one.whole
      ∙ append_assoc waited first second;
}

-- nothing waits in the end, as at first: the text was written
pub Goes-whole : (before after : Known) (waited waits text : List ℕ) → Goes before after waited waits text
    → waited ≡ [] → waits ≡ [] → Appends before after text
Goes-whole before after waited waits text one first last =
    let taken : one.taken ≡ text =
    sym (append-nil one.taken)
    ∙ ap (λ (xs : List ℕ). one.taken ++ xs) (sym last)
    ∙ one.whole
    ∙ ap (λ (xs : List ℕ). xs ++ text) first in
    subst (Appends before after) taken one.written

-- the second text was cut
pub Prefix-then : (before between after : Known) (waited rest first second : List ℕ)
    → Goes before between waited rest first → AppendsPrefix between after (rest ++ second)
    → AppendsPrefix before after (waited ++ (first ++ second))
Prefix-then before between after waited rest first second one two = (
  length one.taken + two.0,
  cut_length one.taken rest waited first second two.0 one.whole two.1,
  subst (Appends before after) (sym (cut_later one.taken rest waited first second two.0 one.whole))
      (Appends-trans before between after one.taken (take two.0 (rest ++ second)) one.written two.2),
)

-- the first text was cut
pub Prefix-longer : (before after : Known) (waited first second : List ℕ)
    → AppendsPrefix before after (waited ++ first) → AppendsPrefix before after (waited ++ (first ++ second))
Prefix-longer before after waited first second one = (
  one.0,
  longer waited first second one.0 one.1,
  subst (Appends before after) (sym (cut_sooner waited first second one.0 one.1)) one.2,
)

-- ---- calls

module _ {K : Type 0} (shown : sink.Ghosts K) where
  pub Sends-none : (k : K) (waited : List ℕ) → Sends shown k k waited waited [] (Ok tt)
  Sends-none k waited = record {
    ok = Goes-none (shown.written k) waited;
    err = tt;
    cause = record { later = omega arith; fault = tt };
    calls = omega arith;
    cut_calls = tt;
  }

  -- a text, and then another
  pub Sends-then : (k l m : K) (waited rest waits first second : List ℕ) (result : Result (Unit {0}) Failed)
      → Sends shown k l waited rest first (Ok tt) → Sends shown l m rest waits second result
      → Sends shown k m waited waits (first ++ second) result
  Sends-then k l m waited rest waits first second (Ok done) one two = record {
    ok = Goes-then (shown.written k) (shown.written l) (shown.written m) waited rest waits first second one.ok two.ok;
    err = tt;
    cause = record { later = omega (arith, one.cause.later, two.cause.later); fault = tt };
    calls = omega (arith, one.calls, two.calls, length-append first second);
    cut_calls = tt;
  }
  Sends-then k l m waited rest waits first second (Err e) one two = record {
    ok = tt;
    err = Prefix-then (shown.written k) (shown.written l) (shown.written m) waited rest first second one.ok two.err;
    cause = record {
      later = omega (arith, one.cause.later, two.cause.later);
      fault = omega (arith, one.cause.later, two.cause.fault);
    };
    calls = tt;
    cut_calls = omega (arith, one.calls, two.cut_calls, length-append first second);
  }

  -- a text was cut, so that no other comes
  pub Sends-stop : (k l : K) (waited rest waits first second : List ℕ) (e f : Failed)
      → Sends shown k l waited rest first (Err e) → Sends shown k l waited waits (first ++ second) (Err f)
  Sends-stop k l waited rest waits first second e f one = record {
    ok = tt;
    err = Prefix-longer (shown.written k) (shown.written l) waited first second one.err;
    cause = record { later = one.cause.later; fault = one.cause.fault };
    calls = tt;
    cut_calls = omega (arith, one.cut_calls, length-append first second);
  }

  -- a text was cut, and the fault is handed on
  pub Sends-exit : (k l : K) (waited rest waits first second : List ℕ) (e : Failed) (result : Result (Unit {0}) Failed)
      (f : Failed) → result ≡ Err f → Sends shown k l waited rest first (Err e)
      → Sends shown k l waited waits (first ++ second) result
  Sends-exit k l waited rest waits first second e result f is one =
      subst (λ (r : Result (Unit {0}) Failed). Sends shown k l waited waits (first ++ second) r) (sym is)
      (Sends-stop k l waited rest waits first second e f one)

  -- room was made, and a text added to what waits
  pub Sends-more : (k l : K) (waited rest waits text : List ℕ)
      → Sends shown k l waited rest [] (Ok tt) → waits ≡ rest ++ text → Sends shown k l waited waits text (Ok tt)
  Sends-more k l waited rest waits text one more = record {
    ok = Goes-more (shown.written k) (shown.written l) waited rest waits [] text one.ok more;
    err = tt;
    cause = one.cause;
    calls = omega (arith, one.calls, ap length more, length-append rest text);
    cut_calls = tt;
  }

  -- the text in another form
  pub Sends-same : (k l : K) (waited waits text other : List ℕ) (result : Result (Unit {0}) Failed)
      → text ≡ other → Sends shown k l waited waits text result → Sends shown k l waited waits other result
  Sends-same k l waited waits text other result same one =
      subst (λ (t : List ℕ). Sends shown k l waited waits t result) same one

-- ---- texts of lists

-- the text of one item more
pub text-more : {X : Type 0} (f : X → List ℕ) (xs : List X) (k : ℕ) (x : X) → k < length xs → x ≡ get_or xs k x
    → flat_map f (take (k + 1) xs) ≡ flat_map f (take k xs) ++ f x
text-more {X} f xs k x there is =
    ap (flat_map f) (take_more xs k x there)
    ∙ sym (flat_map_more f [] (take k xs) (get_or xs k x))
    ∙ ap (λ (y : X). flat_map f (take k xs) ++ f y) (sym is)

-- the text of all is that of one item more, and then the others'
pub text-parts : {X : Type 0} (f : X → List ℕ) (xs : List X) (k : ℕ) (x : X) → k < length xs → x ≡ get_or xs k x
    → (flat_map f (take k xs) ++ f x) ++ flat_map f (drop (k + 1) xs) ≡ flat_map f xs
text-parts {X} f xs k x there is =
    ap (λ (text : List ℕ). text ++ flat_map f (drop (k + 1) xs)) (sym (text-more f xs k x there is))
    ∙ sym (flat_map-append f (take (k + 1) xs) (drop (k + 1) xs))
    ∙ ap (flat_map f) (take-append-drop (k + 1) xs)

-- what holds of one item more
pub All-next : {X : Type 0} (P : X → Type 0) (xs : List X) (k : ℕ) (x : X) → k < length xs → x ≡ get_or xs k x
    → All P (take k xs) → P x → All P (take (k + 1) xs)
All-next {X} P xs k x there is before holds = All-more P xs k x there before (subst P is holds)

-- the row at a place, from its terms and its degree
pub row-got : (rows : List Row) (k : ℕ) (terms : List Term) (degree : ℕ) → k < length rows
    → IfSome (slice_get rows k) (λ row. terms ≡ row.terms) → IfSome (slice_get rows k) (λ row. degree ≡ row.degree)
    → let read : Row = record { terms = terms; degree = degree } in read ≡ get_or rows k read
row-got [] k terms degree there first second = absurd (omega arith)
row-got (row ∷ rows) zero terms degree there first second =
    ap (λ (t : List Term). let read : Row = record { terms = t; degree = degree } in read) first
    ∙ ap (λ (d : ℕ). let read : Row = record { terms = row.terms; degree = d } in read) second
row-got (row ∷ rows) (suc k) terms degree there first second = row-got rows k terms degree (omega arith) first second

pub OnOk-holds : {P : Type 0} (result : Result (Unit {0}) Failed) → P → OnOk result P
OnOk-holds (Ok done) holds = holds
OnOk-holds (Err e) holds = tt

-- ---- a whole text, before which nothing waited

pub whole-written : (before after : Known) (waited waits text : List ℕ) (result : Result (Unit {0}) Failed) → waited ≡ []
    → OnOk result (Goes before after waited waits text) → OnOk result (waits ≡ []) → OnOk result (Appends before after text)
whole-written before after waited waits text (Ok done) first goes last =
    Goes-whole before after waited waits text goes first last
whole-written before after waited waits text (Err e) first goes last = tt

pub whole-cut : (before after : Known) (waited text : List ℕ) (result : Result (Unit {0}) Failed) → waited ≡ []
    → OnErr result (AppendsPrefix before after (waited ++ text)) → OnErr result (AppendsPrefix before after text)
whole-cut before after waited text (Ok done) first cut = tt
whole-cut before after waited text (Err e) first cut =
    subst (λ (xs : List ℕ). AppendsPrefix before after (xs ++ text)) first cut

pub whole-calls : (before after : ℕ) (waited waits text : List ℕ) (result : Result (Unit {0}) Failed) → waited ≡ []
    → OnOk result (after + length waits ≤ before + (length waited + length text))
    → OnErr result (after ≤ before + (length waited + length text)) → after ≤ before + length text
whole-calls before after waited waits text (Ok done) first whole cut = omega (arith, ap length first, whole)
whole-calls before after waited waits text (Err e) first whole cut = omega (arith, ap length first, cut)
