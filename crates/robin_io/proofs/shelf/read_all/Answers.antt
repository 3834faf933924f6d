use Rattle.std.proofs.Common.{◌≡◌, ℕ, ◌+◌, ◌-◌, ◌<◌, ◌≤◌, List, [], ◌++◌, length, take, Option, Some, None, vec_len, length-append, drop, arith, sym, ap, ◌∙◌}
use Rattle.std.specs.Prelude.{Err, IfSome, IsErrOf}
use Rattle.std.proofs.lemmas.List.{length-take-le, take-append-le}
use Rattle.std.proofs.lemmas.Result.{err_from_is_err_and}
use Rattle.std.proofs.lemmas.Grind.{common_steps}
use Rattle.std.specs.Io.KnownBytes.{Consumes, IsAtEnd}
use Rattle.robin_io.specs.Counts.{raised}
use Rattle.robin_io.specs.declared.shelf.TakeFault.TheVariants as faults
use Rattle.robin_io.proofs.StoreLemmas.{rose-before}
use Rattle.robin_io.proofs.shelf.read_all.Goals as goal

-- what is read where nothing is left is the file
found_whole : (file left now : Option (List ℕ)) (bytes : List ℕ) → Consumes file left bytes → Consumes left now [] → IsAtEnd now → IfSome file (λ f. bytes ≡ f)
found_whole None left now bytes read taken end = tt
found_whole (Some f) None now bytes read taken end = absurd read
found_whole (Some f) (Some xs) None bytes read taken end = absurd taken
found_whole (Some f) (Some xs) (Some ys) bytes read taken end = grind (arith, common_steps)

-- what is read, with what was taken behind it
read_more : (file left now : Option (List ℕ)) (bytes given : List ℕ) → Consumes file left bytes → Consumes left now given → Consumes file now (bytes ++ given)
read_more None left now bytes given read taken = tt
read_more (Some f) None now bytes given read taken = absurd read
read_more (Some f) (Some xs) None bytes given read taken = absurd taken
read_more (Some f) (Some xs) (Some ys) bytes given read taken = grind (arith, common_steps)

-- a file of which more than so much was taken is longer
longer_file : (file left now : Option (List ℕ)) (bytes given : List ℕ) (len count limit : ℕ) → Consumes file left bytes → Consumes left now given
    → length bytes ≡ len → length given ≡ count → limit < len + count → IfSome file (λ f. limit < length f)
longer_file None left now bytes given len count limit read taken bytes_len given_len more = tt
longer_file (Some f) None now bytes given len count limit read taken bytes_len given_len more = absurd read
longer_file (Some f) (Some xs) None bytes given len count limit read taken bytes_len given_len more = absurd taken
longer_file (Some f) (Some xs) (Some ys) bytes given len count limit read taken bytes_len given_len more =
    omega (arith, ap length read, ap length taken, length-append bytes xs, length-append given ys)

same_limit : {T : Type 0} (limit l : ℕ) → IsErrOf {T = T} (Err (faults.TooLong limit)) (faults.TooLong l) → l ≡ limit
same_limit limit l told = cc

-- how a piece is compared with the limit
count_past : (limit len count read : ℕ) → limit - read < count → read ≡ len → limit < len + count
count_past limit len count read more is = omega arith

count_within : (limit len count read : ℕ) → count ≤ limit - read → read ≡ len → len ≤ limit → len + count ≤ limit
count_within limit len count read few is within = omega arith

-- what was taken before, then a piece
raised_more : (old before now len count size : ℕ) → now ≡ raised before count → before ≡ raised old len → size ≡ len + count → now ≡ raised old size
raised_more old before now len count size taken read more = omega arith

raised_past : (old before now len count limit : ℕ) → now ≡ raised before count → before ≡ raised old len → limit < len + count → raised old (limit + 1) ≤ now
raised_past old before now len count limit taken read more = omega arith

raised_within : (old before now len count limit : ℕ) → now ≡ raised before count → before ≡ raised old len → len + count ≤ limit → now ≤ old + limit
raised_within old before now len count limit taken read few = omega arith

still_within : (old before now len limit : ℕ) → now ≡ before → before ≡ raised old len → len ≤ limit → now ≤ old + limit
still_within old before now len limit same read few = omega arith

one_call_more : (old before now len count size : ℕ) → now ≤ before + 1 → before ≤ old + (len + 1) → (count ≡ 0 → ⊥) → size ≡ len + count → now ≤ old + (size + 1)
one_call_more old before now len count size called calls some more = omega (arith, some)

later_still : (old before now : ℕ) → old ≤ before → before ≤ now → old ≤ now
later_still old before now first then = omega arith

pub returns-in_err-start-clause-failed : goal.returns-in_err-start-clause-failed
returns-in_err-start-clause-failed g c = λ told. c.in_err-start.ensures.cause.fault

pub returns-in_err-start-clause-too_long : goal.returns-in_err-start-clause-too_long
returns-in_err-start-clause-too_long g c =
    let p = err_from_is_err_and c.from_residual.result c.from_residual.ensures.1 in
    λ l told. absurd (cc (p.1, p.2, told))

pub returns-in_err-count-clause-failed : goal.returns-in_err-count-clause-failed
returns-in_err-count-clause-failed g c =
    λ told. rose-before _ _ _ (c.pieces.invariant.later c.args.name.now) c.in_err-count.ensures.cause.fault

pub returns-in_err-count-clause-too_long : goal.returns-in_err-count-clause-too_long
returns-in_err-count-clause-too_long g c =
    let p = err_from_is_err_and c.from_residual-in_err-count.result c.from_residual-in_err-count.ensures.1 in
    λ l told. absurd (cc (p.1, p.2, told))

pub returns-in_err-count-clause-not_too_long : goal.returns-in_err-count-clause-not_too_long
returns-in_err-count-clause-not_too_long g c =
    λ other. still_within _ _ _ (vec_len c.pieces.bytes) c.args.limit c.in_err-count.ensures.err.1 c.pieces.invariant.taken c.pieces.invariant.within

pub returns-in_err-extend_from_slice-clause-failed : goal.returns-in_err-extend_from_slice-clause-failed
returns-in_err-extend_from_slice-clause-failed g c =
    let p = err_from_is_err_and c.from_residual-in_err-extend_from_slice.result c.from_residual-in_err-extend_from_slice.ensures.1 in
    λ told. absurd (cc (p.1, p.2, told))

pub returns-in_err-extend_from_slice-clause-too_long : goal.returns-in_err-extend_from_slice-clause-too_long
returns-in_err-extend_from_slice-clause-too_long g c =
    let p = err_from_is_err_and c.from_residual-in_err-extend_from_slice.result c.from_residual-in_err-extend_from_slice.ensures.1 in
    λ l told. absurd (cc (p.1, p.2, told))

pub returns-in_err-extend_from_slice-clause-not_too_long : goal.returns-in_err-extend_from_slice-clause-not_too_long
returns-in_err-extend_from_slice-clause-not_too_long g c =
    let few : vec_len c.pieces.bytes + c.in_ok-count.count ≤ c.args.limit = count_within c.args.limit (vec_len c.pieces.bytes) c.in_ok-count.count c.len-in-pieces.result c.if-count-limit.false c.len-in-pieces.ensures c.pieces.invariant.within in
    λ other. raised_within _ _ _ (vec_len c.pieces.bytes) c.in_ok-count.count c.args.limit c.in_ok-count.ensures.taken c.pieces.invariant.taken few

pub returns-then-count-eq0-clause-found : goal.returns-then-count-eq0-clause-found
returns-then-count-eq0-clause-found g c =
    let none : Consumes (g.S.Shelf.left c.pieces.shelf) (g.S.Shelf.left c.take.new.self) [] = rw c.if-count-eq0.true at c.in_ok-count.ensures.bytes in
    found_whole (g.S.Shelf.contents c.args.shelf.now c.args.name.now) (g.S.Shelf.left c.pieces.shelf) (g.S.Shelf.left c.take.new.self) c.pieces.bytes.items c.pieces.invariant.consumed none
    (c.in_ok-count.ensures.end c.if-count-eq0.true (grind (arith, common_steps)))

pub returns-then-count-limit-clause-too_long : goal.returns-then-count-limit-clause-too_long
returns-then-count-limit-clause-too_long g c =
    let more : c.args.limit < vec_len c.pieces.bytes + c.in_ok-count.count = count_past c.args.limit (vec_len c.pieces.bytes) c.in_ok-count.count c.len-in-pieces.result c.if-count-limit.true c.len-in-pieces.ensures in
    λ l told. (
      same_limit c.args.limit l told,
      raised_past _ _ _ (vec_len c.pieces.bytes) c.in_ok-count.count c.args.limit c.in_ok-count.ensures.taken c.pieces.invariant.taken more,
      longer_file (g.S.Shelf.contents c.args.shelf.now c.args.name.now) (g.S.Shelf.left c.pieces.shelf) (g.S.Shelf.left c.take.new.self) c.pieces.bytes.items (take c.in_ok-count.count c.take.new.room)
          (vec_len c.pieces.bytes) c.in_ok-count.count c.args.limit c.pieces.invariant.consumed c.in_ok-count.ensures.bytes (sym c.pieces.bytes.ok.0)
          (length-take-le c.in_ok-count.count c.take.new.room c.in_ok-count.ensures.count) more,
    )

pub pieces-preserved : goal.pieces-preserved
pieces-preserved g c =
    let count = c.in_ok-count.count in
    let rest = drop c.min-most.result c.pieces.room in
    let piece : take count (c.take.new.room ++ rest) ≡ take count c.take.new.room = take-append-le count c.take.new.room rest c.in_ok-count.ensures.count in
    let size : vec_len c.extend_from_slice.new.self ≡ vec_len c.pieces.bytes + count = c.in_ok-extend_from_slice.ensures.len ∙ ap (λ n. vec_len c.pieces.bytes + n) (ap length piece ∙ length-take-le count c.take.new.room c.in_ok-count.ensures.count) in
    record {
      within = rw size (count_within c.args.limit (vec_len c.pieces.bytes) count c.len-in-pieces.result c.if-count-limit.false c.len-in-pieces.ensures c.pieces.invariant.within);
      started = c.in_ok-count.ensures.started;
      consumed = rw (c.in_ok-extend_from_slice.ensures.items, piece) (read_more (g.S.Shelf.contents c.args.shelf.now c.args.name.now) (g.S.Shelf.left c.pieces.shelf) (g.S.Shelf.left c.take.new.self) c.pieces.bytes.items (take count c.take.new.room) c.pieces.invariant.consumed c.in_ok-count.ensures.bytes);
      taken = raised_more _ _ _ (vec_len c.pieces.bytes) count _ c.in_ok-count.ensures.taken c.pieces.invariant.taken size;
      contents = λ n. c.in_ok-count.ensures.contents n ∙ c.pieces.invariant.contents n;
      calls = one_call_more _ _ _ (vec_len c.pieces.bytes) count _ c.in_ok-count.ensures.calls c.pieces.invariant.calls c.if-count-eq0.false size;
      later = λ n. later_still _ _ _ (c.pieces.invariant.later n) (c.in_ok-count.ensures.cause.later n);
    }
