use Rattle.std.proofs.Common.{◌≡◌, ℕ, ◌+◌, ◌*◌, ◌^◌, ◌<◌, List, length, arith, ap, subst, sym, ◌∙◌}
use Rattle.rows.specs.Literals.{Literal}
use Rattle.rows.specs.Sums.{count_in}
use Rattle.rows.specs.Tables.{AreTouched, AreUpTo, count_at}
use Rattle.rows.proofs.TableLemmas.{places_all, written_back}
use Rattle.rows.proofs.sum.add_terms.Goals as goal

pub add_counts-requires-clause-places : goal.add_counts-requires-clause-places
add_counts-requires-clause-places c =
    places_all c.args.terms.now c.args.top (length c.deref_mut.result.now)
    (omega (arith, c.in_ok-make_room.ensures.places, ap length c.deref_mut.ensures.value)) c.requires.known

pub add_counts-requires-clause-fits : goal.add_counts-requires-clause-fits
add_counts-requires-clause-fits c = λ l.
    let same : count_at c.deref_mut.result.now ≡ count_at c.args.counts.now.items = ap count_at c.deref_mut.ensures.value ∙ c.in_ok-make_room.ensures.counts in
    subst (λ (count : Literal → ℕ). count l + c.args.factor * count_in c.args.terms.now l < 2 ^ 128) (sym same) (c.requires.fits l)

pub add_counts-requires-clause-room : goal.add_counts-requires-clause-room
add_counts-requires-clause-room c = c.in_ok-make_room.ensures.room

pub add_counts-requires-clause-touched : goal.add_counts-requires-clause-touched
add_counts-requires-clause-touched c =
    let same : count_at c.deref_mut.result.now ≡ count_at c.args.counts.now.items = ap count_at c.deref_mut.ensures.value ∙ c.in_ok-make_room.ensures.counts in
    subst (λ (xs : List ℕ). AreTouched (count_at c.deref_mut.result.now) xs) (sym c.in_ok-make_room.ensures.touched)
    (subst (λ (count : Literal → ℕ). AreTouched count c.args.touched.now.items) (sym same) c.requires.touched)

pub returns-clause-counts : goal.returns-clause-counts
returns-clause-counts c = λ l.
    let same : count_at c.deref_mut.result.now ≡ count_at c.args.counts.now.items = ap count_at c.deref_mut.ensures.value ∙ c.in_ok-make_room.ensures.counts in
    let back =
    written_back c.make_room.new.counts.items c.add_counts.new.counts c.make_room.new.counts.len
    (omega (arith, c.add_counts.auto.counts, ap length c.deref_mut.ensures.value)) (omega (arith, c.make_room.new.counts.ok)) in
    ap (λ (xs : List ℕ). count_at xs l) back ∙ c.add_counts.ensures.counts l
    ∙ ap (λ (count : Literal → ℕ). count l + c.args.factor * count_in c.args.terms.now l) same

pub returns-clause-touched : goal.returns-clause-touched
returns-clause-touched c =
    let back =
    written_back c.make_room.new.counts.items c.add_counts.new.counts c.make_room.new.counts.len
    (omega (arith, c.add_counts.auto.counts, ap length c.deref_mut.ensures.value)) (omega (arith, c.make_room.new.counts.ok)) in
    subst (λ (xs : List ℕ). AreTouched (count_at xs) c.add_counts.new.touched.items) (sym back) c.add_counts.ensures.touched

pub returns-clause-up_to : goal.returns-clause-up_to
returns-clause-up_to c = λ limit old known.
    c.add_counts.ensures.up_to limit (subst (λ (xs : List ℕ). AreUpTo limit xs) (sym c.in_ok-make_room.ensures.touched) old) known
