use Rattle.std.proofs.Common.{◌≡◌, ◌*◌, [], ◌<◌, ◌≤◌, ◌^◌, ℕ, List, false, length, get_or, take, ap, subst, sym, ◌∙◌, refl, arith}
use Rattle.rule_core.specs.Table.{table_counts}
use Rattle.descent.specs.KeySet.{is_in}
use Rattle.descent.specs.Weighing.{IsWeighed, if_written}
use Rattle.descent.specs.declared.kept.Kept.{Kept}
use Rattle.descent.specs.declared.weighted.Weighted.{Weighted}
use Rattle.descent.proofs.TouchedLemmas.{key_below, keys_more, new_key}
use Rattle.descent.proofs.WeighingLemmas.{weighed-none, weighed-one, weighed-part, weighed-small}
use Rattle.descent.proofs.WeighingLemmas.{written-lies, written-long, written-none, written-one}
use Rattle.descent.proofs.taker.take_entries.Goals as goal

pub loop-place-init : goal.loop-place-init
loop-place-init g c =
    let kept : Kept g.row.R.Denot = g.T.Taker.kept_of c.args.taker.now in
    let f : ℕ → ℕ = λ k. g.R.Entries.entry kept.weighted.rule k (table_counts c.args.cells.now) in
    record {
      weighted = refl;
      watched = refl;
      vector = sym (written-none g.T.Taker.writes f kept.vector.items);
      weighed = weighed-none f [] kept.vector.items (g.T.Taker.deviation_of c.args.taker.now) refl
          (c.requires.deviation ∙ c.requires.ready.sum_is)
          (λ k. subst (λ (x : Kept g.row.R.Denot). get_or x.vector.items k 0 < 2 ^ 64) c.kept.ensures
          (subst (λ (l : List ℕ). get_or l k 0 < 2 ^ 64) c.deref.ensures.value (c.each_is_word.ensures k)));
      steps = omega arith;
    }

-- a rule that was lent is the one at the start
lent_rule : {R : Type 0} (lent now then : Kept R) → lent ≡ now → now.weighted ≡ then.weighted → lent.weighted ≡ then.weighted
lent_rule {R} lent now then is same = ap (λ (k : Kept R). k.weighted) is ∙ same

pub term-entry-requires-clause-key : goal.term-entry-requires-clause-key
term-entry-requires-clause-key g c =
    let kept : Kept g.row.R.Denot = g.T.Taker.kept_of c.args.taker.now in
    subst (λ (w : Weighted g.row.R.Denot). c.get-key.result < g.R.Entries.term_count w.rule)
    (sym (lent_rule c.kept-kept.result.now (g.T.Taker.kept_of c.loop-place.taker) kept c.kept-kept.ensures
    c.loop-place.invariant.weighted))
    (key_below (g.R.Entries.term_count kept.weighted.rule) c.args.keys.now.list c.loop-place.place c.get-key.result
    c.requires.below c.get-key.ensures)

pub term-entry-requires-clause-teams : goal.term-entry-requires-clause-teams
term-entry-requires-clause-teams g c =
    c.requires.ready.teams
    ∙ ap (λ (w : Weighted g.row.R.Denot). g.R.Entries.team_count w.rule)
    (sym (lent_rule c.kept-kept.result.now (g.T.Taker.kept_of c.loop-place.taker)
    (g.T.Taker.kept_of c.args.taker.now) c.kept-kept.ensures c.loop-place.invariant.weighted))

pub take-requires-clause-key : goal.take-requires-clause-key
take-requires-clause-key g c =
    let kept : Kept g.row.R.Denot = g.T.Taker.kept_of c.args.taker.now in
    let f : ℕ → ℕ = λ k. g.R.Entries.entry kept.weighted.rule k (table_counts c.args.cells.now) in
    omega (
      arith,
      key_below (g.R.Entries.term_count kept.weighted.rule) c.args.keys.now.list c.loop-place.place c.get-key.result
          c.requires.below c.get-key.ensures,
      c.requires.ready.terms,
      written-long g.T.Taker.writes f (take c.loop-place.place c.args.keys.now.list) kept.vector.items
          (g.T.Taker.kept_of c.loop-place.taker).vector.items c.loop-place.invariant.vector,
    )

pub take-requires-clause-part : goal.take-requires-clause-part
take-requires-clause-part g c =
    let kept : Kept g.row.R.Denot = g.T.Taker.kept_of c.args.taker.now in
    let entries = kept.vector.items in
    let keys = c.args.keys.now.list in
    let place = c.loop-place.place in
    let key = c.get-key.result in
    let f : ℕ → ℕ = λ k. g.R.Entries.entry kept.weighted.rule k (table_counts c.args.cells.now) in
    let below : key < g.R.Entries.term_count kept.weighted.rule =
    key_below (g.R.Entries.term_count kept.weighted.rule) keys place key c.requires.below c.get-key.ensures in
    let within : key < length entries = omega (arith, below, c.requires.ready.terms) in
    let new : is_in (take place keys) key ≡ false =
    new_key keys place key c.len-place-end.ensures.distinct c.get-key.ensures in
    omega (
      arith,
      weighed-part f key (take place keys) entries (g.T.Taker.deviation_of c.loop-place.taker)
          c.loop-place.invariant.weighed within new,
      written-lies g.T.Taker.writes f key (take place keys) entries (g.T.Taker.kept_of c.loop-place.taker).vector.items
          c.loop-place.invariant.vector within new,
    )

pub take-requires-clause-fits : goal.take-requires-clause-fits
take-requires-clause-fits g c =
    let kept : Kept g.row.R.Denot = g.T.Taker.kept_of c.args.taker.now in
    let f : ℕ → ℕ = λ k. g.R.Entries.entry kept.weighted.rule k (table_counts c.args.cells.now) in
    let small : g.T.Taker.deviation_of c.loop-place.taker ≤ 2 ^ 64 * length kept.vector.items =
    weighed-small f (take c.loop-place.place c.args.keys.now.list) kept.vector.items
    (g.T.Taker.deviation_of c.loop-place.taker) c.loop-place.invariant.weighed in
    let word : c.term-entry.result < 2 ^ 64 = c.term-entry.type_inv in
    omega (arith, small, word, c.requires.ready.few)

pub loop-place-preserved : goal.loop-place-preserved
loop-place-preserved g c =
    let kept : Kept g.row.R.Denot = g.T.Taker.kept_of c.args.taker.now in
    let entries = kept.vector.items in
    let lie = (g.T.Taker.kept_of c.loop-place.taker).vector.items in
    let keys = c.args.keys.now.list in
    let place = c.loop-place.place in
    let key = c.get-key.result in
    let m = table_counts c.args.cells.now in
    let writes = g.T.Taker.writes in
    let f : ℕ → ℕ = λ k. g.R.Entries.entry kept.weighted.rule k m in
    let below : key < g.R.Entries.term_count kept.weighted.rule =
    key_below (g.R.Entries.term_count kept.weighted.rule) keys place key c.requires.below c.get-key.ensures in
    let within : key < length entries = omega (arith, below, c.requires.ready.terms) in
    let new : is_in (take place keys) key ≡ false =
    new_key keys place key c.len-place-end.ensures.distinct c.get-key.ensures in
    let value : c.term-entry.result ≡ f key =
    c.term-entry.ensures.entry
    ∙ ap (λ (w : Weighted g.row.R.Denot). g.R.Entries.entry w.rule key m)
    (lent_rule c.kept-kept.result.now (g.T.Taker.kept_of c.loop-place.taker) kept c.kept-kept.ensures
    c.loop-place.invariant.weighted) in
    let word : f key < 2 ^ 64 = omega (arith, c.term-entry.type_inv, value) in
    let after : ℕ = g.T.Taker.deviation_of c.take.new.self in
    let more = sym (keys_more keys place key c.get-key.ensures) in
    record {
      weighted = c.take.ensures.weighted ∙ c.loop-place.invariant.weighted;
      watched = c.take.ensures.watched ∙ c.loop-place.invariant.watched;
      vector = c.take.ensures.vector
          ∙ written-one writes f key c.term-entry.result (take place keys) entries lie c.loop-place.invariant.vector
          value within
          ∙ ap (λ (l : List ℕ). if_written writes f l entries) more;
      weighed = subst (λ (l : List ℕ). IsWeighed f l entries after) more
          (weighed-one f key (take place keys) entries (g.T.Taker.deviation_of c.loop-place.taker) after
          c.loop-place.invariant.weighed within new word
          (omega (
            arith,
            c.take.ensures.deviation,
            value,
            written-lies writes f key (take place keys) entries lie c.loop-place.invariant.vector within new,
          )));
      steps = omega (arith, c.term-entry.ensures.tick, c.loop-place.invariant.steps);
    }
