use Rattle.std.proofs.Common.{ℕ, List, ◌++◌, ap, ◌∙◌, arith}
use Rattle.std.proofs.lemmas.List.{take_all}
use Rattle.std.specs.List.{flat_map}
use Rattle.rows.specs.Rows.{Row}
use Rattle.encoding.specs.Keys.{held, key_of, rows_of_key}
use Rattle.encoding.proofs.GrownLemmas.{grown}
use Rattle.encoding.proofs.draft.Draft.add_subject.Goals as goal

pub loop-place-preserved : goal.loop-place-preserved
loop-place-preserved c =
    let rows : ℕ → List Row = λ place. rows_of_key (key_of c.args.n c.args.class.now c.args.subject place) in
    record {
      rows = grown rows c.args.self.now.rows c.loop-place.self.rows c.add_key.new.self.rows
          (rows_of_key (held c.args.n c.key_at-key.result)) c.places_of-places.result.now c.loop-place.place-index 0
          c.loop-place-test.true c.loop-place.invariant.rows c.in_ok-add_key.ensures.rows
          (ap rows_of_key c.key_at-key.ensures.key);
      room = omega (arith, c.loop-place.invariant.room, c.in_ok-add_key.ensures.few);
    }

pub returns-clause-rows : goal.returns-clause-rows
returns-clause-rows c =
    let rows : ℕ → List Row = λ place. rows_of_key (key_of c.args.n c.args.class.now c.args.subject place) in
    let places = c.places_of-places.result.now in
    let old = c.args.self.now.rows in
    c.loop-place.invariant.rows
    ∙ ap (λ (ps : List ℕ). old ++ flat_map rows ps) (take_all c.loop-place.place-index places (omega arith))
    ∙ ap (λ (ps : List ℕ). old ++ flat_map rows ps) c.places_of-places.ensures.places
