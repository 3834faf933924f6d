use Rattle.std.proofs.Common.{◌≡◌, ℕ, ◌<◌, ◌++◌, List, [], ◌∷◌, map, arith, ap, subst, sym, ◌∙◌}
use Rattle.std.proofs.lemmas.List.{append_assoc}
use Rattle.std.proofs.lemmas.List.FromFn.{map-range_with_len_more}
use Rattle.std.specs.List.{All, range_with_len}
use Rattle.league.specs.Deviation.{entry_of}
use Rattle.rule_core.specs.Ready.{entry_count}
use Rattle.rule_core.specs.Table.{table_counts}
use Rattle.rule_core.proofs.PairLemmas.{pair_below, pair_each}
use Rattle.deviation.specs.Fa2.{class_of}
use Rattle.deviation.specs.Played.{IsPlayed}
use Rattle.deviation.proofs.Fa2Terms.{fa2_term, slots_ascending, slots_few, teams_below}
use Rattle.deviation.proofs.fa2.Fa2Rule.every.Goals as goal

pub fill_played-requires-clause-ascending : goal.fill_played-requires-clause-ascending
fill_played-requires-clause-ascending g c = slots_ascending c.args.self.now c.deref-slots.result.now
    c.deref-slots.ensures.value

pub fill_played-requires-clause-few_slots : goal.fill_played-requires-clause-few_slots
fill_played-requires-clause-few_slots g c = slots_few c.args.self.now c.deref-slots.result.now
    c.deref-slots.ensures.value

pub lead_in_rows-requires-clause-first : goal.lead_in_rows-requires-clause-first
lead_in_rows-requires-clause-first g c =
    let rule = c.args.self.now in
    let inside : c.loop-key.key < entry_count (class_of rule) = omega (arith, c.len-key-end.ensures) in
    omega (
      arith,
      rule.ready.at_most,
      (pair_below rule.n rule.pairs c.loop-key.key c.get.result.0.0 c.get.result.1.0 (teams_below rule) inside
          c.get.ensures).0,
    )

pub lead_in_rows-requires-clause-second : goal.lead_in_rows-requires-clause-second
lead_in_rows-requires-clause-second g c =
    let rule = c.args.self.now in
    let inside : c.loop-key.key < entry_count (class_of rule) = omega (arith, c.len-key-end.ensures) in
    omega (
      arith,
      rule.ready.at_most,
      (pair_below rule.n rule.pairs c.loop-key.key c.get.result.0.0 c.get.result.1.0 (teams_below rule) inside
          c.get.ensures).1,
    )

pub lead_in_rows-requires-clause-few_slots : goal.lead_in_rows-requires-clause-few_slots
lead_in_rows-requires-clause-few_slots g c = slots_few c.args.self.now c.deref-slots.result.now
    c.deref-slots.ensures.value

pub push_reserved-requires : goal.push_reserved-requires
push_reserved-requires g c =
    omega (arith, c.requires.room, c.loop-key.invariant.pushed, c.loop-key.invariant.room, c.len-key-end.ensures)

pub loop-key-preserved : goal.loop-key-preserved
loop-key-preserved g c =
    let rule = c.args.self.now in
    let n = c.args.cells.now.n in
    let m = table_counts c.args.cells.now in
    let slots = c.deref-slots.result.now in
    let key = c.loop-key.key in
    let old = c.args.entries.now.items in
    let entry : ℕ → ℕ = λ k. entry_of rule.n m (class_of rule) k in
    let inside : key < entry_count (class_of rule) = omega (arith, c.len-key-end.ensures) in
    let teams : All (λ t. IsPlayed n m slots c.fill_played.new.played t) rule.pairs = subst
    (λ (ts : List ℕ). All (λ t. IsPlayed n m slots c.fill_played.new.played t) ts) c.teams.ensures
    c.fill_played.ensures.played in
    let both = pair_each (λ t. IsPlayed n m slots c.fill_played.new.played t) rule.pairs key c.get.result.0.0
    c.get.result.1.0 teams inside c.get.ensures in
    let value : c.lead_in_rows.result ≡ entry key = fa2_term rule m slots key n c.get.result.0.0 c.get.result.1.0
    c.lead_in_rows.result inside c.requires.teams c.get.ensures c.deref-slots.ensures.value
    (c.lead_in_rows.ensures n m both.0 both.1) in
    record {
      entries =
          c.push_reserved.ensures.items
          ∙ ap (λ (l : List ℕ). l ++ c.lead_in_rows.result ∷ []) c.loop-key.invariant.entries
          ∙ append_assoc old (map entry (range_with_len 0 key)) (c.lead_in_rows.result ∷ [])
          ∙ ap (λ (y : ℕ). old ++ (map entry (range_with_len 0 key) ++ y ∷ [])) value
          ∙ ap (λ (l : List ℕ). old ++ l) (sym (map-range_with_len_more entry 0 key key (omega arith)));
      pushed = omega (arith, c.push_reserved.ensures.len, c.loop-key.invariant.pushed);
      room = c.push_reserved.ensures.capacity ∙ c.loop-key.invariant.room;
    }
