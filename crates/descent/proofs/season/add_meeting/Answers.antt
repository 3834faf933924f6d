use Rattle.std.proofs.Common.{◌≡◌, ℕ, ◌+◌, ◌<◌, List, [], ◌∷◌, ◌++◌, arith, refl, subst, sym, ◌∙◌}
use Rattle.std.specs.List.{All}
use Rattle.std.proofs.lemmas.List.Elements.{All-push}
use Rattle.league.specs.Counts.{Counts, counts_of, slot_count}
use Rattle.league.specs.Instance.{IsGame}
use Rattle.league.specs.declared.game.Game.{Game}
use Rattle.rule_core.specs.Table.{table_counts}
use Rattle.descent.proofs.SeasonLemmas.{IsWithSlots, slots-passed, slots-taken}
use Rattle.descent.proofs.season.add_meeting.Goals as goal
use Rattle.descent.proofs.season.add_meeting.Goals.{then-at-eq1+in_ok-push, else-at-eq1}

pub loop-slot-preserved : goal.loop-slot-preserved
loop-slot-preserved c =
    let n : ℕ = c.args.cells.now.n in
    let m : Counts = table_counts c.args.cells.now in
    let start : Counts = counts_of c.args.games.now in
    let home : ℕ = c.args.home.0 in
    let away : ℕ = c.args.away.0 in
    let slot : ℕ = c.loop-slot.slot in
    let g : Game = record { home = c.args.home; away = c.args.away; slot = record { 0 = slot } } in
    let in_season : slot < slot_count n = omega (arith, c.loop-slot-test.true, c.slots-slot-end.ensures.slots) in
    elim c.if-at-eq1.branch [
      | then-at-eq1+in_ok-push w ↦
          let one : m home away slot ≡ 1 = omega (arith, c.at.ensures.count, w.if-at-eq1.true) in
          let more : c.if-at-eq1.games ≡ c.loop-slot.games ++ g ∷ [] = w.games-is ∙ w.in_ok-push.ensures.ok in
          record {
            counts = subst (λ (games : List Game). IsWithSlots start m home away (slot + 1) games) (sym more)
                (slots-taken start m home away slot c.loop-slot.games g refl refl refl one c.loop-slot.invariant.counts);
            fit = subst (λ (games : List Game). All (IsGame n) games) (sym more)
                (All-push (IsGame n) c.loop-slot.games g c.loop-slot.invariant.fit
                (record { home = c.requires.home; away = c.requires.away; differ = c.requires.differ; slot = in_season }));
          }
      | else-at-eq1 w ↦
          let none : m home away slot ≡ 0 =
          omega (arith, c.at.ensures.count, w.if-at-eq1.false, c.requires.single.most home away slot) in
          record {
            counts = subst (λ (games : List Game). IsWithSlots start m home away (slot + 1) games) (sym w.games-is)
                (slots-passed start m home away slot c.loop-slot.games none c.loop-slot.invariant.counts);
            fit = subst (λ (games : List Game). All (IsGame n) games) (sym w.games-is) c.loop-slot.invariant.fit;
          }
    ]
