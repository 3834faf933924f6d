use Rattle.std.proofs.Common.{◌≡◌, ℕ, ◌<◌, List, [], length, get_or, ap, sym, ◌∙◌, arith}
use Rattle.std.specs.List.{flat_map, range_with_len}
use Rattle.league.specs.Counts.{counts_of}
use Rattle.rule_core.specs.Ready.{entry_count}
use Rattle.rule_core.proofs.ReadyLemmas.{entry_count-is}
use Rattle.season_misses.specs.Reasons.{reasons_at}
use Rattle.season_misses.proofs.AddUpLemmas.{adds_up}
use Rattle.season_misses.proofs.ExactLemmas.{list_all_touching}
use Rattle.season_misses.proofs.ListLemmas.{made_more}
use Rattle.season_misses.proofs.NoneLemmas.{past_nothing}
use Rattle.season_misses.proofs.TouchLemmas.{list_touching}
use Rattle.season_misses.proofs.classes.reasons.Goals as goal
use Rattle.season_misses.proofs.classes.reasons.Goals.{then-entry-gt0+in_ok-push_at, else-entry-gt0}

pub returns-in_err-push_at-clause-amounts : goal.returns-in_err-push_at-clause-amounts
returns-in_err-push_at-clause-amounts c = adds_up c.args.season.now.cells.now.n c.args.season.now.games.now c.args.class.now c.requires.fits c.requires.fit c.requires.in_order

pub returns-in_err-push_at-clause-touching : goal.returns-in_err-push_at-clause-touching
returns-in_err-push_at-clause-touching c = list_touching c.args.season.now.cells.now.n c.args.season.now.games.now c.args.class.now

pub returns-in_err-push_at-clause-all_touching : goal.returns-in_err-push_at-clause-all_touching
returns-in_err-push_at-clause-all_touching c = list_all_touching c.args.season.now.cells.now.n c.args.season.now.games.now c.args.class.now

pub loop-key-preserved : goal.loop-key-preserved
loop-key-preserved c =
    let n : ℕ = c.args.season.now.cells.now.n in
    let games = c.args.season.now.games.now in
    let class = c.args.class.now in
    let key : ℕ = c.loop-key.key in
    let here : key < length c.args.entries.now = c.loop-key-test.true in
    let inside : key < entry_count class = omega (arith, here, ap length c.requires.entries, entry_count-is n (counts_of games) class) in
    elim c.if-entry-gt0.branch [
      | then-entry-gt0+in_ok-push_at w ↦
          rw w.reasons-is (made_more (reasons_at n games class) [] c.loop-key.reasons.items _ key c.loop-key.invariant w.in_ok-push_at.ensures)
      | else-entry-gt0 w ↦
          let nothing : get_or c.args.entries.now key 0 ≡ 0 = omega (arith, w.if-entry-gt0.false) in
          rw w.reasons-is (past_nothing n games class key c.loop-key.reasons.items c.requires.fits c.requires.fit c.requires.in_order inside
          (ap (λ (entries : List ℕ). get_or entries key 0) (sym c.requires.entries) ∙ nothing) c.loop-key.invariant)
    ]

pub returns-clause-reasons : goal.returns-clause-reasons
returns-clause-reasons c =
    let n : ℕ = c.args.season.now.cells.now.n in
    let games = c.args.season.now.games.now in
    let class = c.args.class.now in
    let all : c.loop-key.key ≡ entry_count class =
    omega (arith, c.loop-key-test.false, c.loop-key.auto.key-end, ap length c.requires.entries, entry_count-is n (counts_of games) class) in
    c.loop-key.invariant ∙ ap (λ (count : ℕ). flat_map (reasons_at n games class) (range_with_len 0 count)) all

pub returns-clause-amounts : goal.returns-clause-amounts
returns-clause-amounts c = adds_up c.args.season.now.cells.now.n c.args.season.now.games.now c.args.class.now c.requires.fits c.requires.fit c.requires.in_order

pub returns-clause-touching : goal.returns-clause-touching
returns-clause-touching c = list_touching c.args.season.now.cells.now.n c.args.season.now.games.now c.args.class.now

pub returns-clause-all_touching : goal.returns-clause-all_touching
returns-clause-all_touching c = list_all_touching c.args.season.now.cells.now.n c.args.season.now.games.now c.args.class.now
