use Rattle.std.proofs.Common.{◌≡◌, ℕ, ◌+◌, ◌*◌, ◌^◌, ◌<◌, ◌≤◌, ◌++◌, List, length, take, drop, map, ap, subst, sym, ◌∙◌, arith}
use Rattle.std.proofs.lemmas.List.{take_at}
use Rattle.std.specs.List.{All, sum, sum_by}
use Rattle.league.specs.Counts.{Counts, counts_of}
use Rattle.league.specs.Instance.{IsGame}
use Rattle.rule_core.specs.Table.{table_counts}
use Rattle.rule_core.proofs.ListedLemmas.{same_counts}
use Rattle.descent.specs.ByTeam.{GameRoom}
use Rattle.descent.specs.Change.{Changed, LeadsFrom, games_of}
use Rattle.descent.specs.Ready.{IsExact, IsReady, IsTallied}
use Rattle.descent.specs.Tallies.{Tallied, all_touched}
use Rattle.descent.specs.Weighing.{AreWeighed}
use Rattle.descent.specs.declared.kept.Kept.{Kept}
use Rattle.descent.specs.declared.weighted.Weighted.{Weighted}
use Rattle.descent.proofs.CostLemmas.{tallied-kept}
use Rattle.descent.proofs.UndoLemmas.{exchanged-same}
use Rattle.descent.proofs.tally.Tally.weigh_games.Goals as goal

pub list_edit-listed-requires-clause-teams : goal.list_edit-listed-requires-clause-teams
list_edit-listed-requires-clause-teams g c =
    omega (arith, ap length c.deref_mut.ensures.value, c.self.invariant.teams, c.n.ensures.n)

pub list_edit-listed-requires-clause-out_fit : goal.list_edit-listed-requires-clause-out_fit
list_edit-listed-requires-clause-out_fit g c =
    subst (λ (n : ℕ). All (IsGame n) c.args.out.now)
    (sym (c.n.ensures.n ∙ ap (λ (t : Tallied g.row.R.Denot). t.table.n) c.self.view_is)) c.requires.out_fit

pub list_edit-listed-requires-clause-into_fit : goal.list_edit-listed-requires-clause-into_fit
list_edit-listed-requires-clause-into_fit g c =
    subst (λ (n : ℕ). All (IsGame n) c.args.into.now)
    (sym (c.n.ensures.n ∙ ap (λ (t : Tallied g.row.R.Denot). t.table.n) c.self.view_is)) c.requires.into_fit

pub list_edit-listed-requires-clause-room : goal.list_edit-listed-requires-clause-room
list_edit-listed-requires-clause-room g c =
    subst (λ (n : ℕ). All (λ l. 8 * n ≤ l.room) c.deref_mut.result.now) (sym c.n.ensures.n)
    (subst (λ (lists : List GameRoom). All (λ l. 8 * c.self.inside.cells.n ≤ l.room) lists)
    (sym c.deref_mut.ensures.value) c.self.invariant.room)

pub exchange_games-requires-clause-room : goal.exchange_games-requires-clause-room
exchange_games-requires-clause-room g c =
    omega (arith, c.games-few.ensures.total, c.games-few.ensures.at_most, c.requires.as_many)

pub exchange_games-requires-clause-out_fit : goal.exchange_games-requires-clause-out_fit
exchange_games-requires-clause-out_fit g c =
    subst (λ (n : ℕ). All (IsGame n) c.args.out.now)
    (sym (ap (λ (t : Tallied g.row.R.Denot). t.table.n) c.self.view_is)) c.requires.out_fit

pub exchange_games-requires-clause-into_fit : goal.exchange_games-requires-clause-into_fit
exchange_games-requires-clause-into_fit g c =
    subst (λ (n : ℕ). All (IsGame n) c.args.into.now)
    (sym (ap (λ (t : Tallied g.row.R.Denot). t.table.n) c.self.view_is)) c.requires.into_fit

pub exchange_games-requires-clause-there : goal.exchange_games-requires-clause-there
exchange_games-requires-clause-there g c i j s =
    subst (λ (t : Tallied g.row.R.Denot). counts_of c.args.out.now i j s ≤ table_counts t.table i j s) (sym c.self.view_is)
    (c.requires.there i j s)

pub exchange_games-requires-2-clause-room : goal.exchange_games-requires-2-clause-room
exchange_games-requires-2-clause-room g c =
    omega (
      arith,
      c.games-few.ensures.total,
      c.games-few.ensures.at_most,
      c.exchange_games.ensures.total,
      c.requires.as_many,
    )

pub exchange_games-requires-2-clause-out_fit : goal.exchange_games-requires-2-clause-out_fit
exchange_games-requires-2-clause-out_fit g c =
    subst (λ (n : ℕ). All (IsGame n) c.args.into.now)
    (sym (c.exchange_games.ensures.n ∙ ap (λ (t : Tallied g.row.R.Denot). t.table.n) c.self.view_is)) c.requires.into_fit

pub exchange_games-requires-2-clause-into_fit : goal.exchange_games-requires-2-clause-into_fit
exchange_games-requires-2-clause-into_fit g c =
    subst (λ (n : ℕ). All (IsGame n) c.args.out.now)
    (sym (c.exchange_games.ensures.n ∙ ap (λ (t : Tallied g.row.R.Denot). t.table.n) c.self.view_is)) c.requires.out_fit

pub weigh_rules-sums-requires-clause-ready : goal.weigh_rules-sums-requires-clause-ready
weigh_rules-sums-requires-clause-ready g c =
    subst (λ (n : ℕ). All (IsReady g.R.Entries n c.self.inside.bench.found.room) c.deref-2.result.now)
    (sym (ap (λ (v : Changed). v.table.n) c.new-change.ensures ∙ c.exchange_games.ensures.n))
    (subst (λ (l : List (Kept g.row.R.Denot)). All (IsReady g.R.Entries c.self.inside.cells.n
    c.self.inside.bench.found.room) l) (sym c.deref-2.ensures.value) c.self.invariant.ready.ready)

pub weigh_rules-sums-requires-clause-reach : goal.weigh_rules-sums-requires-clause-reach
weigh_rules-sums-requires-clause-reach g c =
    subst (λ (l : List (Kept g.row.R.Denot)). All (λ k. g.R.Entries.reach_of k.weighted.rule
    ≤ c.self.inside.bench.keys.room) l) (sym c.deref-2.ensures.value) c.self.invariant.ready.reach

pub weigh_rules-sums-requires-clause-few : goal.weigh_rules-sums-requires-clause-few
weigh_rules-sums-requires-clause-few g c =
    subst (λ (l : List (Kept g.row.R.Denot)). sum_by (λ k. length k.vector.items) l < 2 ^ 31)
    (sym c.deref-2.ensures.value) c.self.invariant.ready.few

pub weigh_rules-sums-requires-clause-clean : goal.weigh_rules-sums-requires-clause-clean
weigh_rules-sums-requires-clause-clean g c = c.self.invariant.ready.clean

pub exchange_games-requires-2-clause-there : goal.exchange_games-requires-2-clause-there
exchange_games-requires-2-clause-there g c i j s =
    let there : counts_of c.args.out.now i j s ≤ table_counts c.self.inside.cells i j s =
    subst (λ (t : Tallied g.row.R.Denot). counts_of c.args.out.now i j s ≤ table_counts t.table i j s) (sym c.self.view_is)
    (c.requires.there i j s) in
    omega (arith, there, c.exchange_games.ensures.counts i j s)

pub invariant_of-self : goal.invariant_of-self
invariant_of-self g c =
    let counts : table_counts c.exchange_games-2.new.cells ≡ table_counts c.self.inside.cells =
    same_counts (table_counts c.exchange_games-2.new.cells) (table_counts c.self.inside.cells)
    (λ i j s. omega (arith, c.exchange_games.ensures.counts i j s, c.exchange_games-2.ensures.counts i j s)) in
    let lists = c.list_edit-listed.new.lists in
    let as_long : length lists ≡ c.self.inside.by_team.len =
    omega (arith, c.list_edit-listed.auto.lists, c.deref_mut.ensures.len, ap length c.deref_mut.ensures.value) in
    let all : take c.self.inside.by_team.len (lists ++ drop (length lists) c.self.inside.by_team.items) ≡ lists =
    take_at lists (drop (length lists) c.self.inside.by_team.items) c.self.inside.by_team.len as_long in
    subst (λ (l : List GameRoom). IsTallied g.R.Entries c.self.inside.rules.items c.exchange_games-2.new.cells l
    c.weigh_rules-sums.new.bench c.self.inside.sums) (sym all)
    (tallied-kept g.R.Entries c.self.inside.rules.items c.self.inside.cells c.exchange_games-2.new.cells
    c.self.inside.by_team.items lists c.self.inside.bench c.weigh_rules-sums.new.bench c.self.inside.sums c.self.invariant
    (c.exchange_games-2.ensures.n ∙ c.exchange_games.ensures.n) counts
    (omega (arith, c.list_edit-listed.auto.lists, ap length c.deref_mut.ensures.value, c.self.invariant.teams))
    (λ k d h. omega (arith, c.list_edit-listed.ensures.room k d h, c.n.ensures.n))
    c.weigh_rules-sums.ensures.bench)

pub returns-clause-keeps : goal.returns-clause-keeps
returns-clause-keeps g c = record {
  weights = ap (λ (t : Tallied g.row.R.Denot). t.weights) c.self.view_is;
  n = c.exchange_games-2.ensures.n ∙ c.exchange_games.ensures.n ∙ ap (λ (t : Tallied g.row.R.Denot). t.table.n) c.self.view_is;
  counts = same_counts (table_counts c.exchange_games-2.new.cells) (table_counts c.self.inside.cells)
      (λ i j s. omega (arith, c.exchange_games.ensures.counts i j s, c.exchange_games-2.ensures.counts i j s))
      ∙ ap (λ (t : Tallied g.row.R.Denot). table_counts t.table) c.self.view_is;
  total = omega (
    arith,
    c.exchange_games.ensures.total,
    c.exchange_games-2.ensures.total,
    ap (λ (t : Tallied g.row.R.Denot). sum t.table.list) c.self.view_is,
  );
}

pub returns-clause-weighed : goal.returns-clause-weighed
returns-clause-weighed g c = λ m led.
    let start = table_counts c.self.inside.cells in
    let leads : (i j s : ℕ) → m i j s + counts_of c.args.out.now i j s ≡ start i j s + counts_of c.args.into.now i j s =
    subst (λ (t : Tallied g.row.R.Denot). (i j s : ℕ)
    → m i j s + counts_of c.args.out.now i j s ≡ table_counts t.table i j s + counts_of c.args.into.now i j s)
    (sym c.self.view_is) led in
    let same : table_counts c.exchange_games.new.cells ≡ m =
    exchanged-same start (table_counts c.exchange_games.new.cells) m (counts_of c.args.out.now)
    (counts_of c.args.into.now) c.exchange_games.ensures.counts leads in
    let exact : All (IsExact g.R.Entries start) c.deref-2.result.now =
    subst (λ (l : List (Kept g.row.R.Denot)). All (IsExact g.R.Entries start) l) (sym c.deref-2.ensures.value)
    c.self.invariant.exact in
    subst (λ (t : Tallied g.row.R.Denot). AreWeighed g.R.Entries c.args.most m t.weights c.weigh_rules-sums.result)
    c.self.view_is
    (subst (λ (l : List (Kept g.row.R.Denot)). AreWeighed g.R.Entries c.args.most m (map (λ k. k.weighted) l)
    c.weigh_rules-sums.result) c.deref-2.ensures.value
    (subst (λ (k : Counts). AreWeighed g.R.Entries c.args.most k (map (λ k. k.weighted) c.deref-2.result.now)
    c.weigh_rules-sums.result) same
    (subst (λ (v : Changed). AreWeighed g.R.Entries c.args.most (table_counts v.table)
    (map (λ k. k.weighted) c.deref-2.result.now) c.weigh_rules-sums.result) c.new-change.ensures
    (c.weigh_rules-sums.ensures.weighed start
    (subst (λ (v : Changed). LeadsFrom start v) (sym c.new-change.ensures) c.exchange_games.ensures.same) exact))))

pub returns-clause-steps : goal.returns-clause-steps
returns-clause-steps g c =
    let weighted : List (Kept g.row.R.Denot) → List (Weighted g.row.R.Denot) = λ l. map (λ k. k.weighted) l in
    let touched : ℕ = all_touched g.R.Entries c.args.self.now.weights (c.args.out.now ++ c.args.into.now) in
    let same : all_touched g.R.Entries (weighted c.deref-2.result.now) (games_of c.new-change.result) ≡ touched =
    ap (λ (v : Changed). all_touched g.R.Entries (weighted c.deref-2.result.now) (games_of v)) c.new-change.ensures
    ∙ ap (λ (l : List (Weighted g.row.R.Denot)). all_touched g.R.Entries l (c.args.out.now ++ c.args.into.now))
    (ap weighted c.deref-2.ensures.value ∙ ap (λ (t : Tallied g.row.R.Denot). t.weights) c.self.view_is) in
    subst (λ (more : ℕ). c.weigh_rules-sums.new.steps ≤ c.args.steps.now + more) same c.weigh_rules-sums.ensures.steps
