use Rattle.std.proofs.Common.{◌≡◌, ◌+◌, ◌*◌, ◌≤◌, ◌++◌, ℕ, List, length, map, take, drop, ap, subst, sym, ◌∙◌, arith}
use Rattle.std.proofs.lemmas.List.{take_at}
use Rattle.std.specs.List.{All, sum}
use Rattle.rule_core.specs.Table.{table_counts}
use Rattle.league.specs.Counts.{counts_of}
use Rattle.league.specs.Instance.{IsGame}
use Rattle.descent.specs.ByTeam.{GameRoom}
use Rattle.descent.specs.Change.{Changed, LeadsFrom, games_of}
use Rattle.descent.specs.Ready.{AreReady, IsExact, IsTallied}
use Rattle.descent.specs.Tallies.{Tallied, all_touched}
use Rattle.descent.specs.declared.kept.Kept.{Kept}
use Rattle.descent.specs.declared.weighted.Weighted.{Weighted}
use Rattle.descent.proofs.tally.Tally.exchange.Goals as goal

pub list_edit-listed-requires-clause-teams : goal.list_edit-listed-requires-clause-teams
list_edit-listed-requires-clause-teams g c =
    omega (arith, ap length c.deref_mut.ensures.value, c.self.invariant.teams, c.n.ensures.n)

pub list_edit-listed-requires-clause-out_fit : goal.list_edit-listed-requires-clause-out_fit
list_edit-listed-requires-clause-out_fit g c =
    subst (λ (n : ℕ). All (IsGame n) c.args.out.now)
    (sym (c.n.ensures.n ∙ ap (λ (t : Tallied g.row.R.Denot). t.table.n) c.self.view_is)) c.requires.out_fit

pub list_edit-listed-requires-clause-into_fit : goal.list_edit-listed-requires-clause-into_fit
list_edit-listed-requires-clause-into_fit g c =
    subst (λ (n : ℕ). All (IsGame n) c.args.into.now)
    (sym (c.n.ensures.n ∙ ap (λ (t : Tallied g.row.R.Denot). t.table.n) c.self.view_is)) c.requires.into_fit

pub list_edit-listed-requires-clause-room : goal.list_edit-listed-requires-clause-room
list_edit-listed-requires-clause-room g c =
    subst (λ (n : ℕ). All (λ l. 8 * n ≤ l.room) c.deref_mut.result.now) (sym c.n.ensures.n)
    (subst (λ (lists : List GameRoom). All (λ l. 8 * c.self.inside.cells.n ≤ l.room) lists)
    (sym c.deref_mut.ensures.value) c.self.invariant.room)

pub exchange_games-requires-clause-room : goal.exchange_games-requires-clause-room
exchange_games-requires-clause-room g c =
    omega (arith, c.games-few.ensures.total, c.games-few.ensures.at_most, c.requires.as_many)

pub exchange_games-requires-clause-out_fit : goal.exchange_games-requires-clause-out_fit
exchange_games-requires-clause-out_fit g c =
    subst (λ (n : ℕ). All (IsGame n) c.args.out.now)
    (sym (ap (λ (t : Tallied g.row.R.Denot). t.table.n) c.self.view_is)) c.requires.out_fit

pub exchange_games-requires-clause-into_fit : goal.exchange_games-requires-clause-into_fit
exchange_games-requires-clause-into_fit g c =
    subst (λ (n : ℕ). All (IsGame n) c.args.into.now)
    (sym (ap (λ (t : Tallied g.row.R.Denot). t.table.n) c.self.view_is)) c.requires.into_fit

pub exchange_games-requires-clause-there : goal.exchange_games-requires-clause-there
exchange_games-requires-clause-there g c i j s =
    subst (λ (t : Tallied g.row.R.Denot). counts_of c.args.out.now i j s ≤ table_counts t.table i j s) (sym c.self.view_is)
    (c.requires.there i j s)

pub renew_rules-requires : goal.renew_rules-requires
renew_rules-requires g c =
    record {
      ready = subst (λ (n : ℕ). AreReady g.R.Entries n c.self.inside.bench c.deref_mut-2.result.now c.self.inside.sums)
          (sym (ap (λ (v : Changed). v.table.n) c.new-change.ensures ∙ c.exchange_games.ensures.n))
          (subst (λ (l : List (Kept g.row.R.Denot)). AreReady g.R.Entries c.self.inside.cells.n c.self.inside.bench l
          c.self.inside.sums) (sym c.deref_mut-2.ensures.value) c.self.invariant.ready);
    }

pub invariant_of-self : goal.invariant_of-self
invariant_of-self g c =
    let lists = c.list_edit-listed.new.lists in
    let as_long : length lists ≡ c.self.inside.by_team.len =
    omega (arith, c.list_edit-listed.auto.lists, c.deref_mut.ensures.len, ap length c.deref_mut.ensures.value) in
    let all : take c.self.inside.by_team.len (lists ++ drop (length lists) c.self.inside.by_team.items) ≡ lists =
    take_at lists (drop (length lists) c.self.inside.by_team.items) c.self.inside.by_team.len as_long in
    let long : length c.renew_rules.new.rules ≡ c.self.inside.rules.len = omega (arith, c.renew_rules.auto.rules, c.deref_mut-2.ensures.len, ap length c.deref_mut-2.ensures.value) in
    let whole : take c.self.inside.rules.len (c.renew_rules.new.rules ++ drop (length c.renew_rules.new.rules) c.self.inside.rules.items) ≡ c.renew_rules.new.rules = take_at c.renew_rules.new.rules (drop (length c.renew_rules.new.rules) c.self.inside.rules.items) c.self.inside.rules.len long in
    let was : All (IsExact g.R.Entries (table_counts c.self.inside.cells)) c.deref_mut-2.result.now = subst (λ (l : List (Kept g.row.R.Denot)). All (IsExact g.R.Entries (table_counts c.self.inside.cells)) l) (sym c.deref_mut-2.ensures.value) c.self.invariant.exact in
    subst (λ (l : List (Kept g.row.R.Denot)). IsTallied g.R.Entries l c.exchange_games.new.cells (take c.self.inside.by_team.len (lists ++ drop (length lists) c.self.inside.by_team.items)) c.renew_rules.new.bench c.renew_rules.new.sums) (sym whole)
    (subst (λ (l : List GameRoom). IsTallied g.R.Entries c.renew_rules.new.rules c.exchange_games.new.cells l c.renew_rules.new.bench c.renew_rules.new.sums) (sym all)
    (record {
      ready = subst (λ (v : Changed). AreReady g.R.Entries v.table.n c.renew_rules.new.bench c.renew_rules.new.rules
          c.renew_rules.new.sums) c.new-change.ensures c.renew_rules.ensures.ready;
      teams = omega (arith, c.list_edit-listed.auto.lists, ap length c.deref_mut.ensures.value, c.self.invariant.teams, c.exchange_games.ensures.n);
      room = λ k d h. omega (arith, c.list_edit-listed.ensures.room k d h, c.n.ensures.n, c.exchange_games.ensures.n);
      exact = subst (λ (v : Changed). All (IsExact g.R.Entries (table_counts v.table)) c.renew_rules.new.rules)
          c.new-change.ensures
          (c.renew_rules.ensures.exact (table_counts c.self.inside.cells)
          (subst (λ (v : Changed). LeadsFrom (table_counts c.self.inside.cells) v) (sym c.new-change.ensures)
          c.exchange_games.ensures.same) was);
    }))

pub returns-clause-weights : goal.returns-clause-weights
returns-clause-weights g c =
    let weighted : List (Kept g.row.R.Denot) → List (Weighted g.row.R.Denot) = λ l. map (λ k. k.weighted) l in
    let long : length c.renew_rules.new.rules ≡ c.self.inside.rules.len = omega (arith, c.renew_rules.auto.rules, c.deref_mut-2.ensures.len, ap length c.deref_mut-2.ensures.value) in
    ap weighted (take_at c.renew_rules.new.rules (drop (length c.renew_rules.new.rules) c.self.inside.rules.items) c.self.inside.rules.len long)
    ∙ c.renew_rules.ensures.weights ∙ ap weighted c.deref_mut-2.ensures.value
    ∙ ap (λ (t : Tallied g.row.R.Denot). t.weights) c.self.view_is

pub returns-clause-n : goal.returns-clause-n
returns-clause-n g c = c.exchange_games.ensures.n ∙ ap (λ (t : Tallied g.row.R.Denot). t.table.n) c.self.view_is

pub returns-clause-counts : goal.returns-clause-counts
returns-clause-counts g c = λ i j s.
    c.exchange_games.ensures.counts i j s
    ∙ ap (λ (t : Tallied g.row.R.Denot). table_counts t.table i j s + counts_of c.args.into.now i j s) c.self.view_is

pub returns-clause-total : goal.returns-clause-total
returns-clause-total g c =
    omega (
      arith,
      c.exchange_games.ensures.total,
      c.requires.as_many,
      ap (λ (t : Tallied g.row.R.Denot). sum t.table.list) c.self.view_is,
    )

pub returns-clause-steps : goal.returns-clause-steps
returns-clause-steps g c =
    let weighted : List (Kept g.row.R.Denot) → List (Weighted g.row.R.Denot) = λ l. map (λ k. k.weighted) l in
    let touched : ℕ = all_touched g.R.Entries c.args.self.now.weights (c.args.out.now ++ c.args.into.now) in
    let same : all_touched g.R.Entries (weighted c.deref_mut-2.result.now) (games_of c.new-change.result) ≡ touched =
    ap (λ (v : Changed). all_touched g.R.Entries (weighted c.deref_mut-2.result.now) (games_of v)) c.new-change.ensures
    ∙ ap (λ (l : List (Weighted g.row.R.Denot)). all_touched g.R.Entries l (c.args.out.now ++ c.args.into.now))
    (ap weighted c.deref_mut-2.ensures.value ∙ ap (λ (t : Tallied g.row.R.Denot). t.weights) c.self.view_is) in
    subst (λ (more : ℕ). c.renew_rules.new.steps ≤ c.args.steps.now + more) same (omega (arith, c.renew_rules.ensures.steps))
