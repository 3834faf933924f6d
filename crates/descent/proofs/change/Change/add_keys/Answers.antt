use Rattle.std.proofs.Common.{◌++◌, ◌≡◌, ◌<◌, ℕ, List, ap, length, refl, subst, sym, ◌∙◌, arith}
use Rattle.std.specs.List.{All, flat_map}
use Rattle.std.proofs.lemmas.List.Elements.{All-append, All-weaker}
use Rattle.league.specs.Instance.{IsGame}
use Rattle.league.specs.declared.game.TeamId.{TeamId}
use Rattle.descent.specs.Bench.{HasFound}
use Rattle.descent.specs.Change.{Changed}
use Rattle.descent.proofs.ByTeamLemmas.{listed_fit, touched_at, touched_by_team}
use Rattle.descent.proofs.TouchedLemmas.{found-more, found-same}
use Rattle.descent.proofs.change.Change.add_keys.Goals as goal

pub add_teams-requires-clause-teams : goal.add_teams-requires-clause-teams
add_teams-requires-clause-teams g c =
    let lists = c.self.inside.by_team.now in
    let by = c.self.invariant.listed (c.watches_few.ensures c.if-watches_few.true) in
    let same : c.self.inside.cells.now.n ≡ c.args.self.now.table.n = ap (λ (v : Changed). v.table.n) c.self.view_is in
    subst (λ (teams : List TeamId). All (λ t. t.0 < length lists) teams) (sym c.deref.ensures.value)
    (All-weaker (λ (t : TeamId). t.0 < c.args.self.now.table.n) (λ t. t.0 < length lists)
    (λ t below. omega (arith, below, by.teams, same)) c.args.kept.now.watched.items c.requires.ready.of_league)

pub add_teams-requires-clause-fit : goal.add_teams-requires-clause-fit
add_teams-requires-clause-fit g c =
    let lists = c.self.inside.by_team.now in
    let n = c.self.inside.cells.now.n in
    let out = c.self.inside.out.now in
    let into = c.self.inside.into.now in
    let same : n ≡ g.R.Entries.team_count c.args.kept.now.weighted.rule =
    ap (λ (v : Changed). v.table.n) c.self.view_is ∙ c.requires.ready.teams in
    subst (λ (m : ℕ). All (λ l. All (IsGame m) l.list) lists) same
    (listed_fit n (out ++ into) lists
    (All-append (IsGame n) out into c.self.invariant.out_fit c.self.invariant.into_fit)
    (c.self.invariant.listed (c.watches_few.ensures c.if-watches_few.true)))

pub returns-then-watches_few-clause-found : goal.returns-then-watches_few-clause-found
returns-then-watches_few-clause-found g c =
    let rule = c.args.kept.now.weighted.rule in
    let touches = g.R.Entries.touches rule in
    let lists = c.self.inside.by_team.now in
    let n = c.self.inside.cells.now.n in
    let out = c.self.inside.out.now in
    let into = c.self.inside.into.now in
    let teams = c.args.kept.now.watched.items in
    let same : n ≡ g.R.Entries.team_count rule =
    ap (λ (v : Changed). v.table.n) c.self.view_is ∙ c.requires.ready.teams in
    let found : HasFound (flat_map (touched_at touches lists) teams) c.args.bench.now c.add_teams.new.self =
    subst (λ (l : List TeamId). HasFound (flat_map (touched_at touches lists) l) c.args.bench.now c.add_teams.new.self)
    c.deref.ensures.value c.add_teams.ensures in
    subst (λ (v : Changed). HasFound (flat_map touches v.out ++ flat_map touches v.into) c.args.bench.now c.add_teams.new.self)
    c.self.view_is
    (found-same (flat_map (touched_at touches lists) teams) (flat_map touches out ++ flat_map touches into) c.args.bench.now
    c.add_teams.new.self
    (touched_by_team g.R.Entries rule n out into lists teams (g.met.R.Entries.quiet rule) same c.requires.ready.watches
    c.self.invariant.out_fit c.self.invariant.into_fit
    (c.self.invariant.listed (c.watches_few.ensures c.if-watches_few.true))) found)

pub returns-clause-found : goal.returns-clause-found
returns-clause-found g c =
    let touches = g.R.Entries.touches c.args.kept.now.weighted.rule in
    let out = c.self.inside.out.now in
    let into = c.self.inside.into.now in
    subst (λ (v : Changed). HasFound (flat_map touches v.out ++ flat_map touches v.into) c.args.bench.now c.add_games-2.new.self)
    c.self.view_is
    (found-more (flat_map touches out) (flat_map touches into) (flat_map touches out ++ flat_map touches into)
    c.args.bench.now c.add_games.new.self c.add_games-2.new.self c.add_games.ensures c.add_games-2.ensures refl)
