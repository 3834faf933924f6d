use Rattle.std.proofs.Common.{◌≡◌, true, false, ◌∙◌, sym}
use Rattle.rule_core.specs.Table.{table_counts}
use Rattle.moves.specs.Round.{round_counts}
use Rattle.resume.proofs.BetterLemmas.{IsTried, better-alone, better-read, legal-on, none-better, tried-on}
use Rattle.resume.proofs.better.is_better.Goals as goal

pub returns-then-not-edit_of-clause-better : goal.returns-then-not-edit_of-clause-better
returns-then-not-edit_of-clause-better g c =
    let ground = c.args.ground.now in
    let is = c.requires.ground in
    let m = table_counts c.args.tally.now.table in
    none-better ground.plan m c.args.step
    (λ better.
    let legal : c.edit_of.result ≡ true =
    c.edit_of.ensures.legal.1
    (legal-on ground.plan m (round_counts ground.board) ground.board.n ground.board.phased c.args.step is.board_teams
    is.phased is.counts better.legal) in
    absurd (let no : false ≡ true = sym c.if-not-edit_of.true ∙ legal in cc))

pub returns-then-not-leaves_alone-clause-better : goal.returns-then-not-leaves_alone-clause-better
returns-then-not-leaves_alone-clause-better g c =
    let ground = c.args.ground.now in
    let is = c.requires.ground in
    let m = table_counts c.args.tally.now.table in
    let legal : c.edit_of.result ≡ true = c.if-not-edit_of.false in
    none-better ground.plan m c.args.step
    (better-alone ground.plan m c.args.step c.edit_of.new.edit
    (tried-on ground.plan m (round_counts ground.board) ground.board.n ground.board.phased c.args.step
    c.edit_of.new.edit is.board_teams is.phased is.counts (c.edit_of.ensures.legal.0 legal)
    c.phased-phased.ensures.round_robin (c.edit_of.ensures.edit legal) c.edit_of.ensures.apart
    c.edit_of.ensures.out_fit c.edit_of.ensures.fit)
    (sym c.leaves_alone.ensures ∙ c.if-not-leaves_alone.true))

pub is_nearer-requires-clause-there : goal.is_nearer-requires-clause-there
is_nearer-requires-clause-there g c =
    let ground = c.args.ground.now in
    let is = c.requires.ground in
    let m = table_counts c.args.tally.now.table in
    let legal : c.edit_of.result ≡ true = c.if-not-edit_of.false in
    let tried : IsTried ground.plan m c.args.step c.edit_of.new.edit =
    tried-on ground.plan m (round_counts ground.board) ground.board.n ground.board.phased c.args.step
    c.edit_of.new.edit is.board_teams is.phased is.counts (c.edit_of.ensures.legal.0 legal)
    c.phased-phased.ensures.round_robin (c.edit_of.ensures.edit legal) c.edit_of.ensures.apart
    c.edit_of.ensures.out_fit c.edit_of.ensures.fit in
    tried.change.there

pub returns-clause-better : goal.returns-clause-better
returns-clause-better g c =
    let ground = c.args.ground.now in
    let is = c.requires.ground in
    let m = table_counts c.args.tally.now.table in
    let legal : c.edit_of.result ≡ true = c.if-not-edit_of.false in
    better-read ground.plan m c.args.step c.edit_of.new.edit c.is_nearer.result c.requires.league is.fit
    (tried-on ground.plan m (round_counts ground.board) ground.board.n ground.board.phased c.args.step
    c.edit_of.new.edit is.board_teams is.phased is.counts (c.edit_of.ensures.legal.0 legal)
    c.phased-phased.ensures.round_robin (c.edit_of.ensures.edit legal) c.edit_of.ensures.apart
    c.edit_of.ensures.out_fit c.edit_of.ensures.fit)
    (sym c.leaves_alone.ensures ∙ c.if-not-leaves_alone.false) c.is_nearer.ensures.nearer

pub returns-clause-edit : goal.returns-clause-edit
returns-clause-edit g c better =
    let ground = c.args.ground.now in
    let is = c.requires.ground in
    let m = table_counts c.args.tally.now.table in
    let legal : c.edit_of.result ≡ true = c.if-not-edit_of.false in
    let tried : IsTried ground.plan m c.args.step c.edit_of.new.edit =
    tried-on ground.plan m (round_counts ground.board) ground.board.n ground.board.phased c.args.step
    c.edit_of.new.edit is.board_teams is.phased is.counts (c.edit_of.ensures.legal.0 legal)
    c.phased-phased.ensures.round_robin (c.edit_of.ensures.edit legal) c.edit_of.ensures.apart
    c.edit_of.ensures.out_fit c.edit_of.ensures.fit in
    record { change = tried.change; out_fit = tried.out_fit; into_fit = tried.into_fit }
