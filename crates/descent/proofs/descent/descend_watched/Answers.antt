use Rattle.std.proofs.Common.{◌≡◌, ◌⊎◌, ℕ, Bool, ap, subst, sym, ◌∙◌}
use Rattle.league.specs.Counts.{Counts, counts_of}
use Rattle.league.specs.Structure.{IsRoundRobin}
use Rattle.rule_core.specs.Table.{Table, table_counts}
use Rattle.descent.specs.Score.{score_on}
use Rattle.descent.specs.Settled.{IsSettled}
use Rattle.descent.specs.Trail.{IsTrail}
use Rattle.descent.proofs.TrailLemmas.{IsTrail-no_worse, IsTrail-round_robin}
use Rattle.descent.proofs.descent.descend_watched.Goals as goal

pub season_of-requires : goal.season_of-requires
season_of-requires g c = record {
  round_robin = subst (λ (t : Table). IsRoundRobin t.n c.args.phased (table_counts t)) (sym c.cells.ensures)
      c.requires.round_robin;
}

pub new-requires-clause-round_robin : goal.new-requires-clause-round_robin
new-requires-clause-round_robin g c =
    let counts : counts_of c.in_ok-first.first ≡ table_counts c.args.tally.now.table =
    c.in_ok-first.ensures.counts ∙ ap (λ (t : Table). table_counts t) c.cells.ensures in
    let teams : c.n.result ≡ c.args.tally.now.table.n =
    c.n.ensures.n ∙ ap (λ (t : Table). t.n) c.cells-2.ensures in
    subst (λ (n : ℕ). IsRoundRobin n c.args.phased (counts_of c.in_ok-first.first)) (sym teams)
    (subst (λ (m : Counts). IsRoundRobin c.args.tally.now.table.n c.args.phased m) (sym counts)
    c.requires.round_robin)

pub returns-in_err-settled-clause-round_robin : goal.returns-in_err-settled-clause-round_robin
returns-in_err-settled-clause-round_robin g c =
    IsTrail-round_robin c.args.tally.now.table.n c.args.phased (score_on g.R.Entries c.args.tally.now.weights)
    (table_counts c.args.tally.now.table) (table_counts c.go_down.new.tally.table) c.go_down.new.self.trail.list
    c.requires.round_robin
    (subst
    (λ (phased : Bool). IsTrail c.args.tally.now.table.n phased (score_on g.R.Entries c.args.tally.now.weights)
    (table_counts c.args.tally.now.table) c.go_down.new.self.trail.list (table_counts c.go_down.new.tally.table))
    c.in_ok-walk.ensures.phased c.go_down.ensures.trail)

pub returns-in_err-settled-clause-no_worse : goal.returns-in_err-settled-clause-no_worse
returns-in_err-settled-clause-no_worse g c =
    IsTrail-no_worse c.args.tally.now.table.n c.in_ok-walk.walk.board.phased
    (score_on g.R.Entries c.args.tally.now.weights) (table_counts c.args.tally.now.table)
    (table_counts c.go_down.new.tally.table) c.go_down.new.self.trail.list c.go_down.ensures.trail

pub returns-clause-round_robin : goal.returns-clause-round_robin
returns-clause-round_robin g c =
    IsTrail-round_robin c.args.tally.now.table.n c.args.phased (score_on g.R.Entries c.args.tally.now.weights)
    (table_counts c.args.tally.now.table) (table_counts c.go_down.new.tally.table) c.go_down.new.self.trail.list
    c.requires.round_robin
    (subst
    (λ (phased : Bool). IsTrail c.args.tally.now.table.n phased (score_on g.R.Entries c.args.tally.now.weights)
    (table_counts c.args.tally.now.table) c.go_down.new.self.trail.list (table_counts c.go_down.new.tally.table))
    c.in_ok-walk.ensures.phased c.go_down.ensures.trail)

pub returns-clause-no_worse : goal.returns-clause-no_worse
returns-clause-no_worse g c =
    IsTrail-no_worse c.args.tally.now.table.n c.in_ok-walk.walk.board.phased
    (score_on g.R.Entries c.args.tally.now.weights) (table_counts c.args.tally.now.table)
    (table_counts c.go_down.new.tally.table) c.go_down.new.self.trail.list c.go_down.ensures.trail

pub returns-clause-spent : goal.returns-clause-spent
returns-clause-spent g c = λ open_yet. rw c.into_trail.ensures (c.in_ok-settled.ensures.spent open_yet)

pub returns-clause-settled : goal.returns-clause-settled
returns-clause-settled g c said =
    subst
    (λ (b : Bool). IsSettled c.args.tally.now.table.n b (score_on g.R.Entries c.args.tally.now.weights)
    (table_counts c.go_down.new.tally.table))
    c.in_ok-walk.ensures.phased (c.in_ok-settled.ensures.known.settled said)

pub returns-clause-lowers : goal.returns-clause-lowers
returns-clause-lowers g c unsaid =
    subst
    (λ (b : Bool). g.W.Watch.may_stop c.args.watch.now
    ⊎ (IsSettled c.args.tally.now.table.n b (score_on g.R.Entries c.args.tally.now.weights)
    (table_counts c.go_down.new.tally.table) → ⊥))
    c.in_ok-walk.ensures.phased (c.in_ok-settled.ensures.known.lowers unsaid)

pub returns-clause-costly : goal.returns-clause-costly
returns-clause-costly g c unsaid = c.in_ok-settled.ensures.known.costly unsaid
