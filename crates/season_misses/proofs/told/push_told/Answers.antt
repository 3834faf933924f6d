use Rattle.std.proofs.Common.{◌≡◌, ◌++◌, OnOk, Option, string_bytes, subst}
use Rattle.league.specs.Counts.{counts_of}
use Rattle.league.specs.Deviation.{vector_of}
use Rattle.league.specs.declared.class.Constraint.{Constraint}
use Rattle.season_misses.specs.Misses.{told_at}
use Rattle.season_misses.proofs.MissLemmas.{told-few, told-fits, told-here, told-vector}
use Rattle.season_misses.proofs.told.push_told.Goals as goal

pub push_miss-requires-clause-fits : goal.push_miss-requires-clause-fits
push_miss-requires-clause-fits c =
    told-fits c.args.season.now.league.now c.constraints-constraints.result.now c.args.miss.place c.index-constraints-miss.result c.n-teams.ensures.instance c.constraints-constraints.ensures c.if-miss-constraints.false c.index-constraints-miss.is

pub push_miss-requires-clause-entries : goal.push_miss-requires-clause-entries
push_miss-requires-clause-entries c =
    let league = c.args.season.now.league.now in
    told-vector (λ (x : Constraint). vector_of league.n (counts_of c.args.season.now.games.now) x.class) c.constraints-constraints.result.now league.constraints c.args.season.now.vectors.now c.args.miss.place c.index-constraints-miss.result c.vector-entries.result.now c.constraints-constraints.ensures c.requires.vectors c.if-miss-constraints.false c.index-constraints-miss.is c.vector-entries.ensures

pub push_miss-requires-clause-place : goal.push_miss-requires-clause-place
push_miss-requires-clause-place c =
    told-few c.args.season.now.league.now c.constraints-constraints.result.now c.args.miss.place c.n-teams.ensures.instance c.constraints-constraints.ensures c.if-miss-constraints.false

pub returns : goal.returns
returns c =
    let season = c.args.season.now in
    subst (λ (found : Option Constraint). OnOk c.push_miss.result (string_bytes c.push_miss.new.text ≡ string_bytes c.args.text.now
    ++ told_at season.league.now.n season.names.now season.most season.games.now c.args.miss found))
    (told-here c.constraints-constraints.result.now season.league.now.constraints c.args.miss.place c.index-constraints-miss.result c.constraints-constraints.ensures c.if-miss-constraints.false c.index-constraints-miss.is)
    c.push_miss.ensures
