use Rattle.std.proofs.Common.{◌≡◌, ℕ, ◌<◌, List, ◌++◌, Option, length, ap, subst, sym, ◌∙◌, append-nil}
use Rattle.std.specs.List.{All}
use Rattle.league.specs.Counts.{Counts, counts_of}
use Rattle.rule_core.specs.Table.{table_counts}
use Rattle.season_misses.specs.Reasons.{by_lead, furthest}
use Rattle.season_misses.specs.declared.reason.Reason.{Reason}
use Rattle.season_misses.proofs.RunLemmas.{first-furthest, read-apart, runs-long}
use Rattle.season_misses.proofs.leads.push_lead.Goals as goal
use Rattle.season_misses.proofs.leads.push_lead.Goals.{in-Some+in_ok-push_lead_at, in_default}

pub furthest-requires-clause-first : goal.furthest-requires-clause-first
furthest-requires-clause-first c =
    subst (λ (count : ℕ). All (λ s. s < count) c.args.slots.now)
    (sym (ap length (c.deref.ensures.value ∙ c.in_ok-first.ensures) ∙ runs-long c.args.season.now.cells.now.n (table_counts c.args.season.now.cells.now) c.args.pair.first.0)) c.requires.slots

pub furthest-requires-clause-second : goal.furthest-requires-clause-second
furthest-requires-clause-second c =
    subst (λ (count : ℕ). All (λ s. s < count) c.args.slots.now)
    (sym (ap length (c.deref-2.ensures.value ∙ c.in_ok-second.ensures) ∙ runs-long c.args.season.now.cells.now.n (table_counts c.args.season.now.cells.now) c.args.pair.second.0)) c.requires.slots

pub push_lead_at-requires-clause-far : goal.push_lead_at-requires-clause-far
push_lead_at-requires-clause-far c =
    c.apart-far.ensures
    ∙ read-apart c.args.season.now.cells.now.n (table_counts c.args.season.now.cells.now) (counts_of c.args.season.now.games.now) (c.args.pair.first.0, c.args.pair.second.0) c.in-Some.slot c.deref.result.now c.deref-in-Some.result.now c.deref-in-Some-2.result.now
    c.requires.season.counted
    (c.deref.ensures.value ∙ c.in_ok-first.ensures)
    (c.deref-in-Some.ensures.value ∙ c.in_ok-first.ensures)
    (c.deref-in-Some-2.ensures.value ∙ c.in_ok-second.ensures)
    c.in-Some.ensures.first

pub returns : goal.returns
returns c =
    let n : ℕ = c.args.season.now.cells.now.n in
    let m : Counts = counts_of c.args.season.now.games.now in
    let p : ℕ × ℕ = (c.args.pair.first.0, c.args.pair.second.0) in
    let found : c.furthest.result ≡ furthest n m c.args.slots.now p =
    c.furthest.ensures.slot
    ∙ first-furthest n (table_counts c.args.season.now.cells.now) m p c.args.slots.now c.deref.result.now c.deref-2.result.now c.requires.season.counted
    (c.deref.ensures.value ∙ c.in_ok-first.ensures) (c.deref-2.ensures.value ∙ c.in_ok-second.ensures) c.requires.slots in
    let reasons : Option ℕ → List Reason = λ at. c.args.reasons.now.items ++ by_lead c.args.pair.key n c.args.intp c.args.season.now.games.now p at in
    elim c.match-furthest.branch [
      | in-Some+in_ok-push_lead_at w ↦ rw w.reasons-is (w.in_ok-push_lead_at.ensures ∙ ap reasons (sym w.in-Some.is ∙ found))
      | in_default w ↦ rw w.reasons-is (sym (append-nil c.args.reasons.now.items) ∙ ap reasons (sym w.in_default.is ∙ found))
    ]
