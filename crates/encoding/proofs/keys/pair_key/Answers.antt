use Rattle.std.proofs.Common.{◌≡◌, ◌≤◌, ℕ, ◌+◌, ◌-◌, List, ◌++◌, ap, sym, ◌∙◌, arith}
use Rattle.league.specs.Counts.{slot_count}
use Rattle.league.specs.declared.class.Class.{Class}
use Rattle.rows.specs.Literals.{Literal}
use Rattle.encoding.specs.Keys.{key_of, width}
use Rattle.encoding.specs.Lists.{at_home_in, away_in}
use Rattle.encoding.specs.declared.subjects.Subject.TheVariants.{Pair}
use Rattle.encoding.proofs.HeldKeys.{bounded}
use Rattle.encoding.proofs.NumberLemmas.{run_ascends}
use Rattle.encoding.proofs.keys.pair_key.Goals as goal

pub returns-in-Fa2-clause-key : goal.returns-in-Fa2-clause-key
returns-in-Fa2-clause-key c =
    let n = c.args.n in
    let i = c.args.first in
    let j = c.args.second in
    let place = c.args.place in
    let intp = c.in-Fa2.intp in
    let lead : List ℕ → List Literal = λ ss. away_in n i ss ++ at_home_in n j ss in
    let low : c.saturating_sub-low.result ≡ place + 1 - intp = omega arith in
    let high : c.from-so_far.result + 1 + c.from-in-Fa2.result ≡ place + 1 + intp = omega arith in
    ap (λ (k : ℕ). bounded k (c.from-so_far.result + 1 + c.from-in-Fa2.result) (lead c.consecutive-slots.result.now)) low
    ∙ ap (λ (k : ℕ). bounded (place + 1 - intp) k (lead c.consecutive-slots.result.now)) high
    ∙ ap (λ (ss : List ℕ). bounded (place + 1 - intp) (place + 1 + intp) (lead ss)) c.consecutive-slots.ensures.numbers
    ∙ sym (ap (λ (class : Class). key_of n class (Pair i j) place) c.in-Fa2.is)

pub returns-in-Fa2-clause-listable : goal.returns-in-Fa2-clause-listable
returns-in-Fa2-clause-listable c =
    let within : 0 + (c.args.place + 1) ≤ slot_count c.args.n =
    omega (arith, c.requires.place, ap (width c.args.n) c.in-Fa2.is) in (
      c.requires.pair,
      run_ascends c.args.n 0 (c.args.place + 1) c.consecutive-slots.result.now c.consecutive-slots.ensures.numbers within,
    )

pub returns-in-Se1-clause-key : goal.returns-in-Se1-clause-key
returns-in-Se1-clause-key c =
    let n = c.args.n in
    let pair = Pair c.args.first c.args.second in
    c.separation_key.ensures.key c.in-Se1.teams ∙ sym (ap (λ (class : Class). key_of n class pair c.args.place) c.in-Se1.is)
