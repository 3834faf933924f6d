use Rattle.std.proofs.Common.{◌≡◌, ◌<◌, ℕ, List, get_or, length, ap, sym, ◌∙◌, arith, true}
use Rattle.std.proofs.lemmas.Bool.{and_parts}
use Rattle.std.proofs.lemmas.List.{length-map}
use Rattle.league.specs.Instance.{are_slots, are_teams, class_fits}
use Rattle.league.specs.Meetings.{pairs_of}
use Rattle.league.specs.declared.class.Class.{Class}
use Rattle.encoding.specs.Keys.{subjects_of}
use Rattle.encoding.specs.declared.subjects.Subject.{Subject}
use Rattle.encoding.specs.declared.subjects.Subject.TheVariants.{Pair}
use Rattle.encoding.proofs.SubjectLemmas.{pair_at, pair_fits}
use Rattle.encoding.proofs.subjects.subject_at.Goals as goal

pub returns-in-Fa2-clause-subject : goal.returns-in-Fa2-clause-subject
returns-in-Fa2-clause-subject c = λ other.
    let teams = c.in-Fa2.teams in
    let place = c.args.place in
    let pair = c.pair_at-first.result in
    let there : place < length (pairs_of teams) =
    omega (arith, c.requires.place, ap (λ (class : Class). length (subjects_of class)) c.in-Fa2.is, length-map {B = Subject} (pairs_of teams) (λ p. Pair p.0 p.1)) in
    let is : pair ≡ get_or (pairs_of teams) place pair =
    c.pair_at-first.ensures pair ∙ ap (λ (ts : List ℕ). get_or (pairs_of ts) place pair) c.team_numbers.ensures.numbers in
    pair_at place (pairs_of teams) pair other there is
    ∙ sym (ap (λ (class : Class). get_or (subjects_of class) place other) c.in-Fa2.is)

pub returns-in-Fa2-clause-within : goal.returns-in-Fa2-clause-within
returns-in-Fa2-clause-within c =
    let teams = c.in-Fa2.teams in
    let place = c.args.place in
    let pair = c.pair_at-first.result in
    let there : place < length (pairs_of teams) =
    omega (arith, c.requires.place, ap (λ (class : Class). length (subjects_of class)) c.in-Fa2.is, length-map {B = Subject} (pairs_of teams) (λ p. Pair p.0 p.1)) in
    let is : pair ≡ get_or (pairs_of teams) place pair =
    c.pair_at-first.ensures pair ∙ ap (λ (ts : List ℕ). get_or (pairs_of ts) place pair) c.team_numbers.ensures.numbers in
    let fit : are_teams c.args.n teams ≡ true = (and_parts (are_teams c.args.n teams) (are_slots c.args.n c.in-Fa2.slots) (sym (ap (class_fits c.args.n) c.in-Fa2.is) ∙ c.requires.fits)).0 in
    pair_fits c.args.n place teams pair fit there is

pub returns-in-Se1-clause-subject : goal.returns-in-Se1-clause-subject
returns-in-Se1-clause-subject c = λ other.
    let teams = c.in-Se1.teams in
    let place = c.args.place in
    let pair = c.pair_at-first-in-Se1.result in
    let there : place < length (pairs_of teams) =
    omega (arith, c.requires.place, ap (λ (class : Class). length (subjects_of class)) c.in-Se1.is, length-map {B = Subject} (pairs_of teams) (λ p. Pair p.0 p.1)) in
    let is : pair ≡ get_or (pairs_of teams) place pair =
    c.pair_at-first-in-Se1.ensures pair ∙ ap (λ (ts : List ℕ). get_or (pairs_of ts) place pair) c.team_numbers-in-Se1.ensures.numbers in
    pair_at place (pairs_of teams) pair other there is
    ∙ sym (ap (λ (class : Class). get_or (subjects_of class) place other) c.in-Se1.is)

pub returns-in-Se1-clause-within : goal.returns-in-Se1-clause-within
returns-in-Se1-clause-within c =
    let teams = c.in-Se1.teams in
    let place = c.args.place in
    let pair = c.pair_at-first-in-Se1.result in
    let there : place < length (pairs_of teams) =
    omega (arith, c.requires.place, ap (λ (class : Class). length (subjects_of class)) c.in-Se1.is, length-map {B = Subject} (pairs_of teams) (λ p. Pair p.0 p.1)) in
    let is : pair ≡ get_or (pairs_of teams) place pair =
    c.pair_at-first-in-Se1.ensures pair ∙ ap (λ (ts : List ℕ). get_or (pairs_of ts) place pair) c.team_numbers-in-Se1.ensures.numbers in
    let fit : are_teams c.args.n teams ≡ true = sym (ap (class_fits c.args.n) c.in-Se1.is) ∙ c.requires.fits in
    pair_fits c.args.n place teams pair fit there is
