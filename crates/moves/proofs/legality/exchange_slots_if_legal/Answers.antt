use Rattle.std.proofs.Common.{◌≡◌, ℕ, Bool, true, false, get_or, arith}
use Rattle.std.proofs.lemmas.Bool.{both_ways}
use Rattle.moves.proofs.LegalLemmas.{slots-done, slots-refused}
use Rattle.moves.proofs.legality.exchange_slots_if_legal.Goals as goal

pub returns-then-not-are_exchangeable : goal.returns-then-not-are_exchangeable
returns-then-not-are_exchangeable c =
    let set : ℕ → Bool = λ a. get_or c.args.marks.now a false in
    let fails : c.are_exchangeable.result ≡ false = grind arith in
    slots-refused c.args.board.now set c.args.s.0 c.args.t.0 c.args.edit.now c.n-round.ensures.round c.requires.order c.requires.t c.requires.closed c.requires.empty
    (λ may. both_ways c.are_exchangeable.result fails (c.are_exchangeable.ensures.1 may))

pub returns : goal.returns
returns c =
    let set : ℕ → Bool = λ a. get_or c.args.marks.now a false in
    let is : c.are_exchangeable.result ≡ true = grind arith in
    slots-done c.args.board.now set c.args.s.0 c.args.t.0 c.exchange_slots.new.edit c.n-round.ensures.round c.requires.order c.requires.t c.requires.closed
    c.exchange_slots.ensures.n (c.are_exchangeable.ensures.0 is) c.exchange_slots.ensures.edit c.exchange_slots.ensures.apart
