use Rattle.std.proofs.Common.{◌≡◌, ℕ, ◌+◌, ◌<◌, ◌≤◌, true, arith}
use Rattle.std.proofs.lemmas.List.{length_push}
use Rattle.std.proofs.lemmas.List.Elements.{All-push}
use Rattle.league.specs.Instance.{class_fits}
use Rattle.robinx.proofs.draft.Draft.take_constraint.Goals as goal

-- where fewer than the most are there, one more may come
one_may_come : (read len size most : ℕ) → read < most → read ≡ len → len ≡ size → size + 1 ≤ most
one_may_come read len size most few is items = omega arith

pub invariant_of-self-2 : goal.invariant_of-self-2
invariant_of-self-2 c =
    let old = c.self.invariant in
    let constraints = c.self.inside.constraints in
    let constraint = c.in_ok-constraint.constraint in
    rw c.in_ok-push.ensures.items (record {
      even = old.even;
      at_most = old.at_most;
      known = old.known;
      few = rw (length_push constraints.items constraint) (one_may_come c.len.result constraints.len _ 20000 c.if-len-ge-MAX_CONSTRAINTS.false c.len.ensures constraints.ok.0);
      fit = All-push (λ x. class_fits c.self.inside.n x.class ≡ true) constraints.items constraint old.fit c.in_ok-constraint.ensures.fits;
    })
