use Rattle.std.proofs.Common.{◌≡◌, ◌<◌, ◌∙◌, ap, List, ℕ, length, subst, arith}
use Rattle.league.specs.Sets.{is_in}
use Rattle.explain.specs.Parts.{part_of}
use Rattle.explain.specs.Attempts.{IsAttempt}
use Rattle.explain.specs.Cores.{named_of}
use Rattle.explain.specs.Standings.{numbers_of}
use Rattle.explain.specs.declared.attempt.Attempt.{Attempt}
use Rattle.explain.specs.declared.member.Member.{Member}
use Rattle.explain.proofs.StandingLemmas.{chosen-ascending, chosen-hard, chosen-small, is_core}
use Rattle.explain.proofs.cores.core_of.Goals as goal

pub try_part-requires-clause-ascending : goal.try_part-requires-clause-ascending
try_part-requires-clause-ascending g c =
    let members = c.args.contradiction.now.members.items in
    chosen-ascending c.args.league.now c.args.conflicts (g.W.Watch.may_stop c.args.watch.now) members c.args.contradiction.now.log
    (λ k. is_in k c.in_ok-named.named.items) c.deref-5.result.now c.requires
    (c.deref-5.ensures.value
    ∙ c.in_ok-listed.ensures
    ∙ ap (λ (ks : List ℕ). named_of ks c.deref-3.result.now) c.deref-4.ensures.value
    ∙ ap (λ (ms : List Member). named_of c.in_ok-named.named.items ms) c.deref-3.ensures.value)

pub try_part-requires-clause-hard : goal.try_part-requires-clause-hard
try_part-requires-clause-hard g c =
    let members = c.args.contradiction.now.members.items in
    chosen-hard c.args.league.now c.args.conflicts (g.W.Watch.may_stop c.args.watch.now) members c.args.contradiction.now.log
    (λ k. is_in k c.in_ok-named.named.items) c.deref-5.result.now c.requires
    (c.deref-5.ensures.value
    ∙ c.in_ok-listed.ensures
    ∙ ap (λ (ks : List ℕ). named_of ks c.deref-3.result.now) c.deref-4.ensures.value
    ∙ ap (λ (ms : List Member). named_of c.in_ok-named.named.items ms) c.deref-3.ensures.value)

pub try_part-requires-clause-small : goal.try_part-requires-clause-small
try_part-requires-clause-small g c =
    let members = c.args.contradiction.now.members.items in
    chosen-small c.args.league.now c.args.conflicts (g.W.Watch.may_stop c.args.watch.now) members c.args.contradiction.now.log
    (λ k. is_in k c.in_ok-named.named.items) c.deref-5.result.now c.requires
    (c.deref-5.ensures.value
    ∙ c.in_ok-listed.ensures
    ∙ ap (λ (ks : List ℕ). named_of ks c.deref-3.result.now) c.deref-4.ensures.value
    ∙ ap (λ (ms : List Member). named_of c.in_ok-named.named.items ms) c.deref-3.ensures.value)

pub returns-in-Refuted : goal.returns-in-Refuted
returns-in-Refuted g c =
    let members = c.args.contradiction.now.members.items in
    let same : c.deref-5.result.now ≡ named_of c.in_ok-named.named.items members =
    c.deref-5.ensures.value
    ∙ c.in_ok-listed.ensures
    ∙ ap (λ (ks : List ℕ). named_of ks c.deref-3.result.now) c.deref-4.ensures.value
    ∙ ap (λ (ms : List Member). named_of c.in_ok-named.named.items ms) c.deref-3.ensures.value in
    let numbers : c.in_ok-numbers.numbers.items ≡ numbers_of members =
    c.in_ok-numbers.ensures ∙ ap (λ (ms : List Member). numbers_of ms) c.deref.ensures.value in
    let fewer : length c.deref-5.result.now < length (numbers_of members) =
    omega (
      arith,
      c.if-len.false,
      c.len.ensures,
      c.len-2.ensures,
      c.deref-5.ensures.len,
      ap (λ (ks : List ℕ). length ks) numbers,
    ) in
    is_core c.args.league.now members (record { named = c.in_ok-named.named; log = c.in-Refuted.log })
    c.deref-5.result.now same fewer
    (subst (λ (a : Attempt). IsAttempt (part_of c.args.league.now c.deref-5.result.now) c.args.conflicts (g.W.Watch.may_stop c.args.watch.now) a)
    c.in-Refuted.is c.in_ok-log.ensures)
