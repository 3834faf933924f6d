use Rattle.std.proofs.Common.{◌≡◌, ℕ, Bool, List, [], ◌∷◌, ◌++◌, ◌∙◌, sym}
use Rattle.deviation.specs.Between.{can_host}
use Rattle.deviation.proofs.CapacityHosts.{hosts_with, hosts_without}
use Rattle.deviation.proofs.opponents.Opponents.hosts.Goals as goal
use Rattle.deviation.proofs.opponents.Opponents.hosts.Goals.{then-can_host+in_ok-push, else-can_host}

pub loop-team-preserved : goal.loop-team-preserved
loop-team-preserved c =
    let self = c.args.self.now in
    let can : ℕ → Bool = λ i. can_host self.side self.teams1 self.teams2 i in
    let team : ℕ = c.loop-team.team in
    let now : List ℕ = c.loop-team.hosts.items in
    let next : List ℕ = c.if-can_host.hosts.items in
    elim c.if-can_host.branch [
      | then-can_host+in_ok-push w ↦
          let is : next ≡ now ++ team ∷ [] = cc (w.hosts-is, w.in_ok-push.ensures.items) in
          hosts_with can team now next c.loop-team.invariant (sym c.can_host.ensures ∙ w.if-can_host.true) is
      | else-can_host w ↦
          let is : next ≡ now = cc (w.hosts-is) in
          is ∙ hosts_without can team now c.loop-team.invariant (sym c.can_host.ensures ∙ w.if-can_host.false)
    ]
