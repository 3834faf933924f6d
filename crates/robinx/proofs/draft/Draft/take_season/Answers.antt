use Rattle.std.proofs.Common.{◌≡◌, ◌≤◌, true, length, sym, ap, ◌∙◌, arith}
use Rattle.robinx.specs.InstanceFile.{Draft, is_season}
use Rattle.league.specs.Instance.{IsTeamCount}
use Rattle.robinx.proofs.DraftLemmas.{season_size, all_fit_later}
use Rattle.robinx.proofs.draft.Draft.take_season.Goals as goal

pub invariant_of-self : goal.invariant_of-self
invariant_of-self c =
    let known : is_season c.self.inside.teams.items c.self.inside.slots.items ≡ true =
    ap (λ (d : Draft). is_season d.teams d.slots) c.self.view_is ∙ sym c.has_season.ensures ∙ c.if-not-has_season.false in
    let size : IsTeamCount (length c.self.inside.teams.items) = season_size c.self.inside.teams.items c.self.inside.slots.items known in
    let n : c.len.result ≡ length c.self.inside.teams.items = omega (arith, c.len.ensures, c.self.inside.teams.ok.0) in
    let more : c.self.inside.n ≤ c.len.result = omega arith in
    record {
      even = omega (arith, size.even);
      at_most = omega arith;
      known = omega arith;
      few = omega arith;
      fit = all_fit_later c.self.inside.n c.len.result more c.self.inside.constraints.items c.self.invariant.fit;
    }
