use Rattle.std.proofs.Common.{◌≡◌, ◌+◌, ◌<◌, ◌++◌, ◌∷◌, [], ℕ, true, false, List, subst, sym, ◌∙◌, arith}
use Rattle.std.proofs.lemmas.List.Elements.{All-push}
use Rattle.std.specs.List.{All, Contains}
use Rattle.league.specs.declared.game.TeamId.{TeamId}
use Rattle.descent.proofs.KeepLemmas.{watched_push, watched_skip}
use Rattle.descent.proofs.keep.watched_teams.Goals as goal
use Rattle.descent.proofs.keep.watched_teams.Goals.{then-watches+in_ok-push, else-watches}

pub loop-number-preserved : goal.loop-number-preserved
loop-number-preserved g c =
    let rule = c.args.rule.now in
    let number = c.loop-number.number in
    let teams = c.loop-number.teams.items in
    let team : TeamId = record { 0 = number } in
    elim c.if-watches.branch [
      | then-watches+in_ok-push w ↦
          let pushed : c.if-watches.teams.items ≡ w.push.new.self.items = first_of (cc, rw w.teams-is) in
          let items : c.if-watches.teams.items ≡ teams ++ team ∷ [] = pushed ∙ w.in_ok-push.ensures.items in
          record {
            ends = c.loop-number.invariant.ends;
            of_league = subst (λ (l : List TeamId). All (λ t. t.0 < g.R.Entries.team_count rule) l) (sym items)
                (All-push (λ t. t.0 < g.R.Entries.team_count rule) teams team c.loop-number.invariant.of_league
                (omega (arith, c.loop-number-test.true, c.loop-number.invariant.ends)));
            watched = subst (λ (l : List TeamId). (t : ℕ) → t < number + 1 → g.R.Entries.watched rule t ≡ true
                → Contains l (record { 0 = t })) (sym items)
                (watched_push (g.R.Entries.watched rule) teams number c.loop-number.invariant.watched);
          }
      | else-watches w ↦
          let items : c.if-watches.teams.items ≡ teams = first_of (cc, rw w.teams-is) in
          let unseen : g.R.Entries.watched rule number ≡ false = sym c.watches.ensures ∙ w.if-watches.false in
          record {
            ends = c.loop-number.invariant.ends;
            of_league = subst (λ (l : List TeamId). All (λ t. t.0 < g.R.Entries.team_count rule) l) (sym items)
                c.loop-number.invariant.of_league;
            watched = subst (λ (l : List TeamId). (t : ℕ) → t < number + 1 → g.R.Entries.watched rule t ≡ true
                → Contains l (record { 0 = t })) (sym items)
                (watched_skip (g.R.Entries.watched rule) teams number c.loop-number.invariant.watched unseen);
          }
    ]
