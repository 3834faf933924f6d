use Rattle.rule_core.specs.Opponents.{place_at}
use Rattle.rule_core.specs.declared.place.Place.TheVariants.{Away, Home}
use Rattle.rule_core.proofs.PlaceLemmas.{AreWritten-set, IsPut-written}
use Rattle.rule_core.proofs.place.put.Goals as goal

pub returns-clause-put : goal.returns-clause-put
returns-clause-put c =
    let game = c.args.game in
    let places = c.args.places.now.items in
    IsPut-written game (place_at c.args.slots places) _ c.requires.home_free c.requires.away_free
    (AreWritten-set c.args.slots places game (Home game.away) (Away game.home) c.requires.slot c.requires.home
    c.requires.away c.requires.differ)
