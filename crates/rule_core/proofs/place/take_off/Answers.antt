use Rattle.rule_core.specs.Opponents.{place_at}
use Rattle.rule_core.specs.declared.place.Place.TheVariants.{Free}
use Rattle.rule_core.proofs.PlaceLemmas.{AreWritten-set, IsPut-cleared}
use Rattle.rule_core.proofs.place.take_off.Goals as goal

pub returns-clause-put : goal.returns-clause-put
returns-clause-put c =
    let game = c.args.game in
    let places = c.args.places.now.items in
    IsPut-cleared game (place_at c.args.slots places) _ c.requires.at_home c.requires.is_away
    (AreWritten-set c.args.slots places game Free Free c.requires.slot c.requires.home c.requires.away
    c.requires.differ)
