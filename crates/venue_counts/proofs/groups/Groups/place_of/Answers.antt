use Rattle.encoding.proofs.FewLemmas.{slots_few}
use Rattle.venue_counts.proofs.groups.Groups.place_of.Goals as goal

pub key_of-key-requires-clause-few : goal.key_of-key-requires-clause-few
key_of-key-requires-clause-few c = slots_few c.args.n c.args.slots.now c.requires.n c.requires.slots
