use Rattle.command_show.proofs.BlockLemmas.{blocks_hold}
use Rattle.command_show.proofs.laws.blocks_hold_slots.Goals as goal

pub returns : goal.returns
returns c = blocks_hold
