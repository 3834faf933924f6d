use Rattle.encoding.proofs.MemberLemmas.{is_in-tells}
use Rattle.encoding.proofs.sets.has.Goals as goal

pub returns : goal.returns
returns c = is_in-tells _ c.args.team c.args.teams.now c.contains.ensures
