use Rattle.resume.proofs.AloneLemmas as lemmas
use Rattle.resume.proofs.walk_laws.edits_keep.Goals as goal

pub returns : goal.returns
returns c = lemmas.edits-keep
