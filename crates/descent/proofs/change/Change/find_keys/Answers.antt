use Rattle.descent.proofs.TouchedLemmas.{touched-found}
use Rattle.descent.proofs.change.Change.find_keys.Goals as goal

pub returns-clause-touched : goal.returns-clause-touched
returns-clause-touched g c =
    let rule = c.args.kept.now.weighted.rule in
    touched-found g.R.Entries rule c.args.self.now.out c.args.self.now.into c.args.bench.now c.add_keys.new.bench
    (g.met.R.Entries.below rule) c.add_keys.ensures.out_fit c.add_keys.ensures.into_fit c.requires.clean
    c.len-found.ensures.distinct c.add_keys.ensures.found
