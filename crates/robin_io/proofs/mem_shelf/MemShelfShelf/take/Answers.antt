use Rattle.robin_io.proofs.FileLemmas.{told_started}
use Rattle.robin_io.proofs.mem_shelf.MemShelfShelf.take.Goals as goal

pub returns-then-next_fails-clause-other_faults : goal.returns-then-next_fails-clause-other_faults
returns-then-next_fails-clause-other_faults c =
    let told = told_started c.self.inside.files.items c.self.inside.started c.args.name.now (rw (← c.self.view_is) at c.requires) in
    rw (← c.self.view_is) (rw told at c.fail.ensures.counted.other_faults)
