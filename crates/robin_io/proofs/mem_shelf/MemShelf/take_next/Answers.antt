use Rattle.std.proofs.Common.{refl}
use Rattle.robin_io.proofs.FileLemmas.{started_file, Consumes-copied, IsAtEnd-copied, IsSomeAnd-copied}
use Rattle.robin_io.proofs.mem_shelf.MemShelf.take_next.Goals as goal

pub returns-clause-bytes : goal.returns-clause-bytes
returns-clause-bytes c =
    let file = started_file c.self.inside.files.items c.self.inside.started c.in-Some.place c.index.result.now c.self.invariant c.in-Some.is c.index.ensures in
    rw (← c.self.view_is, c.in-Some.is) (Consumes-copied _ c.in-Some.place.at c.copy_from-count.result c.index.result.now c.deref.result.now c.copy_from-count.new.room file c.deref.ensures.value c.copy_from-count.ensures.copied)

pub returns-clause-end : goal.returns-clause-end
returns-clause-end c = λ none some.
    let file = started_file c.self.inside.files.items c.self.inside.started c.in-Some.place c.index.result.now c.self.invariant c.in-Some.is c.index.ensures in
    IsAtEnd-copied _ c.in-Some.place.at c.copy_from-count.result c.index.result.now c.deref.result.now c.copy_from-count.new.room file c.deref.ensures.value c.copy_from-count.ensures.count none some

pub returns-clause-count : goal.returns-clause-count
returns-clause-count c =
    let file = started_file c.self.inside.files.items c.self.inside.started c.in-Some.place c.index.result.now c.self.invariant c.in-Some.is c.index.ensures in
    rw (← c.self.view_is, c.in-Some.is) (IsSomeAnd-copied _ c.in-Some.place.at c.copy_from-count.result c.index.result.now c.deref.result.now c.copy_from-count.new.room file c.deref.ensures.value c.copy_from-count.ensures.count)

pub returns-clause-taken : goal.returns-clause-taken
returns-clause-taken c = rw (← c.self.view_is) c.saturating_add-self-inside.ensures

pub returns-clause-rest : goal.returns-clause-rest
returns-clause-rest c = rw (← c.self.view_is, c.in-Some.is) refl
