use Rattle.std.proofs.Common.{sym, refl, rules}
use Rattle.robin_io.proofs.FileLemmas.{fault_at, no_file, CountsFault-file, CountsFault-others, contents-with_fault, later-with_fault, started_kept}
use Rattle.robin_io.proofs.mem_shelf.MemShelf.fail.Goals as goal

pub returns-in-Some-clause-counted : goal.returns-in-Some-clause-counted
returns-in-Some-clause-counted c =
    let at = rw c.deref.ensures.value at (sym c.in-Some.ensures) in
    let put = fault_at c.args.name.now c.self.inside.files.items c.in-Some.index c.index_mut-file.result.now c.saturating_add-file.result at c.index_mut-file.ensures.value c.saturating_add-file.ensures in
    rw (← c.self.view_is) (CountsFault-file _ _ _ _ put.0 put.1 refl)

pub returns-in-Some-clause-contents : goal.returns-in-Some-clause-contents
returns-in-Some-clause-contents c = λ n.
    let at = rw c.deref.ensures.value at (sym c.in-Some.ensures) in
    let put = fault_at c.args.name.now c.self.inside.files.items c.in-Some.index c.index_mut-file.result.now c.saturating_add-file.result at c.index_mut-file.ensures.value c.saturating_add-file.ensures in
    rw (← c.self.view_is, put.1) (contents-with_fault c.args.name.now _ n)

pub returns-in-Some-clause-later : goal.returns-in-Some-clause-later
returns-in-Some-clause-later c = λ n.
    let at = rw c.deref.ensures.value at (sym c.in-Some.ensures) in
    let put = fault_at c.args.name.now c.self.inside.files.items c.in-Some.index c.index_mut-file.result.now c.saturating_add-file.result at c.index_mut-file.ensures.value c.saturating_add-file.ensures in
    rw (← c.self.view_is, put.1) (later-with_fault c.args.name.now _ c.self.inside.other_faults n (rw put.0 (search rules)))

pub returns-in-Some-clause-rest : goal.returns-in-Some-clause-rest
returns-in-Some-clause-rest c =
    let kept = started_kept c.self.inside.files.items c.in-Some.index c.index_mut-file.result.now c.saturating_add-file.result c.self.inside.started c.index_mut-file.ensures.value in
    rw (← c.self.view_is, kept.0, kept.1) refl

pub returns-in-None-clause-counted : goal.returns-in-None-clause-counted
returns-in-None-clause-counted c =
    let none = no_file c.self.inside.files.items c.args.name.now (rw c.deref.ensures.value at (sym c.in-None.ensures)) in
    rw (← c.self.view_is) (CountsFault-others _ _ _ none refl c.saturating_add-self-inside.ensures)
