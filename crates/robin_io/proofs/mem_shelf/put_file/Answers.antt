use Rattle.std.proofs.Common.{sym}
use Rattle.robin_io.proofs.FileLemmas.{Puts-set, Puts-push}
use Rattle.robin_io.proofs.mem_shelf.put_file.Goals as goal

pub returns-in-Some-clause-ok : goal.returns-in-Some-clause-ok
returns-in-Some-clause-ok c =
    let at = rw c.deref.ensures.value at (sym c.in-Some.ensures) in
    let put = Puts-set c.args.faults c.args.name.now c.args.files.now.items c.in-Some.index c.index_mut.result.now c.in_ok-bytes.bytes at c.index_mut.ensures.value in
    rw (← c.in_ok-bytes.ensures.items) put

pub returns-in_ok-push-in-None-clause-ok : goal.returns-in_ok-push-in-None-clause-ok
returns-in_ok-push-in-None-clause-ok c =
    let none = rw c.deref.ensures.value at (sym c.in-None.ensures) in
    let put = Puts-push c.args.name.now c.args.files.now.items _ c.in_ok-name-in-None.ensures.ok none in
    rw (c.in_ok-push-in-None.ensures.items, ← c.in_ok-bytes.ensures.items) put
