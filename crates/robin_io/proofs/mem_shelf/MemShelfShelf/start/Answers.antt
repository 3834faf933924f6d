use Rattle.std.proofs.Common.{◌≡◌, ℕ, ◌≤◌, sym, refl, ap, ◌∙◌, arith, inl, inr}
use Rattle.robin_io.specs.Counts.{raised, Rose}
use Rattle.robin_io.proofs.FileLemmas.{left_at_front, name_at, is_told, not_told}
use Rattle.robin_io.proofs.mem_shelf.MemShelfShelf.start.Goals as goal

rose_once : (before now : ℕ) → now ≡ raised before 1 → Rose before now
rose_once before now risen = omega arith

no_fall : (count : ℕ) → count ≤ count
no_fall count = omega arith

pub returns-then-next_fails-clause-cause : goal.returns-then-next_fails-clause-cause
returns-then-next_fails-clause-cause c =
    rw (← c.self.view_is) (record { later = c.fail.ensures.later; fault = rose_once _ _ c.fail.ensures.counted.risen })

pub returns-then-next_fails-clause-failed : goal.returns-then-next_fails-clause-failed
returns-then-next_fails-clause-failed c =
    rw (← c.self.view_is) (λ failed. inl (c.next_fails.ensures.fails.0 c.if-next_fails.true), λ cause. refl)

pub returns-then-next_fails-clause-fault : goal.returns-then-next_fails-clause-fault
returns-then-next_fails-clause-fault c =
    let counted = c.fail.ensures.counted in
    rw (← c.self.view_is) (record { risen = counted.risen; other_files = counted.other_files; other_faults = counted.other_faults })

pub returns-then-next_fails-clause-calls : goal.returns-then-next_fails-clause-calls
returns-then-next_fails-clause-calls c =
    rw (← c.self.view_is) (ap (λ s. s.calls) c.fail.ensures.rest ∙ c.next_fails.ensures.calls)

pub returns-in-Some-clause-cause : goal.returns-in-Some-clause-cause
returns-in-Some-clause-cause c = rw (← c.self.view_is) (record { later = λ n. no_fall _; fault = tt })

pub returns-in-Some-clause-started : goal.returns-in-Some-clause-started
returns-in-Some-clause-started c =
    name_at c.self.inside.files.items c.args.name.now c.in-Some.file (rw c.deref.ensures.value at (sym c.in-Some.ensures))

pub returns-in-Some-clause-left : goal.returns-in-Some-clause-left
returns-in-Some-clause-left c =
    rw (← c.self.view_is) (left_at_front c.self.inside.files.items c.args.name.now c.in-Some.file (rw c.deref.ensures.value at (sym c.in-Some.ensures)))

pub returns-in-Some-clause-failed : goal.returns-in-Some-clause-failed
returns-in-Some-clause-failed c =
    let told = is_told c.self.inside.files.items c.args.name.now c.in-Some.file (rw c.deref.ensures.value at (sym c.in-Some.ensures)) in
    rw (← c.self.view_is) (
      λ failed. cc,
      λ cause. elim cause [
        | inl planned ↦ (let yes = c.next_fails.ensures.fails.1 planned in cc)
        | inr none ↦ absurd (told none)
      ],
    )

pub returns-in-None-clause-failed : goal.returns-in-None-clause-failed
returns-in-None-clause-failed c =
    let none = not_told c.self.inside.files.items c.args.name.now (rw c.deref.ensures.value at (sym c.in-None.ensures)) in
    rw (← c.self.view_is) (λ failed. inr none, λ cause. refl)

pub returns-in-None-clause-cause : goal.returns-in-None-clause-cause
returns-in-None-clause-cause c =
    rw (← c.self.view_is) (record { later = c.fail-in-None.ensures.later; fault = rose_once _ _ c.fail-in-None.ensures.counted.risen })

pub returns-in-None-clause-fault : goal.returns-in-None-clause-fault
returns-in-None-clause-fault c =
    let counted = c.fail-in-None.ensures.counted in
    rw (← c.self.view_is) (record { risen = counted.risen; other_files = counted.other_files; other_faults = counted.other_faults })
