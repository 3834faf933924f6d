use Rattle.season_misses.proofs.structure.place_text.Goals as goal

pub returns-in-Meeting : goal.returns-in-Meeting
returns-in-Meeting c = rw c.in-Meeting.is (rw (← c.name_at-first.ensures, ← c.name_at-second.ensures) c.format.ensures.ok)

pub returns-in-Early : goal.returns-in-Early
returns-in-Early c = rw c.in-Early.is (rw (← c.name_at-first.ensures, ← c.name_at-second.ensures) c.format-in-Early.ensures.ok)
