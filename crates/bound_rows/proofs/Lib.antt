-- How the proof goes. The idea: unit variables pay for what rows lack. A group of softened rows is satisfied exactly if
-- at least as many of its units are true as its rows lack (`group_law`), and the objective row exactly if the true
-- units cost at most the bound (`objective_law`). So what has to be shown is that all groups together lack what the
-- league's objective says.
-- In order: `part_law` says that the rows of a part lack what the part needs in a schedule (`need_of`), by the class
-- laws of `decoding`. `parts_sum` says that the parts of a constraint need its deviation together. `objective_needs`
-- sums over the constraints that are paid for: what the needed units cost is the objective. From values to a schedule:
-- the true units cost at least the needed ones (`needed-le-paid`), so the objective is within the bound
-- (`bounded-from_rows`). From a schedule to values: its shadow gets units, of each group the first ones, just so many
-- as are needed (`with_units`). They are enough, cost what is needed and are in order (`units_enough`, `units_paid`,
-- `units_ordered`), and there are as many as that (`needs_fit`). So `values-from_bounded`. `bounds-from_refuted` is its
-- contraposition, and `costs-bounded` says how large an objective can be.
-- The difficulty is SE1: each of its rows bounds a window by one game and lacks at most one (`lacks-le`), so one group
-- can't say how many slots are lacking. Its parts ask for ever fewer slots, each with one unit, and `steps-se1` says
-- that the missed ones are as many as the slots that are lacking. It needs that two teams meet twice at most. The units
-- must not change what the rows lack: `all_served` compares the values with and without them.

-- The constraints that are paid for:
pub mod PaidLemmas
-- Worked leagues:
pub mod BoundFacts
-- Groups that are added one after another:
pub mod DraftLemmas
-- How many terms bound rows have:
pub mod SizeLemmas
pub mod CountLemmas
pub mod SeparationSizes
pub mod GroupSizes
pub mod PartSizes
-- Every group has room:
pub mod RoomLemmas
-- All bound rows:
pub mod WrittenLemmas
-- The bound rows speak of their variables alone:
pub mod KnownLemmas
-- Sets put together of numbers that ascend:
pub mod SetLemmas
-- Lists of parts that grow by one:
pub mod PartLemmas
-- The parts of a class that fits fit:
pub mod FitParts
-- Groups that are written row by row:
pub mod GroupLemmas
-- Softened rows, and the objective row, are rows:
pub mod RowLemmas
-- Softened rows, and what their units cost:
pub mod SoftLaws
-- What the rows of a part lack:
pub mod SeparationNeeds
pub mod PartNeeds
-- What all units cost that are needed:
pub mod ObjectiveLaws
-- Values of the units:
pub mod UnitLemmas
-- The bound rows are faithful both ways:
pub mod Faithful
-- What a schedule costs at most:
pub mod CostLaws
