-- How the fields of a watch that keeps seasons are seen.
use Rattle.robin_host.specs.declared.keeper.SeasonKeeper.{SeasonKeeper}

-- the watch that it asks and tells
abbrev pub watch_of : {W R : Type 0} → SeasonKeeper W R → W
watch_of keeper = keeper.watch
