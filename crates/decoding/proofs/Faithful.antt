-- The encoding is faithful both ways.
use Rattle.std.proofs.Common.{◌≡◌, ℕ, Bool, true, false, nat_lt, ◌++◌, arith, ◌∙◌, sym}
use Rattle.std.proofs.lemmas.Bool.Decides.{nat_tests}
use Rattle.league.specs.Counts.{Counts, counts_of}
use Rattle.league.specs.Instance.{Instance}
use Rattle.league.proofs.RangeLemmas.{one_if}
use Rattle.rows.specs.Rows.{SatisfiesAll}
use Rattle.rows.proofs.TestLemmas.{SatisfiesAll-from_true, all_satisfied-true}
use Rattle.encoding.specs.Encoding.{constraint_rows, rows_of, season_rows}
use Rattle.encoding.specs.Season.{break_rows}
use Rattle.encoding.specs.Shadow.{decoded}
use Rattle.encoding.specs.Variables.{has_breaks, x_var}
use Rattle.decoding.specs.Faithful.{AcceptedHaveShadows, AnswersAreAccepted, AnswersAreShadows, ShadowsDecode}
use Rattle.decoding.specs.Faithful.{ShadowsSatisfy}
use Rattle.decoding.proofs.ConstraintLaws.{MeetsHard-from_true, all_fit, constraints_law, meets_hard-true}
use Rattle.decoding.proofs.DecodedCounts.{counts_of-decoded_game}
use Rattle.decoding.proofs.SeasonRows.{IsMirroredSeason, MirrorsGames-from_shadow, both_satisfied, break_rows-met_by}
use Rattle.decoding.proofs.SeasonRows.{mirrored-from_shadow, satisfied_both}
use Rattle.decoding.proofs.SeasonRows.{season-from_rows, season_rows-met}
use Rattle.decoding.proofs.SomeShadow.{shadow_values, some_shadow}
use Rattle.decoding.proofs.BreakRows.{home_value}

-- the rows of a league but for those of its constraints, where all are satisfied
season_of : (league : Instance) (values : ℕ → Bool) → SatisfiesAll values (rows_of league) →
    IsMirroredSeason league.n league.phased (has_breaks league.constraints) (counts_of (decoded league.n values))
    values
season_of league values meets =
    let n = league.n in
    let breaks = has_breaks league.constraints in
    let rows = season_rows n league.phased ++ break_rows n breaks in
    let all = both_satisfied values rows (constraint_rows n league.constraints)
    (all_satisfied-true values (rows_of league) meets) in
    let seven = both_satisfied values (season_rows n league.phased) (break_rows n breaks) all.0 in
    season-from_rows n league.phased breaks values seven.0 seven.1

-- what satisfies every row decodes to an accepted schedule
pub accepted-from_rows : AnswersAreAccepted
accepted-from_rows league values is meets =
    let n = league.n in
    let breaks = has_breaks league.constraints in
    let m : Counts = counts_of (decoded n values) in
    let rows = season_rows n league.phased ++ break_rows n breaks in
    let all = both_satisfied values rows (constraint_rows n league.constraints)
    (all_satisfied-true values (rows_of league) meets) in
    let season = season_of league values meets in
    record {
      round_robin = season.round_robin;
      hard = MeetsHard-from_true league m (sym (constraints_law n m values season.mirrors league.constraints
          season.break_values (all_fit league is.fit)) ∙ all.1);
    }

-- an accepted schedule's shadow satisfies every row
pub rows-from_accepted : ShadowsSatisfy
rows-from_accepted league m values is accepted shadow =
    let n = league.n in
    let breaks = has_breaks league.constraints in
    let season = mirrored-from_shadow n league.phased breaks m values shadow accepted.round_robin in
    let six = season_rows-met n league.phased breaks m values shadow accepted.round_robin in
    let seven = satisfied_both values (season_rows n league.phased) (break_rows n breaks) six
    (break_rows-met_by n breaks m values season.mirrors season.break_values) in
    SatisfiesAll-from_true values (rows_of league)
    (satisfied_both values (season_rows n league.phased ++ break_rows n breaks)
    (constraint_rows n league.constraints) seven
    (constraints_law n m values season.mirrors league.constraints season.break_values
    (all_fit league is.fit) ∙ meets_hard-true league m accepted.hard))

-- each accepted schedule has a shadow
pub shadow-from_accepted : AcceptedHaveShadows
shadow-from_accepted league m is accepted =
    let values = shadow_values league.n m in
    let shadow = some_shadow league.n m (has_breaks league.constraints) in
    (values, shadow, rows-from_accepted league m values is accepted shadow)

-- the shadow of a schedule decodes to its games
pub decoded-shadow : ShadowsDecode
decoded-shadow n breaks m values is cells i j s home away differ slot =
    counts_of-decoded_game n values i j s home away differ slot ∙ MirrorsGames-from_shadow n breaks m values is cells
    i j s home away differ slot

one_is_some : (b : Bool) (count : ℕ) → count ≡ one_if b → b ≡ nat_lt 0 count
one_is_some true count is = grind (arith, nat_tests)
one_is_some false count is = grind (arith, nat_tests)

pub shadow-decoded : AnswersAreShadows
shadow-decoded league values meets =
    let n = league.n in
    let m : Counts = counts_of (decoded n values) in
    let season = season_of league values meets in
    record {
      games = λ i j s home away differ slot. one_is_some (values (x_var n i j s)) (m i j s)
          (counts_of-decoded_game n values i j s home away differ slot);
      venues = λ i s team slot. home_value n m values i s season.mirrors team slot;
      home_breaks = λ has. (season.break_values has).home;
      away_breaks = λ has. (season.break_values has).away;
    }
