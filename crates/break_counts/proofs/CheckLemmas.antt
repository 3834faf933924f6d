-- Rows over the variables that there are are within them, and an accepted log refutes them.
use Rattle.std.proofs.Common.{◌≡◌, ℕ, List, ap, get_or, subst, sym, ◌∙◌}
use Rattle.std.specs.List.{All}
use Rattle.league.specs.Instance.{Instance}
use Rattle.rows.specs.Rows.{Row}
use Rattle.encoding.specs.Encoding.{rows_of}
use Rattle.encoding.specs.Known.{AreKnown, IsKnown}
use Rattle.encoding.specs.Variables.{var_count}
use Rattle.refutation.specs.Steps.{NamesRows, Step}
use Rattle.refutation.specs.Verdict.{verdict_of}
use Rattle.refutation.specs.Writable.{HasShortLines}
use Rattle.refutation.specs.declared.verdict.Verdict.{Verdict}
use Rattle.refutation.specs.declared.verdict.Verdict.TheVariants.{Accepted}
use Rattle.refutation_check.specs.Within.{AreWithin, IsWithin}
use Rattle.venue_counts.specs.CountLogs.{IsRefuting}

row-within : (vars : ℕ) (row : Row) → IsKnown vars row → IsWithin vars row
row-within vars row known k d within = (known k d within).1

pub known-within : (vars : ℕ) (rows : List Row) → AreKnown vars rows → AreWithin vars rows
known-within vars rows known k d within = row-within vars (get_or rows k d) (known k d within)

-- the rows of a league, as they are seen
module _ (league : Instance) (rows : List Row) (vars : ℕ) (same : rows ≡ rows_of league) (count : vars ≡ var_count league)
  where
    pub seen-within : AreKnown (var_count league) (rows_of league) → AreWithin vars rows
    seen-within known =
        subst (λ (rs : List Row). AreWithin vars rs) (sym same)
        (subst (λ (v : ℕ). AreWithin v (rows_of league)) (sym count)
        (known-within (var_count league) (rows_of league) known))

    pub seen-refuted : (verdict : Verdict) (log : List Step) → verdict ≡ verdict_of rows vars log → verdict ≡ Accepted
        → All NamesRows log → HasShortLines log → IsRefuting league log
    seen-refuted verdict log told accepted named short = record {
      accepted = ap (λ (v : ℕ). verdict_of (rows_of league) v log) (sym count)
          ∙ ap (λ (rs : List Row). verdict_of rs vars log) (sym same)
          ∙ sym told
          ∙ accepted;
      named = named;
      short_lines = short;
    }
