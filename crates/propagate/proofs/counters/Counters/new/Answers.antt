use Rattle.std.proofs.Common.{◌≡◌, ◌+◌, ◌*◌, ℕ, List, [], length, ap, subst, sym, ◌∙◌, arith}
use Rattle.std.proofs.lemmas.List.{length-replicate}
use Rattle.std.specs.List.{All}
use Rattle.rows.specs.Rows.{Row}
use Rattle.rows.specs.Values.{valued}
use Rattle.rows.specs.declared.partial.Value.TheVariants.{Free}
use Rattle.rows.proofs.TrailLemmas.{valued-none}
use Rattle.propagate.specs.Tables.{AreCounted}
use Rattle.propagate.specs.declared.link.Link.{Link}
use Rattle.propagate.specs.Trails.{KnowsVariables}
use Rattle.propagate.proofs.CountLemmas.{AreCounted-none}
use Rattle.propagate.proofs.counters.Counters.new.Goals as goal

pub count_all-requires-clause-count : goal.count_all-requires-clause-count
count_all-requires-clause-count c = c.len.ensures.len ∙ sym (ap length c.new-rows.ensures)

pub count_all-requires-clause-few : goal.count_all-requires-clause-few
count_all-requires-clause-few c = c.len.ensures.few

pub count_all-requires-clause-few_variables : goal.count_all-requires-clause-few_variables
count_all-requires-clause-few_variables c =
    omega (arith, ap length c.in_ok-values.ensures, length-replicate c.args.vars Free, c.ranges.vars.fits)

pub count_all-requires-clause-free : goal.count_all-requires-clause-free
count_all-requires-clause-free c = ap valued c.in_ok-values.ensures ∙ valued-none c.args.vars

pub count_all-requires-clause-proper : goal.count_all-requires-clause-proper
count_all-requires-clause-proper c = c.len-len.ensures.rows

pub count_all-requires-clause-known : goal.count_all-requires-clause-known
count_all-requires-clause-known c =
    let count : length c.in_ok-values.values ≡ c.args.vars = ap length c.in_ok-values.ensures ∙ length-replicate c.args.vars Free in
    subst (λ (n : ℕ). All (KnowsVariables n) c.new-rows.result) (sym count)
    (subst (λ (rows : List Row). All (KnowsVariables c.args.vars) rows) (sym c.new-rows.ensures) c.requires)

pub count_all-requires-clause-slots : goal.count_all-requires-clause-slots
count_all-requires-clause-slots c =
    omega (
      arith,
      ap (λ (ls : List (List Link)). length ls) c.in_ok-table.ensures.lists,
      length-replicate {A = List Link} (2 * c.args.vars + 2) [],
      ap length c.in_ok-values.ensures,
      length-replicate c.args.vars Free,
    )

pub count_all-requires-clause-counted : goal.count_all-requires-clause-counted
count_all-requires-clause-counted c =
    AreCounted-none c.new-rows.result (valued c.in_ok-values.values) (2 * c.args.vars + 2) c.in_ok-table.table
    c.in_ok-table.ensures.lists c.in_ok-table.ensures.reach c.in_ok-table.ensures.enough

pub invariant_of-result : goal.invariant_of-result
invariant_of-result c =
    let count : length c.in_ok-values.values ≡ c.args.vars = ap length c.in_ok-values.ensures ∙ length-replicate c.args.vars Free in
    record {
      few = omega (arith, count, c.ranges.vars.fits);
      proper = c.len-len.ensures.rows;
      known = subst (λ (n : ℕ). All (KnowsVariables n) c.new-rows.result) (sym count)
          (subst (λ (rows : List Row). All (KnowsVariables c.args.vars) rows) (sym c.new-rows.ensures) c.requires);
      slots = c.in_ok-count_all.ensures.slots;
      counted = subst (λ (n : ℕ). AreCounted c.new-rows.result n (valued c.in_ok-values.values) c.count_all.new.table)
          (c.len.ensures.len ∙ sym (ap length c.new-rows.ensures)) c.in_ok-count_all.ensures.counted;
    }

pub returns-clause-rows : goal.returns-clause-rows
returns-clause-rows c = c.new-rows.ensures

pub returns-clause-values : goal.returns-clause-values
returns-clause-values c = c.in_ok-values.ensures
