use Rattle.std.proofs.Common.{◌≡◌, ℕ, get_or, refl, arith, ap, ◌∙◌}
use Rattle.std.proofs.lemmas.List.{get_or-set_other, get_or-set_same, length-set}
use Rattle.std.specs.Int.{bit_at}
use Rattle.league.proofs.TableLemmas.{read_at}
use Rattle.rule_core.proofs.counters.Counters.mark.Goals as goal

pub returns : goal.returns
returns c =
    let xs = c.args.self.now.marks.items in
    let row : ℕ = c.args.row in
    let read : c.index.result.now ≡ get_or xs row 0 = read_at xs row c.index.result.now c.requires.row c.index.ensures in
    let here = get_or-set_same xs row c.marked.result 0 c.requires.row in
    record {
      as_wide = refl;
      as_numbered = refl;
      as_many = length-set xs row c.marked.result;
      small = omega (arith, here, c.marked.ensures.small);
      here = ap (λ (x : ℕ). bit_at x c.args.column) here ∙ c.marked.ensures.same;
      along = λ k lt differ. ap (λ (x : ℕ). bit_at x k) here ∙ c.marked.ensures.others k lt differ ∙ ap (λ (x : ℕ). bit_at x k) read;
      others = λ i differ. get_or-set_other xs row i c.marked.result 0 differ;
    }
