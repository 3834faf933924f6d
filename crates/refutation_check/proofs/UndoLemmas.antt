-- Variables that are freed one after another.
use Rattle.std.proofs.Common.{◌≡◌, ◌≢◌, ℕ, ◌+◌, ◌-◌, ◌<◌, ◌≤◌, List, length}
use Rattle.std.proofs.Common.{take, get_or, inl, inr, refl, sym, subst, ◌∙◌}
use Rattle.std.specs.Prelude.{slice_set}
use Rattle.std.specs.List.{All}
use Rattle.std.proofs.lemmas.Bool.{cases_eq}
use Rattle.std.proofs.lemmas.List.Elements.{All-contains, All-more, All-weaker}
use mathlib.Core.Path.{fun_ext}
use Rattle.rows.specs.Trails.{IsListed}
use Rattle.rows.specs.Values.{valued}
use Rattle.rows.specs.declared.partial.Value.{Value}
use Rattle.rows.specs.declared.partial.Value.TheVariants.{True, False, Free}
use Rattle.rows.proofs.TrailLemmas.{valued-set_other, valued-set_same}
use Rattle.refutation.specs.Following.{all_free}

-- what is free stays free
pub free_stays : (values : List Value) (v w : ℕ) → 1 ≤ v → v ≤ length values → valued values w ≡ Free
    → valued (slice_set values (v - 1) Free) w ≡ Free
free_stays values v w from_one within free =
    elim (cases_eq w v) [
      | inl same ↦
          subst (λ (u : ℕ). valued (slice_set values (v - 1) Free) u ≡ Free) (sym same)
          (valued-set_same values v Free from_one within)
      | inr other ↦ valued-set_other values v w Free from_one other ∙ free
    ]

pub freed_next : (values : List Value) (vars : List ℕ) (i v : ℕ) → i < length vars → v ≡ get_or vars i 0
    → 1 ≤ v → v ≤ length values → All (λ w. valued values w ≡ Free) (take i vars)
    → All (λ w. valued (slice_set values (v - 1) Free) w ≡ Free) (take (i + 1) vars)
freed_next values vars i v there is from_one within freed =
    All-more (λ w. valued (slice_set values (v - 1) Free) w ≡ Free) vars i 0 there
    (All-weaker (λ w. valued values w ≡ Free) (λ w. valued (slice_set values (v - 1) Free) w ≡ Free)
    (λ w free. free_stays values v w from_one within free) (take i vars) freed)
    (subst (λ (u : ℕ). valued (slice_set values (v - 1) Free) u ≡ Free) is
    (valued-set_same values v Free from_one within))

free_unless : (value : Value) → (value ≢ Free → ⊥) → value ≡ Free
free_unless True wrong = absurd (wrong (λ is. cc))
free_unless False wrong = absurd (wrong (λ is. cc))
free_unless Free wrong = refl

-- where all that were listed are free, all are
pub all_freed : (before now : List Value) (vars : List ℕ) → IsListed before vars
    → All (λ v. valued now v ≡ Free) vars → ((v : ℕ) → valued now v ≢ Free → valued before v ≢ Free)
    → valued now ≡ all_free
all_freed before now vars listed freed kept =
    fun_ext (λ v. free_unless (valued now v)
    (λ taken. taken (All-contains (λ w. valued now w ≡ Free) vars v freed (listed.set v (kept v taken)))))
