-- The value of a variable that its last literal says.
use Rattle.std.proofs.Common.{◌≡◌, ◌≢◌, ℕ, zero, suc, ◌+◌, ◌-◌, ◌<◌, ◌≤◌, ◌==◌, Bool, true, false, List, [], length}
use Rattle.std.proofs.Common.{get_or, set, take, replicate, refl, ap, ◌∙◌, sym, arith}
use Rattle.std.specs.Prelude.{if◌then◌else◌}
use Rattle.std.proofs.lemmas.Bool.{eqb-true}
use Rattle.std.proofs.lemmas.Bool.Decides.{nat_tests}
use Rattle.std.proofs.lemmas.Grind.{get_or-set_at}
use Rattle.std.proofs.lemmas.List.{get_or-set_other}
use Rattle.std.proofs.lemmas.List.Sums.{fold_more}
use Rattle.rows.specs.Literals.{Literal}
use Rattle.rows.specs.Values.{assigned}
use Rattle.opb_forms.specs.Values.{value_in}

-- a literal more
pub value_in-more : (lits : List Literal) (k : ℕ) (l : Literal) (v : ℕ) → k < length lits → l ≡ get_or lits k l
    → value_in (take (k + 1) lits) v ≡ (if l.var == v then l.positive else value_in (take k lits) v)
value_in-more lits k l v there is =
    fold_more (λ (value : Bool) (x : Literal). if x.var == v then x.positive else value) false lits k l there
    ∙ ap (λ (x : Literal). if x.var == v then x.positive else value_in (take k lits) v) (sym is)

none_at : (size i : ℕ) → get_or {A = Bool} (replicate size false) i false ≡ false
none_at zero i = refl
none_at (suc size) zero = refl
none_at (suc size) (suc i) = none_at size i

-- all are false at first
pub assigned-none : (values : List Bool) (count v : ℕ) → values ≡ replicate count false → assigned values v ≡ value_in [] v
assigned-none values count v is = ap (λ (xs : List Bool). assigned xs v) is ∙ none_at count (v - 1)

set-by_test : (values : List Bool) (var v : ℕ) (b t : Bool) → (var == v) ≡ t → 1 ≤ var → var ≤ length values → 1 ≤ v
    → get_or (set values (var - 1) b) (v - 1) false ≡ (if t then b else get_or values (v - 1) false)
set-by_test values var v b true is least most some =
    let same : var ≡ v = eqb-true var v is in
    get_or-set_at values (var - 1) (v - 1) b false (omega arith) (omega arith)
set-by_test values var v b false is least most some =
    let apart : var ≢ v = grind (arith, nat_tests) in
    get_or-set_other values (var - 1) (v - 1) b false (λ same. apart (omega arith))

-- one variable was given a value
pub assigned-set : (values : List Bool) (var v : ℕ) (b : Bool) → 1 ≤ var → var ≤ length values → 1 ≤ v
    → assigned (set values (var - 1) b) v ≡ (if var == v then b else assigned values v)
assigned-set values var v b least most some = set-by_test values var v b (var == v) refl least most some

-- a variable past the last
pub not_set : (var v : ℕ) (b value : Bool) → v < var → value ≡ (if var == v then b else value)
not_set var v b value past = let is : (var == v) ≡ false = grind (arith, nat_tests) in rw is refl
