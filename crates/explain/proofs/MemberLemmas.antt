-- The numbers of members, one member more at a time.
use Rattle.std.proofs.Common.{◌≡◌, ℕ, ◌+◌, ◌<◌, Bool, true, false, cond, List, [], ◌∷◌, ◌++◌, length, get_or, take}
use Rattle.std.proofs.Common.{ap, sym, ◌∙◌}
use Rattle.std.specs.List.{filter}
use Rattle.std.proofs.lemmas.List.{append-nil, map-append, take_more}
use Rattle.std.proofs.lemmas.List.Elements.{filter-append}
use Rattle.explain.specs.Standings.{numbers_of}
use Rattle.explain.specs.declared.member.Member.{Member}

-- the number of the next member comes behind those so far
pub numbers-more : (members : List Member) (k : ℕ) (m : Member) → k < length members → m ≡ get_or members k m
    → numbers_of (take (k + 1) members) ≡ numbers_of (take k members) ++ m.number ∷ []
numbers-more members k m within is =
    ap (λ (ms : List Member). numbers_of ms)
    (take_more members k m within ∙ ap (λ (x : Member). take k members ++ x ∷ []) (sym is))
    ∙ map-append (λ (x : Member). x.number) (take k members) (m ∷ [])

filtered-more : (keep : ℕ → Bool) (members : List Member) (k : ℕ) (m : Member) (b : Bool) → k < length members
    → m ≡ get_or members k m → keep m.number ≡ b
    → filter keep (numbers_of (take (k + 1) members))
    ≡ filter keep (numbers_of (take k members)) ++ cond b (m.number ∷ []) []
filtered-more keep members k m b within is passes =
    ap (λ (ks : List ℕ). filter keep ks) (numbers-more members k m within is)
    ∙ filter-append keep (numbers_of (take k members)) (m.number ∷ [])
    ∙ ap (λ (c : Bool). filter keep (numbers_of (take k members)) ++ cond c (m.number ∷ []) []) passes

-- and so it does among the numbers that pass a test, where it passes
pub filtered-yes : (keep : ℕ → Bool) (members : List Member) (k : ℕ) (m : Member) → k < length members
    → m ≡ get_or members k m → keep m.number ≡ true
    → filter keep (numbers_of (take (k + 1) members)) ≡ filter keep (numbers_of (take k members)) ++ m.number ∷ []
filtered-yes keep members k m within is passes = filtered-more keep members k m true within is passes

pub filtered-no : (keep : ℕ → Bool) (members : List Member) (k : ℕ) (m : Member) → k < length members
    → m ≡ get_or members k m → keep m.number ≡ false
    → filter keep (numbers_of (take (k + 1) members)) ≡ filter keep (numbers_of (take k members))
filtered-no keep members k m within is passes =
    filtered-more keep members k m false within is passes ∙ append-nil (filter keep (numbers_of (take k members)))
