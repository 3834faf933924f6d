-- Texts of which each part is said in another way.
use Rattle.std.proofs.Common.{◌≡◌, ℕ, List, ◌++◌, append_assoc, ap, ◌∙◌}

pub two_parts : (text : List ℕ → List ℕ → List ℕ) (a b c d : List ℕ) → a ≡ c → b ≡ d → text a b ≡ text c d
two_parts text a b c d first second = ap (λ (x : List ℕ). text x b) first ∙ ap (λ (x : List ℕ). text c x) second

pub three_parts : (text : List ℕ → List ℕ → List ℕ → List ℕ) (a b c x y z : List ℕ) → a ≡ x → b ≡ y → c ≡ z → text a b c ≡ text x y z
three_parts text a b c x y z first second third = two_parts (λ (k l : List ℕ). text k l c) a b x y first second ∙ ap (λ (l : List ℕ). text x y l) third

pub five_parts : (text : List ℕ → List ℕ → List ℕ → List ℕ → List ℕ → List ℕ) (a b c d e v w x y z : List ℕ) → a ≡ v → b ≡ w → c ≡ x → d ≡ y → e ≡ z → text a b c d e ≡ text v w x y z
five_parts text a b c d e v w x y z first second third fourth fifth =
    three_parts (λ (k l m : List ℕ). text k l m d e) a b c v w x first second third
    ∙ two_parts (λ (k l : List ℕ). text v w x k l) d e y z fourth fifth

pub seven_parts : (text : List ℕ → List ℕ → List ℕ → List ℕ → List ℕ → List ℕ → List ℕ → List ℕ) (a b c d e f g t u v w x y z : List ℕ) → a ≡ t → b ≡ u → c ≡ v → d ≡ w → e ≡ x → f ≡ y → g ≡ z → text a b c d e f g ≡ text t u v w x y z
seven_parts text a b c d e f g t u v w x y z first second third fourth fifth sixth seventh =
    five_parts (λ (k l m n o : List ℕ). text k l m n o f g) a b c d e t u v w x first second third fourth fifth
    ∙ two_parts (λ (k l : List ℕ). text t u v w x k l) f g y z sixth seventh

pub six_parts : (text : List ℕ → List ℕ → List ℕ → List ℕ → List ℕ → List ℕ → List ℕ) (a b c d e f u v w x y z : List ℕ) → a ≡ u → b ≡ v → c ≡ w → d ≡ x → e ≡ y → f ≡ z → text a b c d e f ≡ text u v w x y z
six_parts text a b c d e f u v w x y z first second third fourth fifth sixth =
    three_parts (λ (k l m : List ℕ). text k l m d e f) a b c u v w first second third
    ∙ three_parts (λ (k l m : List ℕ). text u v w k l m) d e f x y z fourth fifth sixth

-- two pieces, one after another
pub two_pieces : (old mid one two first second : List ℕ) → mid ≡ old ++ one → one ≡ first → two ≡ second → mid ++ two ≡ old ++ (first ++ second)
two_pieces old mid one two first second is is_first is_second =
    ap (λ (l : List ℕ). l ++ two) is ∙ append_assoc old one two ∙ two_parts (λ (k l : List ℕ). old ++ (k ++ l)) one two first second is_first is_second
