-- Texts that grow piece by piece.
use Rattle.std.proofs.Common.{◌≡◌, ℕ, suc, ◌+◌, ◌<◌, List, [], ◌∷◌, ◌++◌, length, drop, get_or, map, decimal, add-one, sym, ap, ◌∙◌, append_assoc}
use Rattle.std.specs.List.{flat_map, join_with_byte}
use Rattle.std.proofs.Math.Seq.{drop-cons}
use Rattle.std.proofs.lemmas.List.{append-nil}
use Rattle.robinx.specs.SeenValues.{further_text}

-- ids after the first
pub joined-cons : (id : ℕ) (ids : List ℕ) → join_with_byte 59 (map decimal (id ∷ ids)) ≡ decimal id ++ flat_map further_text ids
joined-cons id [] = sym (append-nil (decimal id))
joined-cons id (next ∷ ids) = ap (λ (l : List ℕ). decimal id ++ (59 ∷ l)) (joined-cons next ids)

-- two and more pieces, one after another
pub two_pieces : (old first new one two : List ℕ) → first ≡ old ++ one → new ≡ first ++ two → new ≡ old ++ (one ++ two)
two_pieces old first new one two a b = b ∙ ap (λ (l : List ℕ). l ++ two) a ∙ append_assoc old one two

pub three_pieces : (old first second new one two three : List ℕ) → first ≡ old ++ one → second ≡ first ++ two → new ≡ second ++ three → new ≡ old ++ (one ++ (two ++ three))
three_pieces old first second new one two three a b c = two_pieces old first new one (two ++ three) a (two_pieces first second new two three b c)

pub four_pieces : (old first second third new one two three four : List ℕ) → first ≡ old ++ one → second ≡ first ++ two → third ≡ second ++ three → new ≡ third ++ four → new ≡ old ++ (one ++ (two ++ (three ++ four)))
four_pieces old first second third new one two three four a b c d = two_pieces old first new one (two ++ (three ++ four)) a (three_pieces first second third new two three four b c d)

pub five_pieces : (old first second third fourth new one two three four five : List ℕ) → first ≡ old ++ one → second ≡ first ++ two → third ≡ second ++ three → fourth ≡ third ++ four → new ≡ fourth ++ five
    → new ≡ old ++ (one ++ (two ++ (three ++ (four ++ five))))
five_pieces old first second third fourth new one two three four five a b c d e =
    two_pieces old first new one (two ++ (three ++ (four ++ five))) a (two_pieces first second new two (three ++ (four ++ five)) b (three_pieces second third fourth new three four five c d e))

-- the text so far and what is left stay the whole, when the next piece is added
pub piece_added : {X : Type 0} (text_of : X → List ℕ) (xs : List X) (k : ℕ) (x : X) (old new whole : List ℕ) → k < length xs → get_or xs k x ≡ x → new ≡ old ++ text_of x
    → old ++ flat_map text_of (drop k xs) ≡ whole → new ++ flat_map text_of (drop (k + 1) xs) ≡ whole
piece_added {X} text_of xs k x old new whole within is added so_far =
    let rest : List ℕ = flat_map text_of (drop (suc k) xs) in
    ap (λ (j : ℕ). new ++ flat_map text_of (drop j xs)) (add-one k)
    ∙ ap (λ (l : List ℕ). l ++ rest) added
    ∙ append_assoc old (text_of x) rest
    ∙ sym (ap (λ (l : List X). old ++ flat_map text_of l) (drop-cons xs k x within ∙ ap (λ (y : X). y ∷ drop (suc k) xs) is))
    ∙ so_far
