-- Texts that grow at their end, and spaces at the end of a line.
use Rattle.std.proofs.Common.{◌≡◌, ℕ, ◌-◌, ◌<◌, ◌≤◌, Bool, true, false, List, ◌++◌, length, get_or, sym, ap, ◌∙◌, arith, append_assoc}
use Rattle.std.specs.List.{suffix_len}
use Rattle.std.proofs.lemmas.List.Sums.{suffix_len_is}

-- the bytes up to a run that passes to the end
pub run_back : (test : ℕ → Bool) (bytes : List ℕ) (len : ℕ) → len ≤ length bytes → ((k : ℕ) → len ≤ k → k < length bytes → test (get_or bytes k 0) ≡ true) → (0 < len → test (get_or bytes (len - 1) 0) ≡ false) → len ≡ length bytes - suffix_len test bytes
run_back test bytes len within passes stops =
    let run : suffix_len test bytes ≡ length bytes - len = suffix_len_is test bytes len 0 within passes stops in
    omega arith

-- three, four and five parts behind a text
pub join_three : {X : Type 0} (old a b c : List X) → ((old ++ a) ++ b) ++ c ≡ old ++ (a ++ (b ++ c))
join_three old a b c = append_assoc (old ++ a) b c ∙ append_assoc old a (b ++ c)

pub join_four : {X : Type 0} (old a b c d : List X) → (((old ++ a) ++ b) ++ c) ++ d ≡ old ++ (a ++ (b ++ (c ++ d)))
join_four old a b c d = append_assoc ((old ++ a) ++ b) c d ∙ join_three old a b (c ++ d)

pub join_five : {X : Type 0} (old a b c d e : List X) → ((((old ++ a) ++ b) ++ c) ++ d) ++ e ≡ old ++ (a ++ (b ++ (c ++ (d ++ e))))
join_five old a b c d e = append_assoc (((old ++ a) ++ b) ++ c) d e ∙ join_four old a b c (d ++ e)

-- four and five parts that are added one by one
pub added_four : {X : Type 0} (old a b c d t1 t2 t3 t4 : List X) → t1 ≡ old ++ a → t2 ≡ t1 ++ b → t3 ≡ t2 ++ c → t4 ≡ t3 ++ d → t4 ≡ old ++ (a ++ (b ++ (c ++ d)))
added_four old a b c d t1 t2 t3 t4 e1 e2 e3 e4 =
    e4 ∙ ap (λ x. x ++ d) (e3 ∙ ap (λ x. x ++ c) (e2 ∙ ap (λ x. x ++ b) e1)) ∙ join_four old a b c d

pub added_five : {X : Type 0} (old a b c d e t1 t2 t3 t4 t5 : List X) → t1 ≡ old ++ a → t2 ≡ t1 ++ b → t3 ≡ t2 ++ c → t4 ≡ t3 ++ d → t5 ≡ t4 ++ e → t5 ≡ old ++ (a ++ (b ++ (c ++ (d ++ e))))
added_five old a b c d e t1 t2 t3 t4 t5 e1 e2 e3 e4 e5 =
    e5 ∙ ap (λ x. x ++ e) (added_four old a b c d t1 t2 t3 t4 e1 e2 e3 e4 ∙ sym (join_four old a b c d)) ∙ join_five old a b c d e
