-- Comments at the front of bytes, which are passed over.
use Rattle.std.proofs.Common.{◌≡◌, ℕ, ◌+◌, ◌<◌, Bool, true, false, not, ◌==◌, List, [], ◌∷◌, ◌++◌, decimal}
use Rattle.std.proofs.Common.{Option, Some, None, Ok, Err, refl, ap, ◌∙◌, append_assoc, arith}
use Rattle.std.specs.Prelude.{codes}
use Rattle.std.specs.List.{list_all}
use Rattle.std.proofs.lemmas.Bool.{and_from, not-true}
use Rattle.std.proofs.lemmas.Bool.Decides.{nat_tests}
use Rattle.std.proofs.lemmas.List.Folds.{list_all-append}
use Rattle.robinx.specs.Pieces.{Found, after_text, begins, piece_at}
use Rattle.robinx.specs.declared.tag_fault.FormKind.TheVariants.{Truncated}
use Rattle.robinx.proofs.PieceTexts.{after_text-later}
use Rattle.robinx.specs.Walk.{Meaning, Position}
use Rattle.robinx.proofs.TagLemmas.{and_parts}
use Rattle.robinx.proofs.NumberTexts.{decimal-all}
use Rattle.robinx.proofs.StepLemmas.{Reads, Reads-passed}

-- whether these bytes end no comment that they stand in: none of them is `-`
abbrev pub is_plain_comment : List ℕ → Bool
is_plain_comment body = list_all (λ b. not (45 == b)) body

-- a comment on a line of its own
abbrev pub comment_line : List ℕ → List ℕ
comment_line body = codes "<!--" ++ (body ++ codes "-->\n")

-- ---- what ends a comment

not_here : (b : ℕ) (bytes : List ℕ) → (45 == b) ≡ false → begins (codes "-->") (b ∷ bytes) ≡ false
not_here b bytes other = rw other refl

after_text-comment : (body rest : List ℕ) → is_plain_comment body ≡ true
    → after_text (codes "-->") (body ++ (45 ∷ 45 ∷ 62 ∷ rest)) ≡ Some rest
after_text-comment [] rest plain = refl
after_text-comment (b ∷ body) rest plain =
    let parts = and_parts (not (45 == b)) (is_plain_comment body) plain in
    let others : List ℕ = body ++ (45 ∷ 45 ∷ 62 ∷ rest) in
    after_text-later (codes "-->") b others (not_here b others (not-true (45 == b) parts.0)) ∙ after_text-comment body rest parts.1

abbrev passed : Option (List ℕ) → Found
passed after = elim after [ None ↦ Err Truncated | Some rest ↦ Ok (None, rest) ]

pub piece_at-comment : (line : ℕ) (body rest : List ℕ) → is_plain_comment body ≡ true
    → piece_at line (60 ∷ 33 ∷ 45 ∷ 45 ∷ (body ++ (45 ∷ 45 ∷ 62 ∷ rest))) ≡ Ok (None, rest)
piece_at-comment line body rest plain = ap passed (after_text-comment body rest plain)

module _ {Read : Type 0} (meaning : Meaning Read) where
  pub Reads-comment : (body rest : List ℕ) (at : Position Read) (x : Read) → is_plain_comment body ≡ true → Reads meaning rest at x
      → Reads meaning (60 ∷ 33 ∷ 45 ∷ 45 ∷ (body ++ (45 ∷ 45 ∷ 62 ∷ rest))) at x
  Reads-comment body rest at x plain on =
      let front : List ℕ = 60 ∷ 33 ∷ 45 ∷ 45 ∷ (body ++ (45 ∷ 45 ∷ 62 ∷ [])) in
      let flat : front ++ rest ≡ 60 ∷ 33 ∷ 45 ∷ 45 ∷ (body ++ (45 ∷ 45 ∷ 62 ∷ rest)) = simp append_assoc in
      rw (← flat) (Reads-passed meaning front rest at x (omega arith)
      (λ line. ap (piece_at line) flat ∙ piece_at-comment line body rest plain) on)

-- ---- what may stand in a comment

pub is_plain_comment-append : (first second : List ℕ) → is_plain_comment first ≡ true → is_plain_comment second ≡ true
    → is_plain_comment (first ++ second) ≡ true
is_plain_comment-append first second one two =
    list_all-append (λ b. not (45 == b)) first second ∙ and_from (is_plain_comment first) (is_plain_comment second) one two

digit-plain : (d : ℕ) → d < 10 → not (45 == 48 + d) ≡ true
digit-plain d less = grind (arith, nat_tests)

-- a number, and what follows it
pub is_plain_comment-decimal : (n : ℕ) (rest : List ℕ) → is_plain_comment rest ≡ true
    → is_plain_comment (decimal n ++ rest) ≡ true
is_plain_comment-decimal n rest plain =
    is_plain_comment-append (decimal n) rest (decimal-all (λ b. not (45 == b)) digit-plain n) plain
