-- What a search for a byte found.
use Rattle.std.proofs.Common.{◌≡◌, ℕ, ◌+◌, ◌<◌, List, [], ◌∷◌, ◌++◌, take, drop, get_or, Some, None}
use Rattle.std.proofs.Common.{false, refl, sym, ap, ◌∙◌, arith, add-one}
use Rattle.std.proofs.lemmas.Bool.{eqb-true}
use Rattle.std.proofs.lemmas.List.{take-append-drop, get_or-take, length-take}
use Rattle.std.proofs.lemmas.List.Elements.{All-from_get_or}
use Rattle.std.proofs.Math.Seq.{drop-cons}
use Rattle.memchr.specs.Find.{IsFirstByte, is_byte}
use Rattle.refutation.specs.Lines.{tokens_of, is_space}
use Rattle.refutation.specs.Cuts.{Lacks}
use Rattle.refutation.proofs.SplitLemmas.{split-last, split-part}
use Rattle.refutation.proofs.TokenLemmas.{fails}

-- the first place, and the bytes before it
pub record IsFound (needle : ℕ) (bytes : List ℕ) (at : ℕ) : Type 0 where
  pub parts : bytes ≡ take at bytes ++ needle ∷ drop (at + 1) bytes
  pub lacks : Lacks (is_byte needle) (take at bytes)

pub found-some : (needle : ℕ) (bytes : List ℕ) (at : ℕ) → IsFirstByte (is_byte needle) bytes (Some at)
    → IsFound needle bytes at
found-some needle bytes at found =
    let cons = drop-cons bytes at 0 found.0.high in
    let here : get_or bytes at 0 ≡ needle = eqb-true (get_or bytes at 0) needle found.1 in
    record {
      parts = sym (take-append-drop at bytes) ∙ ap (λ rest. take at bytes ++ rest)
          (cons ∙ rw (here, add-one at) refl);
      lacks = All-from_get_or (λ b. is_byte needle b ≡ false) (take at bytes) 0
          (λ i below. let before : i < at = omega (arith, length-take at bytes) in rw (get_or-take at bytes i 0 before)
          (fails (is_byte needle (get_or bytes i 0)) (found.0.before i (omega arith) before)));
    }

pub found-none : (needle : ℕ) (bytes : List ℕ) → IsFirstByte (is_byte needle) bytes None
    → Lacks (is_byte needle) bytes
found-none needle bytes none = All-from_get_or (λ b. is_byte needle b ≡ false) bytes 0
    (λ i below. fails (is_byte needle (get_or bytes i 0)) (none i (omega arith) below))

-- the first token
pub token-found : (bytes : List ℕ) (at : ℕ) → IsFirstByte (is_byte 32) bytes (Some at)
    → tokens_of bytes ≡ take at bytes ∷ tokens_of (drop (at + 1) bytes)
token-found bytes at found =
    let is = found-some 32 bytes at found in
    ap tokens_of is.parts ∙ split-part is_space (take at bytes) 32 (drop (at + 1) bytes) is.lacks refl

pub token-alone : (bytes : List ℕ) → IsFirstByte (is_byte 32) bytes None → tokens_of bytes ≡ bytes ∷ []
token-alone bytes none = split-last is_space bytes (found-none 32 bytes none)
