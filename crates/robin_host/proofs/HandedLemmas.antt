-- A file that is handed on in pieces: the front, one piece more, and the end.
use Rattle.std.proofs.Common.{◌≡◌, ℕ, List, [], ◌++◌, Option, None, Some, IfSome, sym, ap, subst, ◌∙◌, append-nil}
use Rattle.std.proofs.KnownBytes.{Appends-nil, Appends-trans, Consumes-trans}
use Rattle.std.specs.Io.KnownBytes.{Appends, Consumes, IsAtEnd, Keeps}
use Rattle.robin_host.specs.Handed.{IsHanded}

consumes-none : (file left : Option (List ℕ)) → Keeps file left → Consumes file left []
consumes-none None left kept = tt
consumes-none (Some x) None kept = absurd kept
consumes-none (Some x) (Some y) kept = sym kept

-- of a file that was just started nothing is handed on
pub handed-none : (file left written : Option (List ℕ)) → Keeps file left → IsHanded file left written written
handed-none file left written kept = ([], consumes-none file left kept, Appends-nil written)

-- a piece is taken and put
pub handed-more : (file left later before now after : Option (List ℕ)) (piece : List ℕ)
    → IsHanded file left before now → Consumes left later piece → Appends now after piece
    → IsHanded file later before after
handed-more file left later before now after piece handed taken put = (
  handed.0 ++ piece,
  Consumes-trans file left later handed.0 piece handed.1 taken,
  Appends-trans before now after handed.0 piece handed.2 put,
)

-- where nothing more is taken, and nothing is left, the whole is handed on
pub handed-all : (file left last before now : Option (List ℕ)) (piece : List ℕ)
    → IsHanded file left before now → Consumes left last piece → piece ≡ [] → IsAtEnd last
    → IfSome file (λ bytes. Appends before now bytes)
handed-all None left last before now piece handed taken none end = tt
handed-all (Some x) None last before now piece handed taken none end = absurd handed.1
handed-all (Some x) (Some y) None before now piece handed taken none end = absurd taken
handed-all (Some x) (Some y) (Some z) before now piece handed taken none end =
    let nothing : y ≡ [] = taken ∙ ap (λ front. front ++ z) none ∙ end in
    let same : x ≡ handed.0 = handed.1 ∙ ap (λ rest. handed.0 ++ rest) nothing ∙ append-nil handed.0 in
    subst (Appends before now) (sym same) handed.2
