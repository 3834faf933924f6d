-- Groups of tokens, taken token by token.
use Rattle.std.proofs.Common.{◌≡◌, ℕ, Bool, true, false, ◌&&◌, List, [], ◌∷◌, ◌++◌, map, Option, Some}
use Rattle.std.proofs.Common.{None, refl, sym, ap, ◌∙◌, arith, append_assoc, length-append, inl, inr}
use Rattle.std.specs.List.{list_all}
use Rattle.std.specs.Borrow.{Bor}
use Rattle.std.proofs.lemmas.List.{append-nil}
use Rattle.std.proofs.lemmas.List.Folds.{list_all-append}
use Rattle.std.proofs.lemmas.List.Splits.{slice_split-cons_yes, slice_split-cons_no}
use Rattle.refutation.specs.Lines.{groups_of, is_zero, tokens_of}
use Rattle.refutation.specs.Cuts.{onto_front}
use Rattle.refutation.specs.Tokens.{StandsFirst, StandsWrong, tokens_left}
use Rattle.refutation.specs.Groups.{IsBadGroup, IsGroup, IsSoFar}
use Rattle.refutation.specs.declared.token.Item.{Item}
use Rattle.refutation.proofs.SplitLemmas.{front-front, split-parts}
use Rattle.refutation.proofs.TokenLemmas.{both_true}

-- a token that isn't `0` in front of groups
pub onto_group : (token : List ℕ) (tokens : List (List ℕ)) → is_zero token ≡ false
    → groups_of (token ∷ tokens) ≡ onto_front (token ∷ []) (groups_of tokens)
onto_group token tokens zero =
    let parts = split-parts is_zero tokens in
    slice_split-cons_no is_zero token tokens zero ∙ rw parts.are refl

front-nil : (done : List (List ℕ)) (groups : List (List (List ℕ))) → onto_front done ([] ∷ groups) ≡ done ∷ groups
front-nil done groups = ap (λ first. first ∷ groups) (append-nil done)

map-push : {X Y : Type 0} (f : X → Y) (xs : List X) (x : X) → map f (xs ++ x ∷ []) ≡ map f xs ++ f x ∷ []
map-push f [] x = refl
map-push f (y ∷ xs) x = ap (λ rest. f y ∷ rest) (map-push f xs x)

and_true : (a : Bool) → (a && true) ≡ a
and_true true = refl
and_true false = refl

module _ {T : Type 0} (test small : List ℕ → Bool) (value : List ℕ → T) where
  pub so_far-start : (bytes : List ℕ) (old : List T) → IsSoFar test small value (groups_of (tokens_of bytes)) bytes
      true old old
  so_far-start bytes old =
      let parts = split-parts is_zero (tokens_of bytes) in
      record {
        done = [];
        found = rw parts.are refl;
        written = refl;
        small_is = refl;
        count = omega arith;
        values = λ all. sym (append-nil old);
      }

  -- a token more
  pub so_far-more : (groups : List (List (List ℕ))) (rest : List ℕ) (all_small : Bool) (old new : List T)
      (item : Item T) (left : Bor (List ℕ))
      → IsSoFar test small value groups rest all_small old new
      → StandsFirst test small value rest (Some item) (Some left)
      → IsSoFar test small value groups left.now (all_small && item.small) old (new ++ item.value ∷ [])
  so_far-more groups rest all_small old new item left so_far first = record {
    done = so_far.done ++ first.token ∷ [];
    found =
        so_far.found ∙ ap (λ tokens. onto_front so_far.done (groups_of tokens)) first.tokens
        ∙ ap (onto_front so_far.done) (onto_group first.token (tokens_of left.now) first.says.0)
        ∙ front-front so_far.done (first.token ∷ []) (groups_of (tokens_of left.now));
    written = list_all-append test so_far.done (first.token ∷ []) ∙ rw (so_far.written, first.says.1) refl;
    small_is = rw (so_far.small_is, first.says.2)
        (sym (list_all-append small so_far.done (first.token ∷ [])
        ∙ ap (λ b. list_all small so_far.done && b) (and_true (small first.token))));
    count = omega (
      arith,
      so_far.count,
      length-append new (item.value ∷ []),
      length-append so_far.done
          (first.token ∷ []),
    );
    values = λ all.
        let parts = both_true (list_all small so_far.done) (small first.token)
        (ap (λ b. list_all small so_far.done && b) (sym (and_true (small first.token)))
        ∙ sym (list_all-append small so_far.done (first.token ∷ [])) ∙ all) in
        rw (first.says.3 parts.1, so_far.values parts.0, map-push value so_far.done first.token)
        (append_assoc old (map value so_far.done) (value first.token ∷ []));
  }

  -- `0`
  pub so_far-zero : (groups : List (List (List ℕ))) (rest : List ℕ) (all_small : Bool) (old new : List T)
      (left : Option (Bor (List ℕ)))
      → IsSoFar test small value groups rest all_small old new → StandsFirst test small value rest None left
      → IsGroup test small value groups all_small left old new
  so_far-zero groups rest all_small old new left so_far first = record {
    group = so_far.done;
    found =
        so_far.found ∙ ap (λ tokens. onto_front so_far.done (groups_of tokens)) first.tokens
        ∙ ap (onto_front so_far.done) (slice_split-cons_yes is_zero first.token (tokens_left left) first.says)
        ∙ front-nil so_far.done (groups_of (tokens_left left));
    written = so_far.written;
    small_is = so_far.small_is;
    count = so_far.count;
    values = so_far.values;
  }

  -- a token in front of what is left
  with_token : (groups : List (List (List ℕ))) (rest : List ℕ) (done : List (List ℕ)) (token : List ℕ)
      (others : List (List ℕ))
      → groups ≡ onto_front done (groups_of (tokens_of rest)) → tokens_of rest ≡ token ∷ others
      → is_zero token ≡ false
      → groups ≡ onto_front (done ++ token ∷ []) (groups_of others)
  with_token groups rest done token others found tokens zero =
      found ∙ ap (λ all. onto_front done (groups_of all)) tokens ∙ ap (onto_front done) (onto_group token others zero)
      ∙ front-front done (token ∷ []) (groups_of others)

  wrong-end : (done : List (List ℕ)) (token : List ℕ) (more : List (List ℕ)) → list_all test done ≡ true
      → test token ≡ false → list_all test ((done ++ token ∷ []) ++ more) ≡ false
  wrong-end done token more written wrong =
      rw (list_all-append test (done ++ token ∷ []) more, list_all-append test done (token ∷ []), written, wrong) refl

  -- a wrong token
  pub so_far-bad : (groups : List (List (List ℕ))) (rest : List ℕ) (all_small : Bool) (old new : List T)
      → IsSoFar test small value groups rest all_small old new → StandsWrong test rest → IsBadGroup test groups
  so_far-bad groups rest all_small old new so_far wrong =
      let parts = split-parts is_zero wrong.others in
      record {
        group = (so_far.done ++ wrong.token ∷ []) ++ parts.first;
        others = parts.others;
        found = with_token groups rest so_far.done wrong.token wrong.others so_far.found wrong.tokens wrong.wrong.0
            ∙ ap (onto_front (so_far.done ++ wrong.token ∷ [])) parts.are;
        bad = inl (wrong-end so_far.done wrong.token parts.first so_far.written wrong.wrong.1);
      }

  -- no `0`
  pub so_far-cut : (groups : List (List (List ℕ))) (rest : List ℕ) (all_small : Bool) (old new : List T)
      (item : Item T)
      → IsSoFar test small value groups rest all_small old new → StandsFirst test small value rest (Some item) None
      → IsBadGroup test groups
  so_far-cut groups rest all_small old new item so_far first = record {
    group = (so_far.done ++ first.token ∷ []) ++ [];
    others = [];
    found = with_token groups rest so_far.done first.token [] so_far.found first.tokens first.says.0;
    bad = inr refl;
  }
