use Rattle.std.proofs.Common.{◌≡◌, ℕ, ◌+◌, List, length, drop, take, arith, ap, subst, sym, ◌∙◌}
use Rattle.std.proofs.lemmas.List.{length-drop, take_rest}
use Rattle.std.proofs.lemmas.Result.{err_from_is_err_and}
use Rattle.opb_forms.specs.Answers.{behind}
use Rattle.opb_forms.specs.Values.{said_by_word, said_by_words, words_of}
use Rattle.opb_forms.proofs.SaidLemmas.{Adds-last, Adds-stop, Lits, joined-added, words-alone, words-found}
use Rattle.opb_forms.proofs.lines.add_words.Goals as goal

pub words-preserved : goal.words-preserved
words-preserved c =
    let rest : List ℕ = c.words.rest.now in
    let at : ℕ = c.in-Some.at in
    let left : List ℕ = drop (at + 1) rest in
    let mid : Lits = c.words.lits.items in
    let new : Lits = c.add_word.new.lits.items in
    let whole = said_by_words (words_of c.args.text.now) in
    record {
      said = subst (λ (b : List ℕ). behind new (said_by_words (words_of b)) ≡ behind c.args.lits.now.items whole)
          (sym (take_rest rest (at + 1)))
          (joined-added mid new (said_by_word (take at rest)) (said_by_words (words_of left)) c.in_ok-add_word.ensures
          ∙ ap (behind mid) (sym (words-found rest at c.in-Some.ensures))
          ∙ c.words.invariant.said);
      short = omega (
        arith,
        c.words.invariant.short,
        length-drop (at + 1) rest,
        ap length (take_rest rest (at + 1)),
      );
    }

pub overflow_add-rest : goal.overflow_add-rest
overflow_add-rest c = omega (arith, c.in-Some.ensures.0.high, c.words.invariant.short, c.requires)

pub returns-in_err-add_word : goal.returns-in_err-add_word
returns-in_err-add_word c =
    let rest : List ℕ = c.words.rest.now in
    let at : ℕ = c.in-Some.at in
    let left : List ℕ = drop (at + 1) rest in
    let p = err_from_is_err_and c.from_residual.result c.from_residual.ensures.1 in
    rw (p.1, p.2)
    (Adds-stop c.args.lits.now.items c.words.lits.items c.add_word.new.lits.items
    (said_by_words (words_of c.args.text.now)) (said_by_word (take at rest)) (said_by_words (words_of left))
    c.in_err-add_word.field-0.0
    (ap (behind c.words.lits.items) (sym (words-found rest at c.in-Some.ensures)) ∙ c.words.invariant.said)
    c.in_err-add_word.ensures)

pub returns : goal.returns
returns c =
    let rest : List ℕ = c.words.rest.now in
    Adds-last c.args.lits.now.items c.words.lits.items c.add_word-2.new.lits.items
    (said_by_words (words_of c.args.text.now)) (said_by_word rest) c.add_word-2.result
    (ap (behind c.words.lits.items) (sym (words-alone rest c.in_default.ensures)) ∙ c.words.invariant.said)
    c.add_word-2.ensures
