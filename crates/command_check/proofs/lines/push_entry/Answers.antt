use Rattle.std.proofs.Common.{◌≡◌, ℕ, [], ◌∷◌, ◌++◌, string_bytes, decimal, refl, arith, ap, sym, ◌∙◌}
use Rattle.std.specs.Fmt.{digits}
use Rattle.command_check.proofs.lines.push_entry.Goals as goal

zero_text : decimal 0 ≡ 48 ∷ []
unfolding digits
zero_text = refl

pub returns-then-entry-eq0 : goal.returns-then-entry-eq0
returns-then-entry-eq0 c =
    let none : 0 ≡ c.args.entry = omega arith in
    c.in_ok-push_str.ensures.bytes
    ∙ sym (ap (λ xs. string_bytes c.args.text.now ++ 32 ∷ xs) zero_text)
    ∙ ap (λ (x : ℕ). string_bytes c.args.text.now ++ 32 ∷ decimal x) none
