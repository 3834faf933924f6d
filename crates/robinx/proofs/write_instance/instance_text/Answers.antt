use Rattle.std.proofs.Common.{◌≡◌, ◌++◌, [], List, ℕ, Bool, ap, ◌∙◌, subst}
use Rattle.std.specs.Prelude.{codes, None}
use Rattle.std.specs.List.{All}
use Rattle.league.specs.declared.class.Constraint.{Constraint}
use Rattle.robinx.specs.Texts.{constraints_after, instance_text as text_of}
use Rattle.robinx.specs.Held.{IsHeld}
use Rattle.robinx.specs.Texts.{head_text, season_text}
use Rattle.robinx.proofs.WrittenTexts.{four_pieces}
use Rattle.robinx.proofs.InstanceLemmas.{instance-reads_back}
use Rattle.robinx.proofs.write_instance.instance_text.Goals as goal

whole : (c : goal.In_ok-extend_from_slice) → c.extend_from_slice.new.self.items ≡ text_of c.args.league.now
whole c =
    let league = c.args.league.now in
    let head : c.put_head.new.text.items ≡ [] ++ head_text league.phased =
    c.in_ok-put_head.ensures ∙ ap (λ (l : List ℕ). l ++ head_text c.phased.result) c.new-text.ensures.items ∙ ap (λ (b : Bool). [] ++ head_text b) c.phased.ensures in
    let season : c.put_season.new.text.items ≡ c.put_head.new.text.items ++ season_text league.n =
    c.in_ok-put_season.ensures ∙ ap (λ (n : ℕ). c.put_head.new.text.items ++ season_text n) c.n.ensures.n in
    let constraints : c.put_constraints.new.text.items ≡ c.put_season.new.text.items ++ constraints_after None league.constraints =
    c.in_ok-put_constraints.ensures.written ∙ ap (λ (l : List Constraint). c.put_season.new.text.items ++ constraints_after None l) c.constraints.ensures in
    four_pieces [] c.put_head.new.text.items c.put_season.new.text.items c.put_constraints.new.text.items c.extend_from_slice.new.self.items (head_text league.phased) (season_text league.n) (constraints_after None league.constraints) (codes "</Constraints>\n</Instance>\n")
    head season constraints c.in_ok-extend_from_slice.ensures.items

pub returns-clause-text : goal.returns-clause-text
returns-clause-text c = whole c

pub returns-clause-reads_back : goal.returns-clause-reads_back
returns-clause-reads_back c =
    let held : All IsHeld c.args.league.now.constraints = subst (λ (l : List Constraint). All IsHeld l) c.constraints.ensures c.in_ok-put_constraints.ensures.held in
    rw (whole c) (instance-reads_back c.args.league.now c.n.ensures.instance held)
