use Rattle.std.proofs.Common.{◌≡◌, ◌++◌, [], List, ℕ, ap, ◌∙◌}
use Rattle.std.specs.Prelude.{codes}
use Rattle.std.specs.List.{flat_map}
use Rattle.robinx.specs.Texts.{game_line, score_text, solution_text as text_of}
use Rattle.robinx.proofs.WrittenTexts.{five_pieces}
use Rattle.robinx.proofs.SolutionLemmas.{solution-reads_back}
use Rattle.robinx.proofs.write_solution.solution_text.Goals as goal

pub returns-clause-reads_back : goal.returns-clause-reads_back
returns-clause-reads_back c = λ n size fit few.
    let head = codes "<?xml version=\"1.0\" encoding=\"UTF-8\"?>\n<Solution>\n" in
    let first : c.extend_from_slice.new.self.items ≡ [] ++ head = c.in_ok-extend_from_slice.ensures.items ∙ ap (λ (l : List ℕ). l ++ head) c.new-text.ensures.items in
    let games : c.put_games.new.text.items ≡ c.extend_from_slice-2.new.self.items ++ flat_map game_line c.args.schedule.now =
    c.in_ok-put_games.ensures ∙ ap (λ l. c.extend_from_slice-2.new.self.items ++ flat_map game_line l) c.games.ensures in
    let whole : c.extend_from_slice-3.new.self.items ≡ text_of c.args.schedule.now c.args.score =
    five_pieces [] c.extend_from_slice.new.self.items c.put_score.new.text.items c.extend_from_slice-2.new.self.items
    c.put_games.new.text.items c.extend_from_slice-3.new.self.items head (score_text c.args.score) (codes "<Games>\n")
    (flat_map game_line c.args.schedule.now) (codes "</Games>\n</Solution>\n")
    first c.in_ok-put_score.ensures c.in_ok-extend_from_slice-2.ensures.items games c.in_ok-extend_from_slice-3.ensures.items in
    rw whole (solution-reads_back n c.args.schedule.now c.args.score size few fit)
