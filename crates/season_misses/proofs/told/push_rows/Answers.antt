use Rattle.std.proofs.Common.{◌≡◌, List, ℕ, OnOk, codes, length, map, take, string_bytes, subst, ap, sym, ◌∙◌}
use Rattle.std.specs.List.{flat_map}
use Rattle.std.proofs.lemmas.List.{length-map, take-map}
use Rattle.season_misses.specs.Misses.{more_text, row_line}
use Rattle.season_misses.specs.SeenRow.{row_of}
use Rattle.season_misses.specs.declared.row.Row.{Row}
use Rattle.season_misses.proofs.PartLemmas.{two_pieces}
use Rattle.season_misses.proofs.told.push_rows.Goals as goal

pub returns : goal.returns
returns c =
    let rows : List Row = c.args.rows.now in
    let line = row_line c.args.n c.args.names.now c.args.class.now in
    subst (λ (t : List ℕ). OnOk c.push_more.result (string_bytes c.push_more.new.text ≡ t))
    (two_pieces (string_bytes c.args.text.now) (string_bytes c.push_each_row.new.text)
    (flat_map line (map row_of c.front_of.result.now)) (more_text (codes "  ") (codes " more") c.args.most (length rows))
    (flat_map line (take c.args.most (map row_of rows))) (more_text (codes "  ") (codes " more") c.args.most (length (map row_of rows)))
    c.in_ok-push_each_row.ensures
    (ap (λ (l : List Row). flat_map line (map row_of l)) c.front_of.ensures ∙ ap (flat_map line) (sym (take-map row_of c.args.most rows)))
    (ap (more_text (codes "  ") (codes " more") c.args.most) (sym (length-map rows row_of))))
    c.push_more.ensures
