-- The games that were read are those of the league that they were read for.
use Rattle.std.proofs.Common.{◌≡◌, ℕ, List, [], ◌∷◌, ◌++◌, length, Option, Some, None, Ok, refl, sym, ap, ◌∙◌}
use Rattle.std.specs.Prelude.{nat_lt}
use Rattle.robinx.specs.Fronts.{◌>>=◌, check}
use Rattle.robinx.specs.Tags.{Attribute}
use Rattle.robinx.specs.Pieces.{Piece, Pieces}
use Rattle.robinx.specs.declared.tag_fault.FormKind.TheVariants.{BadNesting, TooMany, Truncated}
use Rattle.robinx.specs.Walk as walk
use Rattle.robinx.specs.Walk.{Open, Position, with_seen}
use Rattle.robinx.specs.SolutionFile.{Games, starts, solution_meaning, game_of}
use Rattle.robinx.specs.declared.element.Element.{Element}
use Rattle.robinx.specs.declared.element.Element.TheVariants.{SolutionFile, ScheduledMatch}
use Rattle.robinx.specs.declared.element.Row.{Row}
use Rattle.league.specs.declared.game.Game.{Game}
use Rattle.robinx.proofs.KeptLemmas.{ok_is, err_isnt, both_read, read_on_line, closed_is, walk_kept}

starts_same : (element : Element) (tag : List Attribute) (read next : Games) → starts element tag read ≡ Ok next → next.n ≡ read.n
starts_same ScheduledMatch tag read next h =
    let more : Game → Games = λ game. record read { games = read.games ++ game ∷ [] } in
    let few = both_read (check (nat_lt (length read.games) 10000) TooMany) (λ few. game_of read.n tag >>= λ game. Ok (more game)) next h in
    let game = both_read (game_of read.n tag) (λ game. Ok (more game)) next few.1.1 in
    ap (λ (g : Games). g.n) (sym (ok_is _ next game.1.1))
starts_same _ tag read next h = ap (λ (g : Games). g.n) (sym (ok_is read next h))

started_same : (row : Option Row) (piece : Piece) (at next : Position Games) → walk.started solution_meaning row piece at ≡ Ok next → next.read.n ≡ at.read.n
started_same None piece at next h = ap (λ (p : Position Games). p.read.n) (sym (ok_is _ next h))
started_same (Some row) piece at next h =
    let inside_of : Games → Position Games = λ read. record {
      inner = record { element = row.element; line = piece.line; seen = []; text = [] };
      outer = record at.inner { seen = with_seen row.times piece.name at.inner.seen } ∷ at.outer;
      passing = None;
      read = read;
    } in
    let read = both_read (starts row.element piece.attributes at.read) (λ read. Ok (inside_of read)) next h in
    ap (λ (p : Position Games). p.read.n) (sym (ok_is (inside_of read.0) next read.1.1)) ∙ starts_same row.element piece.attributes at.read read.0 read.1.0

begun_same : (piece : Piece) (at next : Position Games) → walk.begun solution_meaning piece at ≡ Ok next → next.read.n ≡ at.read.n
begun_same piece at next h =
    let row = both_read (walk.begins at.inner piece.name) (λ row. walk.started solution_meaning row piece at) next h in
    started_same row.0 piece at next row.1.1

ended_same : (outer : List Open) (piece : Piece) (at next : Position Games) → walk.ended solution_meaning outer piece at ≡ Ok next → next.read.n ≡ at.read.n
ended_same [] piece at next h = absurd (err_isnt (BadNesting, piece.line) next h)
ended_same (around ∷ outer) piece at next h =
    let behind : Games → Position Games = λ read. record { inner = around; outer = outer; passing = None; read = read } in
    let read = both_read (walk.closed solution_meaning at.inner piece at.read) (λ read. Ok (behind read)) next h in
    let closed = closed_is solution_meaning at.inner piece at.read read.0 read.1.0 in
    ap (λ (p : Position Games). p.read.n) (sym (ok_is (behind read.0) next read.1.1)) ∙ ap (λ (g : Games). g.n) (sym (ok_is at.read read.0 closed.1))

end_same : (outer : List Open) (line : ℕ) (at : Position Games) (read : Games) → walk.at_file_end outer line at ≡ Ok read → read.n ≡ at.read.n
end_same [] line at read h =
    let whole = both_read (check (walk.is_complete at.inner) Truncated) (λ complete. Ok at.read) read (read_on_line line (check (walk.is_complete at.inner) Truncated >>= λ complete. Ok at.read) read h) in
    ap (λ (g : Games). g.n) (sym (ok_is at.read read whole.1.1))
end_same (around ∷ outer) line at read h = absurd (err_isnt (Truncated, line) read h)

pub games_same : (n : ℕ) (found : Pieces) (read : Games) → walk.reading solution_meaning SolutionFile (record { n = n; games = [] }) found ≡ Ok read → read.n ≡ n
games_same n found read h =
    let start : Position Games = record { inner = record { element = SolutionFile; line = 0; seen = []; text = [] }; outer = []; passing = None; read = record { n = n; games = [] } } in
    let end = walk_kept solution_meaning (λ at. at.read.n ≡ n) (λ at name same. same) (λ at text same. same)
    (λ piece at next same step. begun_same piece at next step ∙ same) (λ piece at next same step. ended_same at.outer piece at next step ∙ same)
    found.items found.last start read refl h in
    end_same end.1.0.outer end.0 end.1.0 read end.1.1.1 ∙ end.1.1.0
