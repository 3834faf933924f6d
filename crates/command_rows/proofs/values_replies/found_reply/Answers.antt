use Rattle.std.proofs.Common.{◌≡◌, ℕ, List, Bool, None, Some, ap, length, subst, sym, ◌∙◌}
use Rattle.std.proofs.lemmas.Result.{IfOk-weaker}
use Rattle.league.specs.Instance.{Instance}
use Rattle.answers.specs.SeenReply.{answer_of}
use Rattle.rows.specs.Rows.{Row}
use Rattle.rows.specs.Values.{assigned}
use Rattle.encoding.specs.Encoding.{rows_of}
use Rattle.encoding.specs.Known.{AreKnown}
use Rattle.command_rows.specs.Valued.{IsSeason, found_of, missed_answer, missed_from}
use Rattle.command_rows.proofs.MetLemmas.{all-met}
use Rattle.command_rows.proofs.ValuesStages.{found-given}
use Rattle.command_rows.proofs.values_replies.found_reply.Goals as goal

pub missed_row-requires : goal.missed_row-requires
missed_row-requires c =
    subst (λ (rows : List Row). AreKnown (length c.args.values.now) rows) (sym c.rows.ensures)
    (subst (λ (vars : ℕ). AreKnown vars (rows_of c.args.encoding.now)) (sym c.requires.count)
    c.requires.known)

pub season_reply-requires-clause-met : goal.season_reply-requires-clause-met
season_reply-requires-clause-met c =
    all-met 1 (rows_of c.args.encoding.now) (assigned c.args.values.now)
    (sym (c.in-None.ensures
    ∙ ap (λ (rs : List Row). missed_from 1 rs (assigned c.args.values.now)) c.rows.ensures))

pub returns-in-Some : goal.returns-in-Some
returns-in-Some c =
    let league : Instance = c.args.encoding.now in
    let values : ℕ → Bool = assigned c.args.values.now in
    IfOk-weaker c.missed_reply.result (λ reply. answer_of reply ≡ missed_answer c.in-Some.row)
    (λ reply. found_of league values (missed_from 1 (rows_of league) values) (answer_of reply))
    (λ reply is. found-given league values (missed_from 1 (rows_of league) values) (Some c.in-Some.row) (answer_of reply)
    (c.in-Some.ensures ∙ ap (λ (rs : List Row). missed_from 1 rs values) c.rows.ensures) is)
    c.missed_reply.ensures

pub returns-in-None : goal.returns-in-None
returns-in-None c =
    let league : Instance = c.args.encoding.now in
    let values : ℕ → Bool = assigned c.args.values.now in
    IfOk-weaker c.season_reply.result (λ reply. IsSeason league values (answer_of reply))
    (λ reply. found_of league values (missed_from 1 (rows_of league) values) (answer_of reply))
    (λ reply is. found-given league values (missed_from 1 (rows_of league) values) None (answer_of reply)
    (c.in-None.ensures ∙ ap (λ (rs : List Row). missed_from 1 rs values) c.rows.ensures) is)
    c.season_reply.ensures
