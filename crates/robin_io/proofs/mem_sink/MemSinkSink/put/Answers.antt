use Rattle.std.proofs.Common.{◌≡◌, ℕ, ◌+◌, ◌<◌, ◌≤◌, ◌==◌, Bool, true, false, not, List, ◌++◌, length, take, append_assoc, length-append, refl, sym, ◌∙◌, arith, inl, inr}
use Rattle.std.proofs.lemmas.Bool.{eqb-true}
use Rattle.std.proofs.lemmas.Bool.Decides.{nat_tests}
use Rattle.std.proofs.lemmas.List.{length-take-le, take-take, take_at}
use Rattle.robin_io.proofs.mem_sink.MemSinkSink.put.Goals as goal
use Rattle.robin_io.proofs.mem_sink.MemSinkSink.put.Goals.{then-is_planned-via-then-is_planned, then-is_planned-via-else-is_planned+then-not-is_empty, then-room-eq0, else-room-eq0}

-- what was copied behind the first bytes follows them
copied_behind : (front news post more : List ℕ) (len count room : ℕ) → length front ≡ len → length news ≡ count → len + count ≤ room
    → take (len + count) (take room ((front ++ (news ++ post)) ++ more)) ≡ front ++ news
copied_behind front news post more len count room front_len news_len fits =
    rw (take-take (len + count) room ((front ++ (news ++ post)) ++ more) fits, append_assoc front (news ++ post) more, append_assoc news post more, ← append_assoc front news (post ++ more))
    (take_at (front ++ news) (post ++ more) (len + count) (omega (arith, length-append front news)))

-- whether a piece has bytes
has_some : (len : ℕ) (some none : Bool) → some ≡ not none → none ≡ (len == 0) → some ≡ true → 0 < len
has_some len some none is tested so = grind (arith, nat_tests)

has_none : (len : ℕ) (some none : Bool) → some ≡ not none → none ≡ (len == 0) → some ≡ false → len ≡ 0
has_none len some none is tested so = grind (arith, nat_tests)

pub returns-then-is_planned-clause-cause : goal.returns-then-is_planned-clause-cause
returns-then-is_planned-clause-cause c = rw (← c.self.view_is) (record { later = omega arith; fault = omega arith })

pub returns-then-is_planned-clause-failed : goal.returns-then-is_planned-clause-failed
returns-then-is_planned-clause-failed c = rw (← c.self.view_is) (
  λ failed. elim c.then-is_planned.branch [
    | then-is_planned-via-then-is_planned w ↦ inl (c.next_fails-is_planned.ensures.fails.0 w.if-is_planned.true)
    | then-is_planned-via-else-is_planned+then-not-is_empty w ↦ elim w.if-room-eq0.branch [
      | then-room-eq0 v ↦ inr (has_some (length c.args.piece.now) w.if-room-eq0.value v.is_empty.result v.value-is v.is_empty.ensures w.if-not-is_empty.true, rw c.len.ensures at v.if-room-eq0.true)
      | else-room-eq0 v ↦ absurd (v.if-room-eq0.false (eqb-true _ _ (sym v.value-is ∙ w.if-not-is_empty.true)))
    ]
  ],
  λ cause. refl,
)

pub returns-clause-bytes : goal.returns-clause-bytes
returns-clause-bytes c =
    let own = c.self.inside in
    let count = c.min-count.result in
    let news : c.copy_from_slice.new.self ≡ take count c.args.piece.now = c.copy_from_slice.ensures.after in
    rw (← c.self.view_is, c.deref_mut.ensures.value, news)
    (copied_behind (take own.len own.bytes.items) (take count c.args.piece.now) _ _ own.len count own.bytes.len
    (length-take-le own.len own.bytes.items (omega arith)) (length-take-le count c.args.piece.now (omega arith)) (omega arith))

pub returns-clause-failed : goal.returns-clause-failed
returns-clause-failed c = rw (← c.self.view_is) (
  λ failed. cc,
  λ cause. elim cause [
    | inl planned ↦ (let yes = c.next_fails-is_planned.ensures.fails.1 planned in cc)
    | inr full ↦ elim c.if-room-eq0.branch [
      | then-room-eq0 v ↦ absurd (omega (arith, full.0, has_none (length c.args.piece.now) c.if-room-eq0.value v.is_empty.result v.value-is v.is_empty.ensures c.if-not-is_empty.false))
      | else-room-eq0 v ↦ absurd (v.if-room-eq0.false (rw c.len.ensures full.1))
    ]
  ],
)
