use Rattle.std.proofs.Common.{ap, length-append, arith, drop, inl, inr, length, length-drop, length-take, min, take, ◌++◌, ◌%◌, ◌+◌, ◌≡◌, ◌≤◌, ◌⊎◌, ◌∙◌, ◌-◌}
use Rattle.std.proofs.lemmas.Bool.{cases_lt}
use Rattle.bw_code.proofs.Lists.{part_over}
use Rattle.bw_column.proofs.column.Column.raised.Goals as goal

pub extend_raised-requires-clause-raised : goal.extend_raised-requires-clause-raised
extend_raised-requires-clause-raised c = (c.args.place, rw c.loop-at.invariant.encoding c.requires.raised, c.in_ok-above.ensures.rows)

pub loop-at-preserved : goal.loop-at-preserved
loop-at-preserved c =
    let values = c.args.self.now.values in
    let at = c.loop-at.at in
    let n = c.min-n.result in
    let i = c.loop-at.invariant in
    let inside : at + n ≤ length values = omega (arith, c.min-n.ensures, c.len-in-loop-at-2.ensures.count, i.at) in
    record {
      at = inside;
      values = ap (λ xs. xs ++ drop (at + n) values) c.extend_raised.ensures.values ∙ part_over values c.loop-at.column.values values at n i.values;
      layout = c.extend_raised.ensures.layout ∙ i.layout;
      encoding = c.extend_raised.ensures.encoding ∙ i.encoding;
      here = ap length c.extend_raised.ensures.values ∙ length-append c.loop-at.column.values (take n (drop at values)) ∙ omega (arith, i.here, length-take n (drop at values), length-drop at values, inside);
      word = ends (c.min-n.ensures);
      room = omega (arith, c.extend_raised.ensures.room, i.room);
    }
  where
    -- a run ends at a word's end, or at the last row
    ends : c.min-n.result ≡ min (c.len-in-loop-at-2.result - c.loop-at.at) 64 → (c.loop-at.at + c.min-n.result) % 64 ≡ 0 ⊎ c.loop-at.at + c.min-n.result ≡ length c.args.self.now.values
    ends is =
        elim c.loop-at.invariant.word [
          | inl whole ↦
              elim (cases_lt c.min-n.result 64) [
                | inl short ↦ inr (omega (arith, short, is, c.len-in-loop-at-2.ensures.count, c.loop-at.invariant.at))
                | inr full ↦ inl (omega (arith, full, is, whole))
              ]
          | inr last ↦ absurd (omega (arith, last, c.loop-at-test.true, c.len-in-loop-at.ensures.count))
        ]
