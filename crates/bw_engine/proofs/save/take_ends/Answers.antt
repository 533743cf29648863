use Rattle.std.proofs.Common.{None, arith, get_or, get_or-set_other, get_or-set_same, inl, inr, length, length-set, map, set, subst, sym, ◌∙◌, ◌≡◌}
use Rattle.std.specs.List.{range_with_len}
use Rattle.std.proofs.lemmas.Bool.{cases_lt}
use Rattle.std.proofs.lemmas.List.{get_or_default}
use Rattle.std.proofs.lemmas.List.FromFn.{get_or-map-range_with_len, length-map-range_with_len}
use Rattle.bw_code.proofs.Types.{zipped_by}
use Rattle.bw_file.specs.Format.{AreEndsOf}
use Rattle.bw_model.specs.Filing.{column_of}
use Rattle.bw_engine.specs.Stores.{rows_in}
use Rattle.bw_engine.proofs.save.take_ends.Goals as goal

pub loop-k-preserved : goal.loop-k-preserved
loop-k-preserved c =
    let ends = c.loop-k.ends in
    let rows = rows_in c.args.table.now.slots in
    let k = c.loop-k.k in
    record {
      len = length-set ends k c.live_ends.result ∙ c.loop-k.invariant.len;
      each = λ i h.
          elim (cases_lt i k) [
            | inl before ↦
                subst (λ o. AreEndsOf o (column_of rows i)) (sym (get_or-set_other ends k i c.live_ends.result None (omega (arith, before)))) (c.loop-k.invariant.each i before)
            | inr past ↦
                let same : k ≡ i = omega (arith, h, past) in
                subst (λ n. AreEndsOf (get_or (set ends k c.live_ends.result) n None) (column_of rows n)) same
                (subst (λ o. AreEndsOf o (column_of rows k)) (sym (get_or-set_same ends k c.live_ends.result None (omega (arith, c.loop-k-test.true, c.loop-k.invariant.len)))) c.live_ends.ensures)
          ];
    }

pub returns : goal.returns
returns c =
    let ends = c.loop-k.ends in
    let rows = rows_in c.args.table.now.slots in
    let n = length c.args.table.now.headers in
    let long : length ends ≡ n = c.loop-k.invariant.len ∙ c.requires in
    zipped_by AreEndsOf ends (map (column_of rows) (range_with_len 0 n)) (length-map-range_with_len (column_of rows) 0 n ∙ sym long) (λ i d e low.
    subst (AreEndsOf (get_or ends i d)) (sym (get_or-map-range_with_len (column_of rows) 0 n i i e (omega (arith, low, long)) (omega arith)))
    (subst (λ o. AreEndsOf o (column_of rows i)) (get_or_default ends i None d low) (c.loop-k.invariant.each i (omega (arith, low, c.loop-k-test.false, c.loop-k.invariant.len)))))
