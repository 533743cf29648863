use Rattle.std.proofs.Common.{None, [], arith, get_or, get_or-set_other, get_or-set_same, inl, inr, length, length-set, map, set, subst, sym, ◌∙◌, ◌≡◌}
use Rattle.std.proofs.lemmas.Bool.{cases_lt}
use Rattle.std.proofs.lemmas.List.{get_or_default, length-map}
use Rattle.bw_code.proofs.Types.{zipped_by}
use Rattle.bw_file.specs.Format.{AreEndsOf}
use Rattle.bw_file.proofs.Joined.{piece_at}
use Rattle.bw_file.proofs.columns.take_ends.Goals as goal

pub columns-preserved : goal.columns-preserved
columns-preserved g c =
    let cells = g.C.Cells.cells in
    let xs = c.args.columns.now in
    let lists = map g.C.Cells.cells c.args.columns.now in
    let ends = c.columns.ends in
    let i = c.columns.i in
    record {
      len = length-set ends i c.ends.result ∙ c.columns.invariant.len;
      each = λ k h.
          elim (cases_lt k i) [
            | inl before ↦
                subst (λ o. AreEndsOf o (get_or lists k [])) (sym (get_or-set_other ends i k c.ends.result None (omega (arith, before)))) (c.columns.invariant.each k before)
            | inr past ↦
                let same : i ≡ k = omega (arith, h, past) in
                subst (λ n. AreEndsOf (get_or (set ends i c.ends.result) n None) (get_or lists n [])) same
                (subst (λ o. AreEndsOf o (get_or lists i [])) (sym (get_or-set_same ends i c.ends.result None (omega (arith, c.columns-test.true, c.columns.invariant.len))))
                (subst (AreEndsOf c.ends.result) (sym (piece_at cells xs i c.index-columns-i.result c.columns-test.true c.index-columns-i.is [])) c.ends.ensures))
          ];
    }

pub returns-clause-ends : goal.returns-clause-ends
returns-clause-ends g c =
    let cells = g.C.Cells.cells in
    let ends = c.columns.ends in
    let lists = map g.C.Cells.cells c.args.columns.now in
    let long : length lists ≡ length ends = length-map c.args.columns.now cells ∙ sym c.columns.invariant.len in
    zipped_by AreEndsOf ends lists long (λ i d e low.
    subst (AreEndsOf (get_or ends i d)) (get_or_default lists i [] e (omega (arith, low, long)))
    (subst (λ o. AreEndsOf o (get_or lists i [])) (get_or_default ends i None d low) (c.columns.invariant.each i (omega (arith, low, c.columns-test.false, c.columns.invariant.len)))))
