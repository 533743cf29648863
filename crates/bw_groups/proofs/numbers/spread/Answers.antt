use Rattle.std.proofs.Common.{ap, arith, is_some, length, sym, ◌<◌, ◌∙◌}
use Rattle.std.proofs.lemmas.List.{get_or_read}
use Rattle.bw_groups.proofs.Spread.{all_known, more_known, more_null, rank_there}
use Rattle.bw_groups.proofs.numbers.spread.Goals.{then-is_some+in_ok-push, else-is_some+in_ok-push-2}
use Rattle.bw_groups.proofs.numbers.spread.Goals as goal

pub returns-then-len : goal.returns-then-len
returns-then-len c = all_known c.args.values.now c.args.ranks.items c.args.null_rank (omega (arith, c.args.ranks.ok, c.len.ensures, c.len-2.ensures, c.if-len.true)) c.requires

pub values-preserved : goal.values-preserved
values-preserved c =
    let here : c.values.i < length c.args.values.now = omega (arith, c.values-test.true, c.len-i-end.ensures) in
    elim c.if-is_some.branch [
      | then-is_some+in_ok-push w ↦
          rw (w.spread-is, w.next-is, w.in_ok-push.ensures.items)
          (more_known c.args.values.now c.args.ranks.items c.values.spread.items c.args.null_rank c.values.i c.values.next here c.values.invariant.0 c.values.invariant.1
          (ap is_some (sym c.get.ensures) ∙ sym c.is_some.ensures ∙ w.if-is_some.true) _ (get_or_read c.args.ranks.items c.values.next _ (rank_there c.args.values.now c.args.ranks.items c.values.spread.items c.args.null_rank c.values.i c.values.next here c.values.invariant.0 c.values.invariant.1 (ap is_some (sym c.get.ensures) ∙ sym c.is_some.ensures ∙ w.if-is_some.true)) w.index.ensures 0))
      | else-is_some+in_ok-push-2 w ↦
          rw (w.spread-is, w.next-is, w.in_ok-push-2.ensures.items)
          (more_null c.args.values.now c.args.ranks.items c.values.spread.items c.args.null_rank c.values.i c.values.next here c.values.invariant.0 c.values.invariant.1
          (ap is_some (sym c.get.ensures) ∙ sym c.is_some.ensures ∙ w.if-is_some.false))
    ]
