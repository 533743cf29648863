use Rattle.std.proofs.Common.{ap, arith, bit_and, bit_or, false, get_or, get_or-set_other, get_or-set_same, inl, inr, length, length-set, set, subst, sym, ◌%◌, ◌+◌, ◌-◌, ◌<◌, ◌≡◌, ◌∙◌}
use Rattle.std.proofs.lemmas.Bool.{cases_eq}
use Rattle.bw_byteslice.proofs.Blends.{blend, blend_kept, blend_put, blend_small}
use Rattle.bw_byteslice.proofs.runs.put_few_chosen.Goals as goal

pub loop-r-preserved : goal.loop-r-preserved
loop-r-preserved c =
    let inv = c.loop-r.invariant in
    let xs = c.loop-r.kept in
    let r = c.loop-r.r in
    let own = get_or c.loop-r.kept c.loop-r.r 0 in
    let byte = get_or c.args.bytes.now c.loop-r.r 0 in
    let chosen = get_or c.args.chosen.now c.loop-r.r false in
    let new = bit_or (bit_and own (255 - (0 + (256 - c.from-ones.result)) % 256)) (bit_and byte ((0 + (256 - c.from-ones.result)) % 256)) in
    let is : new ≡ blend chosen own byte =
    ap (λ m. bit_or (bit_and (get_or c.loop-r.kept c.loop-r.r 0) (255 - (0 + (256 - m)) % 256)) (bit_and (get_or c.args.bytes.now c.loop-r.r 0) ((0 + (256 - m)) % 256))) c.from-ones.ensures in
    let there : r < length xs = omega (arith, inv.len, c.loop-r-test.true) in
    let small : byte < 256 = omega (arith, c.type_inv.bytes r) in
    let here : get_or (set xs r new) r 0 ≡ blend chosen own byte = get_or-set_same xs r new 0 there ∙ is in
    record {
      len = length-set xs r new ∙ inv.len;
      small = λ k.
          elim (cases_eq k r) [
            | inl same ↦ subst (λ x. x < 256) (sym (ap (λ n. get_or (set xs r new) n 0) same ∙ here)) (blend_small chosen own byte (inv.small r) small)
            | inr other ↦ subst (λ x. x < 256) (sym (get_or-set_other xs r k new 0 other)) (inv.small k)
          ];
      put = λ k h on.
          elim (cases_eq k r) [
            | inl same ↦
                ap (λ n. get_or (set xs r new) n 0) same ∙ here ∙ blend_put chosen own byte (ap (λ n. get_or c.args.chosen.now n false) (sym same) ∙ on) small
                ∙ ap (λ n. get_or c.args.bytes.now n 0) (sym same)
            | inr other ↦ get_or-set_other xs r k new 0 other ∙ inv.put k (omega (arith, h, other)) on
          ];
      kept = λ k off.
          elim (cases_eq k r) [
            | inl same ↦
                ap (λ n. get_or (set xs r new) n 0) same ∙ here ∙ blend_kept chosen own byte (ap (λ n. get_or c.args.chosen.now n false) (sym same) ∙ off) (inv.small r)
                ∙ ap (λ n. get_or c.loop-r.kept n 0) (sym same) ∙ inv.kept k off
            | inr other ↦ get_or-set_other xs r k new 0 other ∙ inv.kept k off
          ];
    }
