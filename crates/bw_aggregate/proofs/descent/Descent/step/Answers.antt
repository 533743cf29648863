use Rattle.std.proofs.Common.{arith, false, true, ◌≡◌, ◌∙◌}
use Rattle.bw_aggregate.specs.Descents.{begin_count, next}
use Rattle.bw_aggregate.specs.Left.{left_count}
use Rattle.bw_aggregate.proofs.Descents.{both, go_one, go_zero, narrowed, small_next, small_room, with_bit}
use Rattle.bw_aggregate.proofs.descent.Descent.step.Goals as goal

pub returns-then-self-zeros : goal.returns-then-self-zeros
returns-then-self-zeros c codes held n i plane on =
    let old = c.args.self.now in
    let leads = on.leads in
    let ones = c.count_in-ones.ensures.is codes i plane ∙ with_bit held i old.code (λ p. left_count codes p old.left) leads.left true in
    let parts = both held 0 i 0 old.code in
    let code : c.with_bit-self.result ≡ next old.code false = c.with_bit-self.ensures (small_room old.code i leads.small) in
    rw code (record {
      leads = record {
        left = λ p. c.keep.ensures codes i plane p ∙ narrowed held i old.code (λ p. left_count codes p old.left) leads.left false p;
        small = small_next old.code i false leads.small;
        rest = go_zero held n i old.nth old.code leads.rest (omega (arith, ones, parts, on.count, c.if-self-zeros.true));
      };
      count = omega (arith, ones, parts, on.count);
    })

pub returns-else-self-zeros : goal.returns-else-self-zeros
returns-else-self-zeros c codes held n i plane on =
    let old = c.args.self.now in
    let leads = on.leads in
    let ones = c.count_in-ones.ensures.is codes i plane ∙ with_bit held i old.code (λ p. left_count codes p old.left) leads.left true in
    let parts = both held 0 i 0 old.code in
    let code : c.with_bit-self-else-self-zeros.result ≡ next old.code true = c.with_bit-self-else-self-zeros.ensures (small_room old.code i leads.small) in
    let zeros : c.saturating_sub-zeros.result ≡ begin_count held i (next old.code false) = omega (arith, ones, parts, on.count, c.saturating_sub-zeros.ensures) in
    rw (code, zeros) (record {
      leads = record {
        left = λ p. c.keep-else-self-zeros.ensures codes i plane p ∙ narrowed held i old.code (λ p. left_count codes p old.left) leads.left true p;
        small = small_next old.code i true leads.small;
        rest = go_one held n i old.nth old.code leads.rest (omega (arith, zeros, c.if-self-zeros.false));
      };
      count = ones;
    })
