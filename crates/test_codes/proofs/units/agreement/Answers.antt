use Rattle.std.proofs.Common.{ap, arith, sym, ◌%◌, ◌+◌, ◌/◌, ◌∙◌}
use Rattle.std.proofs.Math.Nat.{div-one, pow-zero}
use Rattle.test_codes.proofs.UnitLemmas.{agreement_no, agreement_none, agreement_yes, less_digits}
use Rattle.test_codes.proofs.units.agreement.Goals.{else-x_rest-base, then-x_rest-base}
use Rattle.test_codes.proofs.units.agreement.Goals as goal

pub loop-i-init : goal.loop-i-init
loop-i-init c = record {
  x = sym (ap (λ d. c.args.x / d) (pow-zero c.args.base) ∙ div-one c.args.x);
  y = sym (ap (λ d. c.args.y / d) (pow-zero c.args.base) ∙ div-one c.args.y);
  agreed = sym (agreement_none c.args.base c.args.x c.args.y);
  most = omega arith;
}

pub loop-i-preserved : goal.loop-i-preserved
loop-i-preserved c =
    let base = c.args.base in
    let i = c.loop-i.i in
    let inv = c.loop-i.invariant in
    record {
      x = ap (λ n. n / base) inv.x ∙ less_digits base i c.args.x;
      y = ap (λ n. n / base) inv.y ∙ less_digits base i c.args.y;
      agreed = elim c.if-x_rest-base.branch [
        | then-x_rest-base w ↦
            w.agreed-is ∙ ap (λ n. n + 1) inv.agreed
            ∙ sym (agreement_yes base i c.args.x c.args.y (ap (λ n. n % base) (sym inv.x) ∙ w.if-x_rest-base.true ∙ ap (λ n. n % base) inv.y))
        | else-x_rest-base w ↦
            w.agreed-is ∙ sym (agreement_no base i c.args.x c.args.y (λ e. w.if-x_rest-base.false (ap (λ n. n % base) inv.x ∙ e ∙ ap (λ n. n % base) (sym inv.y))))
      ];
      most = elim c.if-x_rest-base.branch [
        | then-x_rest-base w ↦ omega (arith, w.agreed-is, inv.most)
        | else-x_rest-base w ↦ omega (arith, w.agreed-is)
      ];
    }
