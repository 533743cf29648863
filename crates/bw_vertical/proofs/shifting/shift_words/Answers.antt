use Rattle.std.proofs.Common.{Bool, ap, arith, get_or, inl, inr, length, set, sym, ℕ, ◌*◌, ◌+◌, ◌<◌, ◌==◌, ◌≡◌, ◌∙◌}
use Rattle.std.specs.Int.{bit_at}
use Rattle.std.specs.Prelude.{if◌then◌else◌}
use Rattle.std.proofs.lemmas.Bool.{cases_eq}
use Rattle.std.proofs.lemmas.List.{get_or-set_other, get_or-set_same}
use Rattle.std.proofs.lemmas.Nat.Bits.{bit_at-lt, bit_at-zero, bit_at_above}
use Rattle.bw_mask.specs.Masks.{bit_of}
use Rattle.bw_vertical.specs.Carries.{carried}
use Rattle.bw_vertical.specs.Planes.{code_by}
use Rattle.bw_vertical.proofs.Adding.{carry_more, sum_bit}
use Rattle.bw_vertical.proofs.Numbers.{bit_is}
use Rattle.bw_vertical.proofs.WordCodes.{code_by_bit, code_by_lt}
use Rattle.bw_vertical.proofs.shifting.shift_words.Goals as goal
use Rattle.bw_vertical.proofs.shifting.shift_words.Goals.{else-b-own, then-b-own}

pub loop-b-preserved : goal.loop-b-preserved
loop-b-preserved c =
    let i = c.loop-b.invariant in
    let own = c.args.own in
    let b = c.loop-b.b in
    let words = c.args.words.now in
    let x : ℕ → ℕ = λ r. code_by own words r in
    let y : ℕ → ℕ = λ r. if bit_of c.args.rows r then c.args.by else 0 in
    let inside : b < length c.loop-b.words = omega (arith, c.loop-b-test.true, c.requires.narrow) in
    let bit : (r : ℕ) → r < 64 → bit_at c.if-b-own.plane r ≡ bit_at (x r) b = λ r h.
    elim c.if-b-own.branch [
      | then-b-own w ↦
          ap (λ p. bit_at p r) (w.plane-is ∙ i.left b (omega arith)) ∙ sym (bit_is (get_or words b 0) r)
          ∙ ap (λ (t : Bool). if t then 1 else 0) (sym (code_by_bit own words r b w.if-b-own.true)) ∙ bit_is (x r) b
      | else-b-own w ↦ ap (λ p. bit_at p r) w.plane-is ∙ bit_at-zero r ∙ sym (bit_at_above (x r) own b (code_by_lt own words r) w.if-b-own.false)
    ] in
    let sum : (r : ℕ) → r < 64 → bit_at c.add_bits-sum.result.0 r + 2 * bit_at c.add_bits-sum.result.1 r ≡ bit_at (x r) b + bit_at (y r) b + carried (x r) (y r) b = λ r h.
    c.add_bits-sum.ensures r h ∙ omega (arith, bit r h, c.rows_where.ensures r h, i.carry r h) in
    record {
      carry = λ r h. omega (arith, sum r h, carry_more (x r) (y r) b, bit_at-lt c.add_bits-sum.result.0 r);
      done = λ p r low h.
          elim (cases_eq p b) [
            | inl e ↦
                let here : bit_at c.add_bits-sum.result.0 r ≡ bit_at (x r + y r) b = omega (arith, sum r h, sum_bit (x r) (y r) b, bit_at-lt c.add_bits-sum.result.0 r) in
                ap (λ q. bit_of (get_or (set c.loop-b.words b c.add_bits-sum.result.0) q 0) r) e
                ∙ ap (λ v. bit_of v r) (get_or-set_same c.loop-b.words b c.add_bits-sum.result.0 0 inside)
                ∙ ap (λ z. z == 1) here
                ∙ ap (bit_of (x r + y r)) (sym e)
            | inr d ↦ ap (λ v. bit_of v r) (get_or-set_other c.loop-b.words b p c.add_bits-sum.result.0 0 d) ∙ i.done p r (omega (arith, low, d)) h
          ];
      left = λ p h. get_or-set_other c.loop-b.words b p c.add_bits-sum.result.0 0 (λ e. omega (arith, h, e)) ∙ i.left p (omega (arith, h));
    }
