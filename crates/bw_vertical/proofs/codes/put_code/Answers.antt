use Rattle.std.proofs.Common.{ap, arith, inl, inr, ℕ, ◌%◌, ◌-◌, ◌/◌, ◌<◌, ◌≡◌, ◌∙◌}
use mathlib.Core.Logic.{◌≢◌}
use Rattle.std.proofs.lemmas.Bool.{cases_lt}
use Rattle.bw_mask.specs.Masks.{bit_of}
use Rattle.bw_mask.proofs.Bits.{bit_test}
use Rattle.bw_vertical.specs.Storage.{lists, word_of}
use Rattle.bw_vertical.proofs.Placing.{sizes_more}
use Rattle.bw_vertical.proofs.Settings.{set_other, set_same}
use Rattle.bw_vertical.proofs.codes.put_code.Goals as goal

pub loop-i-preserved : goal.loop-i-preserved
loop-i-preserved c =
    let k = c.args.k in
    let i = c.loop-i.i in
    let j = c.args.j in
    let old = lists c.loop-i.groups.items in
    let new = lists c.put_word.new.groups.items in
    let word_is : c.word_at-word.result ≡ word_of k old i (j / 64) = c.word_at-word.ensures ∙ ap (λ gs. word_of k (lists gs) i (j / 64)) c.deref.ensures.value in
    let here = c.with_bit.ensures.same ∙ bit_test c.args.code (k - 1 - i) in
    let away : (s : ℕ) → s < 64 → s ≢ j % 64 → bit_of c.with_bit.result s ≡ bit_of (word_of k old i (j / 64)) s = λ s h d. c.with_bit.ensures.other s h d ∙ ap (λ w. bit_of w s) word_is in
    let same = set_same k i j c.with_bit.result (bit_of c.args.code (k - 1 - i)) old new c.put_word.ensures.same c.put_word.ensures.other here away in
    let other = set_other k i j c.with_bit.result (bit_of c.args.code (k - 1 - i)) old new c.put_word.ensures.same c.put_word.ensures.other here away in
    record {
      sizes = sizes_more c.put_word.ensures.sizes c.loop-i.invariant.sizes;
      same = λ p h.
          elim (cases_lt p i) [
            | inl l ↦ let far : p ≢ i = λ e. omega arith in other p j (omega (arith, c.loop-i-test.true)) (inl far) ∙ c.loop-i.invariant.same p l
            | inr l ↦ let e : p ≡ i = omega arith in rw e same
          ];
      other = λ p r h d. other p r h (inr d) ∙ c.loop-i.invariant.other p r h d;
    }
