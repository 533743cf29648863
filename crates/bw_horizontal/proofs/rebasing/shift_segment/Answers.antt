use Rattle.std.proofs.Common.{ap, arith, below_more, get_or, get_or-set_other, get_or-set_same, if◌then◌else◌, length, set, ◌%◌, ◌*◌, ◌+◌, ◌<◌, ◌^◌, ◌≡◌, ◌∙◌}
use Rattle.std.proofs.lemmas.List.{length-set}
use Rattle.std.proofs.lemmas.List.Elements.{All-set}
use Rattle.bw_mask.specs.Masks.{bit_of}
use Rattle.bw_mask.proofs.Bits.{bit_of_shr}
use Rattle.bw_lane.specs.Sections.{IsStored, section_of}
use Rattle.bw_horizontal.proofs.Sums.{added_if}
use Rattle.bw_horizontal.proofs.Views.{stored_at}
use Rattle.bw_horizontal.proofs.rebasing.shift_segment.Goals as goal

pub sums-requires-clause-word : goal.sums-requires-clause-word
sums-requires-clause-word c = stored_at c.args.masks.width c.loop-i.segment c.loop-i.invariant.stored c.loop-i.i

pub blended-requires-clause-word : goal.blended-requires-clause-word
blended-requires-clause-word c = stored_at c.args.masks.width c.loop-i.segment c.loop-i.invariant.stored c.loop-i.i

pub loop-i-preserved : goal.loop-i-preserved
loop-i-preserved c =
    let k = c.args.masks.width in
    let rows = c.args.rows in
    let more = c.args.more in
    let old = c.args.segment.now in
    let i = c.loop-i.i in
    let words = c.loop-i.segment in
    let word = c.blended.result in
    let within : i < length words = omega (arith, c.loop-i.invariant.len, c.loop-i-test.true) in
    let kept : get_or words i 0 ≡ get_or old i 0 = c.loop-i.invariant.left i (omega arith) in
    let held = stored_at k words c.loop-i.invariant.stored i in
    record {
      len = length-set words i word ∙ c.loop-i.invariant.len;
      stored = All-set (IsStored k) words i word c.blended.ensures.stored c.loop-i.invariant.stored;
      done = λ m t low h. below_more (λ n. section_of k t (get_or (set words i word) n 0) ≡ (section_of k t (get_or old n 0) + (if bit_of rows (n + t * (k + 1)) then section_of k t more else 0)) % 2 ^ k) i
          (λ n l. ap (section_of k t) (get_or-set_other words i n word 0 (λ e. omega (arith, e, l))) ∙ c.loop-i.invariant.done n t l h)
          (ap (section_of k t) (get_or-set_same words i word 0 within)
          ∙ c.blended.ensures.each t h
          ∙ ap (λ b. if b then section_of k t c.sums.result else section_of k t (get_or words i 0)) (bit_of_shr rows i (t * (k + 1)))
          ∙ added_if (bit_of rows (i + t * (k + 1))) k (section_of k t (get_or words i 0)) (section_of k t more) (section_of k t c.sums.result) (held.codes t h) (c.sums.ensures.each t h)
          ∙ ap (λ w. (section_of k t w + (if bit_of rows (i + t * (k + 1)) then section_of k t more else 0)) % 2 ^ k) kept)
          m low;
      left = λ m up. get_or-set_other words i m word 0 (λ e. omega (arith, e, up)) ∙ c.loop-i.invariant.left m (omega (arith, up));
    }
