use Rattle.std.proofs.Common.{[], ap, arith, get_or, inl, inr, length, sym, ◌%◌, ◌*◌, ◌+◌, ◌-◌, ◌/◌, ◌<◌, ◌≡◌, ◌∙◌}
use Rattle.std.proofs.lemmas.Bool.{cases_lt}
use Rattle.bw_mask.specs.Masks.{bit_of, row_in}
use Rattle.bw_byteslice.specs.Slices.{shift_of, slices_of}
use Rattle.bw_byteslice.specs.Storing.{byte_of, bytes_of}
use Rattle.bw_byteslice.proofs.Replacing.{read_is}
use Rattle.bw_byteslice.proofs.plane_blocks.take_block.Goals as goal

pub loop-i-preserved : goal.loop-i-preserved
loop-i-preserved c b r h l s =
    let k = c.args.width in
    let w = c.args.w in
    let i = c.loop-i.i in
    let slices = c.args.slices.now in
    let new = c.take_slice.new.block in
    let step = c.take_slice.ensures in
    let spare = c.shift_of-spare.result in
    let shift : c.shift_of-spare.result ≡ shift_of k = c.shift_of-spare.ensures in
    let count : length c.args.slices.now ≡ slices_of k = c.requires.count in
    let some : c.loop-i.i < length c.args.slices.now = c.loop-i-test.true in
    let low = 8 * (length c.args.slices.now - 1 - c.loop-i.i) in
    elim (cases_lt ((b + shift_of k) / 8 + i) (slices_of k)) [
      | inl here ↦
          let t = (b + shift_of k) % 8 in
          let was = read_is (λ v. v.items) [] slices i some c.index-slices-i.result c.index-slices-i.is in
          let place : 8 * (length c.args.slices.now - 1 - c.loop-i.i) + (b + shift_of k) % 8 ≡ b + shift_of k = omega (arith, here, s, count, some) in
          let plane : b ≡ 8 * (length c.args.slices.now - 1 - c.loop-i.i) + (b + shift_of k) % 8 - c.shift_of-spare.result = omega (arith, place, shift) in
          let index : c.loop-i.i ≡ slices_of k - 1 - (b + shift_of k) / 8 = omega (arith, here, s) in
          ap (λ p. row_in (get_or new p []) r) plane
          ∙ step.taken t r (omega arith) (omega (arith, place, shift)) l
          ∙ ap (λ xs. bit_of (get_or xs (64 * w + r) 0) t) (c.deref.ensures.value ∙ sym was)
          ∙ ap (λ n. bit_of (byte_of (bytes_of slices) (64 * w + r) n) t) index
      | inr before ↦
          ap (λ x. bit_of x (r % 64)) (step.away b (r / 64) (λ p. omega (arith, before, shift, count, some))) ∙ c.loop-i.invariant b r h l before
    ]
