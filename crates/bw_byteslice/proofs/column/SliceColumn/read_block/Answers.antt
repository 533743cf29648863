use Rattle.std.proofs.Common.{ap, arith, length, subst, sym, ◌%◌, ◌*◌, ◌+◌, ◌-◌, ◌/◌, ◌<◌, ◌≡◌, ◌∙◌}
use Rattle.bw_mask.specs.Masks.{bit_of}
use Rattle.bw_byteslice.specs.Slices.{shift_of, slices_of}
use Rattle.bw_byteslice.specs.Storing.{byte_of, bytes_of}
use Rattle.bw_byteslice.proofs.PlaneBytes.{bit_in_slice}
use Rattle.bw_byteslice.proofs.Views.{code_is, count_is, slices_count, width_is}
use Rattle.bw_byteslice.proofs.column.SliceColumn.read_block.Goals as goal

pub take_block-requires-clause-small : goal.take_block-requires-clause-small
take_block-requires-clause-small c =
    let s = c.self.inside in
    omega (arith, c.requires.inside, count_is s.width s.len s.slices.items c.args.self.now c.self.invariant c.self.view_is, c.self.invariant.few)

pub take_block-requires-clause-count : goal.take_block-requires-clause-count
take_block-requires-clause-count c =
    let s = c.self.inside in
    ap length c.deref.ensures.value ∙ slices_count s.width s.len s.slices.items c.args.self.now c.self.invariant c.self.view_is

pub returns : goal.returns
returns c b r h l =
    let s = c.self.inside in
    let k = s.width in
    let at = c.args.at in
    let slices = bytes_of s.slices.items in
    let low : b < k = subst (λ w. b < w) (sym (width_is s.width s.len s.slices.items c.args.self.now c.self.invariant c.self.view_is)) h in
    let place : 64 * (at / 64) + r ≡ at + r = omega (arith, c.requires.first) in
    c.take_block.ensures b r low l
    ∙ ap (λ vs. bit_of (byte_of (bytes_of vs) (64 * (at / 64) + r) (slices_of k - 1 - (b + shift_of k) / 8)) ((b + shift_of k) % 8)) c.deref.ensures.value
    ∙ ap (λ j. bit_of (byte_of slices j (slices_of k - 1 - (b + shift_of k) / 8)) ((b + shift_of k) % 8)) place
    ∙ bit_in_slice k s.len slices c.self.invariant b (at + r) low
    ∙ ap (λ x. bit_of x b) (code_is s.width s.len s.slices.items c.args.self.now c.self.invariant c.self.view_is (at + r))
