use Rattle.std.proofs.Common.{[], ap, get_or, length, subst, sym, ◌*◌, ◌+◌, ◌-◌, ◌<◌, ◌∙◌}
use Rattle.bw_mask.specs.Masks.{bit_of, row_in}
use Rattle.bw_code.specs.Units.{segments_of}
use Rattle.bw_byteslice.specs.BitPlanes.{planes_of}
use Rattle.bw_byteslice.specs.Storing.{AreSlices, bytes_of}
use Rattle.bw_byteslice.proofs.BitPlanes.{plane_bits, planes_len}
use Rattle.bw_byteslice.proofs.Views.{code_is, count_is, width_is}
use Rattle.bw_byteslice.proofs.column.SliceColumn.planes.Goals as goal

pub new-requires : goal.new-requires
new-requires c = subst (λ slices. AreSlices c.self.inside.width c.self.inside.len slices) (sym (ap bytes_of c.deref.ensures.value)) c.self.invariant

pub returns-clause-units : goal.returns-clause-units
returns-clause-units c =
    let width = width_is c.self.inside.width c.self.inside.len c.self.inside.slices.items c.args.self.now c.self.invariant c.self.view_is in
    let count = count_is c.self.inside.width c.self.inside.len c.self.inside.slices.items c.args.self.now c.self.invariant c.self.view_is in
    ap length c.new.ensures.units ∙ planes_len c.self.inside.width c.self.inside.len (bytes_of c.deref.result.now)
    ∙ ap (λ n. segments_of 256 n * c.self.inside.width) (sym count) ∙ ap (λ k. segments_of 256 (length c.args.self.now.codes) * k) width

pub returns-clause-rows : goal.returns-clause-rows
returns-clause-rows c q i r inside low short =
    let k = c.self.inside.width in
    let n = c.self.inside.len in
    let slices = bytes_of c.self.inside.slices.items in
    let width = width_is c.self.inside.width c.self.inside.len c.self.inside.slices.items c.args.self.now c.self.invariant c.self.view_is in
    let count = count_is c.self.inside.width c.self.inside.len c.self.inside.slices.items c.args.self.now c.self.invariant c.self.view_is in
    let units = c.new.ensures.units ∙ ap (λ vs. planes_of k n (bytes_of vs)) c.deref.ensures.value in
    ap (λ us. row_in (get_or us (q * c.args.self.now.width + i) []) r) units
    ∙ ap (λ w. row_in (get_or (planes_of k n slices) (q * w + i) []) r) (sym width)
    ∙ plane_bits k n slices c.self.invariant q i r (subst (λ m. q < segments_of 256 m) count inside) (subst (λ w. i < w) (sym width) low) short
    ∙ ap (λ x. bit_of x (k - 1 - i)) (code_is c.self.inside.width c.self.inside.len c.self.inside.slices.items c.args.self.now c.self.invariant c.self.view_is (256 * q + r))
    ∙ ap (λ w. bit_of (get_or c.args.self.now.codes (256 * q + r) 0) (w - 1 - i)) width
