use Rattle.std.proofs.Common.{ap, arith, sym, ◌%◌, ◌*◌, ◌-◌, ◌/◌, ◌^◌, ◌≡◌, ◌∙◌}
use Rattle.std.proofs.lemmas.Nat.{and_mask}
use Rattle.bw_byteslice.specs.Slices.{shift_of, slices_of}
use Rattle.bw_byteslice.proofs.Raised.{pow_bytes, raised_is}
use Rattle.bw_column.proofs.slice_ends.top_byte.Goals as goal

pub returns : goal.returns
returns c =
    let k = c.args.width in
    let m = slices_of k in
    let n = c.div_ceil-slices.result in
    let slices : n ≡ m = omega (arith, c.div_ceil-slices.ensures) in
    let shift : 8 * n - k ≡ shift_of k = ap (λ x. 8 * x - k) slices in
    let down : 8 * (n - 1) ≡ 8 * (m - 1 - 0) = omega (arith, slices) in
    let number = raised_is 64 k (8 * n - k) c.args.code (omega (arith, c.requires.narrow)) shift c.requires.fits in
    and_mask _ 8
    ∙ ap (λ x. x / 2 ^ (8 * (n - 1)) % 256) number
    ∙ ap (λ e. c.args.code * 2 ^ shift_of k / 2 ^ e % 256) down
    ∙ ap (λ d. c.args.code * 2 ^ shift_of k / d % 256) (sym (pow_bytes (m - 1 - 0)))
