use Rattle.std.proofs.Common.{[], ap, arith, get_or, sym, ◌%◌, ◌*◌, ◌+◌, ◌-◌, ◌/◌, ◌<◌, ◌≡◌, ◌∙◌}
use Rattle.bw_mask.specs.Masks.{bit_of, row_in}
use Rattle.bw_code.specs.Columns.{code_at, count}
use Rattle.bw_code.specs.Units.{segments_of}
use Rattle.bw_vertical.specs.Storage.{planes_in}
use Rattle.bw_aggregate.proofs.plane.GroupPlane.of.Goals as goal

pub returns : goal.returns
returns c =
    let codes = c.args.codes.now in
    let i = c.args.i in
    let m = planes_in codes.width (i / 4) in
    let many : c.min.result ≡ m = omega (arith, c.min.ensures, c.width.ensures.width) in
    let within : i % 4 < m = omega (arith, c.requires.within) in
    let bit : codes.width - 1 - (4 * (i / 4) + i % 4) ≡ codes.width - 1 - i = omega arith in
    record {
      long = c.group.ensures.count ∙ ap (λ n. segments_of 256 (count codes) * n) (sym many);
      inside = omega (arith, within, many);
      rows = λ q j h.
          ap (λ n. row_in (get_or c.group.result.now (q * n + i % 4) []) j) many
          ∙ c.group.ensures.rows q (i % 4) j within h
          ∙ ap (bit_of (code_at codes (256 * q + j))) bit;
    }
