use Rattle.std.proofs.Common.{arith, bit_and, get_or, length, length-set, ℕ, ◌<◌, ◌∙◌}
use Rattle.bw_file.proofs.RowBytes.{changed_next, rest_next, rows_with}
use Rattle.bw_file.proofs.block.keep_with.Goals as goal

pub bytes-preserved : goal.bytes-preserved
bytes-preserved c =
    let inv = c.bytes.invariant in
    let f = λ (i byte : ℕ). bit_and (byte) (get_or c.args.plane.now i 0) in
    let there : c.bytes.j < length c.bytes.rows = omega (arith, inv.long, c.bytes-test.true, c.requires.few) in
    record {
      long = length-set c.bytes.rows c.bytes.j (f c.bytes.j (get_or c.bytes.rows c.bytes.j 0)) ∙ inv.long;
      each = changed_next f c.args.rows.now c.bytes.rows c.bytes.j there inv.rest inv.each;
      rest = rest_next f c.args.rows.now c.bytes.rows c.bytes.j there inv.rest;
    }

pub returns : goal.returns
returns c =
    rows_with c.args.rows.now c.args.plane.now c.bytes.j (omega (arith, c.bytes-test.false, c.bytes.auto.j-end)) (λ r past. c.requires.within r (omega (arith, past, c.bytes-test.false))) c.bytes.rows c.bytes.invariant.each c.bytes.invariant.rest
