use Rattle.std.proofs.Common.{arith, bit_and, get_or, ℕ}
use Rattle.bw_file.proofs.RowBytes.{none_next, none_with, some_next, some_with}
use Rattle.bw_file.proofs.block.has_row_with.Goals as goal

pub bytes-preserved : goal.bytes-preserved
bytes-preserved c =
    let f = λ (i : ℕ). bit_and (get_or c.args.rows.now i 0) (get_or c.args.plane.now i 0) in
    record {
      none = none_next f c.bytes.j c.bytes.any c.bytes.invariant.none;
      some = some_next f c.bytes.j c.bytes.any c.bytes.invariant.some;
    }

pub returns-clause-none : goal.returns-clause-none
returns-clause-none c e =
    none_with c.args.rows.now c.args.plane.now c.bytes.j (omega (arith, c.bytes-test.false, c.bytes.auto.j-end)) (c.bytes.invariant.none (grind (arith, e)))

pub returns-clause-some : goal.returns-clause-some
returns-clause-some c e =
    let some = c.bytes.invariant.some (grind (arith, e)) in
    some_with c.args.rows.now c.args.plane.now c.bytes.j (omega (arith, c.bytes-test.false, c.bytes.auto.j-end)) some.0 (omega (arith, c.type_inv.plane some.0)) some.2
