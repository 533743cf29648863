use Rattle.std.proofs.Common.{FitsSigned, arith, of_z, to_z, w64, ℕ, ℤ, ◌-ℤ◌}
use Rattle.std.proofs.lemmas.Int.{to_z-of_z}
use Rattle.bw_mask.specs.Masks.{row_at}
use Rattle.bw_code.specs.Shifts.{IsWord}
use Rattle.bw_code.proofs.Moving.{each_shifted}
use Rattle.bw_code.proofs.shift.shift_wide_codes.Goals as goal

word : (from to : ℤ) (r : ℕ) → FitsSigned w64 from → FitsSigned w64 to → IsWord (to_z w64 (of_z w64 from) -ℤ to_z w64 (of_z w64 to)) r → IsWord (from -ℤ to) r
word from to r f t is code sum p q e = is code sum p q (rw (to_z-of_z w64 from f, to_z-of_z w64 to t) e)

pub returns-clause-codes : goal.returns-clause-codes
returns-clause-codes c =
    let codes = c.args.codes.now in
    each_shifted (c.args.from -ℤ c.args.to) c.word_between.result 64 (word c.args.from c.args.to c.word_between.result c.ranges.from c.ranges.to c.word_between.ensures) (omega arith) (row_at c.args.rows.now) codes c.requires.low c.requires.fit c.shift_wide_blocks.new.codes c.shift_wide_blocks.ensures.len c.shift_wide_blocks.ensures.codes
