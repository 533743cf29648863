use Rattle.std.proofs.Common.{arith, false, refl, sym, ◌≡◌, ◌∙◌}
use Rattle.bw_mask.specs.Masks.{bit_of}
use Rattle.bw_mask.proofs.Bits.{bit_of_zero}
use Rattle.bw_code.specs.Units.{some_below}
use Rattle.bw_code.proofs.Reach.{none_at}
use Rattle.bw_byteslice.proofs.Steps.{some_left}
use Rattle.bw_byteslice.proofs.scan.segment.Goals as goal

pub returns-then-is_empty-clause-rows : goal.returns-then-is_empty-clause-rows
returns-then-is_empty-clause-rows g c r h =
    let none : some_below 32 (bit_of c.args.need) ≡ false = grind (arith, c.is_empty.ensures, c.if-is_empty.true) in
    bit_of_zero r ∙ rw (none_at 32 (bit_of c.args.need) none r h) refl

pub compare-lt-requires-clause-there : goal.compare-lt-requires-clause-there
compare-lt-requires-clause-there g c = c.requires.there (some_left _ (sym c.is_empty.ensures ∙ c.if-is_empty.false))

pub between-requires-clause-there : goal.between-requires-clause-there
between-requires-clause-there g c = c.requires.there (some_left _ (sym c.is_empty.ensures ∙ c.if-is_empty.false))
