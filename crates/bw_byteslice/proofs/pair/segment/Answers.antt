use Rattle.std.proofs.Common.{false, refl, sym, ◌≡◌, ◌∙◌}
use Rattle.bw_mask.specs.Masks.{bit_of}
use Rattle.bw_mask.proofs.Bits.{bit_of_zero}
use Rattle.bw_code.specs.Units.{some_below}
use Rattle.bw_code.proofs.Reach.{none_at}
use Rattle.bw_byteslice.proofs.Steps.{none_left, some_left}
use Rattle.bw_byteslice.proofs.pair.segment.Goals as goal

pub returns-then-is_empty-clause-rows : goal.returns-then-is_empty-clause-rows
returns-then-is_empty-clause-rows g c r h =
    let none : some_below 32 (bit_of c.args.need) ≡ false = none_left _ (sym c.is_empty.ensures ∙ c.if-is_empty.true) in
    bit_of_zero r ∙ rw (none_at 32 (bit_of c.args.need) none r h) refl

pub compare-lt-requires-clause-there : goal.compare-lt-requires-clause-there
compare-lt-requires-clause-there g c = c.requires.there (some_left _ (sym c.is_empty.ensures ∙ c.if-is_empty.false))

pub compare-lt-requires-clause-other_there : goal.compare-lt-requires-clause-other_there
compare-lt-requires-clause-other_there g c = c.requires.other_there (some_left _ (sym c.is_empty.ensures ∙ c.if-is_empty.false))
