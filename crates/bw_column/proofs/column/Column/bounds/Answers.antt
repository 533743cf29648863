use Rattle.std.proofs.Common.{All, arith, of_z, subst, sym, to_z, w64, ◌∙◌, ◌≡◌}
use Rattle.std.proofs.lemmas.Int.{ints, to_z-of_z}
use Rattle.bw_code.specs.declared.encoding.Encoding.{Encoding}
use Rattle.bw_code.specs.declared.encoding.Encoding.TheVariants as by
use Rattle.bw_column.specs.Codes.{IsCoded}
use Rattle.bw_column.specs.Extremes.{AreEntryBounds}
use Rattle.bw_column.proofs.Bounded.{entry_bounds, within_bounds}
use Rattle.bw_column.proofs.column.Column.bounds.Goals as goal

pub returns-in-Offset : goal.returns-in-Offset
returns-in-Offset c =
    let self = c.args.self.now in
    let o = c.in-Offset.offset in
    let base : to_z w64 (of_z w64 o.base) ≡ o.base = search (arith, ints, to_z-of_z) in
    let greatest : to_z w64 (of_z w64 c.greatest_of.result) ≡ c.greatest_of.result = search (arith, ints, to_z-of_z) in
    let is : self.encoding ≡ by.Offset o = sym c.encoding.ensures.is ∙ c.in-Offset.is in
    let coded : All (IsCoded (by.Offset o)) self.values = subst (λ (e : Encoding). All (IsCoded e) self.values) is c.encoding.ensures.coded in
    within_bounds o (record { least = to_z w64 (of_z w64 o.base); greatest = to_z w64 (of_z w64 c.greatest_of.result) }) self.layout self.values base (rw greatest c.greatest_of.ensures) coded c.len-held.ensures.held

pub returns-in-Dictionary : goal.returns-in-Dictionary
returns-in-Dictionary c =
    let self = c.args.self.now in
    let entries = c.in-Dictionary.dictionary in
    let is : self.encoding ≡ by.Dictionary entries = sym c.encoding.ensures.is ∙ c.in-Dictionary.is in
    let coded : All (IsCoded (by.Dictionary entries)) self.values = subst (λ (e : Encoding). All (IsCoded e) self.values) is c.encoding.ensures.coded in
    entry_bounds entries c.entry_ends.result self.values (subst (λ es. AreEntryBounds es c.entry_ends.result) c.entries.ensures.is c.entry_ends.ensures.bounds) coded
