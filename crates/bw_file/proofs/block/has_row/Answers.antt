use Rattle.std.proofs.Common.{Bool, false, refl, sym, true, ◌&&◌, ◌≡◌, ◌∙◌}
use Rattle.bw_file.specs.Descents.{bit_at_row}
use Rattle.bw_file.proofs.block.has_row.Goals as goal

same : (b : Bool) → (b && b) ≡ b
same true = refl
same false = refl

pub returns-clause-none : goal.returns-clause-none
returns-clause-none c e r = sym (same (bit_at_row c.args.rows.now r)) ∙ c.has_row_with.ensures.none e r

pub returns-clause-some : goal.returns-clause-some
returns-clause-some c e = let some = c.has_row_with.ensures.some e in (some.0, sym (same (bit_at_row c.args.rows.now some.0)) ∙ some.1)
