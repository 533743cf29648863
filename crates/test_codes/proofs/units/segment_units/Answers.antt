use Rattle.std.proofs.Common.{Bool, get_or, if◌then◌else◌, sym, ℕ, ◌*◌, ◌+◌, ◌∙◌}
use Rattle.bw_mask.specs.Masks.{row_at}
use Rattle.test_codes.proofs.UnitLemmas.{greatest_more, greatest_none, some_more, some_none}
use Rattle.test_codes.proofs.units.segment_units.Goals as goal

pub loop-j-init : goal.loop-j-init
loop-j-init c = record { some = sym (some_none _); greatest = sym (greatest_none _) }

pub loop-j-preserved : goal.loop-j-preserved
loop-j-preserved c =
    let needed : ℕ → Bool = λ j. row_at c.args.need.now (c.rows_of-rows.result * c.args.q + j) in
    let agreed : ℕ → ℕ = λ j. if needed j then get_or c.args.agreed.now (c.rows_of-rows.result * c.args.q + j) 0 else 0 in
    record {
      some = rw (c.loop-j.invariant.some, c.is_needed-needed.ensures) (sym (some_more c.loop-j.j needed));
      greatest = c.greater-greatest.ensures ∙ rw (c.loop-j.invariant.greatest, c.agreed_at.ensures, c.is_needed-needed.ensures) (sym (greatest_more c.loop-j.j agreed));
    }
