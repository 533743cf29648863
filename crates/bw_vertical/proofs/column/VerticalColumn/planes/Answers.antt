use Rattle.std.proofs.Common.{[], ap, arith, get_or, length, sym, ◌*◌, ◌+◌, ◌≡◌, ◌∙◌}
use Rattle.bw_mask.specs.Masks.{row_in}
use Rattle.bw_code.specs.Units.{segments_of}
use Rattle.bw_vertical.specs.Planes.{code_in}
use Rattle.bw_vertical.specs.Storage.{lists, units_of}
use Rattle.bw_vertical.proofs.Holding.{code_in_is, codes_at, codes_bit, codes_len, unit_row, units_len}
use Rattle.bw_vertical.proofs.column.VerticalColumn.planes.Goals as goal

pub returns-clause-units : goal.returns-clause-units
returns-clause-units c =
    let k = c.self.inside.width in
    let n = c.self.inside.len in
    let gs = lists c.self.inside.groups.items in
    let units : c.new.result.units ≡ units_of k gs n = c.new.ensures.units ∙ ap (λ vs. units_of k (lists vs) n) c.deref.ensures.value in
    rw (← c.self.view_is) (ap length units ∙ units_len k n gs ∙ ap (λ m. segments_of 256 m * k) (sym (codes_len k n gs)))

pub returns-clause-rows : goal.returns-clause-rows
returns-clause-rows c =
    let k = c.self.inside.width in
    let n = c.self.inside.len in
    let gs = lists c.self.inside.groups.items in
    let units : c.new.result.units ≡ units_of k gs n = c.new.ensures.units ∙ ap (λ vs. units_of k (lists vs) n) c.deref.ensures.value in
    rw (← c.self.view_is) (λ q i r within low h.
    ap (λ us. row_in (get_or us (q * k + i) []) r) units
    ∙ unit_row k n gs q i r (omega (arith, within, codes_len k n gs)) low h
    ∙ sym (codes_bit k n gs c.self.invariant i (256 * q + r) low))

pub returns-clause-codes : goal.returns-clause-codes
returns-clause-codes c =
    let k = c.self.inside.width in
    let n = c.self.inside.len in
    let gs = lists c.self.inside.groups.items in
    let units : c.new.result.units ≡ units_of k gs n = c.new.ensures.units ∙ ap (λ vs. units_of k (lists vs) n) c.deref.ensures.value in
    rw (← c.self.view_is) (λ j within.
    ap (λ us. code_in k us j) units
    ∙ code_in_is k n gs j (omega (arith, within, codes_len k n gs))
    ∙ sym (codes_at k n gs c.self.invariant j))
