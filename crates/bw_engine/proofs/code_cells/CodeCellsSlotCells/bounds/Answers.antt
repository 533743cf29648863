use Rattle.std.proofs.Common.{All, arith, length, pos, rules, subst, sym, to_z, w64, ◌<◌, ◌≡◌, ◌^◌, ◌≤ℤ◌}
use Rattle.std.proofs.lemmas.Int.{to_z_pos}
use Rattle.bw_cells.specs.SetFunctions.{known}
use Rattle.bw_code.specs.Encodings.{IsEncoding}
use Rattle.bw_column.specs.Codes.{IsCoded}
use Rattle.bw_engine.specs.Codes.{codes_in}
use Rattle.bw_engine.proofs.CodeLaws.{codes_within}
use Rattle.bw_engine.proofs.code_cells.CodeCellsSlotCells.bounds.Goals as goal

pub returns : goal.returns
returns c =
    let column = c.args.self.now.column.now in
    let entries = c.entries.result.now in
    let last = c.saturating_sub-last.result in
    let is = c.entries.ensures.is in
    let few : length entries < 2 ^ 63 = search rules in
    let low : last < 2 ^ 63 = omega (arith, few, c.saturating_sub-last.ensures) in
    let own : pos last ≡ to_z w64 last = sym (to_z_pos w64 last low) in
    subst (λ greatest. All (λ x. (pos 0 ≤ℤ x) × (x ≤ℤ greatest)) (known (codes_in column.encoding column.values))) own
    (subst (λ e. All (λ x. (pos 0 ≤ℤ x) × (x ≤ℤ pos last)) (known (codes_in e column.values))) (sym is)
    (codes_within entries (subst IsEncoding is c.encoding-coded.ensures.sound) last c.saturating_sub-last.ensures column.values (subst (λ e. All (IsCoded e) column.values) is c.encoding-coded.ensures.coded)))
