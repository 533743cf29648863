use Rattle.std.proofs.Common.{All, FitsSigned, length, rules, subst, sym, w64, ◌<◌, ◌∙◌, ◌^◌}
use Rattle.bw_cells.specs.SetFunctions.{known}
use Rattle.bw_code.specs.Encodings.{IsEncoding}
use Rattle.bw_column.specs.Codes.{IsCoded}
use Rattle.bw_engine.specs.Codes.{codes_in}
use Rattle.bw_engine.proofs.CodeLaws.{codes_fit, codes_long}
use Rattle.bw_engine.proofs.code_cells.CodeCellsSlotCells.len.Goals as goal

pub returns-clause-count : goal.returns-clause-count
returns-clause-count c = c.len.ensures.count ∙ sym (codes_long c.args.self.now.column.now.encoding c.args.self.now.column.now.values)

pub returns-clause-fit : goal.returns-clause-fit
returns-clause-fit c =
    let column = c.args.self.now.column.now in
    let entries = c.entries-few.result.now in
    let is = c.entries-few.ensures.is in
    let few : length entries < 2 ^ 63 = search rules in
    subst (λ e. All (FitsSigned w64) (known (codes_in e column.values))) (sym is)
    (codes_fit entries (subst IsEncoding is c.encoding-coded.ensures.sound) few column.values (subst (λ e. All (IsCoded e) column.values) is c.encoding-coded.ensures.coded))
