use Rattle.std.proofs.Common.{arith, map}
use Rattle.std.proofs.lemmas.List.{length-map}
use Rattle.bw_file.proofs.Fronts.{wide}
use Rattle.bw_file.proofs.encoding.are_few.Goals as goal

pub returns : goal.returns
returns g c = omega (arith, wide c.args.headers.now (map g.C.Cells.cells c.args.columns.now) c.requires.typed, length-map c.args.columns.now g.C.Cells.cells, c.requires.few)
