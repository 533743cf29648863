use Rattle.std.proofs.Common.{arith}
use Rattle.std.proofs.lemmas.List.{length-map}
use Rattle.bw_mask.specs.Masks.{len}
use Rattle.bw_column.specs.Values.{value_at}
use Rattle.bw_table.specs.Changes.{places}
use Rattle.bw_table.proofs.Chosen.{few_places}
use Rattle.bw_table.proofs.chosen_cells.ChosenCells.new.Goals as goal

pub returns-clause-few : goal.returns-clause-few
returns-clause-few c = omega (arith, length-map (places c.args.mask.now) (value_at c.args.column.now.values), few_places c.args.mask.now (len c.args.mask.now))
