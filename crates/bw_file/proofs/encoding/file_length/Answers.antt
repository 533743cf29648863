use Rattle.std.proofs.Common.{map, sym, ◌∙◌}
use Rattle.bw_file.specs.declared.version.Version.TheVariants.{Second}
use Rattle.bw_file.proofs.Fronts.{length-spelling}
use Rattle.bw_file.proofs.encoding.file_length.Goals as goal

pub returns-clause-length : goal.returns-clause-length
returns-clause-length g c = c.length_by_ends.ensures (map g.C.Cells.cells c.args.columns.now) c.requires.long c.take_ends.ensures.ends

pub returns-clause-spelling : goal.returns-clause-spelling
returns-clause-spelling g c =
    length-spelling Second (record { headers = c.args.headers.now; rows = c.args.rows; columns = map g.C.Cells.cells c.args.columns.now }) ∙ sym (returns-clause-length g c)
