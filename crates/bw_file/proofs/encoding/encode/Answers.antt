use Rattle.std.proofs.Common.{map}
use Rattle.bw_file.specs.declared.version.Version.TheVariants.{Second}
use Rattle.bw_file.proofs.FirstColumn.{all_fit}
use Rattle.bw_file.proofs.encoding.encode.Goals as goal

pub put_columns-requires-clause-wide : goal.put_columns-requires-clause-wide
put_columns-requires-clause-wide g c = all_fit Second c.args.headers.now (map g.C.Cells.cells c.args.columns.now) (λ k d h. tt) c.requires.typed
