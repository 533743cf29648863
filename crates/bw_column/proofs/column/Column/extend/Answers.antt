use Rattle.std.proofs.Common.{ap, ◌++◌, ◌∙◌}
use Rattle.bw_column.proofs.Blocks.{are_row_codes, rows_are_values}
use Rattle.bw_column.proofs.Held.{all_storable}
use Rattle.bw_column.proofs.column.Column.extend.Goals as goal

pub extend_rows-requires-clause-rows : goal.extend_rows-requires-clause-rows
extend_rows-requires-clause-rows c = are_row_codes c.args.self.now.encoding c.encoding-sound.ensures.sound c.args.values.now c.args.codes.now c.presence.result c.requires.coded (all_storable c.args.self.now.layout c.args.values.now c.requires.held) c.requires.codes c.presence.ensures

pub extend_rows-requires-clause-held : goal.extend_rows-requires-clause-held
extend_rows-requires-clause-held c =
    rw (rows_are_values c.args.self.now.encoding c.encoding-sound.ensures.sound c.args.values.now c.args.codes.now c.presence.result c.requires.coded (all_storable c.args.self.now.layout c.args.values.now c.requires.held) c.requires.codes c.presence.ensures) c.requires.held

pub returns-clause-values : goal.returns-clause-values
returns-clause-values c =
    c.extend_rows.ensures.values
    ∙ ap (λ xs. c.args.self.now.values ++ xs) (rows_are_values c.args.self.now.encoding c.encoding-sound.ensures.sound c.args.values.now c.args.codes.now c.presence.result c.requires.coded (all_storable c.args.self.now.layout c.args.values.now c.requires.held) c.requires.codes c.presence.ensures)
