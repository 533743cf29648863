use Rattle.std.proofs.Common.{ap, arith, length, ◌∙◌}
use Rattle.std.proofs.lemmas.List.{length-map}
use Rattle.bw_column.specs.Codes.{code_for}
use Rattle.bw_column.specs.Places.{put_values}
use Rattle.bw_column.proofs.Blocks.{are_row_codes, rows_are_values}
use Rattle.bw_column.proofs.Held.{all_storable}
use Rattle.bw_column.proofs.column.Column.put_rows.Goals as goal

pub put_coded-requires-clause-few : goal.put_coded-requires-clause-few
put_coded-requires-clause-few c = omega (arith, ap length c.requires.codes, length-map c.args.values.now (code_for c.args.self.now.encoding), c.requires.few)

pub put_coded-requires-clause-there : goal.put_coded-requires-clause-there
put_coded-requires-clause-there c = omega (arith, ap length c.requires.codes, length-map c.args.values.now (code_for c.args.self.now.encoding), c.requires.there)

pub put_coded-requires-clause-given : goal.put_coded-requires-clause-given
put_coded-requires-clause-given c i h = c.requires.given i (omega (arith, h, ap length c.requires.codes, length-map c.args.values.now (code_for c.args.self.now.encoding)))

pub put_coded-requires-clause-each : goal.put_coded-requires-clause-each
put_coded-requires-clause-each c = are_row_codes c.args.self.now.encoding c.encoding-sound.ensures.sound c.args.values.now c.args.codes.now c.presence.result c.requires.coded (all_storable c.args.self.now.layout c.args.values.now c.requires.held) c.requires.codes c.presence.ensures

pub put_coded-requires-clause-held : goal.put_coded-requires-clause-held
put_coded-requires-clause-held c =
    rw (rows_are_values c.args.self.now.encoding c.encoding-sound.ensures.sound c.args.values.now c.args.codes.now c.presence.result c.requires.coded (all_storable c.args.self.now.layout c.args.values.now c.requires.held) c.requires.codes c.presence.ensures) c.requires.held

pub returns-clause-values : goal.returns-clause-values
returns-clause-values c =
    c.put_coded.ensures.values
    ∙ ap (put_values c.args.self.now.values c.args.at c.args.rows) (rows_are_values c.args.self.now.encoding c.encoding-sound.ensures.sound c.args.values.now c.args.codes.now c.presence.result c.requires.coded (all_storable c.args.self.now.layout c.args.values.now c.requires.held) c.requires.codes c.presence.ensures)
