use Rattle.std.proofs.Common.{ap, drop, length, ◌+◌, ◌-◌, ◌<◌, ◌^◌, ◌∙◌}
use Rattle.std.proofs.lemmas.List.Elements.{All-drop, All-take}
use Rattle.bw_code.proofs.Lists.{made_len}
use Rattle.test_layouts.proofs.runs.put_run.Goals as goal

pub put_run-requires-clause-fit : goal.put_run-requires-clause-fit
put_run-requires-clause-fit g c =
    let codes = c.args.codes.now in
    let at = c.args.at in
    let w = (g.C.CodeColumn.seen c.args.column.now).width in
    All-take (λ code. code < 2 ^ w) (at + c.args.n - at) (drop at codes) (All-drop (λ code. code < 2 ^ w) at codes c.requires.fit)

pub returns-clause-count : goal.returns-clause-count
returns-clause-count g c = ap length c.put_run.ensures.codes ∙ made_len (length (g.C.CodeColumn.seen c.args.column.now).codes) _
