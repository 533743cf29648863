use Rattle.std.proofs.Common.{ap, get_or, length, ◌∙◌}
use Rattle.bw_byteslice.proofs.Views.{slice_bytes, slice_in, slice_len}
use Rattle.bw_byteslice.proofs.column.SliceColumn.slice.Goals as goal

pub returns-clause-len : goal.returns-clause-len
returns-clause-len c =
    let low = slice_in c.self.inside.width c.self.inside.len c.self.inside.slices.items c.args.self.now c.self.invariant c.self.view_is c.args.j c.requires in
    ap length c.deref.ensures.value ∙ slice_len c.self.inside.width c.self.inside.len c.self.inside.slices.items c.args.self.now c.self.invariant c.self.view_is c.args.j c.index.result.now low c.index.ensures

pub returns-clause-bytes : goal.returns-clause-bytes
returns-clause-bytes c r =
    let low = slice_in c.self.inside.width c.self.inside.len c.self.inside.slices.items c.args.self.now c.self.invariant c.self.view_is c.args.j c.requires in
    ap (λ xs. get_or xs r 0) c.deref.ensures.value ∙ slice_bytes c.self.inside.width c.self.inside.len c.self.inside.slices.items c.args.self.now c.self.invariant c.self.view_is c.args.j c.index.result.now low c.index.ensures r
