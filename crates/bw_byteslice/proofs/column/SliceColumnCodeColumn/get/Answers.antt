use Rattle.std.proofs.Common.{ap, arith, subst, sym, ◌<◌, ◌^◌, ◌∙◌}
use Rattle.bw_byteslice.specs.Storing.{bytes_of, code_of}
use Rattle.bw_byteslice.proofs.Views.{code_is, code_small, count_is}
use Rattle.bw_byteslice.proofs.column.SliceColumnCodeColumn.get.Goals as goal

pub code_at-requires-clause-there : goal.code_at-requires-clause-there
code_at-requires-clause-there c i low =
    let count = count_is c.self.inside.width c.self.inside.len c.self.inside.slices.items c.args.self.now c.self.invariant c.self.view_is in
    rw c.deref.ensures.value (omega (arith, c.self.invariant.long i low, count, c.requires))

pub returns-clause-code : goal.returns-clause-code
returns-clause-code c =
    c.code_at.ensures ∙ ap (λ slices. code_of c.self.inside.width (bytes_of slices) c.args.i) c.deref.ensures.value
    ∙ code_is c.self.inside.width c.self.inside.len c.self.inside.slices.items c.args.self.now c.self.invariant c.self.view_is c.args.i

pub returns-clause-fits : goal.returns-clause-fits
returns-clause-fits c =
    let is = c.code_at.ensures ∙ ap (λ slices. code_of c.self.inside.width (bytes_of slices) c.args.i) c.deref.ensures.value in
    subst (λ x. x < 2 ^ c.args.self.now.width) (sym is) (code_small c.self.inside.width c.self.inside.len c.self.inside.slices.items c.args.self.now c.self.invariant c.self.view_is c.args.i)
