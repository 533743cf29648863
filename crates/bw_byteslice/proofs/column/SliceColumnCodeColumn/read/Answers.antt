use Rattle.std.proofs.Common.{ap, arith, drop, get_or, length, take, ℕ, ◌+◌, ◌<◌, ◌≡◌, ◌∙◌}
use Rattle.bw_byteslice.specs.Storing.{bytes_of, code_of}
use Rattle.bw_byteslice.proofs.Views.{codes_read, codes_small, count_is}
use Rattle.bw_byteslice.proofs.column.SliceColumnCodeColumn.read.Goals as goal

pub read-requires-clause-there : goal.read-requires-clause-there
read-requires-clause-there c i low =
    let count = count_is c.self.inside.width c.self.inside.len c.self.inside.slices.items c.args.self.now c.self.invariant c.self.view_is in
    rw c.deref.ensures.value (omega (arith, c.self.invariant.long i low, count, c.requires))

pub read-requires-clause-few : goal.read-requires-clause-few
read-requires-clause-few c =
    let count = count_is c.self.inside.width c.self.inside.len c.self.inside.slices.items c.args.self.now c.self.invariant c.self.view_is in
    omega (arith, c.self.invariant.few, count, c.requires)

pub returns-clause-codes : goal.returns-clause-codes
returns-clause-codes c =
    let each : (r : ℕ) → r < length c.read.new.out → get_or c.read.new.out r 0 ≡ code_of c.self.inside.width (bytes_of c.self.inside.slices.items) (c.args.at + r) = λ r h.
    c.read.ensures.codes r (omega (arith, h, c.read.ensures.len)) ∙ ap (λ slices. code_of c.self.inside.width (bytes_of slices) (c.args.at + r)) c.deref.ensures.value in
    codes_read c.self.inside.width c.self.inside.len c.self.inside.slices.items c.args.self.now c.self.invariant c.self.view_is c.args.at c.read.new.out (omega (arith, c.requires, c.read.ensures.len)) each
    ∙ ap (λ n. take n (drop c.args.at c.args.self.now.codes)) c.read.ensures.len

pub returns-clause-fit : goal.returns-clause-fit
returns-clause-fit c =
    let each : (r : ℕ) → r < length c.read.new.out → get_or c.read.new.out r 0 ≡ code_of c.self.inside.width (bytes_of c.self.inside.slices.items) (c.args.at + r) = λ r h.
    c.read.ensures.codes r (omega (arith, h, c.read.ensures.len)) ∙ ap (λ slices. code_of c.self.inside.width (bytes_of slices) (c.args.at + r)) c.deref.ensures.value in
    codes_small c.self.inside.width c.self.inside.len c.self.inside.slices.items c.args.self.now c.self.invariant c.self.view_is c.args.at c.read.new.out (omega (arith, c.requires, c.read.ensures.len)) each
