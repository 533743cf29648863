use Rattle.std.proofs.Common.{arith, get_or, length, ◌+◌, ◌≡◌, ◌≤◌, ◌∙◌}
use Rattle.bw_code.specs.Columns.{Fit}
use Rattle.bw_code.proofs.Runs.{fit_at}
use Rattle.bw_byteslice.specs.Storing.{bytes_of}
use Rattle.bw_byteslice.proofs.Chosen.{codes_put, slices_kept}
use Rattle.bw_byteslice.proofs.Views.{byte_count, count_is}
use Rattle.bw_byteslice.proofs.column.SliceColumnCodeColumn.put_run.Goals as goal

pub put_run-requires-clause-there : goal.put_run-requires-clause-there
put_run-requires-clause-there c i low = omega (arith, c.self.invariant.long i low, count_is c.self.inside.width c.self.inside.len c.self.inside.slices.items c.args.self.now c.self.invariant c.self.view_is, c.requires.there)

pub invariant_of-self : goal.invariant_of-self
invariant_of-self c =
    let inside = c.self.inside in
    let k = inside.width in
    let codes = c.args.codes.now in
    let before = bytes_of inside.slices.items in
    let after = bytes_of c.put_run.new.slices.items in
    let fit : Fit k codes = rw (← c.self.view_is) at c.requires.fit in
    let fits : c.args.at + length codes ≤ inside.len = omega (arith, count_is k inside.len inside.slices.items c.args.self.now c.self.invariant c.self.view_is, c.requires.there) in
    let same : length after ≡ length before = omega (arith, byte_count inside.slices.items, byte_count c.put_run.new.slices.items, c.put_run.ensures.count) in
    slices_kept k inside.len c.args.at c.args.rows (length codes) (λ r. get_or codes r 0) before after c.self.invariant fits (fit_at k codes fit) c.requires.given c.put_run.ensures.put c.put_run.ensures.kept same
    (λ i low. c.put_run.ensures.len i ∙ c.self.invariant.long i low)

pub returns-clause-codes : goal.returns-clause-codes
returns-clause-codes c =
    let inside = c.self.inside in
    let k = inside.width in
    let codes = c.args.codes.now in
    let before = bytes_of inside.slices.items in
    let after = bytes_of c.put_run.new.slices.items in
    let fit : Fit k codes = rw (← c.self.view_is) at c.requires.fit in
    let fits : c.args.at + length codes ≤ inside.len = omega (arith, count_is k inside.len inside.slices.items c.args.self.now c.self.invariant c.self.view_is, c.requires.there) in
    rw (← c.self.view_is) (codes_put k inside.len c.args.at c.args.rows (length codes) (λ r. get_or codes r 0) before after c.self.invariant fits (fit_at k codes fit) c.requires.given c.put_run.ensures.put c.put_run.ensures.kept)
