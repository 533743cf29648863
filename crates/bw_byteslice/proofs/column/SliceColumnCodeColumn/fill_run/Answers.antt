use Rattle.std.proofs.Common.{arith, length, ◌+◌, ◌<◌, ◌^◌, ◌≡◌, ◌≤◌, ◌∙◌}
use Rattle.bw_byteslice.specs.Storing.{bytes_of}
use Rattle.bw_byteslice.proofs.Chosen.{codes_put, slices_kept, none_behind}
use Rattle.bw_byteslice.proofs.Views.{byte_count, count_is}
use Rattle.bw_byteslice.proofs.column.SliceColumnCodeColumn.fill_run.Goals as goal

pub overflow_sub-self-inside : goal.overflow_sub-self-inside
overflow_sub-self-inside c = omega (arith, count_is c.self.inside.width c.self.inside.len c.self.inside.slices.items c.args.self.now c.self.invariant c.self.view_is, c.requires.inside)

pub fill_run-requires-clause-there : goal.fill_run-requires-clause-there
fill_run-requires-clause-there c i low = omega (arith, c.self.invariant.long i low, count_is c.self.inside.width c.self.inside.len c.self.inside.slices.items c.args.self.now c.self.invariant c.self.view_is, c.requires.inside, c.min-count.ensures)

pub invariant_of-self : goal.invariant_of-self
invariant_of-self c =
    let inside = c.self.inside in
    let k = inside.width in
    let n = c.min-count.result in
    let before = bytes_of inside.slices.items in
    let after = bytes_of c.fill_run.new.slices.items in
    let small : c.args.code < 2 ^ k = rw (← c.self.view_is) at c.requires.fits in
    let count = count_is k inside.len inside.slices.items c.args.self.now c.self.invariant c.self.view_is in
    let fits : c.args.at + n ≤ inside.len = omega (arith, count, c.min-count.ensures, c.requires.inside) in
    let none = none_behind inside.len c.args.at c.args.rows n c.ranges.rows.fits (λ l. omega (arith, l, c.min-count.ensures)) (λ i e. omega (arith, count, c.requires.there i e)) in
    let same : length after ≡ length before = omega (arith, byte_count inside.slices.items, byte_count c.fill_run.new.slices.items, c.fill_run.ensures.count) in
    slices_kept k inside.len c.args.at c.args.rows n (λ r. c.args.code) before after c.self.invariant fits (λ r. small) none c.fill_run.ensures.put c.fill_run.ensures.kept same
    (λ i low. c.fill_run.ensures.len i ∙ c.self.invariant.long i low)

pub returns-clause-codes : goal.returns-clause-codes
returns-clause-codes c =
    let inside = c.self.inside in
    let k = inside.width in
    let n = c.min-count.result in
    let before = bytes_of inside.slices.items in
    let after = bytes_of c.fill_run.new.slices.items in
    let small : c.args.code < 2 ^ k = rw (← c.self.view_is) at c.requires.fits in
    let count = count_is k inside.len inside.slices.items c.args.self.now c.self.invariant c.self.view_is in
    let fits : c.args.at + n ≤ inside.len = omega (arith, count, c.min-count.ensures, c.requires.inside) in
    let none = none_behind inside.len c.args.at c.args.rows n c.ranges.rows.fits (λ l. omega (arith, l, c.min-count.ensures)) (λ i e. omega (arith, count, c.requires.there i e)) in
    rw (← c.self.view_is) (codes_put k inside.len c.args.at c.args.rows n (λ r. c.args.code) before after c.self.invariant fits (λ r. small) none c.fill_run.ensures.put c.fill_run.ensures.kept)
