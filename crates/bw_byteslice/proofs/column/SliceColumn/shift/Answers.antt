use Rattle.std.proofs.Common.{ap, arith, length, refl, subst, ◌-ℤ◌, ◌<◌, ◌∙◌, ◌≡◌, ◌≤◌}
use Rattle.bw_mask.specs.Masks.{len}
use Rattle.bw_code.proofs.Lists.{made_len}
use Rattle.bw_byteslice.specs.Storing.{bytes_of, capacities_of, code_of, room_of}
use Rattle.bw_byteslice.proofs.Rebased.{codes_shifted, slices_moved, word_of_bases}
use Rattle.bw_byteslice.proofs.Views.{byte_count, count_is}
use Rattle.bw_byteslice.proofs.column.SliceColumn.shift.Goals as goal

pub shift_codes-requires-clause-rows : goal.shift_codes-requires-clause-rows
shift_codes-requires-clause-rows c = c.requires.rows ∙ count_is c.self.inside.width c.self.inside.len c.self.inside.slices.items c.args.self.now c.self.invariant c.self.view_is

pub invariant_of-self : goal.invariant_of-self
invariant_of-self c =
    let s = c.self.inside in
    let before = bytes_of s.slices.items in
    let after = bytes_of c.shift_codes.new.slices.items in
    let long : len c.args.rows.now ≡ s.len = c.requires.rows ∙ count_is s.width s.len s.slices.items c.args.self.now c.self.invariant c.self.view_is in
    let same : length after ≡ length before = omega (arith, byte_count s.slices.items, byte_count c.shift_codes.new.slices.items, c.shift_codes.ensures.count) in
    slices_moved s.width s.len c.word_between-by.result before after c.args.rows.now c.self.invariant c.shift_codes.ensures.numbers long same c.shift_codes.ensures.len c.shift_codes.ensures.bytes

pub returns-clause-shape : goal.returns-clause-shape
returns-clause-shape c =
    let more : room_of (capacities_of c.self.inside.slices.items) ≤ room_of (capacities_of c.shift_codes.new.slices.items) = omega (arith, ap room_of c.shift_codes.ensures.capacities) in
    rw (← c.self.view_is) (record { width = refl; room = more })

pub returns-clause-codes : goal.returns-clause-codes
returns-clause-codes c =
    let s = c.self.inside in
    let old = bytes_of s.slices.items in
    let fit = rw (← c.self.view_is) at c.requires.fit in
    let word_is = word_of_bases c.args.from c.args.to c.word_between-by.result c.ranges.from c.ranges.to c.word_between-by.ensures in
    rw (← c.self.view_is) (λ i h.
    codes_shifted s.width s.len c.word_between-by.result old (bytes_of c.shift_codes.new.slices.items) c.args.rows.now c.self.invariant c.shift_codes.ensures.numbers (c.args.from -ℤ c.args.to) word_is
    i (subst (λ m. i < m) (made_len s.len (code_of s.width old)) h) (fit i h))
