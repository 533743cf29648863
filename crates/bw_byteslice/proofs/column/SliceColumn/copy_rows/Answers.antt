use Rattle.std.proofs.Common.{ap, arith, get_or, length, refl, subst, sym, ◌-ℤ◌, ◌<◌, ◌∙◌, ◌≡◌, ◌≤◌}
use Rattle.bw_code.proofs.Lists.{made_len}
use Rattle.bw_byteslice.specs.Storing.{AreSlices, bytes_of, capacities_of, code_of, room_of}
use Rattle.bw_byteslice.proofs.Copied.{codes_copied, slices_copied}
use Rattle.bw_byteslice.proofs.Rebased.{word_of_bases}
use Rattle.bw_byteslice.proofs.Views.{also_code, byte_count, count_is, stored_beside, width_is}
use Rattle.bw_byteslice.proofs.column.SliceColumn.copy_rows.Goals as goal

pub copy_codes-requires-clause-others : goal.copy_codes-requires-clause-others
copy_codes-requires-clause-others c =
    let s = c.self.inside in
    let o = c.other.inside in
    let width = c.requires.width ∙ sym (width_is s.width s.len s.slices.items c.args.self.now c.self.invariant c.self.view_is) in
    let count = c.requires.count ∙ count_is s.width s.len s.slices.items c.args.self.now c.self.invariant c.self.view_is in
    subst (λ slices. AreSlices s.width s.len (bytes_of slices)) (sym c.deref.ensures.value) (stored_beside s.width o.width o.len o.slices.items c.args.other.now c.other.invariant c.other.view_is width s.len count)

pub copy_codes-requires-clause-rows : goal.copy_codes-requires-clause-rows
copy_codes-requires-clause-rows c = c.requires.rows ∙ count_is c.self.inside.width c.self.inside.len c.self.inside.slices.items c.args.self.now c.self.invariant c.self.view_is

pub copy_codes-requires-clause-moved : goal.copy_codes-requires-clause-moved
copy_codes-requires-clause-moved c = c.requires.moved ∙ count_is c.self.inside.width c.self.inside.len c.self.inside.slices.items c.args.self.now c.self.invariant c.self.view_is

pub invariant_of-self : goal.invariant_of-self
invariant_of-self c =
    let s = c.self.inside in
    let o = c.other.inside in
    let before = bytes_of s.slices.items in
    let after = bytes_of c.copy_codes.new.slices.items in
    let width = c.requires.width ∙ sym (width_is s.width s.len s.slices.items c.args.self.now c.self.invariant c.self.view_is) in
    let own = count_is s.width s.len s.slices.items c.args.self.now c.self.invariant c.self.view_is in
    let also = stored_beside s.width o.width o.len o.slices.items c.args.other.now c.other.invariant c.other.view_is width s.len (c.requires.count ∙ own) in
    let numbers = rw c.deref.ensures.value at c.copy_codes.ensures.numbers in
    let same : length after ≡ length before = omega (arith, byte_count s.slices.items, byte_count c.copy_codes.new.slices.items, c.copy_codes.ensures.count) in
    slices_copied s.width s.len c.word_between-by.result before (bytes_of o.slices.items) after c.args.rows.now c.args.moved.now c.self.invariant also numbers (c.requires.rows ∙ own) same c.copy_codes.ensures.len c.copy_codes.ensures.bytes

pub returns-clause-shape : goal.returns-clause-shape
returns-clause-shape c =
    let more : room_of (capacities_of c.self.inside.slices.items) ≤ room_of (capacities_of c.copy_codes.new.slices.items) = omega (arith, ap room_of c.copy_codes.ensures.capacities) in
    rw (← c.self.view_is) (record { width = refl; room = more })

pub returns-clause-codes : goal.returns-clause-codes
returns-clause-codes c =
    let s = c.self.inside in
    let o = c.other.inside in
    let old = bytes_of s.slices.items in
    let width = c.requires.width ∙ sym (width_is s.width s.len s.slices.items c.args.self.now c.self.invariant c.self.view_is) in
    let own = count_is s.width s.len s.slices.items c.args.self.now c.self.invariant c.self.view_is in
    let also = stored_beside s.width o.width o.len o.slices.items c.args.other.now c.other.invariant c.other.view_is width s.len (c.requires.count ∙ own) in
    let code = also_code s.width o.width o.len o.slices.items c.args.other.now c.other.invariant c.other.view_is width in
    let numbers = rw c.deref.ensures.value at c.copy_codes.ensures.numbers in
    let fit = rw (← c.self.view_is) at c.requires.fit in
    let word_is = word_of_bases c.args.from c.args.to c.word_between-by.result c.ranges.from c.ranges.to c.word_between-by.ensures in
    rw (← c.self.view_is) (λ i h.
    codes_copied s.width s.len c.word_between-by.result old (bytes_of o.slices.items) (bytes_of c.copy_codes.new.slices.items) c.args.rows.now c.args.moved.now c.self.invariant also numbers (c.args.from -ℤ c.args.to) word_is
    i (get_or c.args.other.now.codes i 0) (subst (λ m. i < m) (made_len s.len (code_of s.width old)) h) (code i) (fit i h))
