use Rattle.std.proofs.Common.{ap, arith, get_or, length, refl, subst, sym, ◌<◌, ◌∙◌, ◌≡◌, ◌≤◌}
use Rattle.bw_code.proofs.Lists.{made_len}
use Rattle.bw_byteslice.specs.Slices.{slices_of}
use Rattle.bw_byteslice.specs.Storing.{byte_of, bytes_of, capacities_of, code_of, room_of}
use Rattle.bw_byteslice.proofs.Mixed.{codes_mixed, slices_mixed}
use Rattle.bw_byteslice.proofs.Views.{also_code, byte_count, count_is, stored_beside, width_is}
use Rattle.bw_byteslice.proofs.column.SliceColumnCodeColumn.exchange_rows.Goals as goal

pub exchange_codes-requires-clause-others : goal.exchange_codes-requires-clause-others
exchange_codes-requires-clause-others c =
    let s = c.self.inside in
    let o = c.other.inside in
    let width = c.requires.width ∙ sym (width_is s.width s.len s.slices.items c.args.self.now c.self.invariant c.self.view_is) in
    let count = c.requires.other ∙ count_is s.width s.len s.slices.items c.args.self.now c.self.invariant c.self.view_is in
    stored_beside s.width o.width o.len o.slices.items c.args.other.now c.other.invariant c.other.view_is width s.len count

pub exchange_codes-requires-clause-rows : goal.exchange_codes-requires-clause-rows
exchange_codes-requires-clause-rows c = c.requires.rows ∙ count_is c.self.inside.width c.self.inside.len c.self.inside.slices.items c.args.self.now c.self.invariant c.self.view_is

pub invariant_of-self : goal.invariant_of-self
invariant_of-self c =
    let s = c.self.inside in
    let o = c.other.inside in
    let before = bytes_of s.slices.items in
    let others = bytes_of o.slices.items in
    let after = bytes_of c.exchange_codes.new.slices.items in
    let width = c.requires.width ∙ sym (width_is s.width s.len s.slices.items c.args.self.now c.self.invariant c.self.view_is) in
    let own = count_is s.width s.len s.slices.items c.args.self.now c.self.invariant c.self.view_is in
    let also = stored_beside s.width o.width o.len o.slices.items c.args.other.now c.other.invariant c.other.view_is width s.len (c.requires.other ∙ own) in
    let same : length after ≡ length before = omega (arith, byte_count s.slices.items, byte_count c.exchange_codes.new.slices.items, c.exchange_codes.ensures.count) in
    slices_mixed s.width s.len before after c.args.rows.now (byte_of others) c.self.invariant c.exchange_codes.ensures.bytes (c.requires.rows ∙ own) same c.exchange_codes.ensures.len
    (λ i j. also.bytes i j) also.spare

pub returns-clause-shape : goal.returns-clause-shape
returns-clause-shape c =
    let more : room_of (capacities_of c.self.inside.slices.items) ≤ room_of (capacities_of c.exchange_codes.new.slices.items) = omega (arith, ap room_of c.exchange_codes.ensures.capacities) in
    rw (← c.self.view_is) (record { width = refl; room = more })

pub returns-clause-other_shape : goal.returns-clause-other_shape
returns-clause-other_shape c =
    let more : room_of (capacities_of c.other.inside.slices.items) ≤ room_of (capacities_of c.exchange_codes.new.others.items) = omega (arith, ap room_of c.exchange_codes.ensures.other_capacities) in
    rw (← c.other.view_is) (record { width = refl; room = more })

pub returns-clause-codes : goal.returns-clause-codes
returns-clause-codes c =
    let s = c.self.inside in
    let o = c.other.inside in
    let before = bytes_of s.slices.items in
    let others = bytes_of o.slices.items in
    let after = bytes_of c.exchange_codes.new.slices.items in
    let width = c.requires.width ∙ sym (width_is s.width s.len s.slices.items c.args.self.now c.self.invariant c.self.view_is) in
    let code = also_code s.width o.width o.len o.slices.items c.args.other.now c.other.invariant c.other.view_is width in
    rw (← c.self.view_is) (λ i h.
    codes_mixed s.width s.len before after c.args.rows.now (byte_of others) c.self.invariant c.exchange_codes.ensures.bytes i (get_or c.args.other.now.codes i 0)
    (subst (λ m. i < m) (made_len s.len (code_of s.width before)) h) (code i))

-- the other way round
pub invariant_of-other : goal.invariant_of-other
invariant_of-other c =
    let s = c.self.inside in
    let o = c.other.inside in
    let before = bytes_of o.slices.items in
    let others = bytes_of s.slices.items in
    let after = bytes_of c.exchange_codes.new.others.items in
    let width = sym (c.requires.width) ∙ sym (width_is o.width o.len o.slices.items c.args.other.now c.other.invariant c.other.view_is) in
    let own = count_is o.width o.len o.slices.items c.args.other.now c.other.invariant c.other.view_is in
    let also = stored_beside o.width s.width s.len s.slices.items c.args.self.now c.self.invariant c.self.view_is width o.len (sym c.requires.other ∙ own) in
    let same : length after ≡ length before = omega (arith, byte_count o.slices.items, byte_count c.exchange_codes.new.others.items, c.exchange_codes.ensures.other_count) in
    let widths : s.width ≡ o.width = width_is s.width s.len s.slices.items c.args.self.now c.self.invariant c.self.view_is ∙ width in
    slices_mixed o.width o.len before after c.args.rows.now (byte_of others) c.other.invariant (λ i j h. c.exchange_codes.ensures.other_bytes i j (subst (λ k. i < slices_of k) (sym widths) h)) (c.requires.rows ∙ sym c.requires.other ∙ own) same c.exchange_codes.ensures.other_len
    (λ i j. also.bytes i j) also.spare

pub returns-clause-others : goal.returns-clause-others
returns-clause-others c =
    let s = c.self.inside in
    let o = c.other.inside in
    let before = bytes_of o.slices.items in
    let others = bytes_of s.slices.items in
    let after = bytes_of c.exchange_codes.new.others.items in
    let width = sym (c.requires.width) ∙ sym (width_is o.width o.len o.slices.items c.args.other.now c.other.invariant c.other.view_is) in
    let own = count_is o.width o.len o.slices.items c.args.other.now c.other.invariant c.other.view_is in
    let code = also_code o.width s.width s.len s.slices.items c.args.self.now c.self.invariant c.self.view_is width in
    let widths : s.width ≡ o.width = width_is s.width s.len s.slices.items c.args.self.now c.self.invariant c.self.view_is ∙ width in
    rw (← c.other.view_is) (λ i h.
    codes_mixed o.width o.len before after c.args.rows.now (byte_of others) c.other.invariant (λ e j l. c.exchange_codes.ensures.other_bytes e j (subst (λ k. e < slices_of k) (sym widths) l)) i (get_or c.args.self.now.codes i 0)
    (subst (λ m. i < m) (sym c.requires.other ∙ own) h) (code i))
