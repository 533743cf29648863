use Rattle.std.proofs.Common.{arith, length, ◌+◌, ◌^◌, ◌≡◌, ◌≤◌, ◌∙◌}
use Rattle.bw_byteslice.specs.Storing.{bytes_of, capacities_of}
use Rattle.bw_byteslice.proofs.Rooms.{room_in_each, room_more}
use Rattle.bw_byteslice.proofs.Views.{byte_count, capacity_count, count_is, room_is, slices_count, width_is}
use Rattle.bw_byteslice.proofs.Zeros.{codes_zeros, slices_more}
use Rattle.bw_byteslice.proofs.column.SliceColumn.extend_zeros.Goals as goal

pub whole_segments-requires : goal.whole_segments-requires
whole_segments-requires c = omega (arith, count_is c.self.inside.width c.self.inside.len c.self.inside.slices.items c.args.self.now c.self.invariant c.self.view_is, c.requires.few)

pub grow-requires-clause-room : goal.grow-requires-clause-room
grow-requires-clause-room c i h =
    let capacities = capacities_of c.self.inside.slices.items in
    let count = count_is c.self.inside.width c.self.inside.len c.self.inside.slices.items c.args.self.now c.self.invariant c.self.view_is in
    let room = room_in_each capacities (c.self.inside.len + c.args.n) i (omega (arith, room_is c.self.inside.width c.self.inside.len c.self.inside.slices.items c.args.self.now c.self.invariant c.self.view_is, c.requires.room, count)) (omega (arith, h, capacity_count c.self.inside.slices.items)) in
    omega (arith, room, c.whole_segments.ensures)

pub invariant_of-self : goal.invariant_of-self
invariant_of-self c =
    let s = c.self.inside in
    let before = bytes_of s.slices.items in
    let after = bytes_of c.grow.new.slices.items in
    let slices = slices_count s.width s.len s.slices.items c.args.self.now c.self.invariant c.self.view_is in
    let few : s.len + c.args.n ≤ 2 ^ 24 = omega (arith, count_is s.width s.len s.slices.items c.args.self.now c.self.invariant c.self.view_is, c.requires.few) in
    let count : length after ≡ length before = omega (arith, byte_count s.slices.items, byte_count c.grow.new.slices.items, c.grow.ensures.count) in
    slices_more s.width s.len c.args.n before after c.self.invariant c.grow.ensures.bytes few count (λ i low. c.grow.ensures.len i (omega (arith, low, slices)) ∙ c.whole_segments.ensures)

pub returns-clause-shape : goal.returns-clause-shape
returns-clause-shape c =
    let grown = capacities_of c.grow.new.slices.items in
    let same : length (capacities_of c.self.inside.slices.items) ≡ length grown = omega (arith, capacity_count c.self.inside.slices.items, capacity_count c.grow.new.slices.items, c.grow.ensures.count) in
    record {
      width = width_is c.self.inside.width c.self.inside.len c.self.inside.slices.items c.args.self.now c.self.invariant c.self.view_is;
      room = omega (arith, room_is c.self.inside.width c.self.inside.len c.self.inside.slices.items c.args.self.now c.self.invariant c.self.view_is, room_more (capacities_of c.self.inside.slices.items) grown same c.grow.ensures.capacities);
    }

pub returns-clause-codes : goal.returns-clause-codes
returns-clause-codes c =
    let s = c.self.inside in
    rw (← c.self.view_is) (codes_zeros s.width s.len c.args.n (bytes_of s.slices.items) (bytes_of c.grow.new.slices.items) c.self.invariant c.grow.ensures.bytes)
