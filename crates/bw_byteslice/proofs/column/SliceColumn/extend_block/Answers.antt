use Rattle.std.proofs.Common.{arith, length, subst, ℕ, ◌+◌, ◌<◌, ◌^◌, ◌≡◌, ◌≤◌, ◌∙◌}
use Rattle.bw_byteslice.specs.Storing.{byte_of, bytes_of, capacities_of}
use Rattle.bw_byteslice.proofs.PlaneBytes.{byte_past, codes_extended, slices_extended}
use Rattle.bw_byteslice.proofs.Rooms.{room_in_each, room_more}
use Rattle.bw_byteslice.proofs.Views.{byte_count, capacity_count, count_is, room_is, slices_count, width_is}
use Rattle.bw_byteslice.proofs.column.SliceColumn.extend_block.Goals as goal

pub whole_segments-requires : goal.whole_segments-requires
whole_segments-requires c = let s = c.self.inside in omega (arith, count_is s.width s.len s.slices.items c.args.self.now c.self.invariant c.self.view_is, c.requires.short)

pub grow-requires-clause-room : goal.grow-requires-clause-room
grow-requires-clause-room c i h =
    let s = c.self.inside in
    let capacities = capacities_of s.slices.items in
    let count = count_is s.width s.len s.slices.items c.args.self.now c.self.invariant c.self.view_is in
    let room = room_in_each capacities (s.len + c.args.n) i (omega (arith, room_is s.width s.len s.slices.items c.args.self.now c.self.invariant c.self.view_is, c.requires.room, count)) (omega (arith, h, capacity_count s.slices.items)) in
    omega (arith, room, c.whole_segments.ensures)

pub put_block-requires-clause-there : goal.put_block-requires-clause-there
put_block-requires-clause-there c i low =
    let s = c.self.inside in
    let slices = slices_count s.width s.len s.slices.items c.args.self.now c.self.invariant c.self.view_is in
    omega (arith, c.grow.ensures.len i (omega (arith, low, slices)), c.whole_segments.ensures)

pub put_block-requires-clause-rest : goal.put_block-requires-clause-rest
put_block-requires-clause-rest c b r h past l =
    let s = c.self.inside in
    let width = width_is s.width s.len s.slices.items c.args.self.now c.self.invariant c.self.view_is in
    c.requires.rest b r (subst (λ w. b < w) width h) past l

pub put_block-requires-clause-clean : goal.put_block-requires-clause-clean
put_block-requires-clause-clean c i j h =
    let s = c.self.inside in
    c.grow.ensures.bytes i j ∙ byte_past s.width s.len (bytes_of s.slices.items) c.self.invariant i j (omega (arith, h))

pub invariant_of-self : goal.invariant_of-self
invariant_of-self c =
    let s = c.self.inside in
    let before = bytes_of s.slices.items in
    let after = bytes_of c.put_block.new.slices.items in
    let outside : (i j : ℕ) → (s.len ≤ j → s.len + c.args.n ≤ j) → byte_of after j i ≡ byte_of before j i = λ i j apart. c.put_block.ensures.outside i j apart ∙ c.grow.ensures.bytes i j in
    let slices = slices_count s.width s.len s.slices.items c.args.self.now c.self.invariant c.self.view_is in
    let few : s.len + c.args.n ≤ 2 ^ 24 = omega (arith, count_is s.width s.len s.slices.items c.args.self.now c.self.invariant c.self.view_is, c.requires.short) in
    let count : length after ≡ length before = omega (arith, byte_count s.slices.items, byte_count c.put_block.new.slices.items, c.put_block.ensures.count, c.grow.ensures.count) in
    slices_extended s.width s.len c.args.n c.args.block.now before after c.self.invariant c.put_block.ensures.inside outside few count
    (λ i low. c.put_block.ensures.len i ∙ c.grow.ensures.len i (omega (arith, low, slices)) ∙ c.whole_segments.ensures)

pub returns-clause-shape : goal.returns-clause-shape
returns-clause-shape c =
    let s = c.self.inside in
    let grown = capacities_of c.grow.new.slices.items in
    let same : length (capacities_of s.slices.items) ≡ length grown = omega (arith, capacity_count s.slices.items, capacity_count c.grow.new.slices.items, c.grow.ensures.count) in
    record {
      width = width_is s.width s.len s.slices.items c.args.self.now c.self.invariant c.self.view_is;
      room = rw c.put_block.ensures.capacities (omega (arith, room_is s.width s.len s.slices.items c.args.self.now c.self.invariant c.self.view_is, room_more (capacities_of s.slices.items) grown same c.grow.ensures.capacities));
    }

pub returns-clause-codes : goal.returns-clause-codes
returns-clause-codes c =
    let s = c.self.inside in
    let before = bytes_of s.slices.items in
    let after = bytes_of c.put_block.new.slices.items in
    let outside : (i j : ℕ) → (s.len ≤ j → s.len + c.args.n ≤ j) → byte_of after j i ≡ byte_of before j i = λ i j apart. c.put_block.ensures.outside i j apart ∙ c.grow.ensures.bytes i j in
    rw (← c.self.view_is) (codes_extended s.width s.len c.args.n c.args.block.now before after c.self.invariant c.put_block.ensures.inside outside)
