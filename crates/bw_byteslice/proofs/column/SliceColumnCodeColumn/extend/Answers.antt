use Rattle.std.proofs.Common.{arith, length, subst, sym, ℕ, ◌+◌, ◌^◌, ◌≡◌, ◌≤◌, ◌∙◌}
use Rattle.bw_code.specs.Columns.{Fit}
use Rattle.bw_byteslice.specs.Storing.{byte_of, bytes_of, capacities_of}
use Rattle.bw_byteslice.proofs.Keeping.{code_inside, code_outside, codes_more, slices_put}
use Rattle.bw_byteslice.proofs.Rooms.{room_in_each, room_more}
use Rattle.bw_byteslice.proofs.Views.{byte_count, capacity_count, count_is, room_is, slices_count, width_is}
use Rattle.bw_byteslice.proofs.column.SliceColumnCodeColumn.extend.Goals as goal

pub whole_segments-requires : goal.whole_segments-requires
whole_segments-requires c = omega (arith, count_is c.self.inside.width c.self.inside.len c.self.inside.slices.items c.args.self.now c.self.invariant c.self.view_is, c.requires.few)

pub grow-requires-clause-room : goal.grow-requires-clause-room
grow-requires-clause-room c i h =
    let capacities = capacities_of c.self.inside.slices.items in
    let count = count_is c.self.inside.width c.self.inside.len c.self.inside.slices.items c.args.self.now c.self.invariant c.self.view_is in
    let room = room_in_each capacities (c.self.inside.len + length c.args.codes.now) i (omega (arith, room_is c.self.inside.width c.self.inside.len c.self.inside.slices.items c.args.self.now c.self.invariant c.self.view_is, c.requires.room, count)) (omega (arith, h, capacity_count c.self.inside.slices.items)) in
    omega (arith, room, c.whole_segments.ensures)

pub put-requires-clause-few : goal.put-requires-clause-few
put-requires-clause-few c = omega (arith, count_is c.self.inside.width c.self.inside.len c.self.inside.slices.items c.args.self.now c.self.invariant c.self.view_is, c.requires.few)

pub invariant_of-self : goal.invariant_of-self
invariant_of-self c =
    let k = c.self.inside.width in
    let codes = c.args.codes.now in
    let before = bytes_of c.self.inside.slices.items in
    let after = bytes_of c.put.new.slices.items in
    let fit : Fit k codes = subst (λ w. Fit w codes) (sym (width_is c.self.inside.width c.self.inside.len c.self.inside.slices.items c.args.self.now c.self.invariant c.self.view_is)) c.requires.fit in
    let outside : (i j : ℕ) → (c.self.inside.len ≤ j → c.self.inside.len + length codes ≤ j) → byte_of after j i ≡ byte_of before j i = λ i j apart. c.put.ensures.outside i j apart ∙ c.grow.ensures.bytes i j in
    let slices = slices_count c.self.inside.width c.self.inside.len c.self.inside.slices.items c.args.self.now c.self.invariant c.self.view_is in
    let few : c.self.inside.len + length codes ≤ 2 ^ 24 = omega (arith, count_is c.self.inside.width c.self.inside.len c.self.inside.slices.items c.args.self.now c.self.invariant c.self.view_is, c.requires.few) in
    let count : length after ≡ length before = omega (arith, byte_count c.self.inside.slices.items, byte_count c.put.new.slices.items, c.put.ensures.count, c.grow.ensures.count) in
    slices_put k c.self.inside.len codes before after fit c.put.ensures.inside outside c.self.inside.len (c.self.inside.len + length codes) c.self.invariant (omega arith) few (omega arith) count
    (λ i low. c.put.ensures.len i ∙ c.grow.ensures.len i (omega (arith, low, slices)) ∙ c.whole_segments.ensures)

pub returns-clause-shape : goal.returns-clause-shape
returns-clause-shape c =
    let grown = capacities_of c.grow.new.slices.items in
    let same : length (capacities_of c.self.inside.slices.items) ≡ length grown = omega (arith, capacity_count c.self.inside.slices.items, capacity_count c.grow.new.slices.items, c.grow.ensures.count) in
    record {
      width = width_is c.self.inside.width c.self.inside.len c.self.inside.slices.items c.args.self.now c.self.invariant c.self.view_is;
      room = rw c.put.ensures.capacities (omega (arith, room_is c.self.inside.width c.self.inside.len c.self.inside.slices.items c.args.self.now c.self.invariant c.self.view_is, room_more (capacities_of c.self.inside.slices.items) grown same c.grow.ensures.capacities));
    }

pub returns-clause-codes : goal.returns-clause-codes
returns-clause-codes c =
    let k = c.self.inside.width in
    let codes = c.args.codes.now in
    let before = bytes_of c.self.inside.slices.items in
    let after = bytes_of c.put.new.slices.items in
    let fit : Fit k codes = subst (λ w. Fit w codes) (sym (width_is c.self.inside.width c.self.inside.len c.self.inside.slices.items c.args.self.now c.self.invariant c.self.view_is)) c.requires.fit in
    let outside : (i j : ℕ) → (c.self.inside.len ≤ j → c.self.inside.len + length codes ≤ j) → byte_of after j i ≡ byte_of before j i = λ i j apart. c.put.ensures.outside i j apart ∙ c.grow.ensures.bytes i j in
    let new = code_inside k c.self.inside.len codes before after fit c.put.ensures.inside outside in
    let old = code_outside k c.self.inside.len codes before after fit c.put.ensures.inside outside in
    rw (← c.self.view_is) (codes_more k c.self.inside.len codes before after new (λ j h. old j (λ up. absurd (omega arith))))
