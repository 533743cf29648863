use Rattle.std.proofs.Common.{[], ap, arith, get_or, length, sym, vec_capacity, ℕ, ◌+◌, ◌<◌, ◌≡◌, ◌≤◌, ◌∙◌}
use Rattle.bw_byteslice.specs.Storing.{byte_of, bytes_of, capacities_of}
use Rattle.bw_byteslice.proofs.Replacing.{each_is, read_is}
use Rattle.bw_byteslice.proofs.storage.grow.Goals as goal

pub grow_slice-requires-clause-longer : goal.grow_slice-requires-clause-longer
grow_slice-requires-clause-longer c =
    let was = read_is (λ v. v.items) [] c.loop-i.slices.items c.loop-i.i (omega arith) c.index_mut-slice.result.now c.index_mut-slice.ensures.value in
    omega (arith, ap length was, c.loop-i.invariant.longer c.loop-i.i)

pub grow_slice-requires-clause-room : goal.grow_slice-requires-clause-room
grow_slice-requires-clause-room c =
    let was = read_is (λ v. vec_capacity v) 0 c.loop-i.slices.items c.loop-i.i (omega arith) c.index_mut-slice.result.now c.index_mut-slice.ensures.value in
    let within : c.loop-i.i < c.args.slices.now.len = omega arith in
    omega (arith, was, c.requires.room c.loop-i.i within, c.loop-i.invariant.capacities c.loop-i.i)

pub loop-i-preserved : goal.loop-i-preserved
loop-i-preserved c =
    let slices = c.loop-i.slices.items in
    let old = c.args.slices.now.items in
    let i = c.loop-i.i in
    let slice = c.index_mut-slice.result.now in
    let new = c.grow_slice.new.slice in
    let within : i < length slices = omega arith in
    let bytes_was : get_or (bytes_of slices) i [] ≡ slice.items = read_is (λ v. v.items) [] slices i within slice c.index_mut-slice.ensures.value in
    let room_was : get_or (capacities_of slices) i 0 ≡ vec_capacity slice = read_is (λ v. vec_capacity v) 0 slices i within slice c.index_mut-slice.ensures.value in
    record {
      count = c.loop-i.invariant.count;
      capacities = each_is (λ v. vec_capacity v) 0 slices i within new (λ h n. get_or (capacities_of old) h 0 ≤ n)
          (omega (arith, room_was, c.grow_slice.ensures.capacity, c.loop-i.invariant.capacities i)) (λ h _. c.loop-i.invariant.capacities h);
      len = each_is (λ v. v.items) [] slices i within new (λ h xs. h < i + 1 → length xs ≡ c.args.len) (λ _. c.grow_slice.ensures.len) (λ h other l. c.loop-i.invariant.len h (omega (arith, other, l)));
      longer = each_is (λ v. v.items) [] slices i within new (λ h xs. length xs ≤ c.args.len) (omega (arith, c.grow_slice.ensures.len)) (λ h _. c.loop-i.invariant.longer h);
      bytes = each_is (λ v. v.items) [] slices i within new (λ h xs. (j : ℕ) → get_or xs j 0 ≡ byte_of (bytes_of old) j h)
          (λ j. c.grow_slice.ensures.bytes j ∙ ap (λ xs. get_or xs j 0) (sym bytes_was) ∙ c.loop-i.invariant.bytes i j) (λ h _. c.loop-i.invariant.bytes h);
    }
