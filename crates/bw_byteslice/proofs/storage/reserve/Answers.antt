use Rattle.std.proofs.Common.{[], ap, arith, get_or, length, vec_capacity, ◌+◌, ◌<◌, ◌≡◌, ◌≤◌, ◌∙◌}
use Rattle.std.proofs.Math.Seq.{map-set_same}
use Rattle.bw_byteslice.specs.Storing.{capacities_of}
use Rattle.bw_byteslice.proofs.Replacing.{each_is, read_is}
use Rattle.bw_byteslice.proofs.storage.reserve.Goals as goal

pub overflow_sub-len : goal.overflow_sub-len
overflow_sub-len c =
    let was = read_is (λ v. v.items) [] c.loop-i.slices.items c.loop-i.i (omega arith) c.index_mut-slice.result.now c.index_mut-slice.ensures.value in
    let long = ap (λ slices. length (get_or slices c.loop-i.i [])) c.loop-i.invariant.bytes in
    omega (arith, ap length was, long, c.requires c.loop-i.i)

pub returns-in_err-reserve-clause-bytes : goal.returns-in_err-reserve-clause-bytes
returns-in_err-reserve-clause-bytes c =
    let slice = c.index_mut-slice.result.now in
    map-set_same (λ v. v.items) c.loop-i.slices.items c.loop-i.i c.reserve.new.self slice (c.reserve.ensures.items ∙ ap (λ v. v.items) c.index_mut-slice.ensures.value) ∙ c.loop-i.invariant.bytes

pub returns-in_err-reserve-clause-capacities : goal.returns-in_err-reserve-clause-capacities
returns-in_err-reserve-clause-capacities c =
    let slices = c.loop-i.slices.items in
    let i = c.loop-i.i in
    let slice = c.index_mut-slice.result.now in
    let within : i < length slices = omega arith in
    let was : get_or (capacities_of slices) i 0 ≡ vec_capacity slice = read_is (λ v. vec_capacity v) 0 slices i within slice c.index_mut-slice.ensures.value in
    each_is (λ v. vec_capacity v) 0 slices i within c.reserve.new.self (λ h n. get_or (capacities_of c.args.slices.now.items) h 0 ≤ n)
    (omega (arith, was, c.reserve.ensures.capacity, c.loop-i.invariant.capacities i)) (λ h _. c.loop-i.invariant.capacities h)

pub loop-i-preserved : goal.loop-i-preserved
loop-i-preserved c =
    let slices = c.loop-i.slices.items in
    let i = c.loop-i.i in
    let slice = c.index_mut-slice.result.now in
    let new = c.reserve.new.self in
    let within : i < length slices = omega arith in
    let was : get_or (capacities_of slices) i 0 ≡ vec_capacity slice = read_is (λ v. vec_capacity v) 0 slices i within slice c.index_mut-slice.ensures.value in
    let enough : c.args.len ≤ vec_capacity new = omega (arith, c.in_ok-reserve.ensures.ok) in
    record {
      count = c.loop-i.invariant.count;
      bytes = map-set_same (λ v. v.items) slices i new slice (c.reserve.ensures.items ∙ ap (λ v. v.items) c.index_mut-slice.ensures.value) ∙ c.loop-i.invariant.bytes;
      capacities = each_is (λ v. vec_capacity v) 0 slices i within new (λ h n. get_or (capacities_of c.args.slices.now.items) h 0 ≤ n)
          (omega (arith, was, c.reserve.ensures.capacity, c.loop-i.invariant.capacities i)) (λ h _. c.loop-i.invariant.capacities h);
      room = each_is (λ v. vec_capacity v) 0 slices i within new (λ h n. h < i + 1 → c.args.len ≤ n) (λ _. enough) (λ h other l. c.loop-i.invariant.room h (omega (arith, other, l)));
    }
