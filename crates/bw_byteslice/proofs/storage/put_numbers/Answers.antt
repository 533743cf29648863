use Rattle.std.proofs.Common.{[], ap, arith, get_or, length, sym, vec_capacity, ◌+◌, ◌<◌, ◌≡◌, ◌≤◌, ◌∙◌}
use Rattle.std.proofs.Math.Seq.{map-set_same}
use Rattle.bw_code.specs.Units.{digit}
use Rattle.bw_byteslice.specs.Storing.{byte_of, bytes_of}
use Rattle.bw_byteslice.proofs.Replacing.{each_is, read_is}
use Rattle.bw_byteslice.proofs.storage.put_numbers.Goals as goal

pub put_in_slice-requires-clause-there : goal.put_in_slice-requires-clause-there
put_in_slice-requires-clause-there c =
    let p = c.args.first + c.loop-i.i in
    let was = read_is (λ v. v.items) [] c.loop-i.slices.items p (omega arith) c.index_mut-slice.result.now c.index_mut-slice.ensures.value in
    omega (arith, ap length was, c.loop-i.invariant.len p, c.requires.there p (omega arith))

pub loop-i-preserved : goal.loop-i-preserved
loop-i-preserved c =
    let slices = c.loop-i.slices.items in
    let old = c.args.slices.now.items in
    let i = c.loop-i.i in
    let first = c.args.first in
    let p = first + i in
    let at = c.args.at in
    let numbers = c.args.numbers.now in
    let m = c.args.m in
    let slice = c.index_mut-slice.result.now in
    let new = c.put_in_slice.new.slice in
    let within : first + i < length slices = omega arith in
    let was : get_or (bytes_of slices) p [] ≡ slice.items = read_is (λ v. v.items) [] slices p within slice c.index_mut-slice.ensures.value in
    record {
      count = c.loop-i.invariant.count;
      capacities = map-set_same (λ v. vec_capacity v) slices p new slice (c.put_in_slice.ensures.capacity ∙ ap (λ v. vec_capacity v) c.index_mut-slice.ensures.value) ∙ c.loop-i.invariant.capacities;
      len = each_is (λ v. v.items) [] slices p within new (λ h xs. length xs ≡ length (get_or (bytes_of old) h []))
          (c.put_in_slice.ensures.len ∙ ap length (sym was) ∙ c.loop-i.invariant.len p) (λ h _. c.loop-i.invariant.len h);
      inside = λ h r low below. each_is (λ v. v.items) [] slices p within new (λ n xs. n ≡ first + h → get_or xs (at + r) 0 ≡ digit 256 m (get_or numbers r 0) h)
          (λ e. let same : i ≡ h = omega (arith, e) in c.put_in_slice.ensures.inside r below ∙ ap (λ x. digit 256 m (get_or numbers r 0) x) same)
          (λ n other e. let less : h < i = omega (arith, other, e, low) in ap (λ x. get_or (get_or (bytes_of slices) x []) (at + r) 0) e ∙ c.loop-i.invariant.inside h r less below)
          (first + h) (omega arith);
      others = λ n j apart. each_is (λ v. v.items) [] slices p within new (λ h xs. (first ≤ h → first + m ≤ h) → get_or xs j 0 ≡ byte_of (bytes_of old) j h)
          (λ far. let past = far (omega arith) in absurd (omega (arith, past))) (λ h _ far. c.loop-i.invariant.others h j far) n apart;
      outside = λ h j apart. each_is (λ v. v.items) [] slices p within new (λ h xs. get_or xs j 0 ≡ byte_of (bytes_of old) j h)
          (c.put_in_slice.ensures.outside j apart ∙ ap (λ xs. get_or xs j 0) (sym was) ∙ c.loop-i.invariant.outside p j apart) (λ h _. c.loop-i.invariant.outside h j apart) h;
    }
