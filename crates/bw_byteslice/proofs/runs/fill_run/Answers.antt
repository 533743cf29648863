use Rattle.std.proofs.Common.{[], ap, arith, false, get_or, length, length-take, replicate, sym, vec_capacity, ◌+◌, ◌<◌, ◌≡◌, ◌∙◌}
use Rattle.std.proofs.Math.Seq.{map-set_same}
use Rattle.std.proofs.lemmas.List.{length-replicate}
use Rattle.std.proofs.lemmas.Simd.{get_or-replicate}
use Rattle.bw_code.specs.Units.{digit}
use Rattle.bw_byteslice.specs.Storing.{byte_of, bytes_of}
use Rattle.bw_byteslice.proofs.Replacing.{each_is, read_is}
use Rattle.bw_byteslice.proofs.runs.fill_run.Goals as goal

pub put_in_slice-requires-clause-there : goal.put_in_slice-requires-clause-there
put_in_slice-requires-clause-there c =
    let i = c.loop-i.i in
    let was = read_is (λ v. v.items) [] c.loop-i.slices.items i (omega arith) c.index_mut-slice.result.now c.index_mut-slice.ensures.value in
    omega (arith, ap length was, c.loop-i.invariant.len i, c.requires.there i (omega arith), c.choose.ensures.len, length-take c.args.count (replicate 64 false), length-replicate 64 false, c.requires.few)

pub loop-i-preserved : goal.loop-i-preserved
loop-i-preserved c =
    let slices = c.loop-i.slices.items in
    let old = c.args.slices.now.items in
    let i = c.loop-i.i in
    let at = c.args.at in
    let number = c.raise-number.result in
    let m = c.len-m.result in
    let slice = c.index_mut-slice.result.now in
    let new = c.put_in_slice.new.slice in
    let within : i < length slices = omega arith in
    let was : get_or (bytes_of slices) i [] ≡ slice.items = read_is (λ v. v.items) [] slices i within slice c.index_mut-slice.ensures.value in
    record {
      count = c.loop-i.invariant.count;
      capacities = map-set_same (λ v. vec_capacity v) slices i new slice (c.put_in_slice.ensures.capacity ∙ ap (λ v. vec_capacity v) c.index_mut-slice.ensures.value) ∙ c.loop-i.invariant.capacities;
      len = each_is (λ v. v.items) [] slices i within new (λ h xs. length xs ≡ length (get_or (bytes_of old) h []))
          (c.put_in_slice.ensures.len ∙ ap length (sym was) ∙ c.loop-i.invariant.len i) (λ h _. c.loop-i.invariant.len h);
      put = λ h r low below e. each_is (λ v. v.items) [] slices i within new (λ n xs. n ≡ h → get_or xs (at + r) 0 ≡ digit 256 m number h)
          (λ is. c.put_in_slice.ensures.put r (omega (arith, below, c.choose.ensures.len, length-take c.args.count (replicate 64 false), length-replicate 64 false, c.requires.few)) e ∙ get_or-replicate 64 r c.byte_at-bytes.result 0 (omega (arith, below, c.requires.few)) ∙ c.byte_at-bytes.ensures ∙ ap (λ x. digit 256 m number x) is)
          (λ n other is. let less : h < i = omega (arith, other, is, low) in ap (λ x. get_or (get_or (bytes_of slices) x []) (at + r) 0) is ∙ c.loop-i.invariant.put h r less below e)
          h (omega arith);
      kept = λ h j apart. each_is (λ v. v.items) [] slices i within new (λ h xs. get_or xs j 0 ≡ byte_of (bytes_of old) j h)
          (c.put_in_slice.ensures.kept j apart ∙ ap (λ xs. get_or xs j 0) (sym was) ∙ c.loop-i.invariant.kept i j apart) (λ h _. c.loop-i.invariant.kept h j apart) h;
    }
