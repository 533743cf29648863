use Rattle.std.proofs.Common.{[], ap, arith, false, get_or, if◌then◌else◌, length, sym, vec_capacity, ◌+◌, ◌<◌, ◌≡◌, ◌∙◌}
use Rattle.std.proofs.Math.Seq.{map-set_same}
use Rattle.bw_code.specs.Units.{digit}
use Rattle.bw_byteslice.specs.Storing.{byte_of, bytes_of}
use Rattle.bw_byteslice.proofs.Replacing.{each_is, read_is}
use Rattle.bw_byteslice.proofs.filling.fill_block.Goals as goal

pub fill_in_slice-requires-clause-there : goal.fill_in_slice-requires-clause-there
fill_in_slice-requires-clause-there c =
    let i = c.loop-i.i in
    let was = read_is (λ v. v.items) [] c.loop-i.slices.items i (omega arith) c.index_mut-slice.result.now c.index_mut-slice.ensures.value in
    omega (arith, ap length was, c.loop-i.invariant.len i, c.requires.there i (omega arith))

pub loop-i-preserved : goal.loop-i-preserved
loop-i-preserved c =
    let inv = c.loop-i.invariant in
    let slices = c.loop-i.slices.items in
    let old = c.args.slices.now.items in
    let at = c.args.at in
    let chosen = c.args.chosen.now in
    let i = c.loop-i.i in
    let number = c.args.number in
    let m = c.len-m.result in
    let slice = c.index_mut-slice.result.now in
    let new = c.fill_in_slice.new.slice in
    let within : i < length slices = omega arith in
    let was : get_or (bytes_of slices) i [] ≡ slice.items = read_is (λ v. v.items) [] slices i within slice c.index_mut-slice.ensures.value in
    record {
      count = inv.count;
      capacities = map-set_same (λ v. vec_capacity v) slices i new slice (c.fill_in_slice.ensures.capacity ∙ ap (λ v. vec_capacity v) c.index_mut-slice.ensures.value) ∙ inv.capacities;
      len = each_is (λ v. v.items) [] slices i within new (λ h xs. length xs ≡ length (get_or (bytes_of old) h []))
          (c.fill_in_slice.ensures.len ∙ ap length (sym was) ∙ inv.len i) (λ h _. inv.len h);
      done = λ h r low few. each_is (λ v. v.items) [] slices i within new (λ e xs. e < i + 1 → get_or xs (at + r) 0 ≡ (if get_or chosen r false then digit 256 m number e else byte_of (bytes_of old) (at + r) e))
          (λ _. c.fill_in_slice.ensures.bytes r few
          ∙ ap (λ b. if get_or chosen r false then b else get_or slice.items (at + r) 0) c.byte_at.ensures
          ∙ ap (λ b. if get_or chosen r false then digit 256 m number i else b) (ap (λ xs. get_or xs (at + r) 0) (sym was) ∙ inv.left i (at + r) (omega arith)))
          (λ e other less. inv.done e r (omega (arith, other, less)) few) h low;
      left = λ h j up. each_is (λ v. v.items) [] slices i within new (λ e xs. i < e → get_or xs j 0 ≡ byte_of (bytes_of old) j e)
          (λ less. absurd (omega (arith, less))) (λ e _ less. inv.left e j (omega (arith, less))) h (omega (arith, up));
      others = λ h j apart. each_is (λ v. v.items) [] slices i within new (λ h xs. get_or xs j 0 ≡ byte_of (bytes_of old) j h)
          (c.fill_in_slice.ensures.others j apart ∙ ap (λ xs. get_or xs j 0) (sym was) ∙ inv.others i j apart) (λ h _. inv.others h j apart) h;
    }

pub returns-clause-bytes : goal.returns-clause-bytes
returns-clause-bytes c i r low few =
    c.loop-i.invariant.done i r (omega (arith, low, c.len-m.ensures, c.loop-i-test.false)) few
    ∙ ap (λ m. if get_or c.args.chosen.now r false then digit 256 m c.args.number i else byte_of (bytes_of c.args.slices.now.items) (c.args.at + r) i) c.len-m.ensures
