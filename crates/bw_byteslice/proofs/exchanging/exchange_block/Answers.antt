use Rattle.std.proofs.Common.{[], ap, arith, false, get_or, if◌then◌else◌, length, sym, vec_capacity, ℕ, ◌+◌, ◌<◌, ◌≡◌, ◌∙◌}
use Rattle.std.proofs.Math.Seq.{map-set_same}
use Rattle.bw_byteslice.specs.Storing.{byte_of, bytes_of}
use Rattle.bw_byteslice.proofs.Replacing.{each_is, read_is}
use Rattle.bw_byteslice.proofs.exchanging.exchange_block.Goals as goal

pub exchange_in_slices-requires-clause-there : goal.exchange_in_slices-requires-clause-there
exchange_in_slices-requires-clause-there c =
    let i = c.loop-i.i in
    let was = read_is (λ v. v.items) [] c.loop-i.slices.items i (omega arith) c.index_mut.result.now c.index_mut.ensures.value in
    omega (arith, ap length was, c.loop-i.invariant.len i, c.requires.there i (omega arith))

pub exchange_in_slices-requires-clause-other_there : goal.exchange_in_slices-requires-clause-other_there
exchange_in_slices-requires-clause-other_there c =
    let i = c.loop-i.i in
    let was = read_is (λ v. v.items) [] c.loop-i.others.items i (omega (arith, c.loop-i.invariant.other_count, c.requires.same, c.loop-i-test.true)) c.index_mut-in-loop-i.result.now c.index_mut-in-loop-i.ensures.value in
    omega (arith, ap length was, c.loop-i.invariant.other_len i, c.requires.other_there i (omega arith))

pub loop-i-preserved : goal.loop-i-preserved
loop-i-preserved c =
    let inv = c.loop-i.invariant in
    let slices = c.loop-i.slices.items in
    let others = c.loop-i.others.items in
    let old = c.args.slices.now.items in
    let other_old = c.args.others.now.items in
    let at = c.args.at in
    let chosen = c.args.chosen.now in
    let i = c.loop-i.i in
    let slice = c.index_mut.result.now in
    let other = c.index_mut-in-loop-i.result.now in
    let new = c.exchange_in_slices.new.own in
    let other_new = c.exchange_in_slices.new.other in
    let now = c.exchange_in_slices.ensures in
    let within : i < length slices = omega arith in
    let also : i < length others = omega (arith, within, inv.count, inv.other_count, c.requires.same) in
    let was : get_or (bytes_of slices) i [] ≡ slice.items = read_is (λ v. v.items) [] slices i within slice c.index_mut.ensures.value in
    let other_was : get_or (bytes_of others) i [] ≡ other.items = read_is (λ v. v.items) [] others i also other c.index_mut-in-loop-i.ensures.value in
    let byte : (j : ℕ) → get_or slice.items j 0 ≡ byte_of (bytes_of old) j i = λ j. ap (λ xs. get_or xs j 0) (sym was) ∙ inv.left i j (omega arith) in
    let other_byte : (j : ℕ) → get_or other.items j 0 ≡ byte_of (bytes_of other_old) j i = λ j. ap (λ xs. get_or xs j 0) (sym other_was) ∙ inv.other_left i j (omega arith) in
    record {
      count = inv.count;
      other_count = inv.other_count;
      capacities = map-set_same (λ v. vec_capacity v) slices i new slice (now.capacity ∙ ap (λ v. vec_capacity v) c.index_mut.ensures.value) ∙ inv.capacities;
      other_capacities = map-set_same (λ v. vec_capacity v) others i other_new other (now.other_capacity ∙ ap (λ v. vec_capacity v) c.index_mut-in-loop-i.ensures.value) ∙ inv.other_capacities;
      len = each_is (λ v. v.items) [] slices i within new (λ h xs. length xs ≡ length (get_or (bytes_of old) h []))
          (now.len ∙ ap length (sym was) ∙ inv.len i) (λ h _. inv.len h);
      other_len = each_is (λ v. v.items) [] others i also other_new (λ h xs. length xs ≡ length (get_or (bytes_of other_old) h []))
          (now.other_len ∙ ap length (sym other_was) ∙ inv.other_len i) (λ h _. inv.other_len h);
      done = λ h r low few. each_is (λ v. v.items) [] slices i within new (λ e xs. e < i + 1 → get_or xs (at + r) 0 ≡ (if get_or chosen r false then byte_of (bytes_of other_old) (at + r) e else byte_of (bytes_of old) (at + r) e))
          (λ _. now.bytes r few
          ∙ ap (λ b. if get_or chosen r false then b else get_or slice.items (at + r) 0) (other_byte (at + r))
          ∙ ap (λ b. if get_or chosen r false then byte_of (bytes_of other_old) (at + r) i else b) (byte (at + r)))
          (λ e apart less. inv.done e r (omega (arith, apart, less)) few) h low;
      other_done = λ h r low few. each_is (λ v. v.items) [] others i also other_new (λ e xs. e < i + 1 → get_or xs (at + r) 0 ≡ (if get_or chosen r false then byte_of (bytes_of old) (at + r) e else byte_of (bytes_of other_old) (at + r) e))
          (λ _. now.other_bytes r few
          ∙ ap (λ b. if get_or chosen r false then b else get_or other.items (at + r) 0) (byte (at + r))
          ∙ ap (λ b. if get_or chosen r false then byte_of (bytes_of old) (at + r) i else b) (other_byte (at + r)))
          (λ e apart less. inv.other_done e r (omega (arith, apart, less)) few) h low;
      left = λ h j up. each_is (λ v. v.items) [] slices i within new (λ e xs. i < e → get_or xs j 0 ≡ byte_of (bytes_of old) j e)
          (λ less. absurd (omega (arith, less))) (λ e _ less. inv.left e j (omega (arith, less))) h (omega (arith, up));
      other_left = λ h j up. each_is (λ v. v.items) [] others i also other_new (λ e xs. i < e → get_or xs j 0 ≡ byte_of (bytes_of other_old) j e)
          (λ less. absurd (omega (arith, less))) (λ e _ less. inv.other_left e j (omega (arith, less))) h (omega (arith, up));
      kept = λ h j apart. each_is (λ v. v.items) [] slices i within new (λ h xs. get_or xs j 0 ≡ byte_of (bytes_of old) j h)
          (now.kept j apart ∙ ap (λ xs. get_or xs j 0) (sym was) ∙ inv.kept i j apart) (λ h _. inv.kept h j apart) h;
      other_kept = λ h j apart. each_is (λ v. v.items) [] others i also other_new (λ h xs. get_or xs j 0 ≡ byte_of (bytes_of other_old) j h)
          (now.other_kept j apart ∙ ap (λ xs. get_or xs j 0) (sym other_was) ∙ inv.other_kept i j apart) (λ h _. inv.other_kept h j apart) h;
    }
