use Rattle.std.proofs.Common.{[], ap, arith, bit_and, false, get_or, if◌then◌else◌, inl, inr, length, length-take, refl, replicate, set, subst, sym, true, vec_capacity, ℕ, ◌%◌, ◌*◌, ◌+◌, ◌-◌, ◌/◌, ◌<◌, ◌^◌, ◌≡◌, ◌≤◌, ◌∙◌}
use Rattle.std.proofs.Math.Nat.{mod-lt}
use Rattle.std.proofs.Math.Seq.{map-set_same}
use Rattle.std.proofs.lemmas.Bool.{both_ways, cases_Bool, cases_lt}
use Rattle.std.proofs.lemmas.List.{get_or_past, length-replicate}
use Rattle.std.proofs.lemmas.Simd.{get_or-replicate}
use Rattle.bw_mask.specs.Masks.{bit_of}
use Rattle.bw_code.specs.Units.{digit}
use Rattle.bw_byteslice.specs.Slices.{number_of}
use Rattle.bw_byteslice.specs.Storing.{byte_of, bytes_of}
use Rattle.bw_byteslice.proofs.Carrying.{carry_all, carry_more, carry_none, let_through, low_of}
use Rattle.bw_byteslice.proofs.Numbers.{number_same}
use Rattle.bw_byteslice.proofs.Replacing.{each_is, new_is, read_is, rest_is}
use Rattle.bw_byteslice.proofs.copying.copy_run.Goals as goal

pub copy_bytes-requires-clause-there : goal.copy_bytes-requires-clause-there
copy_bytes-requires-clause-there c =
    let i = c.len-m.result - 1 - c.loop-p.p in
    let was = read_is (λ v. v.items) [] c.args.others.now i (omega (arith, c.requires.same)) c.index-others-i.result c.index-others-i.is in
    omega (arith, ap length was, ap length c.deref.ensures.value, c.requires.others i (omega arith))

pub put_in_slice-requires-clause-there : goal.put_in_slice-requires-clause-there
put_in_slice-requires-clause-there c =
    let i = c.len-m.result - 1 - c.loop-p.p in
    let was = read_is (λ v. v.items) [] c.loop-p.slices.items i (omega arith) c.index_mut-slice.result.now c.index_mut-slice.ensures.value in
    let few : length c.choose.new.chosen ≡ c.args.n = omega (arith, c.choose.ensures.len, length-take c.args.n (replicate 64 false), length-replicate 64 false, c.requires.few) in
    omega (arith, few, ap length was, c.loop-p.invariant.len i, c.requires.there i (omega arith))

pub loop-p-init : goal.loop-p-init
loop-p-init c =
    let none : (r : ℕ) → r < 64 → get_or (replicate {A = ℕ} 64 0) r 0 ≡ 0 = λ r h. get_or-replicate 64 r 0 0 h in
    record {
      count = refl;
      capacities = refl;
      len = λ i. refl;
      bytes = c.requires.bytes;
      low = λ r h. subst (λ x. x ≤ 1) (sym (none r h)) (omega arith);
      none = λ _. none;
      sums = λ r h on. carry_none c.len-m.result (if bit_of c.args.moved r then c.args.number else 0) (get_or (replicate {A = ℕ} 64 0) r 0) (byte_of (bytes_of c.args.others.now) (c.args.at + r)) (byte_of (bytes_of c.args.slices.now.items) (c.args.at + r)) (none r (omega (arith, h, c.requires.few)));
      kept = λ i j h. refl;
    }

pub loop-p-preserved : goal.loop-p-preserved
loop-p-preserved c =
    let inv = c.loop-p.invariant in
    let slices = c.loop-p.slices.items in
    let old = c.args.slices.now.items in
    let others = c.args.others.now in
    let m = c.len-m.result in
    let p = c.loop-p.p in
    let i = m - 1 - p in
    let at = c.args.at in
    let n = c.args.n in
    let number = c.args.number in
    let moved = c.args.moved in
    let ones = c.spread_ones.new.ones in
    let chosen = c.choose.new.chosen in
    let slice = c.index_mut-slice.result.now in
    let new = c.put_in_slice.new.slice in
    let after = set slices i new in
    let below : p < m = c.loop-p-test.true in
    let within : i < length slices = omega arith in
    let was : get_or (bytes_of slices) i [] ≡ slice.items = read_is (λ v. v.items) [] slices i within slice c.index_mut-slice.ensures.value in
    let read = read_is (λ v. v.items) [] others i (omega (arith, c.requires.same)) c.index-others-i.result c.index-others-i.is in
    let other : (r : ℕ) → r < n → get_or c.copy_bytes.new.bytes r 0 ≡ byte_of (bytes_of others) (at + r) i =
    λ r h. c.copy_bytes.ensures r h ∙ ap (λ xs. get_or xs (at + r) 0) (c.deref.ensures.value ∙ sym read) in
    let few : length chosen ≡ n = omega (arith, c.choose.ensures.len, length-take n (replicate 64 false), length-replicate 64 false, c.requires.few) in
    let added : ℕ → ℕ = λ r. bit_and c.byte_at.result (get_or ones r 0) in
    let small : (j : ℕ) → get_or new.items j 0 < 256 = λ j.
    elim (cases_lt j at) [
      | inl l ↦ subst (λ b. b < 256) (sym (c.put_in_slice.ensures.kept j (λ up. absurd (omega (arith, l, up))) ∙ ap (λ xs. get_or xs j 0) (sym was))) (inv.bytes i j)
      | inr up ↦
          elim (cases_Bool (get_or chosen (j - at) false)) [
            | inl on ↦
                let r = j - at in
                let low : r < length chosen =
                elim (cases_lt r (length chosen)) [ inl l ↦ l | inr l ↦ absurd (both_ways (get_or chosen r false) (get_or_past chosen r false l) on) ] in
                let place : at + r ≡ j = omega (arith, up) in
                let is = c.put_in_slice.ensures.put r low on ∙ c.add_if.ensures.bytes r (omega (arith, low, few, c.requires.few)) in
                subst (λ e. get_or new.items e 0 < 256) place (subst (λ b. b < 256) (sym is) (mod-lt _ (omega arith)))
            | inr off ↦ subst (λ b. b < 256) (sym (c.put_in_slice.ensures.kept j (λ _. off) ∙ ap (λ xs. get_or xs j 0) (sym was))) (inv.bytes i j)
          ]
    ] in
    record {
      count = inv.count;
      capacities = map-set_same (λ v. vec_capacity v) slices i new slice (c.put_in_slice.ensures.capacity ∙ ap (λ v. vec_capacity v) c.index_mut-slice.ensures.value) ∙ inv.capacities;
      len = each_is (λ v. v.items) [] slices i within new (λ h xs. length xs ≡ length (get_or (bytes_of old) h []))
          (c.put_in_slice.ensures.len ∙ ap length (sym was) ∙ inv.len i) (λ h _. inv.len h);
      bytes = λ h j. each_is (λ v. v.items) [] slices i within new (λ h xs. get_or xs j 0 < 256) (small j) (λ h _. inv.bytes h j) h;
      low = c.add_if.ensures.low;
      none = λ zero. c.add_if.ensures.none (rw zero refl);
      sums = λ r h on.
          let short : r < 64 = omega (arith, h, c.requires.few) in
          let added_is : added r ≡ digit 256 m (if bit_of moved r then number else 0) i =
          ap (λ b. bit_and b (get_or ones r 0)) c.byte_at.ensures ∙ ap (bit_and (digit 256 m number i)) (c.spread_ones.ensures r short) ∙ let_through (bit_of moved r) number m i in
          let chosen_is : get_or chosen r false ≡ true = c.choose.ensures.each r (omega (arith, length-take n (replicate 64 false), length-replicate 64 false, c.requires.few, h)) ∙ on in
          carry_more m p (if bit_of moved r then number else 0) (get_or c.loop-p.carries r 0) (get_or c.add_if.new.carries r 0) (added r) (byte_of (bytes_of others) (at + r)) (byte_of (bytes_of slices) (at + r)) (byte_of (bytes_of after) (at + r)) below added_is
          (ap (λ xs. get_or xs (at + r) 0) (new_is (λ v. v.items) [] slices i within new) ∙ c.put_in_slice.ensures.put r (omega (arith, few, h)) chosen_is ∙ c.add_if.ensures.bytes r short ∙ ap (λ b. (b + added r + get_or c.loop-p.carries r 0) % 256) (other r h))
          (c.add_if.ensures.carries r short ∙ ap (λ b. (b + added r + get_or c.loop-p.carries r 0) / 256) (other r h))
          (λ h up _. ap (λ xs. get_or xs (at + r) 0) (rest_is (λ v. v.items) [] slices i within new h (λ e. omega (arith, e, up, below))))
          (inv.sums r h on);
      kept = λ h j apart. each_is (λ v. v.items) [] slices i within new (λ h xs. get_or xs j 0 ≡ byte_of (bytes_of old) j h)
          (c.put_in_slice.ensures.kept j apart ∙ ap (λ xs. get_or xs j 0) (sym was) ∙ inv.kept i j apart) (λ h _. inv.kept h j apart) h;
    }

pub returns-clause-numbers : goal.returns-clause-numbers
returns-clause-numbers c r h =
    let inv = c.loop-p.invariant in
    let m = c.len-m.result in
    let at = c.args.at in
    let own = byte_of (bytes_of c.args.slices.now.items) (at + r) in
    let other = byte_of (bytes_of c.args.others.now) (at + r) in
    let new = byte_of (bytes_of c.loop-p.slices.items) (at + r) in
    let added = if bit_of c.args.moved r then c.args.number else 0 in
    let carry = get_or c.loop-p.carries r 0 in
    let all : c.loop-p.p ≡ m = omega (arith, c.loop-p-test.false, c.loop-p.auto.p-end) in
    let is : number_of m new ≡ (if bit_of c.args.rows r then (number_of m other + added) % 256 ^ m else number_of m own) =
    elim (cases_Bool (bit_of c.args.rows r)) [
      | inl on ↦
          let sums : low_of m m new + carry * 256 ^ m ≡ low_of m m other + added % 256 ^ m = rw all at (inv.sums r h on) in
          rw on (carry_all m added carry other new (λ i. inv.bytes i (at + r)) sums)
      | inr off ↦
          let back : at + r - at ≡ r = omega arith in
          let left : get_or c.choose.new.chosen r false ≡ false = c.choose.ensures.each r (omega (arith, length-take c.args.n (replicate 64 false), length-replicate 64 false, c.requires.few, h)) ∙ off in
          rw off (number_same m new own (λ i _. inv.kept i (at + r) (λ _. rw back left)))
    ] in
    rw (← c.len-m.ensures) is
