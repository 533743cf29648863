use Rattle.std.proofs.Common.{[], ap, arith, bit_and, false, get_or, if◌then◌else◌, inl, inr, length, refl, replicate, set, subst, sym, vec_capacity, vec_len, ℕ, ◌%◌, ◌*◌, ◌+◌, ◌-◌, ◌/◌, ◌<◌, ◌^◌, ◌≡◌, ◌≤◌, ◌∙◌}
use Rattle.std.proofs.Math.Nat.{mod-eq_of_lt, mod-lt}
use Rattle.std.proofs.Math.Seq.{map-set_same}
use Rattle.std.proofs.lemmas.Bool.{cases_lt}
use Rattle.std.proofs.lemmas.Simd.{get_or-replicate}
use Rattle.bw_mask.specs.Masks.{bit_of}
use Rattle.bw_mask.proofs.Bits.{bit_of_zero}
use Rattle.bw_code.specs.Units.{digit}
use Rattle.bw_byteslice.specs.Slices.{number_of}
use Rattle.bw_byteslice.specs.Storing.{byte_of, bytes_of}
use Rattle.bw_byteslice.proofs.Carrying.{carry_all, carry_more, carry_none, let_through, low_of}
use Rattle.bw_byteslice.proofs.Numbers.{number_fits}
use Rattle.bw_byteslice.proofs.Replacing.{each_is, new_is, read_is, rest_is}
use Rattle.bw_byteslice.proofs.rebasing.shift_run.Goals as goal

pub add_to_slice-requires-clause-there : goal.add_to_slice-requires-clause-there
add_to_slice-requires-clause-there c =
    let i = c.len-m.result - 1 - c.loop-p.p in
    let was = read_is (λ v. v.items) [] c.loop-p.slices.items i (omega arith) c.index_mut-slice.result.now c.index_mut-slice.ensures.value in
    omega (arith, ap length was, c.loop-p.invariant.len i, c.requires.there i (omega arith))

pub loop-p-preserved : goal.loop-p-preserved
loop-p-preserved c =
    let inv = c.loop-p.invariant in
    let slices = c.loop-p.slices.items in
    let old = c.args.slices.now.items in
    let m = c.len-m.result in
    let p = c.loop-p.p in
    let i = m - 1 - p in
    let at = c.args.at in
    let n = c.args.n in
    let number = c.args.number in
    let rows = c.args.rows in
    let ones = c.spread_ones.new.ones in
    let slice = c.index_mut-slice.result.now in
    let new = c.add_to_slice.new.slice in
    let after = set slices i new in
    let below : p < m = c.loop-p-test.true in
    let within : i < length slices = omega arith in
    let was : get_or (bytes_of slices) i [] ≡ slice.items = read_is (λ v. v.items) [] slices i within slice c.index_mut-slice.ensures.value in
    let left : (r : ℕ) → get_or slice.items (at + r) 0 ≡ byte_of (bytes_of old) (at + r) i = λ r. ap (λ xs. get_or xs (at + r) 0) (sym was) ∙ inv.left i (at + r) (omega (arith, below)) in
    let added : ℕ → ℕ = λ r. bit_and c.byte_at.result (get_or ones r 0) in
    let small : (j : ℕ) → get_or new.items j 0 < 256 = λ j.
    elim (cases_lt j at) [
      | inl l ↦ subst (λ b. b < 256) (sym (c.add_to_slice.ensures.others j (λ up. absurd (omega (arith, l, up))) ∙ ap (λ xs. get_or xs j 0) (sym was))) (inv.bytes i j)
      | inr up ↦
          elim (cases_lt j (at + n)) [
            | inl l ↦
                let place : at + (j - at) ≡ j = omega (arith, up) in
                subst (λ e. get_or new.items e 0 < 256) place (subst (λ b. b < 256) (sym (c.add_to_slice.ensures.bytes (j - at) (omega (arith, up, l)))) (mod-lt _ (omega arith)))
            | inr past ↦ subst (λ b. b < 256) (sym (c.add_to_slice.ensures.others j (λ _. past) ∙ ap (λ xs. get_or xs j 0) (sym was))) (inv.bytes i j)
          ]
    ] in
    record {
      count = inv.count;
      capacities = map-set_same (λ v. vec_capacity v) slices i new slice (c.add_to_slice.ensures.capacity ∙ ap (λ v. vec_capacity v) c.index_mut-slice.ensures.value) ∙ inv.capacities;
      len = each_is (λ v. v.items) [] slices i within new (λ h xs. length xs ≡ length (get_or (bytes_of old) h []))
          (c.add_to_slice.ensures.len ∙ ap length (sym was) ∙ inv.len i) (λ h _. inv.len h);
      bytes = λ h j. each_is (λ v. v.items) [] slices i within new (λ h xs. get_or xs j 0 < 256) (small j) (λ h _. inv.bytes h j) h;
      low = c.add_to_slice.ensures.low;
      sums = λ r h.
          let added_is : added r ≡ digit 256 m (if bit_of rows r then number else 0) i =
          ap (λ b. bit_and b (get_or ones r 0)) c.byte_at.ensures ∙ ap (bit_and (digit 256 m number i)) (c.spread_ones.ensures r (omega (arith, h, c.requires.few))) ∙ let_through (bit_of rows r) number m i in
          carry_more m p (if bit_of rows r then number else 0) (get_or c.loop-p.carries r 0) (get_or c.add_to_slice.new.carries r 0) (added r) (byte_of (bytes_of old) (at + r)) (byte_of (bytes_of slices) (at + r)) (byte_of (bytes_of after) (at + r)) below added_is
          (ap (λ xs. get_or xs (at + r) 0) (new_is (λ v. v.items) [] slices i within new) ∙ c.add_to_slice.ensures.bytes r h ∙ ap (λ b. (b + added r + get_or c.loop-p.carries r 0) % 256) (left r))
          (c.add_to_slice.ensures.carries r h ∙ ap (λ b. (b + added r + get_or c.loop-p.carries r 0) / 256) (left r))
          (λ h up _. ap (λ xs. get_or xs (at + r) 0) (rest_is (λ v. v.items) [] slices i within new h (λ e. omega (arith, e, up, below))))
          (inv.sums r h);
      left = λ h j l. each_is (λ v. v.items) [] slices i within new (λ h xs. h < m - (p + 1) → get_or xs j 0 ≡ byte_of (bytes_of old) j h)
          (λ low. absurd (omega (arith, low, below))) (λ h _ low. inv.left h j (omega (arith, low))) h l;
      others = λ h j apart. each_is (λ v. v.items) [] slices i within new (λ h xs. get_or xs j 0 ≡ byte_of (bytes_of old) j h)
          (c.add_to_slice.ensures.others j apart ∙ ap (λ xs. get_or xs j 0) (sym was) ∙ inv.others i j apart) (λ h _. inv.others h j apart) h;
    }

pub loop-p-init : goal.loop-p-init
loop-p-init c =
    let none : (r : ℕ) → r < 64 → get_or (replicate {A = ℕ} 64 0) r 0 ≡ 0 = λ r h. get_or-replicate 64 r 0 0 h in
    record {
      count = refl;
      capacities = refl;
      len = λ i. refl;
      bytes = c.requires.bytes;
      low = λ r h. subst (λ x. x ≤ 1) (sym (none r h)) (omega arith);
      sums = λ r h. carry_none c.len-m.result (if bit_of c.args.rows r then c.args.number else 0) (get_or (replicate {A = ℕ} 64 0) r 0) (byte_of (bytes_of c.args.slices.now.items) (c.args.at + r)) (byte_of (bytes_of c.args.slices.now.items) (c.args.at + r)) (none r (omega (arith, h, c.requires.few)));
      left = λ i j h. refl;
      others = λ i j h. refl;
    }

pub returns-clause-numbers : goal.returns-clause-numbers
returns-clause-numbers c r h =
    let m = c.len-m.result in
    let old = byte_of (bytes_of c.args.slices.now.items) (c.args.at + r) in
    let new = byte_of (bytes_of c.loop-p.slices.items) (c.args.at + r) in
    let added = if bit_of c.args.rows r then c.args.number else 0 in
    let carry = get_or c.loop-p.carries r 0 in
    let all : c.loop-p.p ≡ m = omega (arith, c.loop-p-test.false, c.loop-p.auto.p-end) in
    let sums : low_of m m new + carry * 256 ^ m ≡ low_of m m old + added % 256 ^ m = rw all at (c.loop-p.invariant.sums r h) in
    rw (← c.len-m.ensures) (carry_all m added carry old new (λ i. c.loop-p.invariant.bytes i (c.args.at + r)) sums)

-- with no row chosen, no number changes
pub returns-then-rows-eq0-clause-numbers : goal.returns-then-rows-eq0-clause-numbers
returns-then-rows-eq0-clause-numbers c r h =
    let m = vec_len c.args.slices.now in
    let byte = byte_of (bytes_of c.args.slices.now.items) (c.args.at + r) in
    let off : bit_of c.args.rows r ≡ false = ap (λ w. bit_of w r) c.if-rows-eq0.true ∙ bit_of_zero r in
    let same : number_of m byte + (if bit_of c.args.rows r then c.args.number else 0) ≡ number_of m byte = rw off (omega arith) in
    sym (mod-eq_of_lt (number_fits byte (λ i. c.requires.bytes i (c.args.at + r)) m)) ∙ ap (λ x. x % 256 ^ m) (sym same)
