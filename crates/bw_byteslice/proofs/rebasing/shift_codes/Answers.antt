use Rattle.std.proofs.Common.{ap, arith, false, if◌then◌else◌, inl, inr, refl, sym, vec_len, ℕ, ◌%◌, ◌*◌, ◌+◌, ◌-◌, ◌<◌, ◌^◌, ◌≡◌, ◌≤◌, ◌∙◌}
use Rattle.std.proofs.Math.Nat.{mod-eq_of_lt}
use Rattle.std.proofs.lemmas.Bool.{cases_lt, lt-ltb}
use Rattle.std.proofs.lemmas.List.{get_or_past}
use Rattle.bw_mask.specs.Masks.{bit_of, row_at}
use Rattle.bw_byteslice.specs.Slices.{shift_of, slices_of}
use Rattle.bw_byteslice.specs.Storing.{byte_of, bytes_of, number_at}
use Rattle.bw_byteslice.proofs.Numbers.{number_fits, number_same}
use Rattle.bw_byteslice.proofs.Views.{byte_count}
use Rattle.bw_byteslice.proofs.rebasing.shift_codes.Goals as goal

pub shift_run-requires-clause-narrow : goal.shift_run-requires-clause-narrow
shift_run-requires-clause-narrow c = omega (arith, c.loop-w.invariant.count, byte_count c.args.slices.now.items, c.requires.stored.count, c.requires.stored.narrow)

pub shift_run-requires-clause-there : goal.shift_run-requires-clause-there
shift_run-requires-clause-there c i h =
    let stored = c.requires.stored in
    let low : i < slices_of c.args.width = omega (arith, h, c.loop-w.invariant.count, byte_count c.args.slices.now.items, stored.count) in
    omega (arith, c.loop-w.invariant.len i, stored.long i low, c.loop-w-test.true, c.div_ceil-w-end.ensures, c.min-n.ensures)

pub loop-w-preserved : goal.loop-w-preserved
loop-w-preserved c =
    let inv = c.loop-w.invariant in
    let k = c.args.width in
    let w = c.loop-w.w in
    let old = bytes_of c.args.slices.now.items in
    let now = bytes_of c.loop-w.slices.items in
    let new = bytes_of c.shift_run.new.slices.items in
    let number = c.args.by * 2 ^ c.shift_of.result % 2 ^ 64 in
    let rows = c.args.rows.now in
    let count : vec_len c.loop-w.slices ≡ slices_of k = omega (arith, inv.count, byte_count c.args.slices.now.items, c.requires.stored.count) in
    record {
      count = c.shift_run.ensures.count ∙ inv.count;
      capacities = c.shift_run.ensures.capacities ∙ inv.capacities;
      len = λ i. c.shift_run.ensures.len i ∙ inv.len i;
      bytes = c.shift_run.ensures.bytes;
      done = λ j h l.
          elim (cases_lt j (64 * w)) [
            | inl below ↦ number_same (slices_of k) (byte_of new j) (byte_of now j) (λ i _. c.shift_run.ensures.others i j (λ up. absurd (omega (arith, below, up)))) ∙ inv.done j below l
            | inr above ↦
                let r = j - 64 * w in
                let low : r < c.min-n.result = omega (arith, h, l, above, c.min-n.ensures) in
                let few : r < 64 = omega (arith, h, above) in
                let here : 64 * w + r ≡ j = omega (arith, above) in
                let same : number_at (slices_of k) now j ≡ number_at (slices_of k) old j = number_same (slices_of k) (byte_of now j) (byte_of old j) (λ i _. inv.left i j (λ below. absurd (omega (arith, below, above)))) in
                let there : bit_of c.bits.result r ≡ row_at rows j = rw (c.bits.ensures r, lt-ltb r 64 few, here) refl in
                rw (count, here, there, same) at (c.shift_run.ensures.numbers r low)
          ];
      left = λ i j h. c.shift_run.ensures.others i j (λ up. behind j up h) ∙ inv.left i j (λ below. h (omega (arith, below)));
    }
  where
    -- a run ends at the next one, or at the last row
    behind : (j : ℕ) → 64 * c.loop-w.w ≤ j → (j < 64 * (c.loop-w.w + 1) → c.args.len ≤ j) → 64 * c.loop-w.w + c.min-n.result ≤ j
    behind j up h =
        elim (cases_lt j (64 * (c.loop-w.w + 1))) [
          | inl below ↦ let end = h below in omega (arith, end, up, c.min-n.ensures)
          | inr above ↦ omega (arith, above, c.min-n.ensures)
        ]

pub returns-clause-numbers : goal.returns-clause-numbers
returns-clause-numbers c j =
    let inv = c.loop-w.invariant in
    let k = c.args.width in
    let old = bytes_of c.args.slices.now.items in
    let new = bytes_of c.loop-w.slices.items in
    let number_is : c.args.by * 2 ^ c.shift_of.result % 2 ^ 64 ≡ c.args.by * 2 ^ shift_of k % 2 ^ 64 = ap (λ s. c.args.by * 2 ^ s % 2 ^ 64) c.shift_of.ensures in
    let numbers : number_at (slices_of k) new j ≡ (number_at (slices_of k) old j + (if row_at c.args.rows.now j then c.args.by * 2 ^ c.shift_of.result % 2 ^ 64 else 0)) % 256 ^ slices_of k =
    elim (cases_lt j c.args.len) [
      | inl below ↦ inv.done j (omega (arith, below, c.loop-w-test.false, c.div_ceil-w-end.ensures)) below
      | inr above ↦
          let past : row_at c.args.rows.now j ≡ false = get_or_past c.args.rows.now.rows j false (omega (arith, above, c.requires.rows)) in
          let same : number_at (slices_of k) new j ≡ number_at (slices_of k) old j = number_same (slices_of k) (byte_of new j) (byte_of old j) (λ i _. inv.left i j (λ _. above)) in
          let none : number_at (slices_of k) old j + (if row_at c.args.rows.now j then c.args.by * 2 ^ c.shift_of.result % 2 ^ 64 else 0) ≡ number_at (slices_of k) old j = rw past (omega arith) in
          same ∙ sym (mod-eq_of_lt (number_fits (byte_of old j) (λ i. c.requires.stored.bytes i j) (slices_of k))) ∙ ap (λ x. x % 256 ^ slices_of k) (sym none)
    ] in
    rw number_is at numbers
