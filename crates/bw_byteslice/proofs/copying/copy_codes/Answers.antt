use Rattle.std.proofs.Common.{arith, false, if◌then◌else◌, inl, inr, refl, vec_len, ℕ, ◌%◌, ◌*◌, ◌+◌, ◌-◌, ◌<◌, ◌^◌, ◌≡◌, ◌≤◌, ◌∙◌}
use Rattle.std.proofs.lemmas.Bool.{cases_lt, lt-ltb}
use Rattle.std.proofs.lemmas.List.{get_or_past}
use Rattle.bw_mask.specs.Masks.{bit_of, row_at}
use Rattle.bw_byteslice.specs.Slices.{slices_of}
use Rattle.bw_byteslice.specs.Storing.{byte_of, bytes_of, number_at}
use Rattle.bw_byteslice.proofs.Numbers.{number_same}
use Rattle.bw_byteslice.proofs.Views.{byte_count}
use Rattle.bw_byteslice.proofs.copying.copy_codes.Goals as goal

pub copy_run-requires-clause-narrow : goal.copy_run-requires-clause-narrow
copy_run-requires-clause-narrow c = omega (arith, c.loop-w.invariant.count, byte_count c.args.slices.now.items, c.requires.stored.count, c.requires.stored.narrow)

pub copy_run-requires-clause-same : goal.copy_run-requires-clause-same
copy_run-requires-clause-same c = omega (arith, c.loop-w.invariant.count, byte_count c.args.slices.now.items, byte_count c.args.others.now, c.requires.stored.count, c.requires.others.count)

pub copy_run-requires-clause-there : goal.copy_run-requires-clause-there
copy_run-requires-clause-there c i h =
    let stored = c.requires.stored in
    let low : i < slices_of c.args.width = omega (arith, h, c.loop-w.invariant.count, byte_count c.args.slices.now.items, stored.count) in
    omega (arith, c.loop-w.invariant.len i, stored.long i low, c.loop-w-test.true, c.div_ceil-w-end.ensures, c.min-n.ensures)

pub copy_run-requires-clause-others : goal.copy_run-requires-clause-others
copy_run-requires-clause-others c i h =
    let low : i < slices_of c.args.width = omega (arith, h, c.loop-w.invariant.count, byte_count c.args.slices.now.items, c.requires.stored.count) in
    omega (arith, c.requires.others.long i low, c.loop-w-test.true, c.div_ceil-w-end.ensures, c.min-n.ensures)

pub loop-w-preserved : goal.loop-w-preserved
loop-w-preserved c =
    let inv = c.loop-w.invariant in
    let k = c.args.width in
    let w = c.loop-w.w in
    let old = bytes_of c.args.slices.now.items in
    let now = bytes_of c.loop-w.slices.items in
    let new = bytes_of c.copy_run.new.slices.items in
    let number = c.args.by * 2 ^ c.shift_of.result % 2 ^ 64 in
    let rows = c.args.rows.now in
    let moved = c.args.moved.now in
    let count : vec_len c.loop-w.slices ≡ slices_of k = omega (arith, inv.count, byte_count c.args.slices.now.items, c.requires.stored.count) in
    record {
      count = c.copy_run.ensures.count ∙ inv.count;
      capacities = c.copy_run.ensures.capacities ∙ inv.capacities;
      len = λ i. c.copy_run.ensures.len i ∙ inv.len i;
      bytes = c.copy_run.ensures.bytes;
      done = λ j h l.
          elim (cases_lt j (64 * w)) [
            | inl below ↦ number_same (slices_of k) (byte_of new j) (byte_of now j) (λ i _. c.copy_run.ensures.others i j (λ up. absurd (omega (arith, below, up)))) ∙ inv.done j below l
            | inr above ↦
                let r = j - 64 * w in
                let low : r < c.min-n.result = omega (arith, h, l, above, c.min-n.ensures) in
                let few : r < 64 = omega (arith, h, above) in
                let here : 64 * w + r ≡ j = omega (arith, above) in
                let same : number_at (slices_of k) now j ≡ number_at (slices_of k) old j = number_same (slices_of k) (byte_of now j) (byte_of old j) (λ i _. inv.left i j (λ below. absurd (omega (arith, below, above)))) in
                let row : bit_of c.bits.result r ≡ row_at rows j = rw (c.bits.ensures r, lt-ltb r 64 few, here) refl in
                let moves : bit_of c.bits-in-loop-w.result r ≡ row_at moved j = rw (c.bits-in-loop-w.ensures r, lt-ltb r 64 few, here) refl in
                rw (count, here, row, moves, same) at (c.copy_run.ensures.numbers r low)
          ];
      left = λ i j h. c.copy_run.ensures.others i j (λ up. behind j up h) ∙ inv.left i j (λ below. h (omega (arith, below)));
    }
  where
    -- a run ends at the next one, or at the last row
    behind : (j : ℕ) → 64 * c.loop-w.w ≤ j → (j < 64 * (c.loop-w.w + 1) → c.args.len ≤ j) → 64 * c.loop-w.w + c.min-n.result ≤ j
    behind j up h =
        elim (cases_lt j (64 * (c.loop-w.w + 1))) [
          | inl below ↦ let end = h below in omega (arith, end, up, c.min-n.ensures)
          | inr above ↦ omega (arith, above, c.min-n.ensures)
        ]

pub returns-clause-numbers : goal.returns-clause-numbers
returns-clause-numbers c j =
    let inv = c.loop-w.invariant in
    let k = c.args.width in
    let old = bytes_of c.args.slices.now.items in
    let other = bytes_of c.args.others.now in
    let new = bytes_of c.loop-w.slices.items in
    let rows = c.args.rows.now in
    let moved = c.args.moved.now in
    let numbers : number_at (slices_of k) new j ≡ (if row_at rows j then (number_at (slices_of k) other j + (if row_at moved j then c.args.by * 2 ^ c.shift_of.result % 2 ^ 64 else 0)) % 256 ^ slices_of k else number_at (slices_of k) old j) =
    elim (cases_lt j c.args.len) [
      | inl below ↦ inv.done j (omega (arith, below, c.loop-w-test.false, c.div_ceil-w-end.ensures)) below
      | inr above ↦
          let past : row_at rows j ≡ false = get_or_past rows.rows j false (omega (arith, above, c.requires.rows)) in
          rw past (number_same (slices_of k) (byte_of new j) (byte_of old j) (λ i _. inv.left i j (λ _. above)))
    ] in
    rw c.shift_of.ensures at numbers
