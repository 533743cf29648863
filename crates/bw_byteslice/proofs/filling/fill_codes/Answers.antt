use Rattle.std.proofs.Common.{arith, false, get_or, if◌then◌else◌, inl, inr, vec_len, ℕ, ◌*◌, ◌+◌, ◌-◌, ◌<◌, ◌≡◌, ◌≤◌, ◌∙◌}
use Rattle.std.proofs.lemmas.Bool.{cases_lt}
use Rattle.std.proofs.lemmas.List.{get_or_past}
use Rattle.bw_mask.specs.Masks.{row_at}
use Rattle.bw_code.specs.Units.{digit}
use Rattle.bw_byteslice.specs.Slices.{slices_of}
use Rattle.bw_byteslice.specs.Storing.{byte_of, bytes_of}
use Rattle.bw_byteslice.proofs.Views.{byte_count}
use Rattle.bw_byteslice.proofs.filling.fill_codes.Goals as goal
use Rattle.bw_byteslice.proofs.filling.fill_codes.Goals.{else-choose_block, then-choose_block}

pub loop-b-preserved : goal.loop-b-preserved
loop-b-preserved c =
    let inv = c.loop-b.invariant in
    let b = c.loop-b.b in
    let n = c.min-n.result in
    let rows = c.args.rows.now in
    let chosen = c.choose_block.new.chosen in
    elim c.if-choose_block.branch [
      | then-choose_block w ↦
          let now = w.fill_block.ensures in
          rw w.slices-is (record {
            count = now.count ∙ inv.count;
            capacities = now.capacities ∙ inv.capacities;
            len = λ i. now.len i ∙ inv.len i;
            done = λ i j low h.
                elim (cases_lt j (512 * b)) [
                  | inl below ↦ now.others i j (λ up. absurd (omega (arith, below, up))) ∙ inv.done i j low below
                  | inr above ↦
                      elim (cases_lt j (512 * b + n)) [
                        | inl within ↦
                            rw (count, here j above, row j h above, inv.left i j above) at (now.bytes i (j - 512 * b) (omega (arith, low, count)) (omega (arith, within, above)))
                        | inr past ↦ rw (end j h past) (now.others i j (λ _. past) ∙ inv.left i j above)
                      ]
                ];
            left = λ i j h. now.others i j (λ _. omega (arith, h, c.min-n.ensures)) ∙ inv.left i j (omega (arith, h));
          })
      | else-choose_block w ↦
          rw w.slices-is (record {
            count = inv.count;
            capacities = inv.capacities;
            len = inv.len;
            done = λ i j low h.
                elim (cases_lt j (512 * b)) [
                  | inl below ↦ inv.done i j low below
                  | inr above ↦
                      let none : row_at rows j ≡ false = rw (here j above) at (c.choose_block.ensures.none w.if-choose_block.false (j - 512 * b) (omega (arith, h, above))) in
                      rw none (inv.left i j above)
                ];
            left = λ i j h. inv.left i j (omega (arith, h));
          })
    ]
  where
    count : vec_len c.loop-b.slices ≡ slices_of c.args.width
    count = omega (arith, c.loop-b.invariant.count, byte_count c.args.slices.now.items, c.requires.stored.count)

    here : (j : ℕ) → 512 * c.loop-b.b ≤ j → 512 * c.loop-b.b + (j - 512 * c.loop-b.b) ≡ j
    here j above = omega (arith, above)

    row : (j : ℕ) → j < 512 * (c.loop-b.b + 1) → 512 * c.loop-b.b ≤ j → get_or c.choose_block.new.chosen (j - 512 * c.loop-b.b) false ≡ row_at c.args.rows.now j
    row j h above = rw (here j above) at (c.choose_block.ensures.each (j - 512 * c.loop-b.b) (omega (arith, h, above)))

    -- a block ends at the next one, or at the last row
    end : (j : ℕ) → j < 512 * (c.loop-b.b + 1) → 512 * c.loop-b.b + c.min-n.result ≤ j → row_at c.args.rows.now j ≡ false
    end j h past = get_or_past c.args.rows.now.rows j false (omega (arith, past, h, c.requires.rows, c.min-n.ensures))

pub returns-clause-bytes : goal.returns-clause-bytes
returns-clause-bytes c i j low =
    let rows = c.args.rows.now in
    let old = byte_of (bytes_of c.args.slices.now.items) j i in
    let inv = c.loop-b.invariant in
    let bytes : byte_of (bytes_of c.loop-b.slices.items) j i ≡ (if row_at rows j then digit 256 (slices_of c.args.width) c.raise-number.result i else old) =
    elim (cases_lt j (512 * c.loop-b.b)) [
      | inl below ↦ inv.done i j low below
      | inr above ↦
          let past : row_at rows j ≡ false = get_or_past rows.rows j false (omega (arith, above, c.loop-b-test.false, c.div_ceil-b-end.ensures, c.requires.rows)) in
          rw past (inv.left i j above)
    ] in
    rw c.raise-number.ensures.value at bytes
