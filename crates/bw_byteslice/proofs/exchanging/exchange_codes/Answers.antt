use Rattle.std.proofs.Common.{arith, false, get_or, inl, inr, vec_len, ℕ, ◌*◌, ◌+◌, ◌-◌, ◌<◌, ◌≡◌, ◌≤◌, ◌∙◌}
use Rattle.std.proofs.lemmas.Bool.{cases_lt}
use Rattle.std.proofs.lemmas.List.{get_or_past}
use Rattle.bw_mask.specs.Masks.{row_at}
use Rattle.bw_byteslice.specs.Slices.{slices_of}
use Rattle.bw_byteslice.proofs.Views.{byte_count}
use Rattle.bw_byteslice.proofs.exchanging.exchange_codes.Goals as goal
use Rattle.bw_byteslice.proofs.exchanging.exchange_codes.Goals.{else-choose_block, then-choose_block}

pub loop-b-preserved : goal.loop-b-preserved
loop-b-preserved c =
    let inv = c.loop-b.invariant in
    let b = c.loop-b.b in
    let n = c.min-n.result in
    elim c.if-choose_block.branch [
      | then-choose_block w ↦
          let now = w.exchange_block.ensures in
          rw (w.slices-is, w.others-is) (record {
            count = now.count ∙ inv.count;
            other_count = now.other_count ∙ inv.other_count;
            capacities = now.capacities ∙ inv.capacities;
            other_capacities = now.other_capacities ∙ inv.other_capacities;
            len = λ i. now.len i ∙ inv.len i;
            other_len = λ i. now.other_len i ∙ inv.other_len i;
            done = λ i j low h.
                elim (cases_lt j (512 * b)) [
                  | inl below ↦ now.kept i j (λ up. absurd (omega (arith, below, up))) ∙ inv.done i j low below
                  | inr above ↦
                      elim (cases_lt j (512 * b + n)) [
                        | inl within ↦
                            rw (here j above, row j h above, inv.left i j above, inv.other_left i j above) at (now.bytes i (j - 512 * b) (omega (arith, low, count)) (omega (arith, within, above)))
                        | inr past ↦ rw (end j h past) (now.kept i j (λ _. past) ∙ inv.left i j above)
                      ]
                ];
            other_done = λ i j low h.
                elim (cases_lt j (512 * b)) [
                  | inl below ↦ now.other_kept i j (λ up. absurd (omega (arith, below, up))) ∙ inv.other_done i j low below
                  | inr above ↦
                      elim (cases_lt j (512 * b + n)) [
                        | inl within ↦
                            rw (here j above, row j h above, inv.left i j above, inv.other_left i j above) at (now.other_bytes i (j - 512 * b) (omega (arith, low, count)) (omega (arith, within, above)))
                        | inr past ↦ rw (end j h past) (now.other_kept i j (λ _. past) ∙ inv.other_left i j above)
                      ]
                ];
            left = λ i j h. now.kept i j (λ _. omega (arith, h, c.min-n.ensures)) ∙ inv.left i j (omega (arith, h));
            other_left = λ i j h. now.other_kept i j (λ _. omega (arith, h, c.min-n.ensures)) ∙ inv.other_left i j (omega (arith, h));
          })
      | else-choose_block w ↦
          rw (w.slices-is, w.others-is) (record {
            count = inv.count;
            other_count = inv.other_count;
            capacities = inv.capacities;
            other_capacities = inv.other_capacities;
            len = inv.len;
            other_len = inv.other_len;
            done = λ i j low h.
                elim (cases_lt j (512 * b)) [
                  | inl below ↦ inv.done i j low below
                  | inr above ↦ rw (none w.if-choose_block.false j h above) (inv.left i j above)
                ];
            other_done = λ i j low h.
                elim (cases_lt j (512 * b)) [
                  | inl below ↦ inv.other_done i j low below
                  | inr above ↦ rw (none w.if-choose_block.false j h above) (inv.other_left i j above)
                ];
            left = λ i j h. inv.left i j (omega (arith, h));
            other_left = λ i j h. inv.other_left i j (omega (arith, h));
          })
    ]
  where
    count : vec_len c.loop-b.slices ≡ slices_of c.args.width
    count = omega (arith, c.loop-b.invariant.count, byte_count c.args.slices.now.items, c.requires.stored.count)

    here : (j : ℕ) → 512 * c.loop-b.b ≤ j → 512 * c.loop-b.b + (j - 512 * c.loop-b.b) ≡ j
    here j above = omega (arith, above)

    row : (j : ℕ) → j < 512 * (c.loop-b.b + 1) → 512 * c.loop-b.b ≤ j → get_or c.choose_block.new.chosen (j - 512 * c.loop-b.b) false ≡ row_at c.args.rows.now j
    row j h above = rw (here j above) at (c.choose_block.ensures.each (j - 512 * c.loop-b.b) (omega (arith, h, above)))

    none : c.choose_block.result ≡ false → (j : ℕ) → j < 512 * (c.loop-b.b + 1) → 512 * c.loop-b.b ≤ j → row_at c.args.rows.now j ≡ false
    none off j h above = rw (here j above) at (c.choose_block.ensures.none off (j - 512 * c.loop-b.b) (omega (arith, h, above)))

    -- a block ends at the next one, or at the last row
    end : (j : ℕ) → j < 512 * (c.loop-b.b + 1) → 512 * c.loop-b.b + c.min-n.result ≤ j → row_at c.args.rows.now j ≡ false
    end j h past = get_or_past c.args.rows.now.rows j false (omega (arith, past, h, c.requires.rows, c.min-n.ensures))

pub returns-clause-bytes : goal.returns-clause-bytes
returns-clause-bytes c i j low =
    let inv = c.loop-b.invariant in
    let rows = c.args.rows.now in
    elim (cases_lt j (512 * c.loop-b.b)) [
      | inl below ↦ inv.done i j low below
      | inr above ↦
          let past : row_at rows j ≡ false = get_or_past rows.rows j false (omega (arith, above, c.loop-b-test.false, c.div_ceil-b-end.ensures, c.requires.rows)) in
          rw past (inv.left i j above)
    ]

pub returns-clause-other_bytes : goal.returns-clause-other_bytes
returns-clause-other_bytes c i j low =
    let inv = c.loop-b.invariant in
    let rows = c.args.rows.now in
    elim (cases_lt j (512 * c.loop-b.b)) [
      | inl below ↦ inv.other_done i j low below
      | inr above ↦
          let past : row_at rows j ≡ false = get_or_past rows.rows j false (omega (arith, above, c.loop-b-test.false, c.div_ceil-b-end.ensures, c.requires.rows)) in
          rw past (inv.other_left i j above)
    ]
