use Rattle.std.proofs.Common.{arith, refl, inl, drop, get_or, length, length-drop, length-take, take, ap, ℕ, ◌+◌, ◌-◌, ◌^◌, ◌<◌, ◌≡◌, ◌≤◌, ◌∙◌}
use Rattle.std.proofs.lemmas.Bool.{lt-ltb}
use Rattle.std.proofs.lemmas.List.Elements.{All-get_or}
use Rattle.bw_mask.specs.Masks.{bit_of, row_at}
use Rattle.bw_code.specs.Columns.{code_at, count}
use Rattle.bw_code.proofs.Lists.{part_at}
use Rattle.bw_column.specs.Extremes.{IsGreatestFrom, IsLeastFrom}
use Rattle.bw_column.proofs.Extremes.{greatest_over, least_over}
use Rattle.bw_column.proofs.slice_ends.slice_ends.Goals as goal
use Rattle.bw_column.proofs.slice_ends.slice_ends.Goals.{then-may_be_beyond, else-may_be_beyond}

pub loop-at-preserved : goal.loop-at-preserved
loop-at-preserved c =
    let i = c.loop-at.invariant in
    let codes = c.args.codes.now in
    let nonnull = c.args.nonnull.now in
    let start = c.args.start in
    let at = c.loop-at.at in
    let n = c.min-n.result in
    let old = c.loop-at.ends in
    let inside : at + n ≤ count codes = omega (arith, c.min-n.ensures, c.len-in-loop-at.ensures.count, i.at) in
    elim c.if-may_be_beyond.branch [
      | then-may_be_beyond w ↦
          let block = w.read.new.out in
          let bits = w.bits.result in
          let asked : length (take n c.loop-at.run) ≡ n = omega (arith, length-take n c.loop-at.run, c.min-n.ensures) in
          let is : block ≡ take n (drop at codes.codes) = w.read.ensures.codes ∙ ap (λ m. take m (drop at codes.codes)) asked in
          let long : length block ≡ n = ap length is ∙ omega (arith, length-take n (drop at codes.codes), length-drop at codes.codes, inside) in
          let rows : (k : ℕ) → k < n → bit_of bits k ≡ row_at nonnull (at + k) = λ k h. rw (w.bits.ensures k, lt-ltb k n h) refl in
          let each : (k : ℕ) → k < n → get_or block k 0 ≡ code_at codes (at + k) = λ k h. part_at codes.codes block at n k 0 is (omega (arith, long, h)) in
          let ends = w.ends_with-ends in
          let least : IsLeastFrom old.0 n (bit_of bits) (λ k. get_or block k 0) ends.result.0 = rw (← long) ends.ensures.least in
          let greatest : IsGreatestFrom old.1 n (bit_of bits) (λ k. get_or block k 0) ends.result.1 = rw (← long) ends.ensures.greatest in
          rw w.ends-is (record {
            at = inside;
            least = least_over start at n (row_at nonnull) (bit_of bits) (code_at codes) (λ k. get_or block k 0) old.0 ends.result.0 rows each i.least least;
            greatest = greatest_over start at n (row_at nonnull) (bit_of bits) (code_at codes) (λ k. get_or block k 0) old.1 ends.result.1 rows each i.greatest greatest;
          })
      | else-may_be_beyond w ↦
          let k = codes.width in
          let tops = c.slice-tops.result.now in
          let part = take (at + n - at) (drop at tops) in
          let enough : at + n ≤ length tops = omega (arith, c.slice-tops.ensures.len, inside) in
          let long : length part ≡ n = omega (arith, length-take (at + n - at) (drop at tops), length-drop at tops, enough) in
          let within : (j : ℕ) → j < n → (old.0 ≤ code_at codes (at + j)) × (code_at codes (at + j) ≤ old.1) = λ j h.
          let here : j < length part = omega (arith, long, h) in
          let fits : code_at codes (at + j) < 2 ^ k = All-get_or (λ x. x < 2 ^ k) codes.codes (at + j) 0 (omega (arith, inside, h)) c.width-width.ensures.fit in
          let top = part_at tops part at (at + n - at) j 0 refl here ∙ c.slice-tops.ensures.bytes (at + j) in
          c.may_be_beyond.ensures w.if-may_be_beyond.false j (code_at codes (at + j)) here (rw c.width-width.ensures.width fits) (rw c.width-width.ensures.width top) in
          let least : IsLeastFrom old.0 n (λ j. row_at nonnull (at + j)) (λ j. code_at codes (at + j)) old.0 = record { from = omega arith; bound = λ j h on. (within j h).0; reached = inl refl } in
          let greatest : IsGreatestFrom old.1 n (λ j. row_at nonnull (at + j)) (λ j. code_at codes (at + j)) old.1 = record { from = omega arith; bound = λ j h on. (within j h).1; reached = inl refl } in
          rw w.ends-is (record {
            at = inside;
            least = least_over start at n (row_at nonnull) (λ j. row_at nonnull (at + j)) (code_at codes) (λ j. code_at codes (at + j)) old.0 old.0 (λ j h. refl) (λ j h. refl) i.least least;
            greatest = greatest_over start at n (row_at nonnull) (λ j. row_at nonnull (at + j)) (code_at codes) (λ j. code_at codes (at + j)) old.1 old.1 (λ j h. refl) (λ j h. refl) i.greatest greatest;
          })
    ]
