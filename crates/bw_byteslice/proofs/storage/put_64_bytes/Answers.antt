use Rattle.std.proofs.Common.{Fits, List, ap, arith, bit_and, get_or, length, map, replicate, subst, sym, take, w8, ℕ, ◌%◌, ◌*◌, ◌-◌, ◌/◌, ◌<◌, ◌^◌, ◌≡◌, ◌≤◌, ◌∙◌}
use lib.Lanes.{Each1, zip2}
use Rattle.std.proofs.Math.Nat.{mod-lt}
use Rattle.std.proofs.lemmas.List.{get_or-map, length-map, length-replicate}
use Rattle.std.proofs.lemmas.Nat.{and_mask}
use Rattle.std.proofs.lemmas.Simd.{Each1-from_get_or, get_or-replicate, get_or-zip2, length-zip2, put_chunk_whole}
use Rattle.bw_code.proofs.LaneLemmas.{lane_with, lanes_with}
use Rattle.bw_byteslice.proofs.Raised.{pow_bytes}
use Rattle.bw_byteslice.proofs.storage.put_64_bytes.Goals as goal

abbrev shifted : ℕ → ℕ → ℕ
shifted x low = x / 2 ^ low

abbrev shifted_lanes : List ℕ → ℕ → List ℕ
shifted_lanes numbers low = zip2 shifted (take 64 numbers) (replicate 64 low)

abbrev masks : List ℕ
masks = replicate 64 255

-- the lanes that become bytes
abbrev lanes : List ℕ → ℕ → List ℕ
lanes numbers low = zip2 bit_and (shifted_lanes numbers low) masks

module _ (numbers : List ℕ) (low : ℕ) (long : 64 ≤ length numbers) where
  shifted_count : length (shifted_lanes numbers low) ≡ 64
  shifted_count = lanes_with shifted numbers low long

  mask_count : length masks ≡ 64
  mask_count = length-replicate {A = ℕ} 64 255

  count : length (lanes numbers low) ≡ 64
  count = omega (arith, length-zip2 bit_and (shifted_lanes numbers low) masks, shifted_count, mask_count)

  lane_is : (r : ℕ) → r < 64 → get_or (lanes numbers low) r 0 ≡ get_or numbers r 0 / 2 ^ low % 256
  lane_is r h =
      get_or-zip2 bit_and (shifted_lanes numbers low) masks r 0 0 0 (omega (arith, shifted_count, h)) (omega (arith, mask_count, h))
      ∙ ap (bit_and (get_or (shifted_lanes numbers low) r 0)) (get_or-replicate 64 r 255 0 h)
      ∙ and_mask _ 8
      ∙ ap (λ x. x % 256) (lane_with shifted numbers low long r h)

  lanes_fit : Each1 (Fits w8) (lanes numbers low)
  lanes_fit = Each1-from_get_or (Fits w8) (lanes numbers low) 0 (λ r h. subst (Fits w8) (sym (lane_is r (omega (arith, h, count)))) (record { fits = mod-lt _ (omega arith) }))

pub overflow_cast-bytes : goal.overflow_cast-bytes
overflow_cast-bytes c = lanes_fit c.args.numbers.now (8 * (c.args.m - 1 - c.args.i)) (omega (arith, c.requires.whole))

pub returns-clause-bytes : goal.returns-clause-bytes
returns-clause-bytes c r h =
    let numbers = c.args.numbers.now in
    let low = 8 * (c.args.m - 1 - c.args.i) in
    let long : 64 ≤ length numbers = omega (arith, c.requires.whole) in
    let bytes = map (λ x. x) (lanes numbers low) in
    let all : length c.args.bytes.now ≡ length bytes = omega (arith, c.requires.long, length-map (lanes numbers low) (λ x. x), count numbers low long) in
    ap (λ xs. get_or xs r 0) (put_chunk_whole c.args.bytes.now bytes all)
    ∙ get_or-map (λ x. x) (lanes numbers low) r 0 0 (omega (arith, count numbers low long, h))
    ∙ lane_is numbers low long r h
    ∙ ap (λ d. get_or numbers r 0 / d % 256) (sym (pow_bytes (c.args.m - 1 - c.args.i)))
