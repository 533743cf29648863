use Rattle.std.proofs.Common.{ap, arith, bit_and, drop, get_or, inl, inr, length, sym, take, ◌*◌, ◌+◌, ◌-◌, ◌<◌, ◌≡◌, ◌∙◌}
use Rattle.std.proofs.lemmas.Bool.{cases_eq, cases_lt}
use Rattle.bw_file.specs.Planes.{plane_bit}
use Rattle.bw_file.proofs.StrayBits.{and_none, clean_bits, clean_bytes, cut_byte}
use Rattle.bw_file.proofs.stray.has_stray_bit.Goals as goal

pub returns-then-has_bit_beyond-clause-yes : goal.returns-then-has_bit_beyond-clause-yes
returns-then-has_bit_beyond-clause-yes c e clean =
    let p = c.planes.p in
    let size = c.args.size in
    let full = c.full_bytes-full.result in
    let present = c.args.present.now in
    let planes = c.args.planes.now in
    c.has_bit_beyond.ensures.yes c.if-has_bit_beyond.true (λ j h.
    let low : full + j < size = omega (arith, h, c.requires.present) in
    cut_byte size p full (p * size + size - (p * size + full)) (length present - full) present planes j low (omega (arith, low)) (omega (arith, low, c.requires.present))
    ∙ clean_bytes size p size present planes (omega arith) (λ m. omega (arith, c.type_inv.present m)) (λ m. omega (arith, c.type_inv.planes m))
    (λ i there null. clean p i c.planes-test.true there null) (full + j) low)

pub planes-preserved : goal.planes-preserved
planes-preserved c q i low h null =
    let p = c.planes.p in
    let size = c.args.size in
    let full = c.full_bytes-full.result in
    let present = c.args.present.now in
    let planes = c.args.planes.now in
    elim (cases_eq q p) [
      | inl same ↦
          ap (λ m. plane_bit size planes m i) same
          ∙ clean_bits size p size present planes (omega arith) (λ m. omega (arith, c.type_inv.present m)) (λ m. omega (arith, c.type_inv.planes m))
          (λ j below.
          elim (cases_lt j full) [
            | inl there ↦ ap (λ b. bit_and (get_or (take size (drop (p * size) planes)) j 0) (255 - b)) (c.full_bytes-full.ensures.full j there) ∙ and_none (get_or (take size (drop (p * size) planes)) j 0)
            | inr past ↦
                let place : full + (j - full) ≡ j = omega (arith, past) in
                ap (λ m. bit_and (get_or (take size (drop (p * size) planes)) m 0) (255 - get_or present m 0)) (let back : j ≡ full + (j - full) = omega (arith, past) in back)
                ∙ sym (cut_byte size p full (p * size + size - (p * size + full)) (length present - full) present planes (j - full) (omega (arith, place, below)) (omega (arith, past, below)) (omega (arith, past, below, c.requires.present)))
                ∙ c.has_bit_beyond.ensures.no c.if-has_bit_beyond.false (j - full) (omega (arith, past, below, c.requires.present))
          ]) i h null
      | inr other ↦ c.planes.invariant q i (omega (arith, low, other)) h null
    ]
