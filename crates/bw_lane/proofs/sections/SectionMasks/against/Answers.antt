use Rattle.std.proofs.Common.{ap, arith, bit_and, bit_xor, sym, ℕ, ◌%◌, ◌+◌, ◌<◌, ◌^◌, ◌≡◌, ◌∙◌}
use Rattle.std.specs.Int.Bits.{xor_zero_r}
use Rattle.bw_lane.specs.Sections.{IsCompared, IsStored, code_bits, delimiter_bits, lowest_bits, sections_in}
use Rattle.bw_lane.specs.declared.sections.LaneOp.TheVariants as op
use Rattle.bw_lane.proofs.Kernels.{at_most, at_most_fits_word, equal, exchanged_at_most, exchanged_less, less, less_fits_word, unequal, unequal_fits_word}
use Rattle.bw_lane.proofs.sections.SectionMasks.against.Goals.{in-Eq, in-Ge, in-Gt, in-Le, in-Lt, in-Ne}
use Rattle.bw_lane.proofs.sections.SectionMasks.against.Goals as goal

pub overflow_add-flip : goal.overflow_add-flip
overflow_add-flip c =
    let s = c.args.self.now in
    let fits = at_most_fits_word s.width c.args.y c.args.y c.requires c.requires in
    rw s.lowest_is (omega (arith, fits))

pub overflow_add-flip-in-Ge : goal.overflow_add-flip-in-Ge
overflow_add-flip-in-Ge c =
    let s = c.args.self.now in
    let fits = at_most_fits_word s.width c.args.y c.args.y c.requires c.requires in
    rw (s.codes_is, s.lowest_is) (omega (arith, fits))

-- a sum that fits a word, whose delimiters are looked at
low : (n : ℕ) → n < 2 ^ 64 → n % 2 ^ 64 ≡ n
low n h = omega (arith, h)

module _ (k x y : ℕ) (p : IsStored k x) (q : IsStored k y) where
  abbrev codes : ℕ
  codes = code_bits k (sections_in k)

  abbrev ends : ℕ
  ends = delimiter_bits k (sections_in k)

  abbrev lowest : ℕ
  lowest = lowest_bits k (sections_in k)

  by_eq : IsCompared op.Eq k x y (bit_xor (bit_and ((bit_xor x y + codes) % 2 ^ 64) ends) ends)
  by_eq = rw (low (bit_xor x y + codes) (unequal_fits_word k x y p q)) (equal k x y p q)

  by_ne : IsCompared op.Ne k x y (bit_xor (bit_and ((bit_xor x y + codes) % 2 ^ 64) ends) 0)
  by_ne = rw (low (bit_xor x y + codes) (unequal_fits_word k x y p q), xor_zero_r) (unequal k x y p q)

  by_lt : IsCompared op.Lt k x y (bit_xor (bit_and ((bit_xor x codes + y) % 2 ^ 64) ends) 0)
  by_lt =
      let turned : bit_xor x codes + y ≡ y + bit_xor x codes = omega arith in
      rw (turned, low (y + bit_xor x codes) (less_fits_word k x y p q), xor_zero_r) (less k x y p q)

  by_le : IsCompared op.Le k x y (bit_xor (bit_and ((bit_xor x codes + (y + lowest)) % 2 ^ 64) ends) 0)
  by_le =
      let turned : bit_xor x codes + (y + lowest) ≡ y + bit_xor x codes + lowest = omega arith in
      rw (turned, low (y + bit_xor x codes + lowest) (at_most_fits_word k x y p q), xor_zero_r) (at_most k x y p q)

  by_gt : IsCompared op.Gt k x y (bit_xor (bit_and ((bit_xor x 0 + bit_xor y codes) % 2 ^ 64) ends) 0)
  by_gt =
      rw (xor_zero_r x, low (x + bit_xor y codes) (less_fits_word k y x q p), xor_zero_r (bit_and (x + bit_xor y codes) ends)) (exchanged_less k y x (bit_and (x + bit_xor y codes) ends) (less k y x q p))

  by_ge : IsCompared op.Ge k x y (bit_xor (bit_and ((bit_xor x 0 + (bit_xor y codes + lowest)) % 2 ^ 64) ends) 0)
  by_ge =
      let turned : x + (bit_xor y codes + lowest) ≡ x + bit_xor y codes + lowest = omega arith in
      rw (xor_zero_r x, turned, low (x + bit_xor y codes + lowest) (at_most_fits_word k y x q p), xor_zero_r (bit_and (x + bit_xor y codes + lowest) ends)) (exchanged_at_most k y x (bit_and (x + bit_xor y codes + lowest) ends) (at_most k y x q p))

pub returns : goal.returns
returns c =
    let s = c.args.self.now in
    let y = c.args.y in
    elim c.match-op.branch [
      | in-Eq w ↦ λ x p. rw (w.in-Eq.is, w.flip-is, s.codes_is, s.delimiters_is) (by_eq s.width x y p c.requires)
      | in-Ne w ↦ λ x p. rw (w.in-Ne.is, w.flip-is, s.codes_is, s.delimiters_is) (by_ne s.width x y p c.requires)
      | in-Lt w ↦ λ x p. rw (w.in-Lt.is, w.flip-is, s.codes_is, s.delimiters_is) (by_lt s.width x y p c.requires)
      | in-Le w ↦ λ x p. rw (w.in-Le.is, w.flip-is, s.codes_is, s.delimiters_is, s.lowest_is) (by_le s.width x y p c.requires)
      | in-Gt w ↦ λ x p. rw (w.in-Gt.is, w.flip-is, s.codes_is, s.delimiters_is) (by_gt s.width x y p c.requires)
      | in-Ge w ↦ λ x p. rw (w.in-Ge.is, w.flip-is, s.codes_is, s.delimiters_is, s.lowest_is) (by_ge s.width x y p c.requires)
    ]
