-- The rows of a segment by one slice more, and what the segment costs.
use Rattle.std.proofs.Common.{Bool, List, [], ap, arith, eqb, false, get_or, leb, length, ltb, not, refl, sym, true, ℕ, ◌&&◌, ◌*◌, ◌+◌, ◌/◌, ◌%◌, ◌<◌, ◌^◌, ◌||◌, ◌≡◌, ◌≤◌, ◌∙◌}
use Rattle.std.proofs.lemmas.Bool.Decides.{nat_tests}
use Rattle.std.proofs.lemmas.List.{get_or_default}
use Rattle.bw_code.specs.Units.{agreement, cost_of, digit, some_below}
use Rattle.bw_code.proofs.Digits.{compared_more}
use Rattle.bw_code.proofs.Segments.{AreCompared, AreSidesCompared, farthest, side_left}
use Rattle.bw_byteslice.specs.Slices.{AreBytes, by_bytes, byte_in, number_in}
use Rattle.bw_byteslice.proofs.Numbers.{digit_of_number, number_fits}

pub number_in_fits : (m : ℕ) (units : List (List ℕ)) → AreBytes units → (j : ℕ) → number_in m units j < 256 ^ m
number_in_fits m units holds j = number_fits (byte_in m units j) (λ e. holds _ _ (omega arith)) m

-- a slice read is that of the units
module _
    (m : ℕ) (units now : List (List ℕ)) (q i : ℕ) (slice : List ℕ)
    (holds : AreBytes units) (there : (q + 1) * m ≤ length units) (low : i < m)
    (kept : now ≡ units) (slice_is : slice ≡ get_or now (q * m + i) slice)
  where
    pub byte_is : (r : ℕ) → r < 32 → get_or slice r 0 ≡ digit 256 m (number_in m units (32 * q + r)) i
    byte_is r h =
        let unit : slice ≡ get_or units (q * m + i) [] =
        slice_is ∙ ap (λ us. get_or us (q * m + i) slice) kept ∙ get_or_default units (q * m + i) slice [] (omega arith) in
        let at : (32 * q + r) / 32 ≡ q = omega arith in
        let within : (32 * q + r) % 32 ≡ r = omega arith in
        let here : byte_in m units (32 * q + r) i ≡ get_or slice r 0 = rw (at, within) (ap (λ s. get_or s r 0) (sym unit)) in
        sym (digit_of_number (byte_in m units (32 * q + r)) (λ e. holds _ _ (omega arith)) m i low ∙ here)

-- the masks after one byte more of two numbers, and the rows that are left
module _ (m i : ℕ) (low : i < m) (number other : ℕ → ℕ) (fits : (r : ℕ) → number r < 256 ^ m) (also_fits : (r : ℕ) → other r < 256 ^ m) where
  pub bytes_more : (need lt eq lt2 eq2 : ℕ → Bool) (byte also : ℕ → ℕ)
      → ((r : ℕ) → r < 32 → byte r ≡ digit 256 m (number r) i)
      → ((r : ℕ) → r < 32 → also r ≡ digit 256 m (other r) i)
      → ((r : ℕ) → r < 32 → lt2 r ≡ (lt r || (eq r && ltb (byte r) (also r))))
      → ((r : ℕ) → r < 32 → eq2 r ≡ (eq r && eqb (byte r) (also r)))
      → AreSidesCompared 32 256 m need number other lt eq i
      → AreSidesCompared 32 256 m need number other lt2 eq2 (i + 1) × ((r : ℕ) → r < 32 → eq2 r ≡ (need r && leb (i + 1) (agreement 256 m (number r) (other r))))
  bytes_more need lt eq lt2 eq2 byte also byte_at also_at less same before =
      let after : AreSidesCompared 32 256 m need number other lt2 eq2 (i + 1) =
      λ r h. compared_more 256 m (number r) (other r) (omega arith) (fits r) (also_fits r) (lt r) (eq r) (lt2 r) (eq2 r) (need r) i low
      (less r h ∙ rw (byte_at r h, also_at r h) refl)
      (same r h ∙ rw (byte_at r h, also_at r h) refl)
      (before r h) in
      (after, side_left 32 256 m need number other (i + 1) lt2 eq2 (omega arith) fits also_fits after (omega arith))

-- the same of a slice read and a constant
module _
    (m : ℕ) (units now : List (List ℕ)) (q i c : ℕ) (slice : List ℕ)
    (holds : AreBytes units) (there : (q + 1) * m ≤ length units) (low : i < m) (small : c < 256 ^ m)
    (kept : now ≡ units) (slice_is : slice ≡ get_or now (q * m + i) slice)
  where
    pub slice_more : (need lt eq lt2 eq2 : ℕ → Bool) (byte : ℕ) → byte ≡ digit 256 m c i
        → ((r : ℕ) → r < 32 → lt2 r ≡ (lt r || (eq r && ltb (get_or slice r 0) byte)))
        → ((r : ℕ) → r < 32 → eq2 r ≡ (eq r && eqb (get_or slice r 0) byte))
        → AreCompared 32 256 m need (λ r. number_in m units (32 * q + r)) c lt eq i
        → AreCompared 32 256 m need (λ r. number_in m units (32 * q + r)) c lt2 eq2 (i + 1) × ((r : ℕ) → r < 32 → eq2 r ≡ (need r && leb (i + 1) (agreement 256 m (number_in m units (32 * q + r)) c)))
    slice_more need lt eq lt2 eq2 byte byte_at less same before =
        bytes_more m i low (λ r. number_in m units (32 * q + r)) (λ _. c) (λ r. number_in_fits m units holds (32 * q + r)) (λ _. small) need lt eq lt2 eq2
        (λ r. get_or slice r 0) (λ _. byte) (byte_is m units now q i slice holds there low kept slice_is) (λ _ _. byte_at) less same before

-- the slices of a segment with a needed row, by how far it agrees
module _ (m i : ℕ) (need : ℕ → Bool) (agreed : ℕ → ℕ) (left : Bool) (needed : some_below 32 need ≡ true) (left_is : left ≡ leb (i + 1) (farthest 32 need agreed)) where
  -- it stops after slice i
  pub cost_stopped : left ≡ false → i ≤ farthest 32 need agreed → i < m → cost_of (by_bytes m) need agreed ≡ i + 1
  cost_stopped none before low =
      let past : farthest 32 need agreed < i + 1 = grind (arith, nat_tests, none, left_is) in
      rw needed (omega (arith, past))

  -- it goes on
  pub left_more : left ≡ true → i + 1 ≤ farthest 32 need agreed
  left_more some = grind (arith, nat_tests, some, left_is)

-- the test `!left`
pub none_left : (left : Bool) → not left ≡ true → left ≡ false
none_left true h = sym h
none_left false h = refl

pub some_left : (left : Bool) → not left ≡ false → left ≡ true
some_left true h = refl
some_left false h = sym h
