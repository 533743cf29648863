-- Codes counted from another base, modulo 2^64.
use Rattle.std.proofs.Common.{Bool, List, ap, arith, false, get_or, length, nat_abs, pos, true, ℕ, ℤ, ◌%◌, ◌+ℤ◌, ◌+◌, ◌<◌, ◌^◌, ◌≡◌, ◌≤◌, ◌∙◌}
use Rattle.std.proofs.Math.Pow.{pow_mono}
use Rattle.std.proofs.lemmas.Int.{ints}
use Rattle.std.proofs.lemmas.List.Elements.{All-from_get_or, All-get_or}
use Rattle.bw_code.specs.Columns.{Fit}
use Rattle.bw_code.specs.Shifts.{moved, shifted, IsWord, StaysBelow}

pub moved_is : (by : ℤ) (word bits : ℕ) → IsWord by word → bits ≤ 64 → (there : Bool) (code : ℕ) → code < 2 ^ 64 → StaysBelow (2 ^ bits) (shifted by there code)
    → (moved word there code < 2 ^ bits) × (pos (moved word there code) ≡ shifted by there code)
moved_is by word bits word_is narrow true code small fits =
    let sum = nat_abs (pos code +ℤ by) in
    let most : 2 ^ bits ≤ 2 ^ 64 = pow_mono {i = bits} {j = 64} narrow in
    let is : pos (nat_abs (pos code +ℤ by)) ≡ pos code +ℤ by = omega (arith, ints, fits.0) in
    let low : nat_abs (pos code +ℤ by) < 2 ^ bits = omega (arith, ints, fits.0, fits.1) in
    let same : (code + word) % 2 ^ 64 ≡ nat_abs (pos code +ℤ by) = word_is code (nat_abs (pos code +ℤ by)) small (omega (arith, low, most)) is in
    (omega (arith, same, low), ap pos same ∙ is)
moved_is by word bits word_is narrow false code small fits =
    let same : (code + 0) % 2 ^ 64 ≡ code = omega (arith, small) in
    (omega (arith, ints, same, fits.1), ap pos same)

module _ (by : ℤ) (word bits : ℕ) (word_is : IsWord by word) (narrow : bits ≤ 64) (row : ℕ → Bool) (old : List ℕ) (low : Fit 64 old)
    (fits : (i : ℕ) → i < length old → StaysBelow (2 ^ bits) (shifted by (row i) (get_or old i 0))) where
  small : (i : ℕ) → i < length old → get_or old i 0 < 2 ^ 64
  small i h = All-get_or (λ code. code < 2 ^ 64) old i 0 h low

  pub each_below : (i : ℕ) → i < length old → moved word (row i) (get_or old i 0) < 2 ^ bits
  each_below i h = (moved_is by word bits word_is narrow (row i) (get_or old i 0) (small i h) (fits i h)).0

  module _ (new : List ℕ) (long : length new ≡ length old) (each : (i : ℕ) → i < length old → get_or new i 0 ≡ moved word (row i) (get_or old i 0)) where
    pub all_moved : Fit bits new
    all_moved = All-from_get_or (λ code. code < 2 ^ bits) new 0 (λ i h. let l : i < length old = omega (arith, h, long) in omega (arith, each i l, each_below i l))

    pub each_shifted : (i : ℕ) → i < length old → pos (get_or new i 0) ≡ shifted by (row i) (get_or old i 0)
    each_shifted i h = ap pos (each i h) ∙ (moved_is by word bits word_is narrow (row i) (get_or old i 0) (small i h) (fits i h)).1
