-- Values encoded side by side by their distance from a base, a null being taken as the base.
use Rattle.std.proofs.Common.{FitsSigned, of_z, w64, ◌%◌, ◌≡◌, ℕ, ℤ, pos, ◌+◌, ◌-◌, ◌^◌, ◌<◌, ◌≤◌, ◌≤ℤ◌, ◌+ℤ◌, Bool, true, false, ◌&&◌, int_le, leb, List, length, get_or, refl, arith, below_more, ◌↔◌, Option, None, Some, unwrap_or, [], ◌∷◌, ◌≢◌, ◌∙◌, suc, set, get_or-set_other, get_or-set_same}
use Rattle.std.specs.Bool.{IsTrue}
use Rattle.std.specs.List.{All}
use Rattle.std.proofs.lemmas.Int.{ints}
use Rattle.std.proofs.lemmas.List.{get_or_default}
use Rattle.std.proofs.lemmas.Bool.Decides.{nat_tests}
use Rattle.bw_code.specs.Encodings.{IsWithin, distance}
use Rattle.bw_code.specs.declared.offset.Offset.{Offset}
use Rattle.bw_code.specs.declared.encoding.Encoding.TheVariants as by
use Rattle.bw_code.proofs.Meeting.{and_both}
use Rattle.bw_code.proofs.Bulk.{passes}
use Rattle.bw_column.specs.Codes.{IsCoded, code_for, codes_for}

abbrev pub taken : Offset → Option ℤ → ℤ
taken o value = unwrap_or value o.base

passes_coded : (o : Offset) (value : Option ℤ) → passes o (taken o value) ≡ true → IsCoded (by.Offset o) value
passes_coded o None h = tt
passes_coded o (Some x) h =
    let s = and_both (int_le o.base x) (leb (distance x o.base) (2 ^ o.width - 1)) h in
    let above : o.base ≤ℤ x = grind (arith, ints, s.0) in
    let near : distance x o.base ≤ 2 ^ o.width - 1 = grind (arith, nat_tests, s.1) in
    (above, omega (arith, ints))

within_passes : (o : Offset) (x : ℤ) → IsWithin o x → passes o x ≡ true
within_passes o x h =
    let s : int_le o.base x ≡ true = grind (arith, ints, h.0) in
    let t : leb (distance x o.base) (2 ^ o.width - 1) ≡ true = grind (arith, ints, nat_tests, h.0, h.1) in
    rw (s, t) refl

coded_passes : (o : Offset) (value : Option ℤ) → IsCoded (by.Offset o) value → passes o (taken o value) ≡ true
coded_passes o None h = within_passes o o.base (omega (arith, ints), omega (arith, ints))
coded_passes o (Some x) h = within_passes o x h

pub still_held : (o : Offset) (xs : List (Option ℤ)) (i : ℕ) (all : Bool) → (all ≡ true → (k : ℕ) → k < i → IsCoded (by.Offset o) (get_or xs k None)) → (all && passes o (taken o (get_or xs i None))) ≡ true → (k : ℕ) → k < i + 1 → IsCoded (by.Offset o) (get_or xs k None)
still_held o xs i all held h =
    let s = and_both all (passes o (taken o (get_or xs i None))) h in
    below_more (λ k. IsCoded (by.Offset o) (get_or xs k None)) i (held s.0) (passes_coded o (get_or xs i None) s.1)

-- some value has no code
abbrev pub Misses : Offset → List (Option ℤ) → Type 0
Misses o xs = (k : ℕ) × (k < length xs) × ¬ IsCoded (by.Offset o) (get_or xs k None)

pub still_missed : (o : Offset) (xs : List (Option ℤ)) (i : ℕ) (all : Bool) → i < length xs → (all ≡ false → Misses o xs) → (all && passes o (taken o (get_or xs i None))) ≡ false → Misses o xs
still_missed o xs i false l missed h = missed refl
still_missed o xs i true l missed h = (i, l, λ coded. absurd (let t = coded_passes o (get_or xs i None) coded in cc))

pub decided : (o : Offset) (xs : List (Option ℤ)) (all : Bool) → (all ≡ true → (k : ℕ) → k < length xs → IsCoded (by.Offset o) (get_or xs k None)) → (all ≡ false → Misses o xs) → (IsTrue all ↔ All (IsCoded (by.Offset o)) xs)
decided o xs true held missed = (λ _ k d l. rw (get_or_default xs k d None l) (held refl k l), λ _. refl)
decided o xs false held missed =
    let m = missed refl in
    (λ h. absurd cc, λ h. absurd (m.2 (h m.0 None m.1)))

-- the distance of a value that has a code is its code
pub distance_is : (o : Offset) (value : Option ℤ) → IsCoded (by.Offset o) value → distance (taken o value) o.base ≡ code_for (by.Offset o) value
distance_is o None h = omega (arith, ints)
distance_is o (Some x) h =
    let s : int_le o.base x ≡ true = grind (arith, ints, h.0) in
    let t : int_le x (o.base +ℤ pos (2 ^ o.width - 1)) ≡ true = grind (arith, ints, h.1) in
    rw (s, t) refl

-- a distance that may wrap tells the same
pub same_passes : (o : Offset) (x : ℤ) (d : ℕ) → (o.base ≤ℤ x → d ≡ distance x o.base) → (int_le o.base x && leb d (2 ^ o.width - 1)) ≡ passes o x
same_passes o x d near = by_case (int_le o.base x) refl
  where
    by_case : (b : Bool) → int_le o.base x ≡ b → (int_le o.base x && leb d (2 ^ o.width - 1)) ≡ passes o x
    by_case true h = let e : d ≡ distance x o.base = near (grind (arith, ints, h)) in rw e refl
    by_case false h = rw h refl

-- a value that has a code isn't below the base
pub coded_above : (o : Offset) (value : Option ℤ) → IsCoded (by.Offset o) value → o.base ≤ℤ taken o value
coded_above o None h = omega (arith, ints)
coded_above o (Some x) h = h.0

-- from the base on, the distance doesn't wrap
pub unwrapped : (b x : ℤ) (d : ℕ) → FitsSigned w64 b → FitsSigned w64 x → d ≡ (of_z w64 x + (2 ^ 64 - of_z w64 b)) % 2 ^ 64 → b ≤ℤ x → d ≡ distance x b
unwrapped b x d fits_b fits_x is h = omega (arith, ints, fits_b, fits_x, is, h)

-- one distance more is put in its place
pub codes_more : (o : Offset) (xs : List (Option ℤ)) (codes : List ℕ) (i d : ℕ) → i < length codes → ((k : ℕ) → k < i → IsCoded (by.Offset o) (get_or xs k None) → get_or codes k 0 ≡ distance (taken o (get_or xs k None)) o.base) → (o.base ≤ℤ taken o (get_or xs i None) → d ≡ distance (taken o (get_or xs i None)) o.base) → (k : ℕ) → k < i + 1 → IsCoded (by.Offset o) (get_or xs k None) → get_or (set codes i d) k 0 ≡ distance (taken o (get_or xs k None)) o.base
codes_more o xs codes i d l before here =
    below_more (λ k. IsCoded (by.Offset o) (get_or xs k None) → get_or (set codes i d) k 0 ≡ distance (taken o (get_or xs k None)) o.base) i
    (λ k m coded. let apart : k ≢ i = omega arith in rw get_or-set_other (before k m coded))
    (λ coded. rw get_or-set_same (here (coded_above o (get_or xs i None) coded)))

-- the distances of values that have codes are their codes
pub codes_by : (o : Offset) (xs : List (Option ℤ)) (codes : List ℕ) → length codes ≡ length xs → ((k : ℕ) → k < length xs → IsCoded (by.Offset o) (get_or xs k None)) → ((k : ℕ) → k < length xs → get_or codes k 0 ≡ distance (taken o (get_or xs k None)) o.base) → codes ≡ codes_for (by.Offset o) xs
codes_by o [] [] len coded are = refl
codes_by o [] (code ∷ codes) len coded are = absurd (omega arith)
codes_by o (x ∷ xs) [] len coded are = absurd (omega arith)
codes_by o (x ∷ xs) (code ∷ codes) len coded are =
    let first : code ≡ code_for (by.Offset o) x = are 0 (omega arith) ∙ distance_is o x (coded 0 (omega arith)) in
    let rest : codes ≡ codes_for (by.Offset o) xs = codes_by o xs codes (omega arith) (λ k l. coded (suc k) (omega arith)) (λ k l. are (suc k) (omega arith)) in
    cc
