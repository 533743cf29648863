-- Many values at a time.
use Rattle.std.proofs.Common.{◌≡◌, ℕ, ℤ, pos, ◌+◌, ◌-◌, ◌^◌, ◌<◌, ◌≤◌, ◌≤ℤ◌, Bool, true, false, ◌&&◌, int_le, leb, List, length, get_or, refl, arith, below_more, ◌↔◌, ◌≢◌, Option, None, Some, set, get_or-set_other, get_or-set_same}
use Rattle.std.specs.Bool.{IsTrue}
use Rattle.std.specs.List.{All, Contains}
use Rattle.std.specs.Option.{IsSome}
use Rattle.std.proofs.lemmas.Int.{ints}
use Rattle.std.proofs.lemmas.List.{get_or_default}
use Rattle.std.proofs.lemmas.Bool.Decides.{nat_tests}
use Rattle.bw_code.specs.Encodings.{IsWithin, distance}
use Rattle.bw_code.specs.declared.offset.Offset.{Offset}
use Rattle.bw_code.proofs.Meeting.{and_both}

-- the test of one value
abbrev pub passes : Offset → ℤ → Bool
passes o x = int_le o.base x && leb (distance x o.base) (2 ^ o.width - 1)

within_passes : (o : Offset) (x : ℤ) → passes o x ≡ true → IsWithin o x
within_passes o x h =
    let s = and_both (int_le o.base x) (leb (distance x o.base) (2 ^ o.width - 1)) h in
    let above : o.base ≤ℤ x = grind (arith, ints, s.0) in
    let near : distance x o.base ≤ 2 ^ o.width - 1 = grind (arith, nat_tests, s.1) in
    (above, omega (arith, ints))

passes_within : (o : Offset) (x : ℤ) → IsWithin o x → passes o x ≡ true
passes_within o x h =
    let s : int_le o.base x ≡ true = grind (arith, ints, h.0) in
    let t : leb (distance x o.base) (2 ^ o.width - 1) ≡ true = grind (arith, ints, nat_tests, h.0, h.1) in
    rw (s, t) refl

pub still_held : (o : Offset) (xs : List ℤ) (i : ℕ) (all : Bool) → (all ≡ true → (k : ℕ) → k < i → IsWithin o (get_or xs k (pos 0))) → (all && passes o (get_or xs i (pos 0))) ≡ true → (k : ℕ) → k < i + 1 → IsWithin o (get_or xs k (pos 0))
still_held o xs i all held h =
    let s = and_both all (passes o (get_or xs i (pos 0))) h in
    below_more (λ k. IsWithin o (get_or xs k (pos 0))) i (held s.0) (within_passes o (get_or xs i (pos 0)) s.1)

-- some value is outside
abbrev pub Misses : Offset → List ℤ → Type 0
Misses o xs = (k : ℕ) × (k < length xs) × ¬ IsWithin o (get_or xs k (pos 0))

pub still_missed : (o : Offset) (xs : List ℤ) (i : ℕ) (all : Bool) → i < length xs → (all ≡ false → Misses o xs) → (all && passes o (get_or xs i (pos 0))) ≡ false → Misses o xs
still_missed o xs i false l missed h = missed refl
still_missed o xs i true l missed h = (i, l, λ within. absurd (let t = passes_within o (get_or xs i (pos 0)) within in cc))

all_within : (o : Offset) (xs : List ℤ) → ((k : ℕ) → k < length xs → IsWithin o (get_or xs k (pos 0))) → All (IsWithin o) xs
all_within o xs h k d l = rw (get_or_default xs k d (pos 0) l) (h k l)

pub decided : (o : Offset) (xs : List ℤ) (all : Bool) → (all ≡ true → (k : ℕ) → k < length xs → IsWithin o (get_or xs k (pos 0))) → (all ≡ false → Misses o xs) → (IsTrue all ↔ All (IsWithin o) xs)
decided o xs true held missed = (λ _. all_within o xs (held refl), λ _. refl)
decided o xs false held missed =
    let m = missed refl in
    (λ h. absurd cc, λ h. absurd (m.2 (h m.0 (pos 0) m.1)))

-- a value without a code
pub uncoded : (entries xs : List ℤ) (i : ℕ) (r : Option ℕ) → i < length xs → r ≡ None → (IsSome r ↔ Contains entries (get_or xs i (pos 0))) → (IsTrue false ↔ All (Contains entries) xs)
uncoded entries xs i r l none coded = (λ h. absurd cc, λ h. absurd (let s = coded.1 (h i (pos 0) l) in cc))

pub all_coded : (entries xs : List ℤ) → ((k : ℕ) → k < length xs → Contains entries (get_or xs k (pos 0))) → (IsTrue true ↔ All (Contains entries) xs)
all_coded entries xs h = (λ _ k d l. rw (get_or_default xs k d (pos 0) l) (h k l), λ _. refl)

-- one more code is put in its place
pub codes_more : (f : ℤ → Option ℕ) (xs : List ℤ) (codes : List ℕ) (i code : ℕ) → i < length codes → ((k : ℕ) → k < i → f (get_or xs k (pos 0)) ≡ Some (get_or codes k 0)) → f (get_or xs i (pos 0)) ≡ Some code → (k : ℕ) → k < i + 1 → f (get_or xs k (pos 0)) ≡ Some (get_or (set codes i code) k 0)
codes_more f xs codes i code l before here =
    below_more (λ k. f (get_or xs k (pos 0)) ≡ Some (get_or (set codes i code) k 0)) i
    (λ k m. let apart : k ≢ i = omega arith in rw get_or-set_other (before k m))
    (rw get_or-set_same here)
