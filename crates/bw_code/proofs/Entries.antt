-- How many entries are below an integer, how many are not above it, and at which place it stands.
use Rattle.std.proofs.Common.{◌≡◌, ℕ, suc, zero, sym, ℤ, pos, ◌+◌, ◌<◌, ◌≤◌, ◌<ℤ◌, Bool, true, false, cond, int_lt, int_le, List, [], ◌∷◌, length, get_or, refl, subst, ◌∙◌, arith, inl, inr, count_by, Some, None}
use Rattle.std.specs.List.{AllWithin, position_or_len}
use Rattle.std.proofs.lemmas.List.{get_or_default}
use Rattle.std.specs.List.Sorted.{IsNonDecreasingBy, IsPartitionedBy, IsPartitionPoint}
use Rattle.std.specs.Ordering.{int_cmp, int_eq, ordering_index}
use Rattle.std.specs.declared.cmp.Ordering.{Ordering}
use Rattle.std.specs.declared.cmp.Ordering.TheVariants.{Less, Equal, Greater}
use Rattle.std.proofs.lemmas.Bool.{cases_lt, lt-ltb, le-ltb}
use Rattle.std.proofs.lemmas.Int.{ints, by_lt_z}
use Rattle.std.proofs.lemmas.List.Sums.{count_by-le-length, sum_by-cons, position_or_len_is}
use Rattle.std.proofs.lemmas.List.Quantifiers.{position-Some}
use Rattle.std.proofs.lemmas.Bool.Decides.{Decides-int_eq}
use Rattle.bw_code.specs.Ascending.{IsAscending}
use Rattle.bw_code.specs.Encodings.{below, upto, entry_code}

count_more : (p : ℤ → Bool) (x : ℤ) (xs : List ℤ) → count_by p (x ∷ xs) ≡ cond {A = ℕ} (p x) 1 0 + count_by p xs
count_more p x xs = sum_by-cons (λ y. cond {A = ℕ} (p y) 1 0) x xs

none_counted : (p : ℤ → Bool) (xs : List ℤ) → AllWithin (λ y. p y ≡ false) xs 0 (length xs) → count_by p xs ≡ 0
none_counted p [] h = refl
none_counted p (x ∷ xs) h =
    let here : p x ≡ false = h 0 x (omega arith) (omega arith) in
    count_more p x xs ∙ rw here (omega (arith, none_counted p xs (λ k d l m. h (suc k) d (omega arith) (omega arith))))

-- the place where a test stops to hold is the number of those that meet it
pub counted : (p : ℤ → Bool) (xs : List ℤ) (n : ℕ) → n ≤ length xs → AllWithin (λ y. p y ≡ true) xs 0 n → AllWithin (λ y. p y ≡ false) xs n (length xs) → count_by p xs ≡ n
counted p xs zero l y n0 = none_counted p xs n0
counted p [] (suc n) l y n0 = absurd (omega arith)
counted p (x ∷ xs) (suc n) l y n0 =
    let here : p x ≡ true = y 0 x (omega arith) (omega arith) in
    let rest : count_by p xs ≡ n = counted p xs n (omega arith) (λ k d a m. y (suc k) d (omega arith) (omega arith)) (λ k d m a. n0 (suc k) d (omega arith) (omega arith)) in
    count_more p x xs ∙ rw here (omega arith)

step : (a b : Bool) → (a ≡ true → b ≡ true) → cond {A = ℕ} a 1 0 ≤ cond b 1 0
step false b h = omega arith
step true b h = rw (h refl) (omega arith)

pub fewer : (p q : ℤ → Bool) → ((y : ℤ) → p y ≡ true → q y ≡ true) → (xs : List ℤ) → count_by p xs ≤ count_by q xs
fewer p q h [] = omega arith
fewer p q h (x ∷ xs) =
    rw (count_more p x xs, count_more q x xs) (omega (arith, fewer p q h xs, step (p x) (q x) (h x)))

-- fewer meet p than q, where one of them meets q alone
fewer_at : (p q : ℤ → Bool) → ((y : ℤ) → p y ≡ true → q y ≡ true) → (xs : List ℤ) (k : ℕ) (d : ℤ) → k < length xs → p (get_or xs k d) ≡ false → q (get_or xs k d) ≡ true → count_by p xs < count_by q xs
fewer_at p q h [] k d l n0 y = absurd (omega arith)
fewer_at p q h (x ∷ xs) zero d l n0 y =
    let a : p x ≡ false = n0 in
    let b : q x ≡ true = y in
    rw (count_more p x xs, count_more q x xs, a, b) (omega (arith, fewer p q h xs))
fewer_at p q h (x ∷ xs) (suc k) d l n0 y = rw (count_more p x xs, count_more q x xs) (omega (arith, fewer_at p q h xs k d (omega arith) n0 y, step (p x) (q x) (h x)))

pub below-le-upto : (xs : List ℤ) (x : ℤ) → below xs x ≤ upto xs x
below-le-upto xs x = fewer (λ y. int_lt y x) (λ y. int_le y x) (λ y h. grind (arith, ints)) xs

pub upto-le-below : (xs : List ℤ) (x y : ℤ) → x <ℤ y → upto xs x ≤ below xs y
upto-le-below xs x y l = fewer (λ z. int_le z x) (λ z. int_lt z y) (λ z h. grind (arith, ints)) xs

pub upto-le-length : (xs : List ℤ) (x : ℤ) → upto xs x ≤ length xs
upto-le-length xs x = count_by-le-length (λ z. int_le z x) xs

-- entries that ascend are parted by each bound
pub parted : (xs : List ℤ) → IsAscending xs → (p : ℤ → Bool) → ((a b : ℤ) → a <ℤ b → p b ≡ true → p a ≡ true) → IsPartitionedBy p xs
parted xs up p down i j d l m h =
    elim (cases_lt i j) [
      | inl less ↦ down (get_or xs i d) (get_or xs j d) (rw (get_or_default xs i d (pos 0) (omega arith), get_or_default xs j d (pos 0) m) (up i j less m)) h
      | inr same ↦ let e : i ≡ j = omega arith in rw e h
    ]

-- an integer that stands at a place has it as its code
pub entry_at : (xs : List ℤ) (x : ℤ) (i : ℕ) → IsAscending xs → i < length xs → get_or xs i (pos 0) ≡ x → entry_code xs x ≡ Some i
entry_at xs x i up l e =
    let is : position_or_len (λ y. int_eq y x) xs ≡ i =
    position_or_len_is (λ y. int_eq y x) xs i (pos 0) (omega arith)
    (λ k m. let less = up k i m l in grind (arith, ints, Decides-int_eq))
    (λ m. grind (arith, ints, Decides-int_eq))
    in
    rw (is, lt-ltb i (length xs) l) refl

-- an integer that stands nowhere has no code
pub no_entry : (xs : List ℤ) (x : ℤ) → ((k : ℕ) → k < length xs → int_eq (get_or xs k (pos 0)) x ≡ false) → entry_code xs x ≡ None
no_entry xs x h =
    let is : position_or_len (λ y. int_eq y x) xs ≡ length xs = position_or_len_is (λ y. int_eq y x) xs (length xs) (pos 0) (omega arith) h (λ m. absurd (omega arith)) in
    rw (is, le-ltb (length xs) (length xs) (omega arith)) refl

-- what a code of an ascending list tells
pub record IsEntry (xs : List ℤ) (x : ℤ) (code : ℕ) : Type 0 where
  pub within : code < length xs
  pub here : get_or xs code (pos 0) ≡ x
  pub is : code ≡ below xs x
  pub counts : below xs x < upto xs x

pub entry_is : (xs : List ℤ) (x : ℤ) (code : ℕ) → IsAscending xs → entry_code xs x ≡ Some code → IsEntry xs x code
entry_is xs x code up e =
    let p = position-Some (λ y. int_eq y x) xs code (pos 0) e in
    let within : code < length xs = p.0 in
    let here : get_or xs code (pos 0) ≡ x = grind (arith, ints, Decides-int_eq, p.1) in
    let is : below xs x ≡ code =
    counted (λ y. int_lt y x) xs code (omega arith)
    (λ k d l m. let less = up k code m within in let same = get_or_default xs k d (pos 0) (omega arith) in grind (arith, ints))
    (λ k d l m.
    let same = get_or_default xs k d (pos 0) m in
    elim (cases_lt code k) [
      | inl less ↦ let over = up code k less m in grind (arith, ints)
      | inr at ↦ let e : k ≡ code = omega arith in rw (same, e, here) (grind (arith, ints))
    ])
    in
    record {
      within = within;
      here = here;
      is = sym is;
      counts = fewer_at (λ y. int_lt y x) (λ y. int_le y x) (λ y h. grind (arith, ints)) xs code (pos 0) within (rw here (grind (arith, ints))) (rw here (grind (arith, ints)));
    }

index_le : (r : Ordering) → ordering_index r ≤ 2
index_le Less = omega arith
index_le Equal = omega arith
index_le Greater = omega arith

ranks_rise : (a b x : ℤ) → a <ℤ b → ordering_index (int_cmp a x) ≤ ordering_index (int_cmp b x)
ranks_rise a b x l =
    by_lt_z x b
    (λ h. let s : int_lt b x ≡ false = grind (arith, ints) in let t : int_lt x b ≡ true = grind (arith, ints) in rw (s, t) (index_le (int_cmp a x)))
    (λ h. let s : int_lt a x ≡ true = grind (arith, ints) in rw s (omega arith))

differs_less : (a x : ℤ) → int_cmp a x ≡ Less → int_eq a x ≡ false
differs_less a x h = rw h refl

differs_greater : (a x : ℤ) → int_cmp a x ≡ Greater → int_eq a x ≡ false
differs_greater a x h = rw h refl

-- what a binary search of ascending entries tells
module _ (xs ys : List ℤ) (x : ℤ) (i : ℕ) (up : IsAscending xs) (same : ys ≡ xs) where
  pub found : i < length ys → ((d : ℤ) → int_cmp (get_or ys i d) x ≡ Equal) → entry_code xs x ≡ Some i
  found l h =
      let at : int_cmp (get_or xs i (pos 0)) x ≡ Equal = subst (λ (zs : List ℤ). int_cmp (get_or zs i (pos 0)) x ≡ Equal) same (h (pos 0)) in
      let here : get_or xs i (pos 0) ≡ x = grind (arith, ints) in
      entry_at xs x i up (rw (← same) l) here

  rises : IsNonDecreasingBy (λ y. ordering_index (int_cmp y x)) xs
  rises j k d l m =
      elim (cases_lt j k) [
        | inl less ↦ ranks_rise (get_or xs j d) (get_or xs k d) x (let a = get_or_default xs j d (pos 0) (omega arith) in let b = get_or_default xs k d (pos 0) m in rw (a, b) (up j k less m))
        | inr same ↦ let e : j ≡ k = omega arith in rw e (omega arith)
      ]

  pub not_found : (IsNonDecreasingBy (λ y. ordering_index (int_cmp y x)) ys → IsPartitionPoint (λ y. int_cmp y x ≡ Less) (λ y. int_cmp y x ≡ Greater) ys i) → entry_code xs x ≡ None
  not_found h =
      let point : IsPartitionPoint (λ y. int_cmp y x ≡ Less) (λ y. int_cmp y x ≡ Greater) xs i = subst (λ (zs : List ℤ). IsPartitionPoint (λ y. int_cmp y x ≡ Less) (λ y. int_cmp y x ≡ Greater) zs i) same (h (subst (λ (zs : List ℤ). IsNonDecreasingBy (λ y. ordering_index (int_cmp y x)) zs) (sym same) rises)) in
      no_entry xs x (λ k l.
      elim (cases_lt k i) [
        | inl less ↦ let a : int_cmp (get_or xs k (pos 0)) x ≡ Less = point.0 k (pos 0) (omega arith) less in differs_less (get_or xs k (pos 0)) x a
        | inr more ↦ let a : int_cmp (get_or xs k (pos 0)) x ≡ Greater = point.1 k (pos 0) more l in differs_greater (get_or xs k (pos 0)) x a
      ])
