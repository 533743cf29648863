-- Rows that are in a mask, counted by what a test says of their codes.
use Rattle.std.proofs.Common.{Bool, List, [], ap, arith, cond, count_by, false, get_or, length, refl, suc, sym, true, zero-add, ℕ, ◌&&◌, ◌+◌, ◌≡◌, ◌∙◌, ◌∷◌}
use Rattle.std.proofs.lemmas.List.{get_or_past}
use Rattle.std.proofs.lemmas.List.Sums.{sum_by-cons}
use Rattle.bw_mask.specs.Masks.{rows_of}
use Rattle.bw_mask.proofs.Views.{rows_clean, rows_len}
use Rattle.std.specs.List.{items_where_true}

module _ {A : Type 0} where
  pub count_cons : (p : A → Bool) (x : A) (xs : List A) → count_by p (x ∷ xs) ≡ cond (p x) 1 0 + count_by p xs
  count_cons p x xs = sum_by-cons (λ y. cond (p y) 1 0) x xs

  pub count_yes : (p : A → Bool) (x : A) (xs : List A) → p x ≡ true → count_by p (x ∷ xs) ≡ 1 + count_by p xs
  count_yes p x xs h = count_cons p x xs ∙ ap (λ b. cond b 1 0 + count_by p xs) h

  pub count_no : (p : A → Bool) (x : A) (xs : List A) → p x ≡ false → count_by p (x ∷ xs) ≡ count_by p xs
  count_no p x xs h = count_cons p x xs ∙ ap (λ b. cond b 1 0 + count_by p xs) h ∙ zero-add (count_by p xs)

  -- tests that say the same count the same
  pub count_same : (p q : A → Bool) (xs : List A) → ((x : A) → p x ≡ q x) → count_by p xs ≡ count_by q xs
  count_same p q [] same = refl
  count_same p q (x ∷ xs) same =
      count_cons p x xs ∙ rw (same x, count_same p q xs same) (sym (count_cons q x xs))

  -- what one of two tests passes, never both
  pub count_split : (p q r : A → Bool) (xs : List A) → ((x : A) → ◌≡◌ {A = ℕ} (cond (r x) 1 0) (cond (p x) 1 0 + cond (q x) 1 0)) → count_by r xs ≡ count_by p xs + count_by q xs
  count_split p q r [] split = refl
  count_split p q r (x ∷ xs) split =
      let rest = count_split p q r xs split in
      let one = split x in
      omega (arith, count_cons p x xs, count_cons q x xs, count_cons r x xs)

  pub count_all : (xs : List A) → count_by (λ x. true) xs ≡ length xs
  count_all [] = refl
  count_all (x ∷ xs) = let rest = count_all xs in omega (arith, count_cons (λ (y : A). true) x xs)

-- so many rows are in as there are chosen codes that pass
pub count_mask : (mask need : List Bool) (codes : List ℕ) (p : ℕ → Bool) → length mask ≡ length codes → length need ≡ length codes
    → ((r : ℕ) → get_or mask r false ≡ (get_or need r false && p (get_or codes r 0))) → count_by (λ b. b) mask ≡ count_by p (items_where_true need codes)
count_mask [] [] codes p a b each = refl
count_mask [] (n ∷ need) [] p a b each = refl
count_mask [] (n ∷ need) (c ∷ codes) p a b each = absurd (omega arith)
count_mask (m ∷ mask) [] codes p a b each = absurd (omega arith)
count_mask (m ∷ mask) (n ∷ need) [] p a b each = absurd (omega arith)
count_mask (m ∷ mask) (true ∷ need) (c ∷ codes) p a b each =
    let rest = count_mask mask need codes p (omega arith) (omega arith) (λ i. each (suc i)) in
    count_cons (λ x. x) m mask ∙ rw (each 0, rest) (sym (count_cons p c (items_where_true need codes)))
count_mask (m ∷ mask) (false ∷ need) (c ∷ codes) p a b each =
    let rest = count_mask mask need codes p (omega arith) (omega arith) (λ i. each (suc i)) in
    count_cons (λ x. x) m mask ∙ rw (each 0) (zero-add _ ∙ rest)

-- so many codes are chosen as rows are in
pub length_chosen : (need : List Bool) (codes : List ℕ) → length need ≡ length codes → length (items_where_true need codes) ≡ count_by (λ b. b) need
length_chosen need codes e =
    sym (count_all (items_where_true need codes)) ∙ sym (count_mask need need codes (λ c. true) e e (λ i. and_true (get_or need i false)))
  where
    and_true : (b : Bool) → b ≡ (b && true)
    and_true true = refl
    and_true false = refl

-- the rows that are in both of two lists
module _ (left plane : List Bool) where
  abbrev pub common : List Bool
  common = rows_of (length left) (λ r. get_or left r false && get_or plane r false)

  pub common_len : length common ≡ length left
  common_len = rows_len (length left) (λ r. get_or left r false && get_or plane r false)

  pub common_at : (r : ℕ) → get_or common r false ≡ (get_or left r false && get_or plane r false)
  common_at r = rows_clean (length left) (λ j. get_or left j false && get_or plane j false) (λ j h. ap (λ b. b && get_or plane j false) (get_or_past left j false h)) r
