-- Lists in two parts, of which one element changes.
use Rattle.std.proofs.Common.{◌≡◌, ℕ, ◌+◌, ◌-◌, ◌<◌, List, [], ◌++◌, drop, drop_of_length-le, get_or, length, length-set, set, take, ap, arith, sym, ◌∙◌}
use Rattle.std.proofs.lemmas.List.{append-nil, get_or-append-add, get_or_append_left, set-append_left, set-append_right, take_all}

-- as many elements as a list has, the rest of a longer one behind it left out
cut : {A : Type 0} (new items : List A) (n : ℕ) → n ≡ length items → length new ≡ n → take n (new ++ drop (length new) items) ≡ new
cut new items n all long =
    let none : drop (length new) items ≡ [] = drop_of_length-le items (omega (arith, all, long)) in
    ap (λ rest. take n (new ++ rest)) none ∙ ap (take n) (append-nil new) ∙ take_all n new (omega (arith, long))

module _ {A : Type 0} (items front back : List A) (n : ℕ) (all : n ≡ length items) (parts : items ≡ front ++ back) where
  pub front_at : (k : ℕ) (d : A) → k < length front → get_or items k d ≡ get_or front k d
  front_at k d low = ap (λ xs. get_or xs k d) parts ∙ get_or_append_left front back d k low

  pub back_at : (k : ℕ) (d : A) → length front ≡ k → get_or items k d ≡ get_or back 0 d
  back_at k d seam =
      let e : k ≡ length front + 0 = omega (arith, seam) in
      ap (λ xs. get_or xs k d) parts ∙ ap (λ i. get_or (front ++ back) i d) e ∙ get_or-append-add front back 0 d

  -- an element of the first part
  pub front_set : (k : ℕ) (x : A) → k < length front → take n (set front k x ++ back ++ drop (length (set front k x ++ back)) items) ≡ set items k x
  front_set k x low =
      let is : set front k x ++ back ≡ set items k x = sym (set-append_left front back k x low) ∙ ap (λ xs. set xs k x) (sym parts) in
      let long : length (set front k x ++ back) ≡ n = ap length is ∙ length-set items k x ∙ sym all in
      cut (set front k x ++ back) items n all long ∙ is

  -- the first element of the second part
  pub back_set : (k : ℕ) (x : A) → length front ≡ k → take n (front ++ set back 0 x ++ drop (length (front ++ set back 0 x)) items) ≡ set items k x
  back_set k x seam =
      let zero : k - k ≡ 0 = omega arith in
      let is : front ++ set back 0 x ≡ set items k x = ap (λ i. front ++ set back i x) (sym zero) ∙ sym (set-append_right front back k k x seam (omega arith)) ∙ ap (λ xs. set xs k x) (sym parts) in
      let long : length (front ++ set back 0 x) ≡ n = ap length is ∙ length-set items k x ∙ sym all in
      cut (front ++ set back 0 x) items n all long ∙ is

  -- an element of the first part, and the first one of the second
  pub both_set : (k m : ℕ) (x y : A) → k < length front → length front ≡ m → take n (set front k x ++ set back 0 y ++ drop (length (set front k x ++ set back 0 y)) items) ≡ set (set items k x) m y
  both_set k m x y low seam =
      let zero : m - m ≡ 0 = omega arith in
      let first : set front k x ++ back ≡ set items k x = sym (set-append_left front back k x low) ∙ ap (λ xs. set xs k x) (sym parts) in
      let long_front : length (set front k x) ≡ m = length-set front k x ∙ seam in
      let is : set front k x ++ set back 0 y ≡ set (set items k x) m y =
      ap (λ i. set front k x ++ set back i y) (sym zero) ∙ sym (set-append_right (set front k x) back m m y long_front (omega arith)) ∙ ap (λ xs. set xs m y) first in
      let long : length (set front k x ++ set back 0 y) ≡ n = ap length is ∙ length-set (set items k x) m y ∙ length-set items k x ∙ sym all in
      cut (set front k x ++ set back 0 y) items n all long ∙ is
