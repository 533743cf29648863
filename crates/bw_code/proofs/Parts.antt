-- A part of a list, overwritten: each index of the list.
use Rattle.std.proofs.Common.{List, arith, drop, get_or, length, length-append, length-drop, length-take, take, ap, ℕ, ◌++◌, ◌+◌, ◌-◌, ◌<◌, ◌≡◌, ◌≤◌, ◌∙◌}
use Rattle.std.proofs.lemmas.List.{get_or-append_right, get_or-drop, get_or-take, get_or_append_left}
use borrow.Rule.Slice.PartMut.{put_mid}

module _ {X : Type 0} (a k : ℕ) (xs ys : List X) (d : X) (fits : a + k ≤ length xs) (long : length ys ≡ k) where
  front : length (take a xs) ≡ a
  front = omega (arith, length-take a xs)

  pub before_part : (i : ℕ) → i < a → get_or (put_mid a k xs ys) i d ≡ get_or xs i d
  before_part i h = get_or_append_left (take a xs) (ys ++ drop k (drop a xs)) d i (omega (arith, front)) ∙ get_or-take a xs i d h

  pub in_part : (i : ℕ) → a ≤ i → i < a + k → get_or (put_mid a k xs ys) i d ≡ get_or ys (i - a) d
  in_part i h l = get_or-append_right (take a xs) (ys ++ drop k (drop a xs)) a i d front h ∙ get_or_append_left ys (drop k (drop a xs)) d (i - a) (omega (arith, long, h, l))

  pub behind_part : (i : ℕ) → a + k ≤ i → get_or (put_mid a k xs ys) i d ≡ get_or xs i d
  behind_part i h =
      get_or-append_right (take a xs) (ys ++ drop k (drop a xs)) a i d front (omega arith)
      ∙ get_or-append_right ys (drop k (drop a xs)) k (i - a) d long (omega arith)
      ∙ get_or-drop k (drop a xs) (i - a - k) d
      ∙ get_or-drop a xs (k + (i - a - k)) d
      ∙ ap (λ j. get_or xs j d) (omega arith)

  pub part_length : length (put_mid a k xs ys) ≡ length xs
  part_length = omega (arith, length-append (take a xs) (ys ++ drop k (drop a xs)), length-append ys (drop k (drop a xs)), front, length-drop k (drop a xs), length-drop a xs, long)
