-- Texts that are joined, and how they come apart again.
use Rattle.std.proofs.Common.{◌≡◌, ◌≢◌, ℕ, ◌≤◌, Bool, true, ◌&&◌, List, [], ◌∷◌, ◌++◌, map, nat_le, refl, sym, ap, subst, ◌∙◌}
use Rattle.std.specs.List.{list_all}
use Rattle.std.proofs.lemmas.Bool.{leb-true}
use Rattle.bw_model.specs.ReplyText.{with_commas}
use Rattle.bw_model.proofs.Commas.{others_text}
use Rattle.bw_model.proofs.Passing.{two}

-- P holds of each
abbrev pub Each : {A : Type 0} → (A → Type 0) → List A → Type 0
Each P [] = Unit {0}
Each P (x ∷ xs) = P x × Each P xs

pub each-append : {A : Type 0} (P : A → Type 0) (xs ys : List A) → Each P xs → Each P ys → Each P (xs ++ ys)
each-append P [] ys a b = b
each-append P (x ∷ xs) ys a b = (a.0, each-append P xs ys a.1 b)

pub each_weaker : {A : Type 0} (P Q : A → Type 0) → ((x : A) → P x → Q x) → (xs : List A) → Each P xs → Each Q xs
each_weaker P Q so [] a = tt
each_weaker P Q so (x ∷ xs) a = (so x a.0, each_weaker P Q so xs a.1)

-- what a test says of each byte
pub each_passes : (p : ℕ → Bool) (P : ℕ → Type 0) → ((b : ℕ) → p b ≡ true → P b) → (xs : List ℕ) → list_all p xs ≡ true → Each P xs
each_passes p P so [] all = tt
each_passes p P so (x ∷ xs) all = let q = two (p x) (list_all p xs) all in (so x q.0, each_passes p P so xs q.1)

-- each byte lies between these two
abbrev pub Between : ℕ → ℕ → ℕ → Type 0
Between low high b = (low ≤ b) × (b ≤ high)

pub each_between : (low high : ℕ) (xs : List ℕ) → list_all (λ b. nat_le low b && nat_le b high) xs ≡ true → Each (Between low high) xs
each_between low high xs all =
    each_passes (λ b. nat_le low b && nat_le b high) (Between low high) (λ b e. let p = two (nat_le low b) (nat_le b high) e in (leb-true low b p.0, leb-true b high p.1)) xs all

-- Texts that end at the first byte of which P isn't true.
module _ (P : ℕ → Type 0) (end : ℕ) (ends : P end → ⊥) where
  pub cut : (x y s t : List ℕ) → Each P x → Each P y → x ++ end ∷ s ≡ y ++ end ∷ t → (x ≡ y) × (s ≡ t)
  cut [] [] s t p q e = let tail : s ≡ t = cc in (refl, tail)
  cut [] (b ∷ y) s t p q e = let same : b ≡ end = cc in absurd (ends (subst P same q.0))
  cut (a ∷ x) [] s t p q e = let same : a ≡ end = cc in absurd (ends (subst P same p.0))
  cut (a ∷ x) (b ∷ y) s t p q e =
      let head : a ≡ b = cc in
      let tail : x ++ end ∷ s ≡ y ++ end ∷ t = cc in
      let rest = cut x y s t p.1 q.1 tail in (ap (λ l. a ∷ l) rest.0 ∙ ap (λ c. c ∷ y) head, rest.1)

  -- a text has an end, or none
  pub not_cut : (x y s : List ℕ) → Each P y → x ++ end ∷ s ≡ y → ⊥
  not_cut [] [] s q e = cc
  not_cut [] (b ∷ y) s q e = let same : b ≡ end = cc in ends (subst P same q.0)
  not_cut (a ∷ x) [] s q e = cc
  not_cut (a ∷ x) (b ∷ y) s q e = let tail : x ++ end ∷ s ≡ y = cc in not_cut x y s q.1 tail

-- Items that aren't empty, without a comma, and of which each is told by its text so far as `read` goes.
module _ {A B : Type 0} (text : A → List ℕ) (Ok : A → Type 0) (read : A → B)
    (P : ℕ → Type 0) (no_comma : P 44 → ⊥)
    (clean : (x : A) → Ok x → Each P (text x))
    (some : (x : A) → Ok x → text x ≢ [])
    (told : (x y : A) → Ok x → Ok y → text x ≡ text y → read x ≡ read y) where
  item_cut : (x y : List ℕ) (xs ys : List A) → Each P x → Each P y → x ++ others_text text xs ≡ y ++ others_text text ys → (x ≡ y) × (others_text text xs ≡ others_text text ys)
  item_cut [] [] xs ys p q e = (refl, e)
  item_cut [] (b ∷ y) [] ys p q e = cc
  item_cut [] (b ∷ y) (first ∷ xs) ys p q e = let same : b ≡ 44 = cc in absurd (no_comma (subst P same q.0))
  item_cut (a ∷ x) [] xs [] p q e = cc
  item_cut (a ∷ x) [] xs (first ∷ ys) p q e = let same : a ≡ 44 = cc in absurd (no_comma (subst P same p.0))
  item_cut (a ∷ x) (b ∷ y) xs ys p q e =
      let head : a ≡ b = cc in
      let tail : x ++ others_text text xs ≡ y ++ others_text text ys = cc in
      let rest = item_cut x y xs ys p.1 q.1 tail in (ap (λ l. a ∷ l) rest.0 ∙ ap (λ c. c ∷ y) head, rest.1)

  others_told : (xs ys : List A) → Each Ok xs → Each Ok ys → others_text text xs ≡ others_text text ys → map read xs ≡ map read ys
  others_told [] [] p q e = refl
  others_told [] (y ∷ ys) p q e = cc
  others_told (x ∷ xs) [] p q e = cc
  others_told (x ∷ xs) (y ∷ ys) p q e =
      let tail : text x ++ others_text text xs ≡ text y ++ others_text text ys = cc in
      let parts = item_cut (text x) (text y) xs ys (clean x p.0) (clean y q.0) tail in
      (λ j. told x y p.0 q.0 parts.0 j ∷ others_told xs ys p.1 q.1 parts.1 j)

  nothing : (x rest : List ℕ) → x ≢ [] → [] ≡ x ++ rest → ⊥
  nothing [] rest isnt e = isnt refl
  nothing (b ∷ x) rest isnt e = cc

  pub items_told : (xs ys : List A) → Each Ok xs → Each Ok ys → with_commas text xs ≡ with_commas text ys → map read xs ≡ map read ys
  items_told [] [] p q e = refl
  items_told [] (y ∷ ys) p q e = absurd (nothing (text y) (others_text text ys) (some y q.0) e)
  items_told (x ∷ xs) [] p q e = absurd (nothing (text x) (others_text text xs) (some x p.0) (sym e))
  items_told (x ∷ xs) (y ∷ ys) p q e =
      let parts = item_cut (text x) (text y) xs ys (clean x p.0) (clean y q.0) e in
      (λ j. told x y p.0 q.0 parts.0 j ∷ others_told xs ys p.1 q.1 parts.1 j)

  -- with the commas, each byte is as in an item or a comma
  others_clean : (Q : ℕ → Type 0) → Q 44 → ((b : ℕ) → P b → Q b) → (xs : List A) → Each Ok xs → Each Q (others_text text xs)
  others_clean Q comma so [] p = tt
  others_clean Q comma so (x ∷ xs) p = (comma, each-append Q (text x) (others_text text xs) (each_weaker P Q so (text x) (clean x p.0)) (others_clean Q comma so xs p.1))

  pub items_clean : (Q : ℕ → Type 0) → Q 44 → ((b : ℕ) → P b → Q b) → (xs : List A) → Each Ok xs → Each Q (with_commas text xs)
  items_clean Q comma so [] p = tt
  items_clean Q comma so (x ∷ xs) p = each-append Q (text x) (others_text text xs) (each_weaker P Q so (text x) (clean x p.0)) (others_clean Q comma so xs p.1)
