-- One slice of several is replaced.
use Rattle.std.proofs.Common.{List, [], Vec, Global, ap, arith, get_or, inl, inr, length, map, set, subst, sym, ℕ, ◌<◌, ◌≡◌, ◌≢◌, ◌∙◌}
use Rattle.std.proofs.lemmas.Bool.{cases_eq}
use Rattle.std.proofs.lemmas.List.{get_or-map, get_or-set_other, get_or-set_same, get_or_default, length-map, map-set}
use Rattle.bw_byteslice.specs.Storing.{byte_of, bytes_of}

module _ {X : Type 0} (f : Vec ℕ Global → X) (d : X) (slices : List (Vec ℕ Global)) (i : ℕ) (within : i < length slices) where
  -- what is read
  pub read_is : (old : Vec ℕ Global) → old ≡ get_or slices i old → get_or (map f slices) i d ≡ f old
  read_is old read = get_or-map f slices i old d within ∙ ap f (sym read)

  module _ (new : Vec ℕ Global) where
    pub new_is : get_or (map f (set slices i new)) i d ≡ f new
    new_is = ap (λ xs. get_or xs i d) (map-set f slices i new) ∙ get_or-set_same (map f slices) i (f new) d (omega (arith, length-map slices f))

    pub rest_is : (h : ℕ) → h ≢ i → get_or (map f (set slices i new)) h d ≡ get_or (map f slices) h d
    rest_is h other = ap (λ xs. get_or xs h d) (map-set f slices i new) ∙ get_or-set_other (map f slices) i h (f new) d other

    -- what holds for the new one, and for each other one, holds for each
    pub each_is : (P : ℕ → X → Type 0) → P i (f new) → ((h : ℕ) → h ≢ i → P h (get_or (map f slices) h d)) → (h : ℕ) → P h (get_or (map f (set slices i new)) h d)
    each_is P here others h =
        elim (cases_eq h i) [
          | inl e ↦ subst (λ n. P n (get_or (map f (set slices i new)) n d)) (sym e) (subst (P i) (sym new_is) here)
          | inr other ↦ subst (P h) (sym (rest_is h other)) (others h other)
        ]

-- a byte that is read
pub byte_is : (slices : List (Vec ℕ Global)) (i j byte : ℕ) (slice : Vec ℕ Global) → i < length slices → slice ≡ get_or slices i slice → j < length (get_or (bytes_of slices) i []) → byte ≡ get_or slice.items j byte → byte ≡ byte_of (bytes_of slices) j i
byte_is slices i j byte slice within read there is =
    let same : get_or (bytes_of slices) i [] ≡ slice.items = read_is (λ v. v.items) [] slices i within slice read in
    is ∙ get_or_default slice.items j byte 0 (omega (arith, there, ap length same)) ∙ ap (λ xs. get_or xs j 0) (sym same)
