-- Two columns of planes side by side: what each row is compared with is the other column's code.
use Rattle.std.proofs.Common.{Bool, List, [], get_or, length, subst, ℕ, ◌*◌, ◌+◌, ◌<◌, ◌^◌, ◌≡◌, ◌≤◌, ◌∙◌}
use Rattle.bw_mask.specs.Masks.{row_in}
use Rattle.bw_code.proofs.Segments.{AreSidesCompared}
use Rattle.bw_vertical.specs.Planes.{code_in}
use Rattle.bw_vertical.proofs.Planes.{AreBits, Less, Same, code_lt, group_more, plane_more, unit_bit}

-- the rows of unit q * k + i
abbrev pub rows_of_unit : ℕ → ℕ → ℕ → List (List ℕ) → ℕ → Bool
rows_of_unit k q i units j = row_in (get_or units (q * k + i) []) j

-- what plane i of both makes of the rows that are below, and of those that are equal
abbrev pub Step : ℕ → ℕ → ℕ → List (List ℕ) → List (List ℕ) → List ℕ → List ℕ → List ℕ → List ℕ → Type 0
Step k q i now also lt eq lt2 eq2 = Less k q i (rows_of_unit k q i also) now lt eq lt2 × Same k q i (rows_of_unit k q i also) now eq eq2

module _ (k q : ℕ) (units others : List (List ℕ)) (need : List ℕ) (there : (q + 1) * k ≤ length units) where
  abbrev other : ℕ → ℕ
  other j = code_in k others (256 * q + j)

  abbrev bits : ℕ → ℕ → Bool
  bits i j = rows_of_unit k q i others j

  -- the masks after the first i planes
  abbrev pub PairMasks : List ℕ → List ℕ → ℕ → Type 0
  PairMasks lt eq i = AreSidesCompared 256 2 k (row_in need) (λ j. code_in k units (256 * q + j)) (λ j. code_in k others (256 * q + j)) (row_in lt) (row_in eq) i

  small : (j : ℕ) → other j < 2 ^ k
  small j = code_lt k others (256 * q + j)

  bits_are : AreBits k other bits
  bits_are i low j h = unit_bit k q i j others low h

  kept : (i : ℕ) (now also : List (List ℕ)) (lt eq lt2 eq2 : List ℕ) → also ≡ others → Step k q i now also lt eq lt2 eq2 → Step k q i now others lt eq lt2 eq2
  kept i now also lt eq lt2 eq2 same step = subst (λ us. Step k q i now us lt eq lt2 eq2) same step

  pub pair_more : (i : ℕ) (now also : List (List ℕ)) → i < k → now ≡ units → also ≡ others → (lt eq lt2 eq2 : List ℕ) → Step k q i now also lt eq lt2 eq2 → PairMasks lt eq i → PairMasks lt2 eq2 (i + 1)
  pair_more i now also low same also_same lt eq lt2 eq2 step before =
      let s = kept i now also lt eq lt2 eq2 also_same step in
      plane_more k q other bits units need there small bits_are i now low same lt eq lt2 eq2 s.0 s.1 before

  -- the four planes of group g
  pub pair_group_more : (g : ℕ) (n0 n1 n2 n3 m0 m1 m2 m3 : List (List ℕ)) → 4 * (g + 1) ≤ k
      → n0 ≡ units → n1 ≡ n0 → n2 ≡ n1 → n3 ≡ n2 → m0 ≡ others → m1 ≡ m0 → m2 ≡ m1 → m3 ≡ m2
      → (lt0 eq0 lt1 eq1 lt2 eq2 lt3 eq3 lt4 eq4 : List ℕ)
      → Step k q (4 * g) n0 m0 lt0 eq0 lt1 eq1 → Step k q (4 * g + 1) n1 m1 lt1 eq1 lt2 eq2
      → Step k q (4 * g + 2) n2 m2 lt2 eq2 lt3 eq3 → Step k q (4 * g + 3) n3 m3 lt3 eq3 lt4 eq4
      → PairMasks lt0 eq0 (4 * g) → PairMasks lt4 eq4 (4 * (g + 1))
  pair_group_more g n0 n1 n2 n3 m0 m1 m2 m3 low k0 k1 k2 k3 h0 h1 h2 h3 lt0 eq0 lt1 eq1 lt2 eq2 lt3 eq3 lt4 eq4 s0 s1 s2 s3 before =
      let a = kept (4 * g) n0 m0 lt0 eq0 lt1 eq1 h0 s0 in
      let b = kept (4 * g + 1) n1 m1 lt1 eq1 lt2 eq2 (h1 ∙ h0) s1 in
      let d = kept (4 * g + 2) n2 m2 lt2 eq2 lt3 eq3 (h2 ∙ h1 ∙ h0) s2 in
      let e = kept (4 * g + 3) n3 m3 lt3 eq3 lt4 eq4 (h3 ∙ h2 ∙ h1 ∙ h0) s3 in
      group_more k q other bits units need there small bits_are g n0 n1 n2 n3 low k0 k1 k2 k3 lt0 eq0 lt1 eq1 lt2 eq2 lt3 eq3 lt4 eq4 a.0 a.1 b.0 b.1 d.0 d.1 e.0 e.1 before
