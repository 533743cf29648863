-- One word of one plane changes.
use Rattle.std.proofs.Common.{List, [], Vec, Global, ap, arith, get_or, inl, inr, length, set, subst, sym, ℕ, ◌%◌, ◌*◌, ◌+◌, ◌-◌, ◌/◌, ◌<◌, ◌≡◌, ◌≤◌, ◌∙◌, ◌⊎◌, refl}
use mathlib.Core.Logic.{◌≢◌}
use Rattle.std.specs.Prelude.{vec_capacity}
use Rattle.std.proofs.Math.Nat.{mul-le-mul_right}
use Rattle.std.proofs.lemmas.Bool.{cases_eq, cases_lt}
use Rattle.std.proofs.lemmas.Nat.{div-mul-add, mod-mul-add}
use Rattle.std.proofs.lemmas.List.{get_or-map, get_or_past, get_or-set_other, get_or-set_same, length-map, map-set, length-set}
use Rattle.bw_vertical.specs.Storage.{KeepsSizes, capacities, lists, plane_at, planes_in, word_of}

-- a place among rows of m tells its row and its column
pub row_is : (a b m x y : ℕ) → x < m → y < m → a * m + x ≡ b * m + y → a ≡ b
row_is a b m x y p q e = sym (div-mul-add a m x p) ∙ ap (λ n. n / m) e ∙ div-mul-add b m y q

pub column_is : (a b m x y : ℕ) → x < m → y < m → a * m + x ≡ b * m + y → x ≡ y
column_is a b m x y p q e = sym (mod-mul-add a m x p) ∙ ap (λ n. n % m) e ∙ mod-mul-add b m y q

-- plane i has its place in its group
pub in_its_group : (k i : ℕ) → i < k → i % 4 < planes_in k (i / 4)
in_its_group k i h = omega arith

-- a group of the list
pub group_is : (vs : List (Vec (List ℕ) Global)) (g : ℕ) (v : Vec (List ℕ) Global) → g < length vs → v ≡ get_or vs g v → get_or (lists vs) g [] ≡ v.items
group_is vs g v within read = get_or-map (λ x. x.items) vs g v [] within ∙ ap (λ x. x.items) (sym read)

pub capacity_is : (vs : List (Vec (List ℕ) Global)) (g : ℕ) (v : Vec (List ℕ) Global) → g < length vs → v ≡ get_or vs g v → get_or (capacities vs) g 0 ≡ vec_capacity v
capacity_is vs g v within read = get_or-map (λ x. vec_capacity x) vs g v 0 within ∙ ap (λ x. vec_capacity x) (sym read)

-- group g becomes w
module _ (vs : List (Vec (List ℕ) Global)) (g : ℕ) (v w : Vec (List ℕ) Global) (within : g < length vs) (read : v ≡ get_or vs g v) where
  abbrev after : List (Vec (List ℕ) Global)
  after = set vs g w

  pub here : get_or (lists after) g [] ≡ w.items
  here = ap (λ gs. get_or gs g []) (map-set (λ x. x.items) vs g w) ∙ get_or-set_same (lists vs) g w.items [] (omega (arith, length-map vs (λ (x : Vec (List ℕ) Global). x.items)))

  pub elsewhere : (h : ℕ) → h ≢ g → get_or (lists after) h [] ≡ get_or (lists vs) h []
  elsewhere h d = ap (λ gs. get_or gs h []) (map-set (λ x. x.items) vs g w) ∙ get_or-set_other (lists vs) g h w.items [] d

  pub capacity_here : get_or (capacities after) g 0 ≡ vec_capacity w
  capacity_here = ap (λ cs. get_or cs g 0) (map-set (λ x. vec_capacity x) vs g w) ∙ get_or-set_same (capacities vs) g (vec_capacity w) 0 (omega (arith, length-map vs (λ (x : Vec (List ℕ) Global). vec_capacity x)))

  pub capacity_elsewhere : (h : ℕ) → h ≢ g → get_or (capacities after) h 0 ≡ get_or (capacities vs) h 0
  capacity_elsewhere h d = ap (λ cs. get_or cs h 0) (map-set (λ x. vec_capacity x) vs g w) ∙ get_or-set_other (capacities vs) g h (vec_capacity w) 0 d

  pub capacities_more : vec_capacity v ≤ vec_capacity w → (h : ℕ) → get_or (capacities vs) h 0 ≤ get_or (capacities after) h 0
  capacities_more more h =
      elim (cases_eq h g) [
        | inl e ↦ rw (e, capacity_here, capacity_is vs g v within read) more
        | inr d ↦ rw (capacity_elsewhere h d) (omega arith)
      ]

  pub keeps_sizes : length w.items ≡ length v.items → vec_capacity v ≤ vec_capacity w → KeepsSizes after vs
  keeps_sizes len more = record {
    count = length-set vs g w;
    sizes = λ h.
        elim (cases_eq h g) [
          | inl e ↦ rw (e, here, group_is vs g v within read) len
          | inr d ↦ rw (elsewhere h d) refl
        ];
    capacities = capacities_more more;
  }

-- a word of a plane of group g
pub word_in_group : (k i w g m p : ℕ) (vs : List (Vec (List ℕ) Global)) (v : Vec (List ℕ) Global) → g < length vs → v ≡ get_or vs g v → i / 4 ≡ g → m ≡ planes_in k g → p ≡ i % 4
    → get_or (get_or v.items (w / 4 * m + p) []) (w % 4) 0 ≡ word_of k (lists vs) i w
word_in_group k i w g m p vs v within read group m_is p_is =
    ap (λ x. get_or (get_or v.items (w / 4 * x + p) []) (w % 4) 0) m_is
    ∙ ap (λ x. get_or (get_or v.items (w / 4 * planes_in k g + x) []) (w % 4) 0) p_is
    ∙ ap (λ xs. get_or (get_or xs (w / 4 * planes_in k g + i % 4) []) (w % 4) 0) (sym (group_is vs g v within read))
    ∙ ap (λ h. get_or (get_or (get_or (lists vs) h []) (w / 4 * planes_in k h + i % 4) []) (w % 4) 0) (sym group)

-- rows are added to lane w % 4 of all planes of group g in segment w / 4
module _
    (k w g m : ℕ) (vs : List (Vec (List ℕ) Global)) (v u : Vec (List ℕ) Global)
    (within : g < length vs) (read : v ≡ get_or vs g v) (m_is : m ≡ planes_in k g)
    (lanes : (b n : ℕ) → n ≢ w % 4 → get_or (get_or u.items b []) n 0 ≡ get_or (get_or v.items b []) n 0)
    (before : (b : ℕ) → b < w / 4 * m → get_or u.items b [] ≡ get_or v.items b [])
    (behind : (b : ℕ) → w / 4 * m + m ≤ b → get_or u.items b [] ≡ get_or v.items b [])
  where
    pub word_now : (i x : ℕ) → i / 4 ≡ g → word_of k (lists (set vs g u)) i x ≡ get_or (get_or u.items (x / 4 * m + i % 4) []) (x % 4) 0
    word_now i x group =
        ap (λ h. get_or (get_or (get_or (lists (set vs g u)) h []) (x / 4 * planes_in k h + i % 4) []) (x % 4) 0) group
        ∙ ap (λ xs. get_or (get_or xs (x / 4 * planes_in k g + i % 4) []) (x % 4) 0) (here vs g v u within read)
        ∙ ap (λ n. get_or (get_or u.items (x / 4 * n + i % 4) []) (x % 4) 0) (sym m_is)

    pub group_other : (i x : ℕ) → i / 4 ≢ g → word_of k (lists (set vs g u)) i x ≡ word_of k (lists vs) i x
    group_other i x away = ap (λ xs. get_or (get_or xs (x / 4 * planes_in k (i / 4) + i % 4) []) (x % 4) 0) (elsewhere vs g v u within read (i / 4) away)

    elsewhere_in_group : (i x : ℕ) → i < k → i / 4 ≡ g → x ≢ w → get_or (get_or u.items (x / 4 * m + i % 4) []) (x % 4) 0 ≡ get_or (get_or v.items (x / 4 * m + i % 4) []) (x % 4) 0
    elsewhere_in_group i x low group away =
        let column : i % 4 < m = rw m_is (subst (λ h. i % 4 < planes_in k h) group (in_its_group k i low)) in
        elim (cases_eq (x % 4) (w % 4)) [
          | inl e ↦
              elim (cases_lt (x / 4) (w / 4)) [
                | inl l ↦
                    let above : x / 4 + 1 ≤ w / 4 = omega (arith, l) in
                    ap (λ plane. get_or plane (x % 4) 0) (before (x / 4 * m + i % 4) (omega (arith, column, mul-le-mul_right m above)))
                | inr l ↦
                    let above : w / 4 + 1 ≤ x / 4 = omega (arith, l, e, away) in
                    ap (λ plane. get_or plane (x % 4) 0) (behind (x / 4 * m + i % 4) (omega (arith, mul-le-mul_right m above)))
              ]
          | inr d ↦ lanes (x / 4 * m + i % 4) (x % 4) d
        ]

    pub words_other : (i x : ℕ) → i < k → x ≢ w → word_of k (lists (set vs g u)) i x ≡ word_of k (lists vs) i x
    words_other i x low away =
        elim (cases_eq (i / 4) g) [
          | inl e ↦ word_now i x e ∙ elsewhere_in_group i x low e away ∙ word_in_group k i x g m (i % 4) vs v within read e m_is refl
          | inr d ↦ group_other i x d
        ]

-- lane w % 4 of the place of plane i in segment w / 4 becomes the word
module _
    (k i w m word : ℕ) (vs : List (Vec (List ℕ) Global)) (v u : Vec (List ℕ) Global)
    (low : i < k) (within : i / 4 < length vs) (read : v ≡ get_or vs (i / 4) v) (m_is : m ≡ planes_in k (i / 4))
    (same : get_or (get_or u.items (w / 4 * m + i % 4) []) (w % 4) 0 ≡ word)
    (lanes : (n : ℕ) → n ≢ w % 4 → get_or (get_or u.items (w / 4 * m + i % 4) []) n 0 ≡ get_or (get_or v.items (w / 4 * m + i % 4) []) n 0)
    (planes : (b : ℕ) → b ≢ w / 4 * m + i % 4 → get_or u.items b [] ≡ get_or v.items b [])
  where
    abbrev now : List (Vec (List ℕ) Global)
    now = set vs (i / 4) u

    place_is : w / 4 * m + i % 4 ≡ w / 4 * planes_in k (i / 4) + i % 4
    place_is = ap (λ x. w / 4 * x + i % 4) m_is

    pub word_same : word_of k (lists now) i w ≡ word
    word_same =
        ap (λ g. get_or (get_or g (w / 4 * planes_in k (i / 4) + i % 4) []) (w % 4) 0) (here vs (i / 4) v u within read)
        ∙ ap (λ a. get_or (get_or u.items a []) (w % 4) 0) (sym place_is) ∙ same

    in_group : (p v2 : ℕ) → p < k → p / 4 ≡ i / 4 → (p ≢ i) ⊎ (v2 ≢ w)
        → get_or (get_or u.items (v2 / 4 * m + p % 4) []) (v2 % 4) 0 ≡ get_or (get_or v.items (v2 / 4 * m + p % 4) []) (v2 % 4) 0
    in_group p v2 inside e away =
        let column : i % 4 < m = rw m_is (in_its_group k i low) in
        let also : p % 4 < m = rw m_is (subst (λ g. p % 4 < planes_in k g) e (in_its_group k p inside)) in
        elim (cases_eq (v2 / 4 * m + p % 4) (w / 4 * m + i % 4)) [
          | inl f ↦
              let row = row_is (v2 / 4) (w / 4) m (p % 4) (i % 4) also column f in
              let col = column_is (v2 / 4) (w / 4) m (p % 4) (i % 4) also column f in
              let plane : p ≡ i = omega (arith, e, col) in
              elim away [
                | inl d ↦ absurd (d plane)
                | inr d ↦
                    let lane : v2 % 4 ≢ w % 4 = λ q. d (omega (arith, row, q)) in
                    ap (λ a. get_or (get_or u.items a []) (v2 % 4) 0) f ∙ lanes (v2 % 4) lane ∙ ap (λ a. get_or (get_or v.items a []) (v2 % 4) 0) (sym f)
              ]
          | inr f ↦ ap (λ x. get_or x (v2 % 4) 0) (planes (v2 / 4 * m + p % 4) f)
        ]

    pub word_other : (p v2 : ℕ) → p < k → (p ≢ i) ⊎ (v2 ≢ w) → word_of k (lists now) p v2 ≡ word_of k (lists vs) p v2
    word_other p v2 inside away =
        elim (cases_eq (p / 4) (i / 4)) [
          | inl e ↦
              let there : get_or (lists now) (p / 4) [] ≡ u.items = ap (λ g. get_or (lists now) g []) e ∙ here vs (i / 4) v u within read in
              let before : get_or (lists vs) (p / 4) [] ≡ v.items = ap (λ g. get_or (lists vs) g []) e ∙ group_is vs (i / 4) v within read in
              let size : planes_in k (p / 4) ≡ m = ap (planes_in k) e ∙ sym m_is in
              ap (λ g. get_or (get_or g (v2 / 4 * planes_in k (p / 4) + p % 4) []) (v2 % 4) 0) there
              ∙ ap (λ x. get_or (get_or u.items (v2 / 4 * x + p % 4) []) (v2 % 4) 0) size
              ∙ in_group p v2 inside e away
              ∙ ap (λ x. get_or (get_or v.items (v2 / 4 * x + p % 4) []) (v2 % 4) 0) (sym size)
              ∙ ap (λ g. get_or (get_or g (v2 / 4 * planes_in k (p / 4) + p % 4) []) (v2 % 4) 0) (sym before)
          | inr d ↦ ap (λ g. get_or (get_or g (v2 / 4 * planes_in k (p / 4) + p % 4) []) (v2 % 4) 0) (elsewhere vs (i / 4) v u within read (p / 4) d)
        ]

pub sizes_more : {newer new old : List (Vec (List ℕ) Global)} → KeepsSizes newer new → KeepsSizes new old → KeepsSizes newer old
sizes_more a b = record {
  count = a.count ∙ b.count;
  sizes = λ g. a.sizes g ∙ b.sizes g;
  capacities = λ g. omega (arith, a.capacities g, b.capacities g);
}

-- units of a segment that are of one group lie side by side in it
pub side_by_side : (k q g u : ℕ) (gs : List (List (List ℕ))) → 4 * g < k → q * k + 4 * g ≤ u → u < q * k + 4 * g + planes_in k g
    → get_or (get_or gs g []) (q * planes_in k g + (u - (q * k + 4 * g))) [] ≡ plane_at k gs (u / k) (u % k)
side_by_side k q g u gs some from to =
    let i = u - q * k in
    let unit : u ≡ q * k + i = omega (arith, from) in
    let low : i < k = omega (arith, from, to, some) in
    let segment : u / k ≡ q = ap (λ n. n / k) unit ∙ div-mul-add q k i low in
    let plane : u % k ≡ i = ap (λ n. n % k) unit ∙ mod-mul-add q k i low in
    let group : i / 4 ≡ g = omega (arith, from, to) in
    let place : i % 4 ≡ u - (q * k + 4 * g) = omega (arith, from, to) in
    sym (
    ap (λ s. plane_at k gs s (u % k)) segment
    ∙ ap (plane_at k gs q) plane
    ∙ ap (λ p. get_or (get_or gs (i / 4) []) (q * planes_in k (i / 4) + p) []) place
    ∙ ap (λ h. get_or (get_or gs h []) (q * planes_in k h + (u - (q * k + 4 * g))) []) group)

-- a word of a segment that is not there is 0
pub word_past : (k i w n : ℕ) (gs : List (List (List ℕ))) → i < k → ((g : ℕ) → 4 * g < k → length (get_or gs g []) ≡ n * planes_in k g) → n ≤ w / 4 → word_of k gs i w ≡ 0
word_past k i w n gs low sizes past =
    let g = i / 4 in
    let some : 4 * g < k = omega (arith, low) in
    ap (λ plane. get_or plane (w % 4) 0) (get_or_past (get_or gs g []) (w / 4 * planes_in k g + i % 4) [] (omega (arith, sizes g some, mul-le-mul_right (planes_in k g) past)))
