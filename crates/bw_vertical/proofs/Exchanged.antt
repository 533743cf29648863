-- Some rows become those of other planes of the same width.
use Rattle.std.proofs.Common.{Bool, Global, List, Vec, [], ap, arith, false, get_or, length, refl, set, sym, true, ℕ, ◌%◌, ◌*◌, ◌+◌, ◌/◌, ◌<◌, ◌∙◌, ◌≡◌, ◌≤◌}
use Rattle.std.specs.Prelude.{if◌then◌else◌}
use Rattle.std.proofs.lemmas.List.{get_or_past}
use Rattle.bw_mask.specs.Masks.{MaskRows, len, row_at, row_in}
use Rattle.bw_code.specs.Units.{segments_of}
use Rattle.bw_code.proofs.Lists.{made_at}
use Rattle.bw_vertical.specs.Storage.{code_of, codes_of, is_set, lists, planes_in}
use Rattle.bw_vertical.proofs.Filled.{rows_put}
use Rattle.bw_vertical.proofs.Holding.{code_same}
use Rattle.bw_vertical.proofs.Segments.{row_in_group}

-- group g becomes u, which takes rows of group g of other planes
module _
    (k g m n : ℕ) (vs ws : List (Vec (List ℕ) Global)) (v w u : Vec (List ℕ) Global)
    (within : g < length vs) (read : v ≡ get_or vs g v) (other_within : g < length ws) (other_read : w ≡ get_or ws g w) (m_is : m ≡ planes_in k g)
    (rows : MaskRows) (long : len rows ≡ n)
    (taken : (q i j : ℕ) → q < segments_of 256 n → i < m → j < 256 → row_in (get_or u.items (q * m + i) []) j
    ≡ (if row_at rows (256 * q + j) then row_in (get_or w.items (q * m + i) []) j else row_in (get_or v.items (q * m + i) []) j))
    (behind : (b : ℕ) → segments_of 256 n * m ≤ b → get_or u.items b [] ≡ get_or v.items b [])
  where
    pub rows_taken : (i j : ℕ) → i < k → i / 4 ≡ g → is_set k (lists (set vs g u)) i j ≡ (if row_at rows j then is_set k (lists ws) i j else is_set k (lists vs) i j)
    rows_taken =
        rows_put k g m n vs v u within read m_is rows long (is_set k (lists ws))
        (λ q i j l low group h.
        let column : i % 4 < m = omega (arith, low, group, m_is) in
        taken q (i % 4) j l column h
        ∙ ap (λ (z : Bool). if row_at rows (256 * q + j) then z else row_in (get_or v.items (q * m + i % 4) []) j) (row_in_group k q g m ws w other_within other_read m_is i j group h))
        behind

-- some codes become those of other planes
module _ (k n : ℕ) (old new others : List (List (List ℕ))) (rows : MaskRows)
    (each : (i j : ℕ) → i < k → is_set k new i j ≡ (if row_at rows j then is_set k others i j else is_set k old i j)) where
  picked : (j : ℕ) → code_of k new j ≡ (if row_at rows j then code_of k others j else code_of k old j)
  picked j = go (row_at rows j) (λ i h. each i j h)
    where
      go : (there : Bool) → ((i : ℕ) → i < k → is_set k new i j ≡ (if there then is_set k others i j else is_set k old i j)) → code_of k new j ≡ (if there then code_of k others j else code_of k old j)
      go true bits = code_same k j new others bits
      go false bits = code_same k j new old bits

  -- past the last row nothing changes
  pub rest_untaken : len rows ≡ n → (i j : ℕ) → i < k → n ≤ j → is_set k new i j ≡ is_set k old i j
  rest_untaken long i j h l =
      let past : row_at rows j ≡ false = get_or_past rows.rows j false (omega (arith, long, l)) in
      each i j h ∙ rw past refl

  pub codes_taken : (j : ℕ) → j < n → get_or (codes_of k new n) j 0 ≡ (if row_at rows j then get_or (codes_of k others n) j 0 else get_or (codes_of k old n) j 0)
  codes_taken j h =
      made_at n (code_of k new) j 0 h ∙ picked j
      ∙ ap (λ (x : ℕ). if row_at rows j then x else code_of k old j) (sym (made_at n (code_of k others) j 0 h))
      ∙ ap (λ (x : ℕ). if row_at rows j then get_or (codes_of k others n) j 0 else x) (sym (made_at n (code_of k old) j 0 h))
