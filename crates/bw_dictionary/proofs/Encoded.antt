-- Ranks of cells' distances from the least are the places of the cells among their distinct integers.
use Rattle.std.proofs.Common.{FitsSigned, List, None, Option, Some, [], ◌∷◌, suc, zero, inl, inr, ap, arith, get_or, length, map, of_z, pos, refl, replicate, sym, w64, ℕ, ℤ, ◌%◌, ◌+◌, ◌+ℤ◌, ◌-◌, ◌<◌, ◌^◌, ◌≡◌, ◌≤ℤ◌, ◌∙◌}
use Rattle.std.specs.Prelude.{All, Contains, unwrap_or}
use Rattle.std.proofs.lemmas.Bool.{cases_lt}
use Rattle.std.proofs.lemmas.Int.{ints}
use Rattle.std.proofs.lemmas.List.{get_or-map, get_or_default, length-map}
use Rattle.std.proofs.lemmas.List.Kept.{AllPairs-from_increasing}
use Rattle.bw_cells.specs.Distances.{distance_from}
use Rattle.bw_cells.specs.Known.{known}
use Rattle.bw_cells.proofs.Known.{known_at}
use Rattle.bw_code.specs.Ascending.{IsAscending}
use Rattle.bw_code.specs.Encodings.{AreDistinct, IsGreatest, IsLeast}
use Rattle.bw_code.proofs.Entries.{entry_at}
use Rattle.bw_code.proofs.Lists.{made_is}
use Rattle.bw_rank.specs.Ranks.{AreRanks}
use Rattle.bw_dictionary.specs.Ranking.{place_of}

-- each of the known is a cell
pub cell_of : (cells : List (Option ℤ)) (x : ℤ) (k : ℕ) → k < length (known cells) → get_or (known cells) k x ≡ x → (j : ℕ) × (j < length cells) × (get_or cells j None ≡ Some x)
cell_of [] x k h e = absurd (omega (arith, h))
cell_of (Some y ∷ cells) x zero h e = (0, omega arith, ap Some e)
cell_of (Some y ∷ cells) x (suc k) h e = let rest = cell_of cells x k (omega (arith, h)) e in (suc rest.0, omega (arith, rest.1), rest.2)
cell_of (None ∷ cells) x k h e = let rest = cell_of cells x k h e in (suc rest.0, omega (arith, rest.1), rest.2)

-- a distance from a base that is not above leads back
onto : (base x : ℤ) → FitsSigned w64 base → FitsSigned w64 x → base ≤ℤ x → base +ℤ pos ((of_z w64 x + (2 ^ 64 - of_z w64 base)) % 2 ^ 64) ≡ x
onto base x fits_base fits le = omega (arith, ints, fits_base, fits, le)

module _ (base greatest : ℤ) (cells : List (Option ℤ)) (entries ranks : List ℕ) (fits_base : FitsSigned w64 base) (fits_greatest : FitsSigned w64 greatest) (least : IsLeast (known cells) base) (most : IsGreatest (known cells) greatest)
    (are : AreRanks (map (distance_from base) cells) entries ranks) where
  abbrev numbers : List ℕ
  numbers = map (distance_from base) cells

  abbrev value : ℕ → ℤ
  value n = base +ℤ pos n

  abbrev values : List ℤ
  values = map value entries

  back : (x : ℤ) → Contains (known cells) x → value (distance_from base (Some x)) ≡ x
  back x h =
      let is = get_or_default (known cells) h.0 (pos 0) x h.1 ∙ h.2 in
      let low : base ≤ℤ x = rw h.2 at (least.bound h.0 x h.1) in
      let high : x ≤ℤ greatest = rw h.2 at (most.bound h.0 x h.1) in
      let fits : FitsSigned w64 x = omega (arith, ints, fits_base, fits_greatest, low, high) in
      onto base x fits_base fits low

  many : length ranks ≡ length cells
  many = sym (length-map ranks (λ r. get_or entries r 0)) ∙ ap length are.each ∙ length-map cells (distance_from base)

  number_at : (k : ℕ) → k < length cells → get_or numbers k 0 ≡ distance_from base (get_or cells k None)
  number_at k h = get_or-map (distance_from base) cells k None 0 h

  -- the entry of each cell's rank is its distance
  rank_at : (k : ℕ) → k < length cells → (get_or ranks k 0 < length entries) × (get_or entries (get_or ranks k 0) 0 ≡ distance_from base (get_or cells k None))
  rank_at k h =
      let there : k < length ranks = omega (arith, h, many) in
      (are.inside k 0 there, sym (get_or-map (λ r. get_or entries r 0) ranks k 0 0 there) ∙ ap (λ xs. get_or xs k 0) are.each ∙ number_at k h)

  value_at : (i : ℕ) → i < length entries → get_or values i (pos 0) ≡ value (get_or entries i 0)
  value_at i h = get_or-map value entries i 0 (pos 0) h

  long : length values ≡ length entries
  long = length-map entries value

  ascends : IsAscending values
  ascends i j less h =
      let there : j < length entries = omega (arith, h, long) in
      let rise = AllPairs-from_increasing entries are.ascending i j 0 less there in
      rw (value_at i (omega (arith, less, there)), value_at j there) (omega (arith, ints, rise))

  -- an entry is the value of some cell: its own where it is no null, and else the least
  among : (i : ℕ) → i < length entries → Contains (known cells) (value (get_or entries i 0))
  among i h =
      let from = are.among i 0 h in
      let there : from.0 < length cells = omega (arith, from.1, length-map cells (distance_from base)) in
      let is : get_or entries i 0 ≡ distance_from base (get_or cells from.0 None) = sym from.2 ∙ get_or_default numbers from.0 (get_or entries i 0) 0 from.1 ∙ number_at from.0 there in
      by (get_or cells from.0 None) refl is
    where
      by : (cell : Option ℤ) → get_or cells (are.among i 0 h).0 None ≡ cell → get_or entries i 0 ≡ distance_from base (get_or cells (are.among i 0 h).0 None) → Contains (known cells) (value (get_or entries i 0))
      by (Some y) e is =
          let known_y = known_at cells (are.among i 0 h).0 y e in
          let same : value (get_or entries i 0) ≡ y = ap value (is ∙ ap (distance_from base) e) ∙ back y known_y in
          rw same known_y
      by None e is =
          let same : value (get_or entries i 0) ≡ base = ap value (is ∙ ap (distance_from base) e) ∙ omega (arith, ints) in
          rw same least.reached

  -- no entry is above the greatest
  pub within : All (λ n. (base +ℤ pos n) ≤ℤ greatest) entries
  within k d h =
      let it = among k h in
      let same : get_or entries k 0 ≡ get_or entries k d = get_or_default entries k 0 d h in
      let bound = most.bound it.0 (value (get_or entries k 0)) it.1 in
      rw (← same) (rw it.2 at bound)

  distinct : AreDistinct (known cells) values
  distinct = record {
    ascending = ascends;
    same = λ x. (forth x, there x);
  }
    where
      forth : (x : ℤ) → Contains values x → Contains (known cells) x
      forth x h =
          let low : h.0 < length entries = omega (arith, h.1, long) in
          let is : value (get_or entries h.0 0) ≡ x = sym (get_or-map value entries h.0 0 x low) ∙ h.2 in
          rw is at (among h.0 low)

      there : (x : ℤ) → Contains (known cells) x → Contains values x
      there x h =
          let cell = cell_of cells x h.0 h.1 h.2 in
          let at = rank_at cell.0 cell.1 in
          let inside : get_or ranks cell.0 0 < length values = omega (arith, at.0, long) in
          (get_or ranks cell.0 0, inside, get_or-map value entries (get_or ranks cell.0 0) 0 x at.0 ∙ ap value (at.1 ∙ ap (distance_from base) cell.2) ∙ back x h)

  place_at : (k : ℕ) → k < length cells → get_or ranks k 0 ≡ place_of values (get_or cells k None)
  place_at k h = by (get_or cells k None) refl
    where
      by : (cell : Option ℤ) → get_or cells k None ≡ cell → get_or ranks k 0 ≡ place_of values cell
      by (Some x) e =
          let at = rank_at k h in
          let is : get_or values (get_or ranks k 0) (pos 0) ≡ x = value_at (get_or ranks k 0) at.0 ∙ ap value (at.1 ∙ ap (distance_from base) e) ∙ back x (known_at cells k x e) in
          let code = entry_at values x (get_or ranks k 0) ascends (omega (arith, at.0, long)) is in
          sym (ap (λ c. unwrap_or c 0) code)
      by None e =
          let at = rank_at k h in
          let none : get_or entries (get_or ranks k 0) 0 ≡ 0 = at.1 ∙ ap (distance_from base) e in
          elim (cases_lt 0 (get_or ranks k 0)) [
            | inl some ↦ let less = AllPairs-from_increasing entries are.ascending 0 (get_or ranks k 0) 0 some at.0 in absurd (omega (arith, less, none))
            | inr it ↦ omega (arith, it)
          ]

  places : ranks ≡ map (place_of values) cells
  places =
      let place = λ (k : ℕ). place_of values (get_or cells k None) in
      let mapped = made_is (length cells) place (map (place_of values) cells) 0 (length-map cells (place_of values)) (λ k h. get_or-map (place_of values) cells k None 0 h) in
      made_is (length cells) place ranks 0 many place_at ∙ sym mapped

  -- the entries as the program has them
  pub ranked_by : (items : List ℤ) → items ≡ values → AreDistinct (known cells) items × (ranks ≡ map (place_of items) cells)
  ranked_by items is = rw is (distinct, places)

-- where no integer is known, there is no entry, and each cell is null
module _ (cells : List (Option ℤ)) (entries : List ℤ) (ranks : List ℕ) (unknown : known cells ≡ []) (none : entries ≡ []) where
  pub no_entries : AreDistinct (known cells) entries
  no_entries = rw (unknown, none) record {
    ascending = λ i j less h. absurd (omega (arith, h));
    same = λ x. (λ h. h, λ h. h);
  }

  pub null_places : ranks ≡ replicate (length cells) 0 → ranks ≡ map (place_of entries) cells
  null_places are = are ∙ each cells unknown
    where
      each : (cells : List (Option ℤ)) → known cells ≡ [] → replicate (length cells) 0 ≡ map (place_of entries) cells
      each [] e = refl
      each (None ∷ cells) e = ap (λ xs. 0 ∷ xs) (each cells e)
      each (Some x ∷ cells) e = absurd (omega (arith, ap length e))
