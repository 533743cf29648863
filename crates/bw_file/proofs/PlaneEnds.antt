-- The least and the greatest of the cells of a column of planes, by its codes.
use Rattle.std.proofs.Common.{All, Bool, FitsSigned, List, None, Option, Some, [], ap, arith, false, get_or, inl, inr, is_some, length, of_z, pos, refl, subst, sym, to_z, true, w64, ℕ, ℤ, ◌+ℤ◌, ◌<◌, ◌≡◌, ◌≤ℤ◌, ◌∙◌, ◌⊎◌}
use Rattle.std.specs.Prelude.{if◌then◌else◌}
use Rattle.std.specs.List.{Contains}
use Rattle.std.proofs.Math.ListN.{get_or-eq_default}
use Rattle.std.proofs.lemmas.Bool.{cases_lt}
use Rattle.std.proofs.lemmas.Int.{ints, to_z-of_z}
use Rattle.std.proofs.lemmas.List.Elements.{All-from_get_or, All-get_or}
use Rattle.std.proofs.lemmas.List.FromFn.{get_or-map-range_with_len, length-map-range_with_len}
use Rattle.bw_cells.specs.Known.{known}
use Rattle.bw_cells.proofs.Known.{all_known, known_at, none_known}
use Rattle.bw_code.specs.Encodings.{IsGreatest, IsLeast}
use Rattle.bw_code.specs.Types.{IsNullOrOfType, IsOfType}
use Rattle.bw_code.specs.declared.kind.ColumnType.{ColumnType}
use Rattle.bw_code.specs.declared.kind.ColumnType.TheVariants.{BigInt, Integer}
use Rattle.bw_file.specs.Cells.{presence_size}
use Rattle.bw_vertical.specs.Descents.{AreCodeEnds}
use Rattle.bw_file.specs.Planes.{cells_in, code_in, has_in, read_cell}
use Rattle.bw_code.specs.declared.ends.Ends.{Ends}
use Rattle.bw_vertical.specs.declared.code_ends.CodeEnds.{CodeEnds}
use Rattle.bw_file.specs.declared.code_ends.Values.TheVariants as found

bool_cases : (b : Bool) → (b ≡ true) ⊎ (b ≡ false)
bool_cases true = inl refl
bool_cases false = inr refl

-- the cells that are read from the base on
module _ (rows : ℕ) (base : ℤ) (k : ℕ) (present planes : List ℕ) where
  abbrev cells : List (Option ℤ)
  cells = cells_in rows base k present planes

  abbrev code : ℕ → ℕ
  code = code_in k (presence_size rows) planes

  pub length-plane_cells : length (cells_in rows base k present planes) ≡ rows
  length-plane_cells = length-map-range_with_len (read_cell base k (presence_size rows) present planes) 0 rows

  pub plane_cell : (i : ℕ) → i < rows → get_or (cells_in rows base k present planes) i None ≡ read_cell base k (presence_size rows) present planes i
  plane_cell i h = get_or-map-range_with_len (read_cell base k (presence_size rows) present planes) 0 rows i i None h (omega arith)

  value_at : (i : ℕ) → i < rows → has_in present i ≡ true → get_or cells i None ≡ Some (base +ℤ pos (code i))
  value_at i h there = plane_cell i h ∙ ap (λ b. if b then Some (base +ℤ pos (code i)) else None) there

  null_at : (i : ℕ) → i < rows → has_in present i ≡ false → get_or cells i None ≡ None
  null_at i h none = plane_cell i h ∙ ap (λ b. if b then Some (base +ℤ pos (code i)) else None) none

  by_cell : (i : ℕ) (z : ℤ) → get_or cells i None ≡ Some z → (i < rows) × (has_in present i ≡ true) × (z ≡ base +ℤ pos (code i))
  by_cell i z is =
      elim (cases_lt i rows) [
        | inl here ↦
            elim (bool_cases (has_in present i)) [
              | inl there ↦ (let e : Some z ≡ Some (base +ℤ pos (code i)) = sym is ∙ value_at i here there in (here, there, cc))
              | inr none ↦ (let e : Some z ≡ None = sym is ∙ null_at i here none in absurd cc)
            ]
        | inr past ↦ (let e : Some z ≡ None = sym is ∙ get_or-eq_default cells None (omega (arith, past, length-plane_cells)) in absurd cc)
      ]

  module _ (ends : CodeEnds) (are : AreCodeEnds (has_in present) code rows ends) where
    pub no_values : ends.any ≡ false → known cells ≡ []
    no_values none =
        none_known cells (λ i.
        elim (bool_cases (is_some (get_or cells i None))) [ inl some ↦ (let at = by_some i some in let here = by_cell i at.0 at.1 in let no : false ≡ true = sym none ∙ (are.bounds i here.0 here.1).0 in absurd cc) | inr nothing ↦ nothing ])
      where
        by_some : (i : ℕ) → is_some (get_or cells i None) ≡ true → (z : ℤ) × (get_or cells i None ≡ Some z)
        by_some i some = of (get_or cells i None) refl some
          where
            of : (c : Option ℤ) → get_or cells i None ≡ c → is_some c ≡ true → (z : ℤ) × (get_or cells i None ≡ Some z)
            of None e h = absurd cc
            of (Some z) e h = (z, e)

    pub least_value : ends.any ≡ true → IsLeast (known cells) (base +ℤ pos ends.least)
    least_value any =
        let at = are.least any in
        record {
          reached = subst (λ c. Contains (known cells) (base +ℤ pos c)) at.3 (known_at cells at.0 (base +ℤ pos (code at.0)) (value_at at.0 at.1 at.2));
          bound = all_known (λ x. (base +ℤ pos ends.least) ≤ℤ x) cells (λ i x is. let here = by_cell i x is in let b = are.bounds i here.0 here.1 in omega (arith, ints, b.1, here.2));
        }

    pub greatest_value : ends.any ≡ true → IsGreatest (known cells) (base +ℤ pos ends.greatest)
    greatest_value any =
        let at = are.greatest any in
        record {
          reached = subst (λ c. Contains (known cells) (base +ℤ pos c)) at.3 (known_at cells at.0 (base +ℤ pos (code at.0)) (value_at at.0 at.1 at.2));
          bound = all_known (λ x. x ≤ℤ (base +ℤ pos ends.greatest)) cells (λ i x is. let here = by_cell i x is in let b = are.bounds i here.0 here.1 in omega (arith, ints, b.2, here.2));
        }

    -- cells are of a type where the least and the greatest are
    pub typed_between : (t : ColumnType) → IsOfType t (base +ℤ pos ends.least) → IsOfType t (base +ℤ pos ends.greatest) → All (IsNullOrOfType t) cells
    typed_between t low high = All-from_get_or (IsNullOrOfType t) cells None (λ i h. of i (get_or cells i None) refl)
      where
        between : (u : ColumnType) (x y z : ℤ) → IsOfType u x → IsOfType u z → x ≤ℤ y → y ≤ℤ z → IsOfType u y
        between Integer x y z a b l m = omega (arith, ints, a, b, l, m)
        between BigInt x y z a b l m = omega (arith, ints, a, b, l, m)

        of : (i : ℕ) (c : Option ℤ) → get_or cells i None ≡ c → IsNullOrOfType t (get_or cells i None)
        of i None e = rw e tt
        of i (Some z) e =
            let here = by_cell i z e in
            let b = are.bounds i here.0 here.1 in
            rw e (between t (base +ℤ pos ends.least) z (base +ℤ pos ends.greatest) low high (omega (arith, ints, b.1, here.2)) (omega (arith, ints, b.2, here.2)))

    pub typed_empty : (t : ColumnType) → ends.any ≡ false → All (IsNullOrOfType t) cells
    typed_empty t none = All-from_get_or (IsNullOrOfType t) cells None (λ i h. of i (get_or cells i None) refl)
      where
        of : (i : ℕ) (c : Option ℤ) → get_or cells i None ≡ c → IsNullOrOfType t (get_or cells i None)
        of i None e = rw e tt
        of i (Some z) e = let here = by_cell i z e in let no : false ≡ true = sym none ∙ (are.bounds i here.0 here.1).0 in absurd cc

    type_at : (t : ColumnType) → All (IsNullOrOfType t) cells → (i : ℕ) → i < rows → has_in present i ≡ true → IsOfType t (base +ℤ pos (code i))
    type_at t all i h there = subst (IsNullOrOfType t) (value_at i h there) (All-get_or (IsNullOrOfType t) cells i None (omega (arith, h, length-plane_cells)) all)

    pub least_typed : (t : ColumnType) → ends.any ≡ true → All (IsNullOrOfType t) cells → IsOfType t (base +ℤ pos ends.least)
    least_typed t any all = let at = are.least any in subst (λ c. IsOfType t (base +ℤ pos c)) at.3 (type_at t all at.0 at.1 at.2)

    pub greatest_typed : (t : ColumnType) → ends.any ≡ true → All (IsNullOrOfType t) cells → IsOfType t (base +ℤ pos ends.greatest)
    greatest_typed t any all = let at = are.greatest any in subst (λ c. IsOfType t (base +ℤ pos c)) at.3 (type_at t all at.0 at.1 at.2)

-- the ends that were found
pub inside : (a b : Option Ends) → found.OfType a ≡ found.OfType b → a ≡ b
inside a b e = cc

-- an integer of a type, as it is handed on
pub type_fits : (t : ColumnType) (x : ℤ) → IsOfType t x → FitsSigned w64 x
type_fits Integer x h = omega (arith, ints, h)
type_fits BigInt x h = h

pub handed_on : (t : ColumnType) (base x : ℤ) (c : ℕ) → FitsSigned w64 base → x ≡ to_z w64 (of_z w64 base) +ℤ pos c → IsOfType t x → to_z w64 (of_z w64 x) ≡ base +ℤ pos c
handed_on t base x c fits is type = to_z-of_z w64 x (type_fits t x type) ∙ is ∙ ap (λ z. z +ℤ pos c) (to_z-of_z w64 base fits)

pub handed_type : (t : ColumnType) (base x : ℤ) (c : ℕ) → FitsSigned w64 base → x ≡ to_z w64 (of_z w64 base) +ℤ pos c → IsOfType t x → IsOfType t (base +ℤ pos c)
handed_type t base x c fits is type = subst (IsOfType t) (is ∙ ap (λ z. z +ℤ pos c) (to_z-of_z w64 base fits)) type

pub handed_back : (t : ColumnType) (base : ℤ) (c : ℕ) → FitsSigned w64 base → IsOfType t (base +ℤ pos c) → IsOfType t (to_z w64 (of_z w64 base) +ℤ pos c)
handed_back t base c fits type = subst (λ z. IsOfType t (z +ℤ pos c)) (sym (to_z-of_z w64 base fits)) type
