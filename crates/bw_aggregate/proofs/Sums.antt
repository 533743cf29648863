-- The sum of codes, one plane more.
use Rattle.std.proofs.Common.{None, Option, Some, map, pos, suc, take, subst, sym, w64, zero, zero-add, ℤ, ◌+ℤ◌, ◌*ℤ◌, Bool, List, [], ap, arith, false, length, refl, sum, true, ℕ, ◌*◌, ◌<◌, ◌^◌, ◌≡◌, ◌≤◌, ◌∙◌, ◌∷◌}
use Rattle.std.proofs.Math.Nat.{mul-le-mul}
use Rattle.std.proofs.lemmas.List.Sums.{sum_by-cons}
use Rattle.std.specs.Int.{w128}
use Rattle.std.specs.List.{items_where_true}
use Rattle.std.proofs.lemmas.Int.{fits_signed_from_abs, ints, to_z-of_z, unsigned_abs-mul}
use Rattle.std.proofs.Math.IntN.{*ℤ_comm, suc_ℤ-*ℤ, zero-*ℤ}
use Rattle.std.specs.Prelude.{All, FitsSigned, unsigned_abs}
use mir.Val.{of_z, to_z}
use Rattle.bw_code.specs.declared.encoding.Encoding.TheVariants as by
use Rattle.bw_code.specs.declared.offset.Offset.{Offset}
use Rattle.bw_code.proofs.Codes.{code_back}
use Rattle.bw_code.specs.Encodings.{IsEncoding}
use Rattle.bw_code.specs.declared.encoding.Encoding.{Encoding}
use Rattle.bw_column.specs.Codes.{IsCoded, code_for}
use Rattle.bw_cells.specs.SetFunctions
use Rattle.bw_cells.specs.SetFunctions.{known, total}
use Rattle.bw_aggregate.proofs.KnownValues.{AreCoded, coded_all}
use Rattle.bw_aggregate.specs.Chosen.{value_in}

-- none of the sums wraps
pub based-sum : (base : ℤ) (n codes : ℕ) → FitsSigned w64 base → n ≤ 2 ^ 24 → codes < 2 ^ 89
    → to_z w128 (of_z w128 (to_z w128 (of_z w128 (to_z w128 (of_z w128 base) *ℤ to_z w128 n)) +ℤ to_z w128 codes)) ≡ (pos n *ℤ base) +ℤ pos codes
based-sum base n codes fits few small =
    let first : to_z w128 (of_z w128 base) ≡ base = omega (arith, ints) in
    let second : to_z w128 n ≡ pos n = omega (arith, ints) in
    let third : to_z w128 codes ≡ pos codes = omega (arith, ints) in
    let abs : unsigned_abs base ≤ 2 ^ 63 = omega (arith, ints, fits) in
    let both : unsigned_abs base * n ≤ 2 ^ 63 * 2 ^ 24 = mul-le-mul abs few in
    let wide : unsigned_abs (base *ℤ pos n) ≤ 2 ^ 63 * 2 ^ 24 = omega (arith, unsigned_abs-mul base (pos n)) in
    let product : FitsSigned w128 (base *ℤ pos n) = fits_signed_from_abs w128 (base *ℤ pos n) (omega arith) in
    rw (first, second, third, to_z-of_z w128 (base *ℤ pos n) product, *ℤ_comm (pos n) base) (omega (arith, ints, wide))

-- ---- the values

pub sum_is : (values : List ℤ) → 0 < length values → SetFunctions.sum values ≡ Some (total values)
sum_is [] some = absurd (omega (arith, some))
sum_is (x ∷ xs) some = refl

-- so many bases as values, and the sum of the codes, that of a null being 0
pub total_offset : (o : Offset) (rows : List Bool) (values : List (Option ℤ)) → AreCoded (by.Offset o) values
    → total (known (items_where_true rows values)) ≡ (pos (length (known (items_where_true rows values))) *ℤ o.base) +ℤ pos (sum (items_where_true rows (map (code_for (by.Offset o)) values)))
total_offset o [] values coded = let none = zero-*ℤ o.base in rw none (omega (arith, ints))
total_offset o (b ∷ rows) [] coded = let none = zero-*ℤ o.base in rw none (omega (arith, ints))
total_offset o (true ∷ rows) (Some x ∷ values) coded =
    let rest = known (items_where_true rows values) in
    let code = code_for (by.Offset o) (Some x) in
    let codes = items_where_true rows (map (code_for (by.Offset o)) values) in
    let back : o.base +ℤ pos code ≡ x = code_back (by.Offset o) tt x code (coded 0 x refl) in
    let more : pos (suc (length rest)) *ℤ o.base ≡ (pos (length rest) *ℤ o.base) +ℤ o.base = suc_ℤ-*ℤ (pos (length rest)) o.base in
    ap (λ t. x +ℤ t) (total_offset o rows values (λ r. coded (suc r))) ∙ rw (more, sum_by-cons (λ c. c) code codes) (omega (arith, ints, back))
total_offset o (true ∷ rows) (None ∷ values) coded =
    let codes = items_where_true rows (map (code_for (by.Offset o)) values) in
    total_offset o rows values (λ r. coded (suc r)) ∙ rw (sum_by-cons (λ c. c) 0 codes, zero-add (sum codes)) refl
total_offset o (false ∷ rows) (v ∷ values) coded = total_offset o rows values (λ r. coded (suc r))

pub total_more : (rows : List Bool) (values : List (Option ℤ)) (r : ℕ) → r < length rows → r < length values
    → total (known (items_where_true (take (suc r) rows) (take (suc r) values))) ≡ total (known (items_where_true (take r rows) (take r values))) +ℤ value_in rows values r
total_more [] values r a b = absurd (omega (arith, a))
total_more (m ∷ rows) [] r a b = absurd (omega (arith, b))
total_more (true ∷ rows) (Some x ∷ values) zero a b = omega (arith, ints)
total_more (true ∷ rows) (None ∷ values) zero a b = omega (arith, ints)
total_more (false ∷ rows) (v ∷ values) zero a b = omega (arith, ints)
total_more (true ∷ rows) (Some x ∷ values) (suc r) a b =
    let rest = total_more rows values r (omega (arith, a)) (omega (arith, b)) in
    ap (λ t. x +ℤ t) rest ∙ omega (arith, ints)
total_more (true ∷ rows) (None ∷ values) (suc r) a b = total_more rows values r (omega (arith, a)) (omega (arith, b))
total_more (false ∷ rows) (v ∷ values) (suc r) a b = total_more rows values r (omega (arith, a)) (omega (arith, b))

-- the sum of values that have codes by an offset
pub sum_offset : (e : Encoding) (o : Offset) → by.Offset o ≡ e → (rows : List Bool) (values : List (Option ℤ)) → All (IsCoded e) values → (count codes : ℕ)
    → count ≡ length (known (items_where_true rows values)) → 0 < count → codes ≡ sum (items_where_true rows (map (code_for e) values))
    → Some ((pos count *ℤ o.base) +ℤ pos codes) ≡ SetFunctions.sum (known (items_where_true rows values))
sum_offset e o is rows values all count codes many some sums =
    let coded = subst (λ (d : Encoding). AreCoded d values) (sym is) (coded_all e (subst IsEncoding is tt) values all) in
    let here : codes ≡ sum (items_where_true rows (map (code_for (by.Offset o)) values)) = sums ∙ ap (λ (d : Encoding). sum (items_where_true rows (map (code_for d) values))) (sym is) in
    rw (many, here) (ap Some (sym (total_offset o rows values coded)) ∙ sym (sum_is (known (items_where_true rows values)) (omega (arith, many, some))))
