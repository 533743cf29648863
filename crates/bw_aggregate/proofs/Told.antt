-- What is told of values by their codes.
use Rattle.std.proofs.Common.{Bool, List, None, Option, Some, [], ap, arith, false, length, map, refl, subst, suc, sym, true, ℕ, ℤ, ◌<◌, ◌^◌, ◌≡◌, ◌≤◌, ◌∙◌, ◌∷◌}
use Rattle.std.specs.List.{items_where_true}
use Rattle.std.specs.Prelude.{All}
use Rattle.bw_code.specs.Encodings.{IsEncoding, width}
use Rattle.bw_code.specs.declared.encoding.Encoding.{Encoding}
use Rattle.bw_column.specs.Codes.{IsCoded, code_for}
use Rattle.bw_cells.specs.SetFunctions.{known}
use Rattle.bw_aggregate.specs.Descents.{BeginsAll}
use Rattle.bw_aggregate.proofs.Descents.{all_chosen}
use Rattle.bw_aggregate.proofs.KnownValues.{AreKnown, codes_low, count_known}
use Rattle.bw_aggregate.proofs.SortedValues.{codes_len}

-- the codes of some rows, all of so many bits
pub begins_all : (k : ℕ) (rows : List Bool) (codes : List ℕ) → All (λ c. c < 2 ^ k) codes → k ≤ 64 → BeginsAll k (items_where_true rows codes)
begins_all k rows codes below narrow = record { below = all_chosen k rows codes below; narrow = narrow }

-- without the nulls both have the same values
pub same_values : (keep rows : List Bool) (values : List (Option ℤ)) → length keep ≡ length values → length rows ≡ length values → AreKnown keep rows values
    → known (items_where_true keep values) ≡ known (items_where_true rows values)
same_values [] [] [] a b each = refl
same_values [] (m ∷ rows) [] a b each = absurd (omega (arith, b))
same_values (k ∷ keep) rows [] a b each = absurd (omega (arith, a))
same_values [] rows (v ∷ values) a b each = absurd (omega (arith, a))
same_values (k ∷ keep) [] (v ∷ values) a b each = absurd (omega (arith, b))
same_values (k ∷ keep) (true ∷ rows) (Some x ∷ values) a b each =
    let here : k ≡ true = each 0 in
    let rest = same_values keep rows values (omega (arith, a)) (omega (arith, b)) (λ r. each (suc r)) in
    rw here (ap (λ xs. x ∷ xs) rest)
same_values (k ∷ keep) (true ∷ rows) (None ∷ values) a b each =
    let here : k ≡ false = each 0 in
    rw here (same_values keep rows values (omega (arith, a)) (omega (arith, b)) (λ r. each (suc r)))
same_values (k ∷ keep) (false ∷ rows) (v ∷ values) a b each =
    let here : k ≡ false = each 0 in
    rw here (same_values keep rows values (omega (arith, a)) (omega (arith, b)) (λ r. each (suc r)))

-- so many codes as values
pub many_codes : (e : Encoding) → IsEncoding e → (keep rows : List Bool) (values : List (Option ℤ)) → length keep ≡ length values → length rows ≡ length values → AreKnown keep rows values → All (IsCoded e) values
    → length (items_where_true keep (map (code_for e) values)) ≡ length (known (items_where_true rows values))
many_codes e sound keep rows values a b each all = codes_len e sound keep rows values a b each all ∙ count_known keep rows values a b each

-- the codes of a column fit its width
pub fit_by : (e : Encoding) → IsEncoding e → (values : List (Option ℤ)) → All (IsCoded e) values → (bits : ℕ) → bits ≡ width e → All (λ code. code < 2 ^ bits) (map (code_for e) values)
fit_by e sound values all bits is = subst (λ k. All (λ code. code < 2 ^ k) (map (code_for e) values)) (sym is) (codes_low e sound values all)
