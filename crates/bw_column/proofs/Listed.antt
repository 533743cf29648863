-- One entry of a list after the other.
use Rattle.std.proofs.Common.{Bool, List, None, Option, Some, ap, arith, drop, drop-cons, false, get_or, length, not, pos, refl, suc, sym, take, true, ℕ, ℤ, ◌&&◌, ◌+◌, ◌<◌, ◌||◌, ◌∷◌, ◌≡◌, ◌∙◌}
use Rattle.std.specs.List.{list_any}
use Rattle.std.specs.Ordering.{int_eq}
use Rattle.std.proofs.lemmas.List.Folds.{list_any_more}
use Rattle.bw_code.specs.Encodings.{test_of}
use Rattle.bw_code.specs.Meters.{raised}
use Rattle.bw_code.specs.declared.compare.CmpOp.TheVariants.{Eq}
use Rattle.bw_column.specs.Columns.{ColumnView}
use Rattle.bw_column.specs.Comparisons.{holds_of}
use Rattle.bw_column.specs.Costs.{units_of_entries, units_of_test}
use Rattle.bw_column.specs.Values.{value_at}

abbrev pub among : List ℤ → Option ℤ → Bool
among entries value = holds_of (λ x. list_any (λ entry. int_eq x entry) entries) value

neither : (b a p : Bool) → ((b && not a) && not p) ≡ (b && not (a || p))
neither true true p = refl
neither true false p = refl
neither false a p = refl

pub entry_rows : (entries : List ℤ) (k : ℕ) (b : Bool) (value : Option ℤ) → k < length entries → ((b && not (among (take k entries) value)) && not (holds_of (λ x. int_eq x (get_or entries k (pos 0))) value)) ≡ (b && not (among (take (k + 1) entries) value))
entry_rows entries k true None h = refl
entry_rows entries k false None h = refl
entry_rows entries k b (Some x) h =
    let p : ℤ → Bool = λ entry. int_eq x entry in
    neither b (list_any p (take k entries)) (p (get_or entries k (pos 0))) ∙ ap (λ a. b && not a) (sym (list_any_more p entries k (pos 0) h))

raised_twice : (m a b : ℕ) → raised (raised m a) b ≡ raised m (a + b)
raised_twice m a b = omega arith

pub entry_units : (column : ColumnView) (needed next : ℕ → Bool) (entries : List ℤ) (k cost : ℕ) → k < length entries
    → ((i : ℕ) → next i ≡ (needed i && not (holds_of (λ x. int_eq x (get_or entries k (pos 0))) (value_at column.values i))))
    → raised (raised cost (units_of_test column (test_of column.encoding Eq (get_or entries k (pos 0))) needed)) (units_of_entries column next (drop (k + 1) entries)) ≡ raised cost (units_of_entries column needed (drop k entries))
entry_units column needed next entries k cost h same =
    let entry = get_or entries k (pos 0) in
    let rows : next ≡ (λ i. needed i && not (holds_of (λ x. int_eq x entry) (value_at column.values i))) = λ t i. same i t in
    raised_twice cost (units_of_test column (test_of column.encoding Eq entry) needed) (units_of_entries column next (drop (k + 1) entries))
    ∙ ap (λ (f : ℕ → Bool). raised cost (units_of_test column (test_of column.encoding Eq entry) needed + units_of_entries column f (drop (k + 1) entries))) rows
    ∙ ap (λ (xs : List ℤ). raised cost (units_of_entries column needed xs)) (sym (drop_one entries k (pos 0) h))
  where
    drop_one : (xs : List ℤ) (n : ℕ) (d : ℤ) → n < length xs → drop n xs ≡ get_or xs n d ∷ drop (n + 1) xs
    drop_one xs n d l = let next : suc n ≡ n + 1 = omega arith in drop-cons xs n d l ∙ ap (λ m. get_or xs n d ∷ drop m xs) next
