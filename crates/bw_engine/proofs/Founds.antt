-- Found rows, by their places and by the condition.
use Rattle.std.proofs.Common.{◌≡◌, ◌∙◌, ℕ, ◌+◌, ◌<◌, Bool, true, false, if◌then◌else◌, List, [], ◌∷◌, ◌++◌, append-nil, append_assoc, filter, get_or, length, map, take, zero, suc, refl, sym, ap, arith, Option, Some, None}
use Rattle.std.specs.Prelude.{option_map}
use Rattle.bw_mask.specs.Truth.{is_value}
use Rattle.bw_mask.specs.declared.truth_value.TruthValue.TheVariants.{True}
use Rattle.bw_sql.specs.Rows.{joined}
use Rattle.bw_sql.specs.Tree.{ConditionTree}
use Rattle.bw_model.specs.Condition.{is_found}
use Rattle.bw_model.specs.Store.{Header, Row}
use Rattle.bw_plan.specs.Plans.{Plan, planned}
use Rattle.bw_plan.proofs.PlanLaws.{keeps_truth}
use Rattle.bw_engine.specs.Found.{is_found_by, rows_where}

with_front : {A : Type 0} (b : Bool) (x : A) (l m : List A) → (if b then x ∷ (l ++ m) else l ++ m) ≡ (if b then x ∷ l else l) ++ m
with_front true x l m = refl
with_front false x l m = refl

pub take_none : {A : Type 0} (xs : List A) → take 0 xs ≡ []
take_none [] = refl
take_none (x ∷ xs) = refl

-- the rows up to a place, and the next
pub where-more : {A : Type 0} (test : ℕ → Bool) (rows : List A) (n : ℕ) (d : A) → n < length rows → rows_where test (take (suc n) rows) ≡ rows_where test (take n rows) ++ (if test n then get_or rows n d ∷ [] else [])
where-more test [] n d within = absurd (omega arith)
where-more test (x ∷ xs) zero d within = ap (λ l. rows_where test (x ∷ l)) (take_none xs)
where-more test (x ∷ xs) (suc n) d within =
    ap (λ l. if test 0 then x ∷ l else l) (where-more (λ i. test (suc i)) xs n d (omega (arith, within)))
    ∙ with_front (test 0) x (rows_where (λ i. test (suc i)) (take n xs)) (if test (suc n) then get_or xs n d ∷ [] else [])

-- the rows at places that pass are those that pass
pub where-filter : {A : Type 0} (test : ℕ → Bool) (p : A → Bool) (rows : List A) (d : A) → ((i : ℕ) → i < length rows → test i ≡ p (get_or rows i d)) → rows_where test rows ≡ filter p rows
where-filter test p [] d same = refl
where-filter test p (x ∷ xs) d same =
    ap (λ b. if b then x ∷ rows_where (λ i. test (suc i)) xs else rows_where (λ i. test (suc i)) xs) (same 0 (omega arith))
    ∙ ap (λ l. if p x then x ∷ l else l) (where-filter (λ i. test (suc i)) p xs d (λ i h. same (suc i) (omega (arith, h))))

-- what a condition's plan finds is what the condition finds
pub finds_by_plan : (headers : List Header) (condition : Option ConditionTree) (plan : Option Plan) → plan ≡ option_map (planned headers) condition → (row : Row) → is_found_by plan row ≡ is_found headers condition row
finds_by_plan headers None plan is row = ap (λ p. is_found_by p row) is
finds_by_plan headers (Some condition) plan is row = ap (λ p. is_found_by p row) is ∙ ap (λ t. is_value t True) (keeps_truth headers row condition)

joined-push : {A B : Type 0} (f : A → List B) (xs : List A) (x : A) → joined (map f (xs ++ x ∷ [])) ≡ joined (map f xs) ++ f x
joined-push f [] x = append-nil (f x)
joined-push f (y ∷ xs) x = ap (λ l. f y ++ l) (joined-push f xs x) ∙ sym (append_assoc (f y) (joined (map f xs)) (f x))

pub taken_next : {A B : Type 0} (f : A → List B) (test : ℕ → Bool) (rows : List A) (n : ℕ) (d : A) (cells new : List B) → cells ≡ joined (map f (rows_where test (take n rows))) → n < length rows → test n ≡ true → new ≡ cells ++ f (get_or rows n d) → new ≡ joined (map f (rows_where test (take (n + 1) rows)))
taken_next f test rows n d cells new so_far within passes e =
    let more : rows_where test (take (n + 1) rows) ≡ rows_where test (take n rows) ++ get_or rows n d ∷ [] =
    ap (λ m. rows_where test (take m rows)) (next n) ∙ where-more test rows n d within ∙ ap (λ b. rows_where test (take n rows) ++ (if b then get_or rows n d ∷ [] else [])) passes in
    e ∙ ap (λ l. l ++ f (get_or rows n d)) so_far ∙ sym (joined-push f (rows_where test (take n rows)) (get_or rows n d)) ∙ ap (λ l. joined (map f l)) (sym more)
  where
    next : (n : ℕ) → n + 1 ≡ suc n
    next n = omega arith

pub passed_next : {A B : Type 0} (f : A → List B) (test : ℕ → Bool) (rows : List A) (n : ℕ) (d : A) (cells : List B) → cells ≡ joined (map f (rows_where test (take n rows))) → n < length rows → test n ≡ false → cells ≡ joined (map f (rows_where test (take (n + 1) rows)))
passed_next f test rows n d cells so_far within fails =
    let more : rows_where test (take (n + 1) rows) ≡ rows_where test (take n rows) =
    ap (λ m. rows_where test (take m rows)) (next n) ∙ where-more test rows n d within ∙ ap (λ b. rows_where test (take n rows) ++ (if b then get_or rows n d ∷ [] else [])) fails ∙ append-nil (rows_where test (take n rows)) in
    so_far ∙ ap (λ l. joined (map f l)) (sym more)
  where
    next : (n : ℕ) → n + 1 ≡ suc n
    next n = omega arith
