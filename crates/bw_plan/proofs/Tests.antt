-- Tests in their order, and what a part of a statement answers by them.
use Rattle.std.proofs.Common.{◌≡◌, inl, inr, ℕ, ◌<◌, ◌==◌, Bool, true, false, ◌&&◌, List, [], ◌∷◌, ◌++◌, length, get_or, Option, None, Some, Result, Ok, Err, IsErrAnd, if◌then◌else◌, zero, suc, refl, sym, ap, subst, ◌∙◌, arith}
use Rattle.std.specs.List.{All, list_all}
use Rattle.std.proofs.lemmas.Bool.{eq-eqb, not-false, true≢false}
use Rattle.std.proofs.lemmas.List.Elements.{All-head, All-tail}
use Rattle.std.proofs.lemmas.List.Folds.{list_all-append}
use Rattle.bw_sql.specs.Rows.{joined}
use Rattle.bw_model.specs.Refusals.{Tests, first_that_holds}
use Rattle.bw_model.specs.Store.{Header, Row}
use Rattle.bw_model.specs.declared.refusal.Refusal.{Refusal}
pub use Rattle.bw_model.proofs.Passing.{first-append_none, first-append_some}
use Rattle.bw_model.proofs.Passing.{if_none, widths}
use Rattle.bw_plan.specs.Checks.{Answers, Decides, MayRefuse, value_tests}

pub first-append_both : (a b : Tests) → first_that_holds a ≡ None → first_that_holds b ≡ None → first_that_holds (a ++ b) ≡ None
first-append_both a b none also = first-append_none a b none ∙ also

-- where a front of the tests is decided
pub decides_left : (a b : Tests) (e : Refusal) → first_that_holds a ≡ Some e → MayRefuse (a ++ b) e
decides_left a b e first = inr (first-append_some a b e first)

pub decides_right : (a b : Tests) (e : Refusal) → first_that_holds a ≡ None → first_that_holds b ≡ Some e → MayRefuse (a ++ b) e
decides_right a b e none first = inr (first-append_none a b none ∙ first)

-- a refusal that is handed on
pub passed_on : {T : Type 0} (tests : Tests) (r : Result T Refusal) (P : T → Type 0) (x : Refusal) → MayRefuse tests x → IsErrAnd r (λ e. e ≡ x) → Answers tests r P
passed_on tests (Ok y) P x may h = absurd h
passed_on tests (Err e) P x may h = subst (MayRefuse tests) (sym h) may

pub decided_on : {T : Type 0} (tests : Tests) (r : Result T Refusal) (P : T → Type 0) (x : Refusal) → first_that_holds tests ≡ Some x → IsErrAnd r (λ e. e ≡ x) → Decides tests r P
decided_on tests (Ok y) P x first h = absurd h
decided_on tests (Err e) P x first h = subst (λ y. first_that_holds tests ≡ Some y) (sym h) first

-- the last tests decide where none of the others holds
pub decided_last : {T : Type 0} (a b c : Tests) (r : Result T Refusal) (P : T → Type 0) → first_that_holds a ≡ None → first_that_holds b ≡ None → Decides c r P → Decides (a ++ b ++ c) r P
decided_last a b c (Ok y) P none also last = (first-append_both (a ++ b) c (first-append_both a b none also) last.0, last.1)
decided_last a b c (Err e) P none also last = first-append_none (a ++ b) c (first-append_both a b none also) ∙ last

-- other tests of which the same one is first
pub answers_same : {T : Type 0} (a b : Tests) (r : Result T Refusal) (P Q : T → Type 0) → first_that_holds a ≡ first_that_holds b → ((x : T) → first_that_holds a ≡ None → P x → Q x) → Answers a r P → Answers b r Q
answers_same a b (Ok x) P Q same so h = (sym same ∙ h.0, so x h.0 h.1)
answers_same a b (Err e) P Q same so h = elim h [ inl p ↦ inl (sym same ∙ p.0, p.1) | inr p ↦ inr (sym same ∙ p) ]

-- what passes a test everywhere passes it at a place
pub list_all_at : {A : Type 0} (p : A → Bool) (xs : List A) (i : ℕ) (d : A) → i < length xs → list_all p xs ≡ true → p (get_or xs i d) ≡ true
list_all_at p [] i d within all = absurd (omega arith)
list_all_at p (x ∷ xs) zero d within all = front (p x) (list_all p xs) all
  where
    front : (b c : Bool) → (b && c) ≡ true → b ≡ true
    front true c e = refl
    front false c e = e
list_all_at p (x ∷ xs) (suc i) d within all = list_all_at p xs i d (omega arith) (back (p x) (list_all p xs) all)
  where
    back : (b c : Bool) → (b && c) ≡ true → c ≡ true
    back true c e = e
    back false c e = absurd (true≢false (sym e))

pub list_all-joined : {A : Type 0} (p : A → Bool) (rows : List (List A)) → list_all (list_all p) rows ≡ list_all p (joined rows)
list_all-joined p [] = refl
list_all-joined p (row ∷ rows) = ap (λ b. list_all p row && b) (list_all-joined p rows) ∙ sym (list_all-append p row (joined rows))

pub of_width : {A : Type 0} (w : ℕ) (rows : List (List A)) → All (λ row. length row ≡ w) rows → list_all (λ row. length row == w) rows ≡ true
of_width w [] all = refl
of_width w (row ∷ rows) all =
    ap (λ b. b && list_all (λ r. length r == w) rows) (eq-eqb (length row) w (All-head (λ r. length r ≡ w) row rows all))
    ∙ of_width w rows (All-tail (λ r. length r ≡ w) row rows all)

-- rows that the tests on values let pass
pub all_of_width : (headers : List Header) (columns : List (List ℕ)) (room : ℕ) (rows : List Row) → first_that_holds (value_tests headers columns room rows) ≡ None → All (λ row. length row ≡ length columns) rows
all_of_width headers columns room rows none = widths (length columns) rows (not-false _ (if_none _ _ _ none).0)

pub no_test : (b : Bool) (x : Refusal) (r : Option Refusal) → b ≡ false → (if b then Some x else r) ≡ r
no_test true x r e = absurd (true≢false e)
no_test false x r e = refl

pub this_test : (b : Bool) (x : Refusal) (r : Option Refusal) → b ≡ true → (if b then Some x else r) ≡ Some x
this_test true x r e = refl
this_test false x r e = absurd (true≢false (sym e))
