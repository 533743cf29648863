-- The result of a part of a statement, by the tests that it makes.
use Rattle.std.specs.Prelude.{◌≡◌, ◌⊎◌, ◌==◌, ℕ, List, [], ◌∷◌, Option, Some, None, Result, MatchResult, length, nat_lt, not}
use Rattle.std.specs.List.{list_all, list_any}
use Rattle.bw_sql.specs.Tree.{ConditionTree}
use Rattle.bw_code.specs.Types.{are_of_types}
use Rattle.bw_model.specs.Refusals.{Tests, condition_misses, first_that_holds, is_missing, lists_too_long, types_named}
use Rattle.bw_model.specs.Store.{Header, Row, are_distinct}
use Rattle.bw_model.specs.declared.refusal.Refusal.{Refusal}
use Rattle.bw_model.specs.declared.refusal.Refusal.TheVariants as refusal

-- exactly the first test that holds; if none does, a value of which P is true
abbrev pub Decides : {T : Type 0} → Tests → Result T Refusal → (T → Type 0) → Type 0
Decides tests result P = MatchResult result (λ x. (first_that_holds tests ≡ None) × P x) (λ e. first_that_holds tests ≡ Some e)

-- the first test that holds; if none does, out of memory
abbrev pub MayRefuse : Tests → Refusal → Type 0
MayRefuse tests e = ((first_that_holds tests ≡ None) × (e ≡ refusal.OutOfMemory)) ⊎ (first_that_holds tests ≡ Some e)

-- as `Decides`, but making the value may run out of memory
abbrev pub Answers : {T : Type 0} → Tests → Result T Refusal → (T → Type 0) → Type 0
Answers tests result P = MatchResult result (λ x. (first_that_holds tests ≡ None) × P x) (MayRefuse tests)

abbrev pub condition_tests : List Header → Option ConditionTree → Tests
condition_tests headers condition = (refusal.NoSuchColumn, condition_misses headers condition) ∷ (refusal.OverLimit, lists_too_long condition) ∷ []

abbrev pub listed_tests : List Header → List (List ℕ) → Tests
listed_tests headers columns =
    (refusal.NoSuchColumn, list_any (is_missing headers) columns)
    ∷ (refusal.ColumnNamedTwice, not (are_distinct columns))
    ∷ []

-- the tests of rows to be added for these columns, given the room
abbrev pub value_tests : List Header → List (List ℕ) → ℕ → List Row → Tests
value_tests headers columns room rows =
    (refusal.WrongNumberOfValues, not (list_all (λ row. length row == length columns) rows))
    ∷ (refusal.OutOfRange, not (list_all (are_of_types (types_named headers columns)) rows))
    ∷ (refusal.TableFull, nat_lt room (length rows))
    ∷ []
