-- The tests of an INSERT, by the room that the table has.
use Rattle.std.proofs.Common.{◌≡◌, ℕ, ◌+◌, ◌≤◌, None, ◌==◌, ◌++◌, ◌∷◌, [], List, ap, arith, length, nat_lt, not, subst}
use Rattle.std.specs.List.{list_all}
use Rattle.std.proofs.lemmas.Bool.{ltb-false}
use Rattle.std.proofs.lemmas.Bool.Decides.{nat_tests}
use Rattle.bw_code.specs.Types.{are_of_types}
use Rattle.bw_model.specs.Refusals.{Tests, first_that_holds, insert_tests, types_named}
use Rattle.bw_model.specs.Store.{Row, Table, row_limit}
use Rattle.bw_model.specs.declared.refusal.Refusal.{Refusal}
use Rattle.bw_model.specs.declared.refusal.Refusal.TheVariants.{OutOfRange, TableFull, WrongNumberOfValues}
use Rattle.bw_model.proofs.Passing.{none_holds}
use Rattle.bw_plan.specs.Checks.{MayRefuse, listed_tests, value_tests}

same_room : (limit room count rows : ℕ) → room + count ≡ limit → nat_lt room rows ≡ nat_lt limit (count + rows)
same_room limit room count rows whole = grind (arith, nat_tests, whole)

pub added_tests : (targets : List (List ℕ)) (rows : List Row) (table : Table) (room : ℕ) → room + length table.rows ≡ row_limit → listed_tests table.headers targets ++ value_tests table.headers targets room rows ≡ insert_tests targets rows table
added_tests targets rows table room whole =
    ap (λ full. listed_tests table.headers targets ++ (WrongNumberOfValues, not (list_all (λ row. length row == length targets) rows)) ∷ (OutOfRange, not (list_all (are_of_types (types_named table.headers targets)) rows)) ∷ (TableFull, full) ∷ [])
    (same_room row_limit room (length table.rows) (length rows) whole)

-- what the tests let pass has room
pub room_left : (targets : List (List ℕ)) (rows : List Row) (table : Table) → first_that_holds (insert_tests targets rows table) ≡ None → length table.rows + length rows ≤ row_limit
room_left targets rows table none =
    let p = none_holds (insert_tests targets rows table) none in
    let few = ltb-false row_limit (length table.rows + length rows) p.1.1.1.1.0 in omega (arith, few)

pub may_same : (a b : Tests) (refusal : Refusal) → a ≡ b → MayRefuse a refusal → MayRefuse b refusal
may_same a b refusal same may = subst (λ tests. MayRefuse tests refusal) same may
