-- BETWEEN and IN as what they stand for, and NULL in a list.
use Rattle.std.proofs.Common.{◌≡◌, ◌∙◌, Bool, true, false, if◌then◌else◌, List, [], ◌∷◌, Some, None, filter, is_none, map, refl, sym, ap}
use Rattle.std.specs.List.{list_any}
use Rattle.bw_mask.specs.Truth.{and_of, is_value, not_of, or_of}
use Rattle.bw_mask.specs.declared.truth_value.TruthValue.{TruthValue}
use Rattle.bw_mask.specs.declared.truth_value.TruthValue.TheVariants.{True, False, Unknown}
use Rattle.bw_mask.proofs.Tables.{and_of_True}
use Rattle.bw_model.specs.Condition.{compared, found_rows, is_found, is_one_of, truth_at, value_of}
use Rattle.bw_model.specs.Store.{Header, Row, Table, Value}
use Rattle.bw_lex.specs.declared.token.CompareOp.TheVariants.{Eq, Ge, Le}
use Rattle.bw_sql.specs.declared.tree.Operand.{Operand}
use Rattle.bw_sql.specs.declared.tree.Operand.TheVariants.{Constant}
use Rattle.bw_sql.specs.Tree.{among, between, comparison, each_of, more, negated, none, some_of, trees_of}

pub two_comparisons : (headers : List Header) (row : Row) (x low high : Operand) → truth_at headers row (between x low high) ≡ truth_at headers row (each_of (more (comparison x Ge low) (more (comparison x Le high) none)))
two_comparisons headers row x low high =
    let v = value_of headers row x in
    ap (and_of (compared Ge v (value_of headers row low))) (sym (and_of_True (compared Le v (value_of headers row high))))

pub run_of_or : (headers : List Header) (row : Row) (x : Operand) (entries : List Value) → truth_at headers row (among x entries) ≡ truth_at headers row (some_of (trees_of (map (λ entry. comparison x Eq (Constant entry)) entries)))
run_of_or headers row x [] = refl
run_of_or headers row x (entry ∷ entries) = ap (or_of (compared Eq (value_of headers row x) entry)) (run_of_or headers row x entries)

-- a comparison with null is unknown
with_null : (x : Value) → compared Eq x None ≡ Unknown
with_null None = refl
with_null (Some n) = refl

or_unknown : (t u : TruthValue) → is_value u False ≡ false → is_value (or_of t u) False ≡ false
or_unknown True u h = refl
or_unknown False u h = h
or_unknown Unknown True h = refl
or_unknown Unknown False h = refl
or_unknown Unknown Unknown h = refl

unknown_first : (t : TruthValue) → is_value (or_of Unknown t) False ≡ false
unknown_first True = refl
unknown_first False = refl
unknown_first Unknown = refl

-- with null among the entries, no value is in none of them
not_false : (x : Value) (entries : List Value) → list_any is_none entries ≡ true → is_value (is_one_of x entries) False ≡ false
not_false x [] h = cc
not_false x (None ∷ entries) h = ap (λ t. is_value (or_of t (is_one_of x entries)) False) (with_null x) ∙ unknown_first (is_one_of x entries)
not_false x (Some n ∷ entries) h = or_unknown (compared Eq x (Some n)) (is_one_of x entries) (not_false x entries h)

not_true : (t : TruthValue) → is_value t False ≡ false → is_value (not_of t) True ≡ false
not_true True h = refl
not_true False h = h
not_true Unknown h = refl

none_pass : {A : Type 0} (p : A → Bool) (xs : List A) → ((x : A) → p x ≡ false) → filter p xs ≡ []
none_pass p [] h = refl
none_pass p (x ∷ xs) h = ap (λ b. if b then x ∷ filter p xs else filter p xs) (h x) ∙ none_pass p xs h

pub nothing_found : (table : Table) (x : Operand) (entries : List Value) → list_any is_none entries ≡ true → found_rows table (Some (negated (among x entries))) ≡ []
nothing_found table x entries h =
    none_pass (is_found table.headers (Some (negated (among x entries)))) table.rows
    (λ row. not_true (is_one_of (value_of table.headers row x) entries) (not_false (value_of table.headers row x) entries h))
