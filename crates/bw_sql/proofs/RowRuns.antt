-- Loops that read the values of a row, and rows.
use Rattle.std.proofs.Common.{◌≡◌, ℕ, ℤ, ◌+◌, ◌<◌, List, [], ◌∷◌, ◌++◌, length, sum, Option, Some, None, refl, ap, ◌∙◌, append_assoc, length-append, arith}
use Rattle.bw_lex.specs.declared.fault.SqlFault.{SqlFault}
use Rattle.bw_sql.specs.declared.terminal.Terminal.{Terminal}
use Rattle.bw_sql.specs.Reading.{AppendsRow, Fails, after_comma, row_at, value_at, values_at}
use Rattle.bw_sql.specs.Rows.{rows_of}
use Rattle.bw_sql.proofs.RowLemmas.{rows_of-push, sum-push}
use Rattle.bw_sql.proofs.ListRuns.{Runs, done, fails_first, fails_next, first, next}

-- the values of a row that were read so far
pub record ValuesSoFar (old_items items : List (Option ℤ)) (width : ℕ) (old rest : List Terminal) : Type 0 where
  pub row : List (Option ℤ)
  pub appended : items ≡ old_items ++ row
  pub wide : width ≡ length row
  pub runs : Runs after_comma (λ _. value_at) old row rest

pub values_first : (old_items items : List (Option ℤ)) (v : Option ℤ) (old rest : List Terminal) → items ≡ old_items ++ v ∷ [] → length rest < length old → value_at old ≡ Some (v, rest) → ValuesSoFar old_items items 1 old rest
values_first old_items items v old rest e shorter reads = record {
  row = v ∷ [];
  appended = e;
  wide = refl;
  runs = first after_comma (λ _. value_at) old v rest shorter (λ _ _. reads);
}

pub values_next : (old_items items new_items : List (Option ℤ)) (width : ℕ) (v : Option ℤ) (old rest mid left : List Terminal) → ValuesSoFar old_items items width old rest → new_items ≡ items ++ v ∷ [] → after_comma rest ≡ Some mid → length mid < length rest → length left < length mid → value_at mid ≡ Some (v, left) → ValuesSoFar old_items new_items (width + 1) old left
values_next old_items items new_items width v old rest mid left so_far e goes less shorter reads = record {
  row = so_far.row ++ v ∷ [];
  appended = e ∙ ap (λ l. l ++ v ∷ []) so_far.appended ∙ append_assoc old_items so_far.row (v ∷ []);
  wide = omega (arith, so_far.wide, length-append so_far.row (v ∷ []));
  runs = next after_comma (λ _. value_at) old so_far.row rest so_far.runs mid v left goes less shorter (λ _ _. reads);
}

pub values_done : (old_items items : List (Option ℤ)) (width : ℕ) (old rest : List Terminal) → ValuesSoFar old_items items width old rest → after_comma rest ≡ None → AppendsRow old_items items width values_at old rest
unfolding values_at
values_done old_items items width old rest so_far stops = record {
  row = so_far.row;
  appended = so_far.appended;
  wide = so_far.wide;
  found = done after_comma (λ _. value_at) old so_far.row rest so_far.runs stops;
}

pub values_fail_first : (e : SqlFault) (old : List Terminal) → Fails e (value_at old) → (n : ℕ) → length old < n → Fails e (values_at n old)
unfolding values_at
values_fail_first e old fails n h = fails_first after_comma (λ _. value_at) e old (λ _ _. fails) n h

pub values_fail_next : (e : SqlFault) (old_items items : List (Option ℤ)) (width : ℕ) (old rest mid : List Terminal) → ValuesSoFar old_items items width old rest → after_comma rest ≡ Some mid → length mid < length rest → Fails e (value_at mid) → (n : ℕ) → length old < n → Fails e (values_at n old)
unfolding values_at
values_fail_next e old_items items width old rest mid so_far goes less fails n h =
    fails_next after_comma (λ _. value_at) e old so_far.row rest mid so_far.runs goes less (λ _ _. fails) n h

-- the rows that were read so far
pub record RowsSoFar (values : List (Option ℤ)) (widths : List ℕ) (old rest : List Terminal) : Type 0 where
  pub whole : sum widths ≡ length values
  pub runs : Runs after_comma row_at old (rows_of widths values) rest

pub rows_first : (values : List (Option ℤ)) (width : ℕ) (old rest : List Terminal) → AppendsRow [] values width row_at old rest → length rest < length old → RowsSoFar values (width ∷ []) old rest
rows_first values width old rest row shorter =
    let e : rows_of (width ∷ []) values ≡ row.row ∷ [] = rw (row.wide, row.appended) (rows_of-push [] [] row.row (length row.row) refl refl) in
    record {
      whole = omega (arith, sum-push [] width, row.wide, ap length row.appended);
      runs = rw e (first after_comma row_at old row.row rest shorter row.found);
    }

pub rows_next : (values new_values : List (Option ℤ)) (widths : List ℕ) (width : ℕ) (old rest mid left : List Terminal) → RowsSoFar values widths old rest → AppendsRow values new_values width row_at mid left → after_comma rest ≡ Some mid → length mid < length rest → length left < length mid → RowsSoFar new_values (widths ++ width ∷ []) old left
rows_next values new_values widths width old rest mid left so_far row goes less shorter =
    let e : rows_of (widths ++ width ∷ []) new_values ≡ rows_of widths values ++ row.row ∷ [] = rw row.appended (rows_of-push widths values row.row width so_far.whole row.wide) in
    record {
      whole = omega (arith, sum-push widths width, row.wide, ap length row.appended, length-append values row.row, so_far.whole);
      runs = rw e (next after_comma row_at old (rows_of widths values) rest so_far.runs mid row.row left goes less shorter row.found);
    }
