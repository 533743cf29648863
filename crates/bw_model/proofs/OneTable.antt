-- Bytes hold one table, and a file says one thing to a statement.
use Rattle.std.proofs.Common.{◌≡◌, ◌∙◌, ℕ, ◌<◌, Bool, true, false, nat_lt, List, [], ◌∷◌, drop, get_or, length, map, Option, None, Some, refl, sym, ap, subst, arith}
use Rattle.std.specs.Bool.{MatchBool}
use Rattle.std.specs.List.{All, range_with_len}
use Rattle.std.proofs.lemmas.List.{ext_get_or}
use Rattle.std.proofs.lemmas.List.Elements.{All-head, All-tail}
use Rattle.std.proofs.lemmas.List.FromFn.{get_or-map-range_with_len}
use Rattle.bw_file.proofs.Fronts.{one-table}
use Rattle.bw_file.specs.declared.version.Version.{Version}
use Rattle.bw_sql.specs.Tree.{StatementTree, create_table, delete, drop_table, insert, list_tables, load, open_table, rebuild, save, select, stats, update}
use Rattle.bw_model.specs.Contents.{IsReadAs, IsSaid, IsTableIn}
use Rattle.bw_model.specs.Filing.{Holds, HoldsBy, column_of, file_limit, filed}
use Rattle.bw_model.specs.Store.{Row, Store, Table, Value, value_at}
use Rattle.bw_model.specs.declared.content.Content.{Content}
use Rattle.bw_model.specs.declared.content.Content.TheVariants as content
use Rattle.bw_model.proofs.Said.{value_there}

-- rows of one width are told by their columns

abbrev first_or : List Value → Value → Value
first_or [] other = other
first_or (value ∷ values) other = value

module _ (width : ℕ) where
  same_row : (row other : Row) → length row ≡ width → length other ≡ width → ((k : ℕ) → k < width → value_at row k ≡ value_at other k) → row ≡ other
  same_row row other full wide same =
      ext_get_or None row other (omega arith)
      (λ k within. sym (value_there row k None within) ∙ same k (omega arith) ∙ value_there other k None (omega arith))

  same_rows : (rows others : List Row) → length rows ≡ length others → All (λ row. length row ≡ width) rows → All (λ row. length row ≡ width) others
      → ((k : ℕ) → k < width → column_of rows k ≡ column_of others k) → rows ≡ others
  same_rows [] [] count full wide same = refl
  same_rows [] (other ∷ others) count full wide same = absurd (omega arith)
  same_rows (row ∷ rows) [] count full wide same = absurd (omega arith)
  same_rows (row ∷ rows) (other ∷ others) count full wide same =
      let first = same_row row other (All-head (λ r. length r ≡ width) row rows full) (All-head (λ r. length r ≡ width) other others wide) (λ k within. ap (λ column. first_or column None) (same k within)) in
      let more = same_rows rows others (omega arith) (All-tail (λ r. length r ≡ width) row rows full) (All-tail (λ r. length r ≡ width) other others wide) (λ k within. ap (drop 1) (same k within)) in
      (λ j. first j ∷ more j)

-- a column among all of them
column_among : (rows : List Row) (width k : ℕ) → k < width → get_or (map (column_of rows) (range_with_len 0 width)) k [] ≡ column_of rows k
column_among rows width k within = get_or-map-range_with_len (column_of rows) 0 width k k [] within (omega arith)

same_columns : (rows others : List Row) (width breadth : ℕ) → width ≡ breadth → map (column_of rows) (range_with_len 0 width) ≡ map (column_of others) (range_with_len 0 breadth)
    → (k : ℕ) → k < width → column_of rows k ≡ column_of others k
same_columns rows others width breadth equal same k within =
    sym (column_among rows width k within) ∙ ap (λ columns. get_or columns k []) same ∙ column_among others breadth k (omega arith)

same_table : (table other : Table) → table.headers ≡ other.headers → table.rows ≡ other.rows → table ≡ other
same_table table other headers rows = λ j. record { headers = headers j; rows = rows j }

pub one_held : (bytes : List ℕ) (table other : Table) → Holds bytes table → Holds bytes other → table ≡ other
one_held bytes table other holds held =
    let same = one-table bytes (filed table) (filed other) holds.spells held.spells in
    let headers : table.headers ≡ other.headers = ap (λ t. t.headers) same in
    let wide : All (λ row. length row ≡ length table.headers) other.rows = subst (λ list. All (λ row. length row ≡ length list) other.rows) (sym headers) held.wide in
    same_table table other headers
    (same_rows (length table.headers) table.rows other.rows (ap (λ t. t.rows) same) holds.wide wide
    (same_columns table.rows other.rows (length table.headers) (length other.headers) (ap length headers) (ap (λ t. t.columns) same)))

pub one_file : (version : Version) (bytes others : List ℕ) (table : Table) → HoldsBy version bytes table → HoldsBy version others table → bytes ≡ others
one_file version bytes others table holds held = holds.spells.bytes_are ∙ sym held.spells.bytes_are

-- what a file says

one_table_said : (bytes : List ℕ) (said other : Content) → IsTableIn bytes said → IsTableIn bytes other → said ≡ other
one_table_said bytes (content.Held table) (content.Held another) is are = ap content.Held (one_held bytes table another is are)
one_table_said bytes (content.Held table) content.NotTable is are = absurd (are table is)
one_table_said bytes (content.Held table) content.Nothing is are = absurd are
one_table_said bytes (content.Held table) (content.Counted units) is are = absurd are
one_table_said bytes (content.Held table) content.Missing is are = absurd are
one_table_said bytes (content.Held table) content.TooLarge is are = absurd are
one_table_said bytes (content.Held table) (content.Lines rows) is are = absurd are
one_table_said bytes (content.Held table) (content.Fault e) is are = absurd are
one_table_said bytes content.NotTable (content.Held another) is are = absurd (is another are)
one_table_said bytes content.NotTable content.NotTable is are = refl
one_table_said bytes content.NotTable content.Nothing is are = absurd are
one_table_said bytes content.NotTable (content.Counted units) is are = absurd are
one_table_said bytes content.NotTable content.Missing is are = absurd are
one_table_said bytes content.NotTable content.TooLarge is are = absurd are
one_table_said bytes content.NotTable (content.Lines rows) is are = absurd are
one_table_said bytes content.NotTable (content.Fault e) is are = absurd are
one_table_said bytes content.Nothing other is are = absurd is
one_table_said bytes (content.Counted units) other is are = absurd is
one_table_said bytes content.Missing other is are = absurd is
one_table_said bytes content.TooLarge other is are = absurd is
one_table_said bytes (content.Lines rows) other is are = absurd is
one_table_said bytes (content.Fault e) other is are = absurd is

one_reading : (store : Store) (statement : StatementTree) (bytes : List ℕ) (said other : Content) → IsReadAs store statement bytes said → IsReadAs store statement bytes other → said ≡ other
one_reading store (create_table name columns) bytes said other is are = is ∙ sym are
one_reading store (drop_table name) bytes said other is are = is ∙ sym are
one_reading store list_tables bytes said other is are = is ∙ sym are
one_reading store (insert name listed rows) bytes said other is are = is ∙ sym are
one_reading store (update name sets condition) bytes said other is are = is ∙ sym are
one_reading store (delete name condition) bytes said other is are = is ∙ sym are
one_reading store (rebuild name choices) bytes said other is are = is ∙ sym are
one_reading store (select query) bytes said other is are = is ∙ sym are
one_reading store (stats query) bytes said other is are = is ∙ sym are
one_reading store (load name file first) bytes said other is are = is ∙ sym are
one_reading store (save name file) bytes said other is are = is ∙ sym are
one_reading store (open_table name file) bytes said other is are = one_table_said bytes said other is are

pub one_said : (store : Store) (statement : StatementTree) (file : Option (List ℕ)) (said other : Content) → IsSaid store statement file said → IsSaid store statement file other → said ≡ other
one_said store statement None said other is are = is ∙ sym are
one_said store statement (Some bytes) said other is are = by (nat_lt file_limit (length bytes)) is are
  where
    by : (b : Bool) → MatchBool b (said ≡ content.TooLarge) (IsReadAs store statement bytes said) → MatchBool b (other ≡ content.TooLarge) (IsReadAs store statement bytes other) → said ≡ other
    by true large larger = large ∙ sym larger
    by false read reading = one_reading store statement bytes said other read reading
