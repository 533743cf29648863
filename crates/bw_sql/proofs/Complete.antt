-- A statement that is in the grammar is read.
use Rattle.std.proofs.Common.{◌≡◌, ℕ, ◌<◌, List, [], length, Option, Some, refl, arith}
use Rattle.bw_sql.specs.declared.terminal.Terminal.{Terminal}
use Rattle.bw_sql.specs.Tree.{ConditionTree, SelectTree, StatementTree}
use Rattle.bw_sql.specs.Grammar.{Spells, creates, deletes, deletes_where, drops, inserts, inserts_into, lists_tables, loads, loads_with_header, opens, rebuilds, rebuilds_columns, saves, selects, asks_stats, GroupPart, SelectPart, WherePart, asks, group_by, no_condition, no_groups, where_condition, updates, updates_where}
use Rattle.bw_sql.specs.Reading.{choice_list_at, column_list_at, condition_at, create_at, delete_at, drop_at, filter_at, first_record_at, grouping_at, insert_at, load_at, name_at, open_at, rebuild_at, save_at, select_at, source_at, statement_at, stats_at, statement_word_at, text_at, update_at, whole_at, with_at, worded_at}
use Rattle.bw_sql.specs.declared.terminal.StatementWord.TheVariants.{Load, Rebuild, Save, Stats, Tables}
use Rattle.bw_sql.proofs.ChangesComplete.{choices_read, sets_read, sets_shorter}
use Rattle.bw_sql.proofs.ConditionsComplete.{condition_reads}
use Rattle.bw_sql.proofs.ItemsComplete.{items_read, items_shorter}
use Rattle.bw_sql.proofs.ListsComplete.{columns_read, names_read, names_shorter, rows_read}
use Rattle.bw_sql.proofs.WordLemmas.{first_record_of-header, statement_word_of-spelling}

-- nothing that may follow a condition goes on with it
filter_reads : {ts rest : List Terminal} {c : Option ConditionTree} {g : Option (List ℕ)} → WherePart ts c rest → GroupPart rest g [] → (n : ℕ) → length ts < n → filter_at n ts ≡ Some (c, rest)
unfolding filter_at condition_at
filter_reads no_condition no_groups n h = refl
filter_reads no_condition group_by n h = refl
filter_reads (where_condition d) no_groups n h = rw (condition_reads d refl refl refl n (omega arith)) refl
filter_reads (where_condition d) group_by n h = rw (condition_reads d refl refl refl n (omega arith)) refl

grouping_reads : {ts : List Terminal} {g : Option (List ℕ)} → GroupPart ts g [] → grouping_at ts ≡ Some (g, [])
unfolding grouping_at name_at
grouping_reads no_groups = refl
grouping_reads group_by = refl

-- what follows SELECT is read, with enough fuel
select_reads : {ts : List Terminal} {asked : SelectTree} → SelectPart ts asked → (n : ℕ) → length ts < n → select_at n ts ≡ Some (asked, [])
unfolding select_at name_at
select_reads (asks d e f) n h = rw (items_read d refl n (omega arith), filter_reads e f n (omega (arith, items_shorter d)), grouping_reads f) refl

-- a statement is read, with enough fuel
pub whole_reads : {ts : List Terminal} {tree : StatementTree} → Spells ts tree → (n : ℕ) → length ts < n → whole_at n ts ≡ Some tree
unfolding whole_at statement_at create_at drop_at insert_at update_at delete_at rebuild_at name_at column_list_at choice_list_at filter_at condition_at statement_word_at worded_at stats_at load_at save_at open_at source_at text_at first_record_at with_at
whole_reads (creates d) n h = rw (columns_read d n (omega arith)) refl
whole_reads drops n h = refl
whole_reads lists_tables n h = rw (statement_word_of-spelling Tables) refl
whole_reads (inserts d) n h = rw (rows_read d refl n (omega arith)) refl
whole_reads (inserts_into d ds) n h = rw (names_read d refl n (omega arith)) (rw (rows_read ds refl n (omega (arith, names_shorter d))) refl)
whole_reads (updates d) n h = rw (sets_read d refl n (omega arith)) refl
whole_reads (updates_where d e) n h = rw (sets_read d refl n (omega arith)) (rw (condition_reads e refl refl refl n (omega (arith, sets_shorter d))) refl)
whole_reads deletes n h = refl
whole_reads (deletes_where e) n h = rw (condition_reads e refl refl refl n (omega arith)) refl
whole_reads rebuilds n h = rw (statement_word_of-spelling Rebuild) refl
whole_reads (rebuilds_columns d) n h = rw (statement_word_of-spelling Rebuild) (rw (choices_read d n (omega arith)) refl)
whole_reads (selects d) n h = rw (select_reads d n (omega arith)) refl
whole_reads (asks_stats d) n h = rw (statement_word_of-spelling Stats) (rw (select_reads d n (omega arith)) refl)
whole_reads loads n h = rw (statement_word_of-spelling Load) refl
whole_reads loads_with_header n h = rw (statement_word_of-spelling Load) (rw first_record_of-header refl)
whole_reads saves n h = rw (statement_word_of-spelling Save) refl
whole_reads opens n h = refl
