-- The files that a statement names, each by the content of a text (SQL-92, <character string literal>).
use Rattle.std.specs.Prelude.{ℕ, List, [], ◌∷◌}
use Rattle.bw_sql.specs.Tree.{StatementTree, create_table, delete, drop_table, insert, list_tables, load, open_table, rebuild, save, select, stats, update}

abbrev pub files_named : StatementTree → List (List ℕ)
files_named (create_table name columns) = []
files_named (drop_table name) = []
files_named list_tables = []
files_named (insert name listed rows) = []
files_named (update name sets condition) = []
files_named (delete name condition) = []
files_named (rebuild name choices) = []
files_named (select asked) = []
files_named (stats asked) = []
files_named (load name file first) = file ∷ []
files_named (save name file) = file ∷ []
files_named (open_table name file) = file ∷ []
