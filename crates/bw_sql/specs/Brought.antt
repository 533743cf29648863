-- Names that a statement brings into a store (SQL-92, table definition).
use Rattle.std.specs.Prelude.{ℕ, List, [], ◌∷◌, map}
use Rattle.bw_sql.specs.Tree.{StatementTree, create_table, delete, drop_table, insert, list_tables, load, open_table, rebuild, save, select, stats, update}

-- the names of a new table and of its columns; for a table that comes from a file, the table's name alone
abbrev pub names_brought : StatementTree → List (List ℕ)
names_brought (create_table name columns) = name ∷ map (λ c. c.name) columns
names_brought (drop_table name) = []
names_brought list_tables = []
names_brought (insert name listed rows) = []
names_brought (update name sets condition) = []
names_brought (delete name condition) = []
names_brought (rebuild name choices) = []
names_brought (select asked) = []
names_brought (stats asked) = []
names_brought (load name file first) = []
names_brought (save name file) = []
names_brought (open_table name file) = name ∷ []
