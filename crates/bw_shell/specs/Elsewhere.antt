-- Which parts of a script don't write a file (this product's own).
use Rattle.std.specs.Prelude.{ℕ, List}
use Rattle.bw_lex.specs.declared.script.Part.{Part}
use Rattle.bw_sql.specs.Statements.{Says}
use Rattle.bw_sql.specs.Tree.{save}
use Rattle.bw_shell.specs.Run.{text_of}

-- the part is no statement that saves a table to this file
abbrev pub IsNoSaveTo : List ℕ → List ℕ → Part → Type 0
IsNoSaveTo file script part = (name : List ℕ) → Says (text_of script part) (save name file) → ⊥
