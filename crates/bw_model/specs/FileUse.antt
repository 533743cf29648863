-- Which file a statement reads or writes (this product's own).
use Rattle.std.specs.Prelude.{ℕ, List, Option, Some, None}
use Rattle.bw_sql.specs.Tree.{StatementTree, load, open_table, save}
use Rattle.bw_model.specs.Refusals.{refused_early}
use Rattle.bw_model.specs.Store.{Store}
use Rattle.bw_model.specs.declared.refusal.Refusal.{Refusal}

pub data FileUse : Type 0 where
  no_file : FileUse
  reads : List ℕ → FileUse
  writes : List ℕ → FileUse

abbrev pub use_in : StatementTree → FileUse
use_in (load name file first) = reads file
use_in (open_table name file) = reads file
use_in (save name file) = writes file
use_in _ = no_file

-- a statement that is refused touches no file
abbrev pub unless_refused : Option Refusal → FileUse → FileUse
unless_refused None named = named
unless_refused (Some refusal) named = no_file

abbrev pub file_use : Store → StatementTree → FileUse
file_use store statement = unless_refused (refused_early store statement) (use_in statement)

-- the file that is read
abbrev pub file_read : FileUse → Option (List ℕ)
file_read (reads file) = Some file
file_read _ = None
