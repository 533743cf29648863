-- The outcome of an OPEN that finds a table in its file (this product's own).
use Rattle.std.specs.Prelude.{◌≡◌, ℕ, List, [], ◌∷◌, ◌++◌, length}
use Rattle.bw_model.specs.Store.{Table}
use Rattle.bw_model.specs.declared.reply.Reply.{Reply}
use Rattle.bw_model.specs.declared.reply.Reply.TheVariants.{Count}
use Rattle.bw_shell.specs.States.{Leaves, State, store_in}

-- the table was added under this name after the existing ones, and the reply has its number of rows
pub record Opens (before : State) (name : List ℕ) (table : Table) (reply : Reply) (after : State) : Type 0 where
  pub says : reply ≡ Count (length table.rows)
  pub adds : Leaves before (store_in before ++ (name, table) ∷ []) after
