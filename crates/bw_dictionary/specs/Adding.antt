-- One integer more among ascending entries.
use Rattle.std.specs.Prelude.{List, length, ℕ, ℤ, ◌≡◌, ◌≤◌}
use Rattle.std.specs.List.{insert}
use Rattle.bw_code.specs.Ascending.{IsAscending}

-- the integer is at this index, those before it and after it are the entries there were, and all ascend
pub record IsEntryAdded (entries : List ℤ) (x : ℤ) (all : List ℤ) (index : ℕ) : Type 0 where
  pub inside : index ≤ length entries
  pub are : all ≡ insert entries index x
  pub ascending : IsAscending all
