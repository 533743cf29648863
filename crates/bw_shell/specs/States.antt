-- What a session holds between two statements: the stored tables, the folder's files if they are known, and the number of the
-- folder's failures.
use Rattle.std.specs.Prelude.{◌≡◌, ◌+◌, ℕ, List, Option, Some, None, IsSomeAnd}
use Rattle.bw_model.specs.Store.{Store}
use Rattle.bw_engine.specs.Stores.{Stored, store_of}
use Rattle.bw_shell.specs.Folders.{Files, IsSameBut, IsSet, file_of}

pub record State : Type 0 where
  pub tables : Stored
  pub files : Option Files
  pub failures : ℕ

-- the store of the model
abbrev pub store_in : State → Store
store_in state = store_of state.tables

-- a folder as contracts see it
pub record FolderState : Type 0 where
  pub files : Option Files
  pub failures : ℕ

abbrev pub seen : Option Files → ℕ → FolderState
seen files failures = record { files = files; failures = failures }

abbrev pub with_tables : Stored → FolderState → State
with_tables tables folder = record { tables = tables; files = folder.files; failures = folder.failures }

-- if the folder's files are known, they stay unchanged
abbrev pub KeepsFiles : Option Files → Option Files → Type 0
KeepsFiles None new = Unit {0}
KeepsFiles (Some old) new = new ≡ Some old

-- or one of them is created or replaced with these bytes
abbrev pub SetsFile : List ℕ → List ℕ → Option Files → Option Files → Type 0
SetsFile name bytes None new = Unit {0}
SetsFile name bytes (Some old) new = IsSomeAnd new (IsSet name bytes old)

-- or all but one stay unchanged
abbrev pub KeepsOthers : List ℕ → Option Files → Option Files → Type 0
KeepsOthers name None new = Unit {0}
KeepsOthers name (Some old) new = IsSomeAnd new (IsSameBut name old)

-- the file of this name, if the folder's files are known
abbrev pub HasFile : Option Files → List ℕ → Option (List ℕ) → Type 0
HasFile None name file = Unit {0}
HasFile (Some files) name file = file ≡ file_of files name

abbrev pub file_in : Option Files → List ℕ → Option (List ℕ)
file_in None name = None
file_in (Some files) name = file_of files name

-- the store is this one, and everything else stays
pub record Leaves (before : State) (store : Store) (after : State) : Type 0 where
  pub store_is : store_in after ≡ store
  pub files_stay : KeepsFiles before.files after.files
  pub failures_stay : after.failures ≡ before.failures

-- everything stays, including slots and encodings
pub record Stays (before after : State) : Type 0 where
  pub tables_stay : after.tables ≡ before.tables
  pub files_stay : KeepsFiles before.files after.files
  pub failures_stay : after.failures ≡ before.failures

-- the folder failed once more, and the tables stay
pub record Failed (before after : State) : Type 0 where
  pub tables_stay : after.tables ≡ before.tables
  pub one_more : after.failures ≡ before.failures + 1
