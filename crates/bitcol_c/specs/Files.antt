-- The results of the calls from C that write or read a file.
use Rattle.std.specs.Prelude.{◌≡◌, ◌⊎◌, ◌≤◌, ◌<◌, ℕ, IsUtf8, List, ◌++◌, length, drop, Option, Some, None}
use Rattle.bw_shell.specs.Folders.{Files, IsSet, file_of}

-- the file was created or replaced; or memory ran out; or the name isn't UTF-8
abbrev pub PutsFile : (name bytes : List ℕ) → Files → ℕ → Files → Type 0
PutsFile name bytes old status new =
    (IsUtf8 name × (status ≡ 0) × IsSet name bytes old new)
    ⊎ (IsUtf8 name × (status ≡ 90) × (new ≡ old))
    ⊎ (¬ (IsUtf8 name) × (status ≡ 10) × (new ≡ old))

-- a buffer for bytes, and the number that was written for their length
pub record Place : Type 0 where
  pub bytes : List ℕ
  pub said : ℕ

abbrev pub place : List ℕ → ℕ → Place
place bytes said = record { bytes = bytes; said = said }

-- The file's bytes were written to the start of the buffer, and their number was written; or the buffer is too small, and only
-- the number was written; or there is no such file, and nothing was written.
abbrev pub Gives : Option (List ℕ) → Place → ℕ → Place → Type 0
Gives (Some file) old status new =
    ((length file ≤ length old.bytes) × (status ≡ 0) × (new.bytes ≡ file ++ drop (length file) old.bytes) × (new.said ≡ length file))
    ⊎ ((length old.bytes < length file) × (status ≡ 46) × (new.bytes ≡ old.bytes) × (new.said ≡ length file))
Gives None old status new = (status ≡ 40) × (new.bytes ≡ old.bytes) × (new.said ≡ old.said)

-- the same by the file's name; or the name isn't UTF-8, and nothing was written
abbrev pub GivesFile : Files → (name : List ℕ) → Place → ℕ → Place → Type 0
GivesFile files name old status new =
    (IsUtf8 name × Gives (file_of files name) old status new)
    ⊎ (¬ (IsUtf8 name) × (status ≡ 10) × (new.bytes ≡ old.bytes) × (new.said ≡ old.said))
