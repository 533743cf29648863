-- What the result of a call to a folder says about it: its number of failures, and its files if they are known (a finite map from
-- names to bytes).
use Rattle.std.specs.Prelude.{◌≡◌, ◌+◌, ◌<◌, ℕ, false, List, length, Option, None, Some, IsSomeAnd, Result, Ok, Err, MatchResult, if◌then◌else◌}
use Rattle.std.specs.Global.{Vec}
use Rattle.std.specs.Map.{lookup}
use Rattle.std.specs.Str.{bytes_eq}
use Rattle.bw_shell.specs.declared.folders.FolderFault.{FolderFault}
use Rattle.bw_shell.specs.declared.folders.FolderFault.TheVariants.{Missing, TooLarge, Failed, Memory}

-- only `Failed` counts as a failure
abbrev pub failures_after : {A : Type 0} → Result A FolderFault → ℕ → ℕ
failures_after (Err Failed) count = count + 1
failures_after _ count = count

-- names, each with its bytes
abbrev pub Files : Type 0
Files = List (List ℕ × List ℕ)

abbrev pub file_of : Files → List ℕ → Option (List ℕ)
file_of files name = lookup (bytes_eq name) files

-- why a file of at most this many bytes isn't read
abbrev pub IsReadFault : ℕ → Option (List ℕ) → FolderFault → Type 0
IsReadFault limit file Missing = file ≡ None
IsReadFault limit file TooLarge = IsSomeAnd file (λ bytes. limit < length bytes)
IsReadFault limit file Failed = Unit {0}
IsReadFault limit file Memory = Unit {0}

-- reading changes no file, and returns the file's bytes
abbrev pub Reads : ℕ → List ℕ → Option Files → Option Files → Result (Vec ℕ) FolderFault → Type 0
Reads limit name None new result = Unit {0}
Reads limit name (Some files) new result =
    (new ≡ Some files) × MatchResult result (λ bytes. file_of files name ≡ Some bytes.items) (IsReadFault limit (file_of files name))

-- these files, with this one created or replaced
abbrev pub IsSet : List ℕ → List ℕ → Files → Files → Type 0
IsSet name bytes old new = (other : List ℕ) → file_of new other ≡ (if bytes_eq name other then Some bytes else file_of old other)

-- these files, except this one
abbrev pub IsSameBut : List ℕ → Files → Files → Type 0
IsSameBut name old new = (other : List ℕ) → bytes_eq name other ≡ false → file_of new other ≡ file_of old other

abbrev pub IsWriteFault : FolderFault → Type 0
IsWriteFault Failed = Unit {0}
IsWriteFault Memory = Unit {0}
IsWriteFault _ = ⊥

-- writing creates or replaces this file, and changes no other
abbrev pub IsWritten : {A : Type 0} → List ℕ → List ℕ → Files → Result A FolderFault → Files → Type 0
IsWritten name bytes old (Ok _) new = IsSet name bytes old new
IsWritten name bytes old (Err Failed) new = IsSameBut name old new
IsWritten name bytes old (Err _) new = new ≡ old

abbrev pub Writes : {A : Type 0} → List ℕ → List ℕ → Option Files → Option Files → Result A FolderFault → Type 0
Writes name bytes None new result = Unit {0}
Writes name bytes (Some old) new result = IsSomeAnd new (IsWritten name bytes old result)
