-- What a script is, given the reader's bytes.
use Rattle.std.specs.Prelude.{◌≡◌, ◌≢◌, ◌⊎◌, ◌<◌, ◌≤◌, ◌^◌, ℕ, List, [], ◌∷◌, ◌++◌, length, take, Option, IfSome}
use Rattle.std.specs.Io.KnownBytes.{Consumes, Keeps}
use Rattle.bw_shell.specs.declared.reading.Next.{Next}
use Rattle.bw_shell.specs.declared.reading.Next.TheVariants.{Piece, End}
use Rattle.bw_shell.specs.declared.reading.ScriptEnd.{ScriptEnd}
use Rattle.bw_shell.specs.declared.reading.ScriptEnd.TheVariants.{Reached, Fault}

abbrev pub longest_script : ℕ
longest_script = 2 ^ 30

abbrev pub IsPrefixOf : List ℕ → List ℕ → Type 0
IsPrefixOf prefix bytes = (rest : List ℕ) × (bytes ≡ prefix ++ rest)

-- the reader gave exactly these bytes, and then failed; or they have the largest length, and the script has more
abbrev pub IsBrokenOff : Option (List ℕ) → Option (List ℕ) → List ℕ → Type 0
IsBrokenOff given left script =
    Consumes given left script ⊎ ((length script ≡ longest_script) × IfSome given (λ bytes. (more : List ℕ) × (more ≢ []) × (bytes ≡ script ++ more)))

-- all of the bytes that the reader had, or those before it failed or the script was too long
abbrev pub IsRead : Option (List ℕ) → Option (List ℕ) → List ℕ → ScriptEnd → Type 0
IsRead given left script Reached = IfSome given (λ bytes. script ≡ bytes)
IsRead given left script Fault = IsBrokenOff given left script

-- The next bytes of a script, at most this many, at the start of a buffer; or its end, if the reader has none; or the reader
-- failed and gave nothing, or none may follow and it gave one.
abbrev pub GivesNext : Option (List ℕ) → Option (List ℕ) → ℕ → List ℕ → Next → Type 0
GivesNext given left room buffer (Piece n) = (0 < n) × (n ≤ room) × (n ≤ length buffer) × Consumes given left (take n buffer)
GivesNext given left room buffer (End Reached) = IfSome given (λ bytes. bytes ≡ [])
GivesNext given left room buffer (End Fault) = Keeps given left ⊎ ((room ≡ 0) × ((next : ℕ) × Consumes given left (next ∷ [])))
