-- What the fault of a file satisfies: its numbers fit 64 bits.
use Rattle.std.specs.Prelude.{Err, Ok, Result, ◌<◌, ◌^◌, ⊤}
use Rattle.bw_csvload.specs.declared.fault.CsvFault.{CsvFault}
use Rattle.bw_csvload.specs.declared.fault.CsvFault.TheVariants as fault

-- a fault of the text, whose numbers fit 64 bits
abbrev pub IsFaultOfText : CsvFault → Type 0
IsFaultOfText (fault.Fields record') = record' < 2 ^ 64
IsFaultOfText (fault.NotInteger record' field) = (record' < 2 ^ 64) × (field < 2 ^ 64)
IsFaultOfText fault.Range = ⊤
IsFaultOfText fault.Memory = ⊥

-- the result satisfies this, or else is a fault of the text
abbrev pub IsOrFault : {A : Type 0} → (A → Type 0) → Result A CsvFault → Type 0
IsOrFault fits (Ok x) = fits x
IsOrFault fits (Err e) = IsFaultOfText e
