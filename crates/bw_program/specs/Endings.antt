-- How the program ends: the status of each end, and its line on standard error.
use Rattle.std.specs.Prelude.{ℕ, List, [], ◌∷◌, ◌++◌, codes, Option, Some, None}
use Rattle.bw_shell.specs.declared.running.RunEnd.TheVariants as ends
use Rattle.bw_program.specs.declared.ending.Ending.{Ending}
use Rattle.bw_program.specs.declared.ending.Ending.TheVariants.{Ran, NotOpened, NotAsked}
use Rattle.bw_program.specs.declared.request.WordsFault.TheVariants.{Usage, Memory}

abbrev pub status_of : Ending → ℕ
status_of (Ran ends.Done) = 0
status_of (Ran ends.Stopped) = 1
status_of (Ran ends.ReadFault) = 2
status_of (Ran ends.WriteFault) = 2
status_of (Ran ends.Memory) = 2
status_of NotOpened = 2
status_of (NotAsked Memory) = 2
status_of (NotAsked Usage) = 64

abbrev pub line_of : Ending → Option (List ℕ)
line_of (Ran ends.Done) = None
line_of (Ran ends.Stopped) = None
line_of (Ran ends.ReadFault) = Some (codes "bitcol: reading failed")
line_of (Ran ends.WriteFault) = Some (codes "bitcol: writing failed")
line_of (Ran ends.Memory) = Some (codes "bitcol: out of memory")
line_of NotOpened = Some (codes "bitcol: cannot open the script")
line_of (NotAsked Memory) = Some (codes "bitcol: out of memory")
line_of (NotAsked Usage) = Some (codes "usage: bitcol [--stop] [SCRIPT]")

abbrev pub with_end : Option (List ℕ) → List ℕ
with_end None = []
with_end (Some line) = line ++ 10 ∷ []

-- the bytes on standard error
abbrev pub said_by : Ending → List ℕ
said_by ending = with_end (line_of ending)
