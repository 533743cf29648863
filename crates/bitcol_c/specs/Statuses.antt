-- The numbers that C passes and gets back.
use Rattle.std.specs.Prelude.{ℕ, ◌==◌, if◌then◌else◌}
use Rattle.bw_shell.specs.declared.running.OnError.{OnError}
use Rattle.bw_shell.specs.declared.running.OnError.TheVariants.{Continue, Stop}
use Rattle.bw_shell.specs.declared.running.RunEnd.{RunEnd}
use Rattle.bw_shell.specs.declared.running.RunEnd.TheVariants.{Done, Stopped, ReadFault, WriteFault, Memory}

-- an end of a script; for a script that is complete in memory, it is the first, the second or the fourth of these
abbrev pub number_of : RunEnd → ℕ
number_of Done = 0
number_of Stopped = 1
number_of ReadFault = 2
number_of WriteFault = 3
number_of Memory = 4

abbrev pub on_error : ℕ → OnError
on_error stops = if stops == 0 then Continue else Stop
