-- The program's command, as it is passed to `clap`.
use Rattle.std.specs.Prelude.{◌≡◌, ℕ, Bool, true, codes, if◌then◌else◌, List, Some}
use Rattle.clap.specs.Words.{App, Row, Rule, first_of, new_app, new_rule, one_of, with_rule}
use Rattle.clap.specs.declared.builder.action.ArgAction.TheVariants.{SetTrue}
use Rattle.clap.specs.declared.error.kind.ErrorKind.{ErrorKind}
use Rattle.clap.specs.declared.error.kind.ErrorKind.TheVariants as kind
use Rattle.bw_program.specs.Words.{Asked}
use Rattle.bw_program.specs.declared.request.WordsFault.{WordsFault}
use Rattle.bw_program.specs.declared.request.WordsFault.TheVariants.{Usage, Memory}

abbrev pub stop_rule : Rule
stop_rule = record (new_rule (codes "stop")) { long = Some (codes "stop"); action = Some SetTrue }

abbrev pub script_rule : Rule
script_rule = new_rule (codes "script")

abbrev pub bare_app : App
bare_app = let app = new_app (codes "bitcol") in record app { top = record app.top { disable_help_flag = true } }

-- the flag `--stop` and one positional argument, and no flag for help
abbrev pub command_app : App
command_app = with_rule (with_rule bare_app stop_rule) script_rule

abbrev pub flag_text : Bool → List ℕ
flag_text b = if b then codes "true" else codes "false"

-- the rows of the matches hold exactly what is asked
abbrev pub rows_ask : List Row → Asked → Type 0
rows_ask rows asked = (first_of (codes "script") rows ≡ asked.script) × (one_of (codes "stop") rows ≡ Some (flag_text asked.stop))

-- the fault for an error of `clap`
abbrev pub fault_by : ErrorKind → WordsFault
fault_by kind.OutOfMemory = Memory
fault_by _ = Usage
