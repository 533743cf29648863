-- What the program's words ask for: `bitcol [--stop] [SCRIPT]`.
use Rattle.std.specs.Prelude.{◌≡◌, ◌==◌, ◌&&◌, ℕ, Bool, true, false, List, [], ◌∷◌, drop, slice_get, codes, bytes_eq, chars, Option, Some, None, is_some, option_map, if◌then◌else◌, Result, Ok, Err}
use Rattle.std.specs.Prelude.{option_and_then}
use Rattle.bw_program.specs.declared.request.Request.{Request}
use Rattle.bw_program.specs.declared.request.WordsFault.{WordsFault}
use Rattle.bw_program.specs.declared.request.WordsFault.TheVariants.{Usage, Memory}
use Rattle.bw_shell.specs.declared.running.OnError.{OnError}
use Rattle.bw_shell.specs.declared.running.OnError.TheVariants.{Continue, Stop}

abbrev pub Text : Type 0
Text = List ℕ

-- what words ask for: whether to stop at the first error, and which script to read, if they name one
pub record Asked : Type 0 where
  pub stop : Bool
  pub script : Option Text

abbrev pub nothing_asked : Asked
nothing_asked = record { stop = false; script = None }

-- `--stop` may be given once
abbrev pub with_stop : Asked → Option Asked
with_stop asked = if asked.stop then None else Some (record asked { stop = true })

-- one script may be named
abbrev pub with_script : Text → Asked → Option Asked
with_script path asked = if is_some asked.script then None else Some (record asked { script = Some path })

-- the word is a hyphen with a character after it
abbrev pub is_dashed : Text → Bool
is_dashed [] = false
is_dashed (first ∷ rest) = first == 45 && is_some (slice_get (chars rest) 0)

-- after `--` each word names a script
abbrev pub asked_by_names : Asked → List Text → Option Asked
asked_by_names asked [] = Some asked
asked_by_names asked (word ∷ words) = option_and_then (λ next. asked_by_names next words) (with_script word asked)

-- what is asked so far, extended by the remaining words: a word with a hyphen is `--stop`, is `--`, or is refused, and any other
-- word names a script
abbrev pub asked_from : Asked → List Text → Option Asked
asked_from asked [] = Some asked
asked_from asked (word ∷ words) =
    if bytes_eq word (codes "--") then asked_by_names asked words
    else (if bytes_eq word (codes "--stop") then option_and_then (λ next. asked_from next words) (with_stop asked)
    else (if is_dashed word then None
    else option_and_then (λ next. asked_from next words) (with_script word asked)))

-- what the words of a command line ask for, or `None` if they are refused; the first is the program's name
abbrev pub asked_by : List Text → Option Asked
asked_by words = asked_from nothing_asked (drop 1 words)

abbrev pub on_error_of : Bool → OnError
on_error_of true = Stop
on_error_of false = Continue

abbrev pub is_stop : OnError → Bool
is_stop Stop = true
is_stop Continue = false

-- what a request asks for
abbrev pub asked_of : Request → Asked
asked_of request = record { stop = is_stop request.on_error; script = option_map (λ path. path.now) request.script }

-- a request is what the words ask for, a usage fault means that they are refused, and out of memory says nothing about them
abbrev pub Answers : Option Asked → Result Request WordsFault → Type 0
Answers asked (Ok request) = asked ≡ Some (asked_of request)
Answers asked (Err Usage) = asked ≡ None
Answers asked (Err Memory) = Unit {0}
