-- What a parse of the command gives is what the words ask for.
use Rattle.std.proofs.Common.{◌≡◌, ◌⊎◌, Bool, true, false, List, [], refl, sym, ap, subst, inl, inr}
use Rattle.std.specs.Prelude.{Option, Some, None, Err, codes}
use Rattle.clap.specs.Walk.{Row, Text}
use Rattle.clap.specs.Kinds.{Kinds, IsAmong}
use Rattle.clap.specs.Faults.{fault_of, is_simple_and_free}
use Rattle.clap.specs.Simple.{App, HasMatchesOf, is_simple}
use Rattle.clap.specs.Words.{found_of, kind_of, rows_of}
use Rattle.clap.specs.declared.error.Error.{Error}
use Rattle.clap.specs.declared.error.kind.ErrorKind.{ErrorKind}
use Rattle.clap.specs.declared.error.kind.ErrorKind.TheVariants.{OutOfMemory}
use Rattle.clap.specs.declared.parser.matches.ArgMatches.{ArgMatches}
use Rattle.bw_program.specs.Command.{command_app, fault_by, flag_text, rows_ask}
use Rattle.bw_program.specs.Words.{Answers, Asked, asked_by, is_stop, on_error_of}
use Rattle.bw_program.specs.declared.request.WordsFault.{WordsFault}
use Rattle.bw_program.specs.declared.request.WordsFault.TheVariants.{Usage, Memory}
use Rattle.bw_program.proofs.Walks.{IsDecided, command_decides}

-- a flag that reads its one text
pub flag_is : (read : Option Text) (b r : Bool) → (read ≡ Some (codes "true") → r ≡ true) → (read ≡ Some (codes "false") → r ≡ false)
    → read ≡ Some (flag_text b) → r ≡ b
flag_is read true r if_true if_false e = if_true e
flag_is read false r if_true if_false e = if_false e

pub stop_is : (b : Bool) → is_stop (on_error_of b) ≡ b
stop_is true = refl
stop_is false = refl

accepted_by : (asked : Option Asked) (kinds : Kinds) (rows : List Row) (r : Asked) → IsDecided asked kinds rows → kinds ≡ []
    → ((a : Asked) → rows_ask rows a → r ≡ a) → asked ≡ Some r
accepted_by None kinds rows r decides none reads = absurd (decides none)
accepted_by (Some a) kinds rows r decides none reads = ap (λ (x : Asked). Some x) (sym (reads a decides.1))

is_simple_command : is_simple command_app ≡ true
is_simple_command = refl

is_free_command : is_simple_and_free command_app ≡ true
is_free_command = refl

-- the words are accepted, and ask for what is read of the matches
pub accepted : (app : App) (words : List Text) (m : ArgMatches) (r : Asked) → app ≡ command_app → (is_simple_and_free app ≡ true → fault_of app words ≡ [])
    → HasMatchesOf app words m → ((a : Asked) → rows_ask (rows_of (found_of m)) a → r ≡ a) → asked_by words ≡ Some r
accepted app words m r is_command passes has reads =
    let none = subst (λ (x : App). is_simple_and_free x ≡ true → fault_of x words ≡ []) is_command passes is_free_command in
    let rows = (subst (λ (x : App). HasMatchesOf x words m) is_command has is_simple_command).0 in
    accepted_by (asked_by words) _ _ r (command_decides words) none (λ a h. reads a (subst (λ (x : List Row). rows_ask x a) (sym rows) h))

none_answered : (fault : WordsFault) → Answers None (Err fault)
none_answered Usage = refl
none_answered Memory = tt

refused_by : (asked : Option Asked) (kinds : Kinds) (rows : List Row) (k : ErrorKind) → IsDecided asked kinds rows → (k ≡ OutOfMemory) ⊎ IsAmong k kinds
    → Answers asked (Err (fault_by k))
refused_by None kinds rows k decides why = none_answered (fault_by k)
refused_by (Some a) kinds rows k decides (inl memory) = subst (λ (x : ErrorKind). Answers (Some a) (Err (fault_by x))) (sym memory) tt
refused_by (Some a) kinds rows k decides (inr among) = absurd (subst (λ (x : Kinds). IsAmong k x) decides.0 among)

-- the words are refused, or memory runs out
pub refused : (app : App) (words : List Text) (e : Error) → app ≡ command_app
    → (is_simple_and_free app ≡ true → (kind_of e ≡ OutOfMemory) ⊎ IsAmong (kind_of e) (fault_of app words)) → Answers (asked_by words) (Err (fault_by (kind_of e)))
refused app words e is_command fails =
    let why = subst (λ (x : App). is_simple_and_free x ≡ true → (kind_of e ≡ OutOfMemory) ⊎ IsAmong (kind_of e) (fault_of x words)) is_command fails is_free_command in
    refused_by (asked_by words) _ _ (kind_of e) (command_decides words) why
