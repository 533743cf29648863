-- The command's walk over the words, compared with what the words ask for.
use Rattle.std.proofs.Common.{◌≡◌, ◌∙◌, ℕ, Bool, true, false, List, [], ◌∷◌, refl, sym, ap, ap₂, subst}
use Rattle.std.specs.Prelude.{Option, Some, None, codes, fold, option_and_then, drop, is_some}
use Rattle.clap.specs.Walk.{Held, Row, Text, Walk, after_step, finished, settled, idle, value, walked}
use Rattle.clap.specs.Kinds.{Kinds, or_else}
use Rattle.clap.specs.Faults.{check_fault, defaults_fault, entered_fault, fault_of, settle_fault, step_fault, turn_fault, walk_fault, word_fault}
use Rattle.clap.specs.Simple.{built, entered, matches_of}
use Rattle.clap.specs.declared.parser.matches.ValueSource.TheVariants.{CommandLine}
use Rattle.clap.specs.declared.builder.value_parser.Reading.TheVariants.{AsWritten}
use Rattle.bw_program.specs.Command.{command_app, rows_ask}
use Rattle.bw_program.specs.Words.{Asked, asked_by, asked_by_names, asked_from, with_script}
use Rattle.bw_program.proofs.WordForms.{Form, IsName, IsRefused, form_of, is_dashes, is_name, is_refused, is_stop, resting, shape}

-- where the walk can stand between two words: by whether the flag and the script were met, and in which order
pub data State : Type 0 where
  fresh : State
  flagged : State
  named : Text → State
  flagged_named : Text → State
  named_flagged : Text → State

abbrev pub asked_at : State → Asked
asked_at fresh = record { stop = false; script = None }
asked_at flagged = record { stop = true; script = None }
asked_at (named p) = record { stop = false; script = Some p }
asked_at (flagged_named p) = record { stop = true; script = Some p }
asked_at (named_flagged p) = record { stop = true; script = Some p }

abbrev pub used_row : Text → Text → Row
used_row id text = record {
  id = id;
  values = text ∷ [];
  count = None;
  source = Some CommandLine;
  reading = AsWritten;
}

abbrev pub flag_row : Row
flag_row = used_row (codes "stop") (codes "true")

abbrev pub script_row : Text → Row
script_row = used_row (codes "script")

abbrev pub pending_script : Text → Option (Text × List Text)
pending_script p = Some (codes "script", p ∷ [])

abbrev pub held_at : State → Held
held_at fresh = resting [] None
held_at flagged = resting (flag_row ∷ []) None
held_at (named p) = resting [] (pending_script p)
held_at (flagged_named p) = resting (flag_row ∷ []) (pending_script p)
held_at (named_flagged p) = resting (script_row p ∷ flag_row ∷ []) None

abbrev pub position_at : State → ℕ
position_at fresh = 1
position_at flagged = 1
position_at _ = 2

-- the walk at a state, before or after `--`
abbrev pub at : Bool → State → Walk
at trails s = record { held = held_at s; waiting = idle; position = position_at s; is_trailing = trails; stopped = None }

-- the walk ends where just this is asked
pub record Reaches (asked : Asked) (w : Walk) : Type 0 where
  pub state : State
  pub trails : Bool
  pub at_state : w ≡ at trails state
  pub asks : asked_at state ≡ asked

-- words that are refused give a kind of error, and others none
abbrev pub Ends : Option Asked → Kinds → Walk → Type 0
Ends None kinds w = kinds ≡ [] → ⊥
Ends (Some asked) kinds w = (kinds ≡ []) × Reaches asked w

abbrev pub Fits : Option Asked → Bool → State → List Text → Type 0
Fits asked trails s words = Ends asked (walk_fault shape [] (at trails s) words) (fold (walked shape.rules []) (at trails s) words)

-- after `--`
by_names : (s : State) (words : List Text) → Fits (asked_by_names (asked_at s) words) true s words
unfolding walk_fault walked
by_names s [] = (refl, record { state = s; trails = true; at_state = refl; asks = refl })
by_names fresh (word ∷ words) = by_names (named word) words
by_names flagged (word ∷ words) = by_names (flagged_named word) words
by_names (named p) (word ∷ words) = λ e. cc
by_names (flagged_named p) (word ∷ words) = λ e. cc
by_names (named_flagged p) (word ∷ words) = λ e. cc

-- a step over a word that names a script
met_name : (s : State) (word : Text) → IsName word → walked shape.rules [] (at false s) word ≡ after_step shape.rules word (at false s) (held_at s) value
unfolding walked
met_name fresh word n = ap (λ met. after_step shape.rules word (at false fresh) met.0 met.1) (n.met 1 [] None)
met_name flagged word n = ap (λ met. after_step shape.rules word (at false flagged) met.0 met.1) (n.met 1 (flag_row ∷ []) None)
met_name (named p) word n = ap (λ met. after_step shape.rules word (at false (named p)) met.0 met.1) (n.met 2 [] (pending_script p))
met_name (flagged_named p) word n = ap (λ met. after_step shape.rules word (at false (flagged_named p)) met.0 met.1) (n.met 2 (flag_row ∷ []) (pending_script p))
met_name (named_flagged p) word n = ap (λ met. after_step shape.rules word (at false (named_flagged p)) met.0 met.1) (n.met 2 (script_row p ∷ flag_row ∷ []) None)

-- and its kinds of error
abbrev step_kinds : State → Kinds
step_kinds s = step_fault shape (position_at s) (held_at s) value

fault_name : (s : State) (word : Text) → IsName word → turn_fault shape [] (at false s) word ≡ step_kinds s
fault_name fresh word n = ap₂ (λ kinds met. or_else kinds (step_fault shape 1 met.0 met.1)) (n.fault [] None) (n.met 1 [] None)
fault_name flagged word n = ap₂ (λ kinds met. or_else kinds (step_fault shape 1 met.0 met.1)) (n.fault (flag_row ∷ []) None) (n.met 1 (flag_row ∷ []) None)
fault_name (named p) word n = ap₂ (λ kinds met. or_else kinds (step_fault shape 2 met.0 met.1)) (n.fault [] (pending_script p)) (n.met 2 [] (pending_script p))
fault_name (flagged_named p) word n = ap₂ (λ kinds met. or_else kinds (step_fault shape 2 met.0 met.1)) (n.fault (flag_row ∷ []) (pending_script p)) (n.met 2 (flag_row ∷ []) (pending_script p))
fault_name (named_flagged p) word n = ap₂ (λ kinds met. or_else kinds (step_fault shape 2 met.0 met.1)) (n.fault (script_row p ∷ flag_row ∷ []) None) (n.met 2 (script_row p ∷ flag_row ∷ []) None)

fault_refused : (s : State) (word : Text) → IsRefused word → word_fault shape [] false idle word (held_at s) ≡ [] → ⊥
fault_refused fresh word r = r.fault [] None
fault_refused flagged word r = r.fault (flag_row ∷ []) None
fault_refused (named p) word r = r.fault [] (pending_script p)
fault_refused (flagged_named p) word r = r.fault (flag_row ∷ []) (pending_script p)
fault_refused (named_flagged p) word r = r.fault (script_row p ∷ flag_row ∷ []) None

first_empty : (xs ys : Kinds) → or_else xs ys ≡ [] → xs ≡ []
first_empty [] ys e = refl
first_empty (x ∷ xs) ys e = cc

-- what a word asks for that is one of the four forms
abbrev Rest : State → List Text → Type 0
Rest s words = Fits (asked_from (asked_at s) words) false s words

on_dashes : (s : State) (words : List Text) → Rest s (codes "--" ∷ words)
unfolding walk_fault walked
on_dashes s words = by_names s words

on_stop : (s : State) (words : List Text) → ((t : State) → Rest t words) → Rest s (codes "--stop" ∷ words)
unfolding walk_fault walked
on_stop fresh words rest = rest flagged
on_stop (named p) words rest = rest (named_flagged p)
on_stop flagged words rest = λ e. cc
on_stop (flagged_named p) words rest = λ e. cc
on_stop (named_flagged p) words rest = λ e. cc

abbrev Turned : List Text → Option Asked → Kinds → Walk → Type 0
Turned words asked kinds w = Ends asked (or_else kinds (walk_fault shape [] w words)) (fold (walked shape.rules []) w words)

turned : (words : List Text) (a b : Option Asked) (j k : Kinds) (v w : Walk) → a ≡ b → j ≡ k → v ≡ w → Turned words b k w → Turned words a j v
turned words a b j k v w same_asked same_kinds same_walk h =
    subst (λ (x : Option Asked). Turned words x j v) (sym same_asked)
    (subst (λ (x : Kinds). Turned words b x v) (sym same_kinds)
    (subst (λ (x : Walk). Turned words b k x) (sym same_walk) h))

-- a turn of the walk, and the walk after it
opened : (s : State) (word : Text) (words : List Text)
    → Turned words (asked_from (asked_at s) (word ∷ words)) (turn_fault shape [] (at false s) word) (walked shape.rules [] (at false s) word) → Rest s (word ∷ words)
unfolding walk_fault
opened s word words h = h

asked_name : (a : Asked) (word : Text) (words : List Text) → IsName word
    → asked_from a (word ∷ words) ≡ option_and_then (λ next. asked_from next words) (with_script word a)
asked_name a word words n = rw (n.dashes, n.stop, n.dashed) refl

asked_refused : (a : Asked) (word : Text) (words : List Text) → IsRefused word → asked_from a (word ∷ words) ≡ None
asked_refused a word words r = rw (r.dashes, r.stop, r.dashed) refl

on_name : (s : State) (word : Text) (words : List Text) → IsName word → ((t : State) → Rest t words) → Rest s (word ∷ words)
on_name fresh word words n rest = opened fresh word words
    (turned words _ _ _ _ _ (at false (named word)) (asked_name (asked_at fresh) word words n) (fault_name fresh word n) (met_name fresh word n) (rest (named word)))
on_name flagged word words n rest = opened flagged word words
    (turned words _ _ _ _ _ (at false (flagged_named word)) (asked_name (asked_at flagged) word words n) (fault_name flagged word n) (met_name flagged word n) (rest (flagged_named word)))
on_name (named p) word words n rest = opened (named p) word words
    (turned words _ None _ (step_kinds (named p)) _ _ (asked_name (asked_at (named p)) word words n) (fault_name (named p) word n) refl (λ e. cc))
on_name (flagged_named p) word words n rest = opened (flagged_named p) word words
    (turned words _ None _ (step_kinds (flagged_named p)) _ _ (asked_name (asked_at (flagged_named p)) word words n) (fault_name (flagged_named p) word n) refl (λ e. cc))
on_name (named_flagged p) word words n rest = opened (named_flagged p) word words
    (turned words _ None _ (step_kinds (named_flagged p)) _ _ (asked_name (asked_at (named_flagged p)) word words n) (fault_name (named_flagged p) word n) refl (λ e. cc))

on_refused : (s : State) (word : Text) (words : List Text) → IsRefused word → Rest s (word ∷ words)
on_refused s word words r = opened s word words
    (turned words _ None _ _ _ _ (asked_refused (asked_at s) word words r) refl refl (λ e. fault_refused s word r (first_empty _ _ (first_empty _ _ e))))

on_word : (s : State) (word : Text) (words : List Text) → Form word → ((t : State) → Rest t words) → Rest s (word ∷ words)
on_word s word words (is_dashes e) rest = subst (λ w. Rest s (w ∷ words)) (sym e) (on_dashes s words)
on_word s word words (is_stop e) rest = subst (λ w. Rest s (w ∷ words)) (sym e) (on_stop s words rest)
on_word s word words (is_refused r) rest = on_refused s word words r
on_word s word words (is_name n) rest = on_name s word words n rest

-- from each state, the walk ends where the words ask it to
walks : (words : List Text) (s : State) → Rest s words
unfolding walk_fault
walks [] s = (refl, record { state = s; trails = false; at_state = refl; asks = refl })
walks (word ∷ words) s = on_word s word words (form_of word) (walks words)

-- at the end, nothing more is refused
abbrev end_fault : Kinds → Walk → Kinds
end_fault kinds w = or_else kinds (or_else (entered_fault (built command_app) w.stopped) (or_else (settle_fault shape.rules shape.args_override_self w.held)
    (or_else (defaults_fault (settled shape.rules w.held).rows shape.rules) (check_fault shape (finished shape.rules w.held) (is_some (entered (built command_app) w.stopped))))))

end_passes : (trails : Bool) (s : State) → end_fault [] (at trails s) ≡ []
unfolding defaults_fault
end_passes trails fresh = refl
end_passes trails flagged = refl
end_passes trails (named p) = refl
end_passes trails (flagged_named p) = refl
end_passes trails (named_flagged p) = refl

-- and the rows hold what is asked
end_rows : (trails : Bool) (s : State) → rows_ask (finished shape.rules (at trails s).held) (asked_at s)
end_rows trails fresh = (refl, refl)
end_rows trails flagged = (refl, refl)
end_rows trails (named p) = (refl, refl)
end_rows trails (flagged_named p) = (refl, refl)
end_rows trails (named_flagged p) = (refl, refl)

-- The command takes the words and has the rows of what they ask for, or refuses them.
abbrev pub IsDecided : Option Asked → Kinds → List Row → Type 0
IsDecided None kinds rows = kinds ≡ [] → ⊥
IsDecided (Some asked) kinds rows = (kinds ≡ []) × rows_ask rows asked

decided : (asked : Option Asked) (kinds : Kinds) (w : Walk) → Ends asked kinds w → IsDecided asked (end_fault kinds w) (finished shape.rules w.held)
decided None kinds w ends = λ e. ends (first_empty kinds _ e)
decided (Some asked) kinds w ends =
    let there = ends.1 in (
      ap₂ end_fault ends.0 there.at_state ∙ end_passes there.trails there.state,
      subst (λ (x : Walk). rows_ask (finished shape.rules x.held) asked) (sym there.at_state)
          (subst (λ (x : Asked). rows_ask (finished shape.rules (at there.trails there.state).held) x) there.asks (end_rows there.trails there.state)),
    )

pub command_decides : (words : List Text) → IsDecided (asked_by words) (fault_of command_app words) (matches_of command_app words)
unfolding walk_fault
command_decides words = decided (asked_by words) _ _ (walks (drop 1 words) fresh)
