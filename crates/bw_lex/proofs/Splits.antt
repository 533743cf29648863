-- A script that is split up to a place.
use Rattle.std.proofs.Common.{◌≡◌, ℕ, ◌+◌, ◌-◌, ◌<◌, ◌≤◌, Bool, true, false, cond, List, [], ◌∷◌, ◌++◌, length, take, drop, refl, sym, ap, ◌∙◌, subst, arith, inl, inr, append_assoc, append-nil, length-append, length-drop, drop-drop, nat_lt}
use Rattle.std.specs.List.{All}
use Rattle.std.specs.Bool.{IsTrue}
use Rattle.std.proofs.lemmas.Bool.{le-ltb, lt-ltb}
use Rattle.std.proofs.lemmas.List.{drop_all, take_all}
use Rattle.std.proofs.lemmas.List.Elements.{All-append, All-cons, All-nil}
use Rattle.bw_lex.specs.declared.script.Front.{Front}
use Rattle.bw_lex.specs.declared.script.Part.{Part}
use Rattle.bw_lex.specs.Fronts.{EndsRun, IsFront}
use Rattle.bw_lex.specs.Spellings.{begins_with}
use Rattle.bw_lex.specs.Parts.{AreParts, ArePartsFrom, EndsPart, IsPartOf, IsRun, Piece, bytes_of, cut, is_blank_run, last, run_len, with_part}
use Rattle.bw_lex.proofs.Lexing.{drop_none}
use Rattle.bw_lex.proofs.Runs.{head_is}

-- the bytes of a run are those of its pieces
run_size : (run : List Piece) (script rest : List ℕ) → IsRun run script rest → length script ≡ run_len run + length rest
run_size [] script rest is = omega (arith, ap length is)
run_size (piece ∷ run) script rest is =
    omega (arith, ap length is.1, length-append (bytes_of piece) is.0, run_size run is.0 rest is.3)

-- the part of a run, where it isn't blank
abbrev pub own : Bool → ℕ → ℕ → Bool → List Part
own blank at n closed = cond blank [] (record { span = record { start = at; end = at + n }; is_closed = closed } ∷ [])

-- these are the parts before this place
pub record Splitting (script : List ℕ) (parts : List Part) (start : ℕ) : Type 0 where
  pub within : start ≤ length script
  pub goes_on : (more : List Part) → ArePartsFrom start (drop start script) more → AreParts script (parts ++ more)
  pub each : All (IsPartOf script) parts

-- these are all the parts
pub record Split (script : List ℕ) (parts : List Part) : Type 0 where
  pub are : AreParts script parts
  pub each : All (IsPartOf script) parts

pub start : (script : List ℕ) → Splitting script [] 0
start script = record { within = omega arith; goes_on = λ more d. subst (λ s. ArePartsFrom 0 s more) (drop_none script) d; each = All-nil (IsPartOf script) }

own_with : (at n : ℕ) (closed : Bool) (run : List Piece) (more : List Part) (blank : Bool) → run_len run ≡ n → blank ≡ is_blank_run run → with_part at run closed more ≡ own blank at n closed ++ more
own_with at n closed run more true size is = rw (size, ← is) refl
own_with at n closed run more false size is = rw (size, ← is) refl

module _ (script : List ℕ) (parts : List Part) (at : ℕ) (s : Splitting script parts at) (f : Front) (front : IsFront (drop at script) f) (ends : EndsRun (drop f.len (drop at script))) where
  size : run_len front.pieces ≡ f.len
  size = omega (arith, front.within, run_size front.pieces (drop at script) _ front.run, length-drop f.len (drop at script))

  end_within : at + f.len ≤ length script
  end_within = omega (arith, front.within, s.within, length-drop at script)

  rest_is : drop f.len (drop at script) ≡ drop (at + f.len) script
  rest_is = drop-drop f.len at script

  is_run : IsRun front.pieces (drop at script) (drop (at + f.len) script)
  is_run = subst (IsRun front.pieces (drop at script)) rest_is front.run

  is_part : (closed : Bool) → f.is_blank ≡ false → EndsPart closed (drop (at + f.len) script) → IsPartOf script (record { span = record { start = at; end = at + f.len }; is_closed = closed })
  is_part closed says end =
      record { ordered = omega arith; within = end_within; run = front.pieces; is_run = is_run; says = sym front.blank ∙ says; ends = end }

  each_own : (closed : Bool) (blank : Bool) → f.is_blank ≡ blank → EndsPart closed (drop (at + f.len) script) → All (IsPartOf script) (own blank at f.len closed)
  each_own closed true e end = All-nil (IsPartOf script)
  each_own closed false e end = All-cons (IsPartOf script) _ [] (is_part closed e end) (All-nil (IsPartOf script))

  more_parts : (closed : Bool) (after : List Part) → after ≡ parts ++ own f.is_blank at f.len closed → EndsPart closed (drop (at + f.len) script) → All (IsPartOf script) after
  more_parts closed after is end = rw is (All-append (IsPartOf script) parts _ s.each (each_own closed f.is_blank refl end))

  regroup : (closed : Bool) (after more : List Part) → after ≡ parts ++ own f.is_blank at f.len closed → parts ++ with_part at front.pieces closed more ≡ after ++ more
  regroup closed after more is =
      ap (λ l. parts ++ l) (own_with at f.len closed front.pieces more f.is_blank size front.blank)
      ∙ sym (append_assoc parts (own f.is_blank at f.len closed) more) ∙ ap (λ l. l ++ more) (sym is)

  cut_left : at + f.len < length script → (left : List ℕ) × (drop (at + f.len) script ≡ 59 ∷ left)
  cut_left some =
      elim (subst EndsRun rest_is ends) [
        | inl e ↦ absurd (omega (arith, ap length e, length-drop (at + f.len) script))
        | inr e ↦ head_is 59 (drop (at + f.len) script) e
      ]

  behind : (left : List ℕ) → drop (at + f.len) script ≡ 59 ∷ left → left ≡ drop (at + f.len + 1) script
  behind left e = sym (ap (drop 1) e) ∙ drop-drop 1 (at + f.len) script

  -- a run that a cut closes
  pub closed_run : (after : List Part) → after ≡ parts ++ own f.is_blank at f.len true → at + f.len < length script → Splitting script after (at + f.len + 1)
  closed_run after is some =
      let left = cut_left some in
      let same = behind left.0 left.1 in
      record {
        within = omega arith;
        goes_on = λ more d. subst (AreParts script) (regroup true after more is) (s.goes_on _
            (cut front.pieces (drop (at + f.len + 1) script) (subst (IsRun front.pieces (drop at script)) (left.1 ∙ ap (λ l. 59 ∷ l) same) is_run)
            (subst (λ n. ArePartsFrom (at + n + 1) (drop (at + f.len + 1) script) more) (sym size) d)));
        each = more_parts true after is (subst (λ l. IsTrue (begins_with 59 l)) (sym left.1) refl);
      }

  -- the rest
  pub last_run : (after : List Part) → after ≡ parts ++ own f.is_blank at f.len false → length script ≤ at + f.len → Split script after
  last_run after is over =
      let none : drop (at + f.len) script ≡ [] = drop_all (at + f.len) script over in
      record {
        are = subst (AreParts script) (regroup false after [] is ∙ append-nil after) (s.goes_on _ (last front.pieces (subst (IsRun front.pieces (drop at script)) none is_run)));
        each = more_parts false after is none;
      }

  -- the same as the code tells them apart
  pub closed_run_tested : (after : List Part) → after ≡ parts ++ own f.is_blank at f.len (nat_lt (at + f.len) (length script)) → at + f.len < length script → Splitting script after (at + f.len + 1)
  closed_run_tested after is some =
      closed_run after (is ∙ ap (λ t. parts ++ own f.is_blank at f.len t) (lt-ltb (at + f.len) (length script) some)) some

  pub last_run_tested : (after : List Part) → after ≡ parts ++ own f.is_blank at f.len (nat_lt (at + f.len) (length script)) → length script ≤ at + f.len → Split script after
  last_run_tested after is over =
      last_run after (is ∙ ap (λ t. parts ++ own f.is_blank at f.len t) (le-ltb (at + f.len) (length script) over)) over

-- what is left from a place on, as the code cuts it
pub rest_front : (at : ℕ) (script : List ℕ) (f : Front) → IsFront (take (length script - at) (drop at script)) f → IsFront (drop at script) f
rest_front at script f is = subst (λ l. IsFront l f) (take_all (length script - at) (drop at script) (omega (arith, length-drop at script))) is

pub rest_ends : (at n : ℕ) (script : List ℕ) → EndsRun (drop n (take (length script - at) (drop at script))) → EndsRun (drop n (drop at script))
rest_ends at n script is = subst (λ l. EndsRun (drop n l)) (take_all (length script - at) (drop at script) (omega (arith, length-drop at script))) is
