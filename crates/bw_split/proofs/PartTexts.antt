-- What a script gives are its parts.
use Rattle.std.proofs.Common.{◌≡◌, ℕ, ◌+◌, Bool, true, false, ◌&&◌, ◌==◌, not, cond, List, [], ◌∷◌, ◌++◌, length, map, take, drop, refl, sym, ap, ◌∙◌, subst, arith, inl, inr, eqb-true, append_assoc, drop-drop, length-append, ◌⊎◌}
use Rattle.std.specs.Bool.{IsFalse, IsTrue}
use Rattle.std.specs.List.{concat, list_all}
use Rattle.std.proofs.Math.Bool.{and-true}
use Rattle.std.proofs.Math.Seq.{drop-append_seam, take-append_seam}
use Rattle.std.proofs.lemmas.Bool.{and_from, false≢true, ne_eqb}
use Rattle.bw_lex.specs.declared.script.Part.{Part}
use Rattle.bw_lex.specs.Spellings.{begins_with, is_blank}
use Rattle.bw_lex.specs.Parts.{AreParts, ArePartsFrom, IsRun, Piece, StandsBefore, bytes_of, comment, cut, is_blank_piece, is_blank_run, last, open_text, other, run_bytes, run_len, text}
use Rattle.bw_split.specs.declared.progress.LexicalState.{LexicalState}
use Rattle.bw_split.specs.declared.progress.LexicalState.TheVariants.{Outside, Dash, Comment, Text}
use Rattle.bw_split.specs.declared.progress.Progress.{Progress}
use Rattle.bw_split.specs.Splitting.{PiecesGive, PartText, part_text, at_first, is_all_blank, is_cut, progress_from, progress_of, step, texts_from, text_of_part}
use Rattle.bw_split.specs.Stretches.{has_no_cut}
use Rattle.bw_split.proofs.Progresses.{no_cut-append, progress-append}
use Rattle.bw_split.proofs.PieceTexts.{gives_texts, texts_through}
use Rattle.bw_split.proofs.StretchLemmas.{at, comment_steady, text_steady}

-- what may follow here, where a piece begins there or the run ends
abbrev AtPiece : LexicalState → List ℕ → Type 0
AtPiece Outside rest = Unit {0}
AtPiece Dash rest = IsFalse (begins_with 45 rest)
AtPiece Comment rest = (rest ≡ []) ⊎ IsTrue (begins_with 10 rest)
AtPiece Text rest = rest ≡ []

-- these bytes hold no cut, and end where a piece may begin or the run end
record RunsOver (p : Progress) (bytes left : List ℕ) (blank : Bool) : Type 0 where
  uncut : has_no_cut p bytes ≡ true
  state : AtPiece (progress_from p bytes).state left
  blank_is : is_all_blank (progress_from p bytes) ≡ (is_all_blank p && blank)

-- the same from the progress where the bytes end
ends_at : (p q : Progress) (bytes left : List ℕ) (blank : Bool) → has_no_cut p bytes ≡ true → progress_from p bytes ≡ q → AtPiece q.state left → is_all_blank q ≡ (is_all_blank p && blank) → RunsOver p bytes left blank
ends_at p q bytes left blank uncut is state blank_is =
    record { uncut = uncut; state = subst (λ r. AtPiece r.state left) (sym is) state; blank_is = ap is_all_blank is ∙ blank_is }

and-false : (b : Bool) → (b && false) ≡ false
and-false true = refl
and-false false = refl

-- a text, after its quote
in_quotes : (says : List ℕ) → IsTrue (list_all (λ b. not (b == 39)) says) → (has_no_cut (at Text false) (says ++ 39 ∷ []) ≡ true) × (progress_from (at Text false) (says ++ 39 ∷ []) ≡ at Outside false)
in_quotes says h =
    let s = text_steady says h in (
      no_cut-append (at Text false) says (39 ∷ []) ∙ and_from _ _ s.uncut (ap (λ q. has_no_cut q (39 ∷ [])) s.stays),
      progress-append (at Text false) says (39 ∷ []) ∙ ap (λ q. progress_from q (39 ∷ [])) s.stays,
    )

text_piece : (p : Progress) (says left : List ℕ) → IsTrue (list_all (λ b. not (b == 39)) says) → is_cut p.state 39 ≡ false → step p 39 ≡ at Text false → RunsOver p (39 ∷ says ++ 39 ∷ []) left false
text_piece p says left h uncut first =
    let inside = in_quotes says h in
    ends_at p (at Outside false) (39 ∷ says ++ 39 ∷ []) left false
    (and_from _ _ (ap not uncut) (ap (λ q. has_no_cut q (says ++ 39 ∷ [])) first ∙ inside.0))
    (ap (λ q. progress_from q (says ++ 39 ∷ [])) first ∙ inside.1) tt (sym (and-false (is_all_blank p)))

open_piece : (p : Progress) (says left : List ℕ) → IsTrue (list_all (λ b. not (b == 39)) says) → left ≡ [] → is_cut p.state 39 ≡ false → step p 39 ≡ at Text false → RunsOver p (39 ∷ says) left false
open_piece p says left h none uncut first =
    let s = text_steady says h in
    ends_at p (at Text false) (39 ∷ says) left false
    (and_from _ _ (ap not uncut) (ap (λ q. has_no_cut q says) first ∙ s.uncut))
    (ap (λ q. progress_from q says) first ∙ s.stays) none (sym (and-false (is_all_blank p)))

comment_piece : (blank : Bool) (says left : List ℕ) → IsTrue (list_all (λ b. not (b == 10)) says) → (left ≡ []) ⊎ IsTrue (begins_with 10 left) → RunsOver (at Outside blank) (45 ∷ 45 ∷ says) left true
comment_piece blank says left h ends =
    let s = comment_steady blank says h in
    let first : step (step (at Outside blank) 45) 45 ≡ at Comment blank = rw (and-true blank, and-true blank) refl in
    ends_at (at Outside blank) (at Comment blank) (45 ∷ 45 ∷ says) left true
    (ap (λ q. has_no_cut q says) first ∙ s.uncut) (ap (λ q. progress_from q says) first ∙ s.stays) ends (sym (and-true blank))

-- any other byte, after texts and comments
other_opens : (blank : Bool) (b : ℕ) (left : List ℕ) (t : Bool) → (b == 45) ≡ t → (b == 39) ≡ false → (b == 59) ≡ false → (b ≡ 45 → IsFalse (begins_with 45 left)) → RunsOver (at Outside blank) (b ∷ []) left (is_blank b)
other_opens blank b left true e quote ends dash =
    let is : b ≡ 45 = eqb-true b 45 e in
    ends_at (at Outside blank) (at Dash (blank && true)) (b ∷ []) left (is_blank b) (rw ends refl) (rw is refl) (dash is) (rw is (sym (and-false blank)))
other_opens blank b left false e quote ends dash =
    ends_at (at Outside blank) (at Outside (blank && is_blank b)) (b ∷ []) left (is_blank b) (rw ends refl) (rw (quote, e) refl) tt refl

after_dash : (blank : Bool) (b : ℕ) (left : List ℕ) → (b == 45) ≡ false → (b == 39) ≡ false → (b == 59) ≡ false → RunsOver (at Dash blank) (b ∷ []) left (is_blank b)
after_dash blank b left e quote ends =
    ends_at (at Dash blank) (at Outside false) (b ∷ []) left (is_blank b) (rw ends refl) (rw (quote, e, and-false blank) refl) tt refl

end_of_line : (blank : Bool) (b : ℕ) (left : List ℕ) → b ≡ 10 → RunsOver (at Comment blank) (b ∷ []) left (is_blank b)
end_of_line blank b left is =
    ends_at (at Comment blank) (at Outside (blank && true)) (b ∷ []) left (is_blank b) refl (rw is refl) tt (rw is refl)

piece_some : (piece : Piece) (left : List ℕ) → bytes_of piece ++ left ≡ [] → ⊥
piece_some (comment says) left e = cc
piece_some (text says) left e = cc
piece_some (open_text says) left e = cc
piece_some (other b) left e = cc

-- a piece from where one may begin
piece_runs : (state : LexicalState) (blank : Bool) (piece : Piece) (left : List ℕ) → StandsBefore left piece → AtPiece state (bytes_of piece ++ left) → RunsOver (at state blank) (bytes_of piece) left (is_blank_piece piece)
piece_runs Outside blank (comment says) left h here = comment_piece blank says left h.0 h.1
piece_runs Outside blank (text says) left h here = text_piece (at Outside blank) says left h refl (rw (and-false blank) refl)
piece_runs Outside blank (open_text says) left h here = open_piece (at Outside blank) says left h.0 h.1 refl (rw (and-false blank) refl)
piece_runs Outside blank (other b) left h here = other_opens blank b left (b == 45) refl (ne_eqb b 39 h.0) (ne_eqb b 59 h.1) h.2
piece_runs Dash blank (comment says) left h here = absurd (false≢true (sym here))
piece_runs Dash blank (text says) left h here = text_piece (at Dash blank) says left h refl (rw (and-false blank) refl)
piece_runs Dash blank (open_text says) left h here = open_piece (at Dash blank) says left h.0 h.1 refl (rw (and-false blank) refl)
piece_runs Dash blank (other b) left h here = after_dash blank b left here (ne_eqb b 39 h.0) (ne_eqb b 59 h.1)
piece_runs Comment blank piece left h (inl none) = absurd (piece_some piece left none)
piece_runs Comment blank (comment says) left h (inr here) = absurd (false≢true here)
piece_runs Comment blank (text says) left h (inr here) = absurd (false≢true here)
piece_runs Comment blank (open_text says) left h (inr here) = absurd (false≢true here)
piece_runs Comment blank (other b) left h (inr here) = end_of_line blank b left (eqb-true b 10 here)
piece_runs Text blank piece left h none = absurd (piece_some piece left none)

and-assoc : (a b c : Bool) → ((a && b) && c) ≡ (a && (b && c))
and-assoc true b c = refl
and-assoc false b c = refl

run_runs : (p : Progress) (run : List Piece) (script rest : List ℕ) → IsRun run script rest → AtPiece p.state script → RunsOver p (run_bytes run) rest (is_blank_run run)
run_runs p [] script rest is here = record { uncut = refl; state = subst (AtPiece p.state) is here; blank_is = sym (and-true (is_all_blank p)) }
run_runs p (piece ∷ run) script rest is here =
    let first = piece_runs p.state p.is_blank piece is.0 is.2 (subst (AtPiece p.state) is.1 here) in
    let q = progress_from p (bytes_of piece) in
    let more = run_runs q run is.0 rest is.3 first.state in
    let append = progress-append p (bytes_of piece) (run_bytes run) in
    record {
      uncut = no_cut-append p (bytes_of piece) (run_bytes run) ∙ and_from _ _ first.uncut more.uncut;
      state = subst (λ r. AtPiece r.state rest) (sym append) more.state;
      blank_is = ap is_all_blank append ∙ more.blank_is ∙ ap (λ t. t && is_blank_run run) first.blank_is ∙ and-assoc (is_all_blank p) (is_blank_piece piece) (is_blank_run run);
    }

run_whole : (run : List Piece) (script rest : List ℕ) → IsRun run script rest → script ≡ run_bytes run ++ rest
run_whole [] script rest is = is
run_whole (piece ∷ run) script rest is =
    is.1 ∙ ap (λ l. bytes_of piece ++ l) (run_whole run is.0 rest is.3) ∙ sym (append_assoc (bytes_of piece) (run_bytes run) rest)

run_size : (run : List Piece) → length (run_bytes run) ≡ run_len run
run_size [] = refl
run_size (piece ∷ run) = length-append (bytes_of piece) (run_bytes run) ∙ ap (λ n. length (bytes_of piece) + n) (run_size run)

at_cut : (state : LexicalState) (rest : List ℕ) → AtPiece state (59 ∷ rest) → is_cut state 59 ≡ true
at_cut Outside rest here = refl
at_cut Dash rest here = refl
at_cut Comment rest (inl none) = cc
at_cut Comment rest (inr line) = absurd (false≢true line)
at_cut Text rest none = cc

-- up to the first cut
run_given : (run : List Piece) (script rest : List ℕ) → IsRun run script (59 ∷ rest) → texts_from [] script ≡ cond (is_blank_run run) (texts_from [] rest) (part_text (run_bytes run) true ∷ texts_from [] rest)
unfolding texts_from
run_given run script rest is =
    let over = run_runs at_first run script (59 ∷ rest) is tt in
    ap (texts_from []) (run_whole run script (59 ∷ rest) is) ∙ texts_through [] (run_bytes run) (59 ∷ rest) over.uncut
    ∙ rw (at_cut (progress_of (run_bytes run)).state rest over.state, over.blank_is) refl

-- after the last
rest_given : (run : List Piece) (script : List ℕ) → IsRun run script [] → texts_from [] script ≡ cond (is_blank_run run) [] (part_text (run_bytes run) false ∷ [])
unfolding texts_from
rest_given run script is =
    let over = run_runs at_first run script [] is tt in
    ap (texts_from []) (run_whole run script [] is) ∙ texts_through [] (run_bytes run) [] over.uncut ∙ rw over.blank_is refl

part_is : (whole script rest : List ℕ) (at : ℕ) (run : List Piece) (closed : Bool) → drop at whole ≡ script → IsRun run script rest → part_text (run_bytes run) closed ≡ text_of_part whole (record { span = record { start = at; end = at + run_len run }; is_closed = closed })
part_is whole script rest at run closed there is =
    ap (λ t. part_text t closed) (sym (ap (λ n. take n (drop at whole)) (omega (arith, run_size run)) ∙ ap (take (length (run_bytes run))) (there ∙ run_whole run script rest is) ∙ take-append_seam (run_bytes run) rest))

by_blank : (blank : Bool) (x : PartText) (more : List PartText) (f : Part → PartText) (part : Part) (parts : List Part) → x ≡ f part → more ≡ map f parts → cond blank more (x ∷ more) ≡ map f (cond blank parts (part ∷ parts))
by_blank true x more f part parts e rest = rest
by_blank false x more f part parts e rest = (λ i. e i ∷ rest i)

after_cut : (whole script rest : List ℕ) (at : ℕ) (run : List Piece) → drop at whole ≡ script → IsRun run script (59 ∷ rest) → drop (at + run_len run + 1) whole ≡ rest
after_cut whole script rest at run there is =
    let bytes = run_bytes run in
    let cut_there : drop (at + run_len run) whole ≡ 59 ∷ rest =
    sym (drop-drop (run_len run) at whole) ∙ ap (λ n. drop n (drop at whole)) (sym (run_size run)) ∙ ap (drop (length bytes)) (there ∙ run_whole run script (59 ∷ rest) is) ∙ drop-append_seam bytes (59 ∷ rest) in
    sym (drop-drop 1 (at + run_len run) whole) ∙ ap (drop 1) cut_there

parts_from_given : (whole : List ℕ) (at : ℕ) (script : List ℕ) (parts : List Part) → ArePartsFrom at script parts → drop at whole ≡ script → texts_from [] script ≡ map (text_of_part whole) parts
parts_from_given whole at script all (cut {parts = parts} run rest is more) there =
    run_given run script rest is
    ∙ by_blank (is_blank_run run) (part_text (run_bytes run) true) (texts_from [] rest) (text_of_part whole) _ parts (part_is whole script (59 ∷ rest) at run true there is)
    (parts_from_given whole (at + run_len run + 1) rest parts more (after_cut whole script rest at run there is))
parts_from_given whole at script all (last run is) there =
    rest_given run script is
    ∙ by_blank (is_blank_run run) (part_text (run_bytes run) false) [] (text_of_part whole) _ [] (part_is whole script [] at run false there is) refl

pub parts_given : (script : List ℕ) (parts : List Part) → AreParts script parts → texts_from [] script ≡ map (text_of_part script) parts
parts_given script parts are = parts_from_given script 0 script parts are refl

-- however the script is cut into pieces
pub pieces_given : (pieces : List (List ℕ)) (all : List PartText) (parts : List Part) → PiecesGive [] pieces all → AreParts (concat pieces) parts → all ≡ map (text_of_part (concat pieces)) parts
pieces_given pieces all parts gives are = gives_texts [] pieces all gives ∙ parts_given (concat pieces) parts are
