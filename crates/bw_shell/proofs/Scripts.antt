-- A script that is read and answered piece by piece.
use Rattle.std.proofs.Common.{◌≡◌, ◌≢◌, ℕ, ◌+◌, ◌-◌, ◌<◌, ◌≤◌, inl, inr, Bool, true, false, if◌then◌else◌, IfSome, List, [], ◌∷◌, ◌++◌, length, take, drop, Option, None, Some, refl, sym, ap, ◌∙◌, subst, append_assoc, append-nil, length-append, length-drop, arith}
use Rattle.std.specs.Io.KnownBytes.{Appends, Consumes}
use Rattle.std.proofs.KnownBytes.{Consumes-kept, Consumes-nil, Consumes-trans}
use Rattle.std.proofs.lemmas.Bool.{cases_lt}
use Rattle.std.proofs.lemmas.List.{length-take-le, take-append-drop}
use Rattle.bw_split.specs.Splitting.{part_text, is_blank_part, texts_from}
use Rattle.bw_split.proofs.HaveParts.{have_parts}
use Rattle.bw_split.proofs.PartTexts.{parts_given}
use Rattle.bw_engine.specs.Stores.{Stored}
use Rattle.bw_shell.specs.Sessions.{AnswersRest, HasEnded, Ran}
use Rattle.bw_shell.specs.Run.{IsRun, SessionOver}
use Rattle.bw_shell.specs.Script.{GivesNext, IsRead, longest_script}
use Rattle.bw_shell.specs.States.{FolderState, State, with_tables}
use Rattle.bw_shell.specs.declared.reading.Next.TheVariants.{Piece, End}
use Rattle.bw_shell.specs.declared.reading.ScriptEnd.{ScriptEnd}
use Rattle.bw_shell.specs.declared.reading.ScriptEnd.TheVariants.{Reached, Fault}
use Rattle.bw_shell.specs.declared.running.OnError.{OnError}
use Rattle.bw_shell.specs.declared.running.RunEnd.{RunEnd}
use Rattle.bw_shell.specs.declared.running.RunEnd.TheVariants as ends
use Rattle.bw_shell.proofs.Sessions.{ran_before, ran_same_parts, ran_to_end, ran_twice, starts}
use Rattle.bw_shell.proofs.Texts.{appends_none, appends_twice}

-- A script that begins with these bytes, as far as the reader gives it.
record Whole (given left : Option (List ℕ)) (prefix : List ℕ) : Type 0 where
  pub script : List ℕ
  pub more : List ℕ
  pub read : ScriptEnd
  pub split : script ≡ prefix ++ more
  pub is_read : IsRead given left script read
  pub fits : length script ≤ longest_script

-- a script of which these bytes were read, and the reader has others
cut_off : (left : Option (List ℕ)) (prefix rest : List ℕ) → length prefix ≤ longest_script → longest_script < length (prefix ++ rest) → Whole (Some (prefix ++ rest)) left prefix
cut_off left prefix rest short long =
    let n : ℕ = longest_script - length prefix in
    let room : n < length rest = omega (arith, length-append prefix rest) in
    let size : length (prefix ++ take n rest) ≡ longest_script = omega (arith, length-append prefix (take n rest), length-take-le n rest (omega arith)) in
    record {
      script = prefix ++ take n rest;
      more = take n rest;
      read = Fault;
      split = refl;
      is_read = inr (size, (drop n rest, (λ is. omega (arith, ap length is, length-drop n rest)), ap (λ l. prefix ++ l) (sym (take-append-drop n rest)) ∙ sym (append_assoc prefix (take n rest) (drop n rest))));
      fits = omega (arith, size);
    }

whole_known : (bytes prefix rest : List ℕ) (left : Option (List ℕ)) → bytes ≡ prefix ++ rest → length prefix ≤ longest_script → Whole (Some bytes) left prefix
whole_known bytes prefix rest left is short =
    elim (cases_lt longest_script (length bytes)) [
      | inl long ↦ subst (λ b. Whole (Some b) left prefix) (sym is) (cut_off left prefix rest short (subst (λ b. longest_script < length b) is long))
      | inr fits ↦ record { script = bytes; more = rest; read = Reached; split = is; is_read = refl; fits = fits }
    ]

whole : (given left : Option (List ℕ)) (prefix : List ℕ) → Consumes given left prefix → length prefix ≤ longest_script → Whole given left prefix
whole None left prefix c short = record { script = prefix; more = []; read = Reached; split = sym (append-nil prefix); is_read = tt; fits = short }
whole (Some bytes) None prefix c short = absurd c
whole (Some bytes) (Some rest) prefix c short = whole_known bytes prefix rest (Some rest) c short

-- nothing is left of it
read_whole : (given left : Option (List ℕ)) (script : List ℕ) → Consumes given left script → IfSome left (λ bytes. bytes ≡ []) → IfSome given (λ bytes. script ≡ bytes)
read_whole None left script c e = tt
read_whole (Some bytes) None script c e = absurd c
read_whole (Some bytes) (Some rest) script c e = sym (c ∙ ap (λ l. script ++ l) e ∙ append-nil script)

-- a byte is left of it
has_more : (given left next : Option (List ℕ)) (script : List ℕ) (b : ℕ) → Consumes given left script → Consumes left next (b ∷ []) → IfSome given (λ bytes. (more : List ℕ) × (more ≢ []) × (bytes ≡ script ++ more))
has_more None left next script b c d = tt
has_more (Some bytes) None next script b c d = absurd c
has_more (Some bytes) (Some rest) None script b c d = absurd d
has_more (Some bytes) (Some rest) (Some left) script b c d = (rest, (λ is. cc), c)

-- the rest of a script whose reading failed is dropped
dropped : (on_error : OnError) (part : List ℕ) (state last : State) → last ≡ state → SessionOver on_error Fault state (texts_from part []) ends.ReadFault [] last
unfolding texts_from
dropped on_error part state last is = either (is_blank_part part) where
  either : (blank : Bool) → SessionOver on_error Fault state (if blank then [] else part_text part false ∷ []) ends.ReadFault [] last
  either true = (refl, refl, is)
  either false = (refl, refl, is)

module _ (on_error : OnError) (given : Option (List ℕ)) (old : Option (List ℕ)) (before : FolderState) where
  abbrev first : State
  first = with_tables [] before

  -- These bytes were read, the parts that they close were answered, and this part is begun after them.
  pub record SoFar (left now : Option (List ℕ)) (room : ℕ) (part : List ℕ) (state : State) : Type 0 where
    pub read : List ℕ
    pub consumed : Consumes given left read
    pub counted : length read + room ≡ longest_script
    pub ran : Ran on_error first (λ more. texts_from [] (read ++ more)) old now (texts_from part) state

  pub at_start : SoFar given old longest_script [] first
  at_start = record { read = []; consumed = Consumes-nil given; counted = refl; ran = starts on_error first (texts_from []) old }

  -- a run over the parts of a script
  over : (left new : Option (List ℕ)) (end : RunEnd) (tables : Stored) (after : FolderState) (script : List ℕ) (read : ScriptEnd) → IsRead given left script read → length script ≤ longest_script
      → (bytes : List ℕ) → SessionOver on_error read first (texts_from [] script) end bytes (with_tables tables after) → Appends old new bytes → IsRun on_error given left old new before after end
  over left new end tables after script read is_read fits bytes session grown =
      let has = have_parts script in
      record {
        script = script;
        read = read;
        is_read = is_read;
        fits = fits;
        parts = has.0;
        are_parts = has.1;
        tables = tables;
        has_run = (bytes, subst (λ parts. SessionOver on_error read first parts end bytes (with_tables tables after)) (parts_given script has.0 has.1) session, grown);
      }

  module _ (left now : Option (List ℕ)) (room : ℕ) (part : List ℕ) (state : State) (s : SoFar left now room part state) where
    -- a piece follows

    module _ (next : Option (List ℕ)) (buffer : List ℕ) (n : ℕ) (gives : GivesNext left next room buffer (Piece n)) where
      abbrev piece : List ℕ
      piece = take n buffer

      size : length piece ≡ n
      size = length-take-le n buffer gives.2

      consumed : Consumes given next (s.read ++ piece)
      consumed = Consumes-trans given left next s.read piece s.consumed gives.3

      counted : length (s.read ++ piece) + (room - n) ≡ longest_script
      counted = omega (arith, length-append s.read piece, size, s.counted, gives.1)

      -- the run so far, with the piece read
      so_far : Ran on_error first (λ more. texts_from [] ((s.read ++ piece) ++ more)) old now (λ more. texts_from part (piece ++ more)) state
      so_far =
          ran_same_parts on_error first state (λ more. texts_from [] (s.read ++ (piece ++ more))) (λ more. texts_from [] ((s.read ++ piece) ++ more)) (λ more. texts_from part (piece ++ more)) old now
          (λ more. ap (texts_from []) (sym (append_assoc s.read piece more)))
          (ran_before on_error piece first state (λ more. texts_from [] (s.read ++ more)) (texts_from part) old now s.ran)

      pub more_read : (new : Option (List ℕ)) (begun : List ℕ) (after : State) → Ran on_error state (λ more. texts_from part (piece ++ more)) now new (texts_from begun) after → SoFar next new (room - n) begun after
      more_read new begun after ran = record {
        read = s.read ++ piece;
        consumed = consumed;
        counted = counted;
        ran = ran_twice on_error first state after (λ more. texts_from [] ((s.read ++ piece) ++ more)) (λ more. texts_from part (piece ++ more)) (texts_from begun) old now new so_far ran;
      }

      pub ends_early : (new : Option (List ℕ)) (end : RunEnd) (tables : Stored) (after : FolderState) → HasEnded on_error state (λ more. texts_from part (piece ++ more)) now new end (with_tables tables after) → IsRun on_error given next old new before after end
      ends_early new end tables after ended =
          let w = whole given next (s.read ++ piece) consumed (omega (arith, counted)) in
          let all = ran_to_end on_error first state (with_tables tables after) (λ more. texts_from [] ((s.read ++ piece) ++ more)) (λ more. texts_from part (piece ++ more)) old now new end so_far ended in
          over next new end tables after w.script w.read w.is_read w.fits all.written
          (subst (λ script. SessionOver on_error w.read first (texts_from [] script) end all.written (with_tables tables after)) (sym w.split) (all.session w.read w.more)) all.grown

    -- the script ends here, read so

    ends_here : (next new : Option (List ℕ)) (read : ScriptEnd) (end : RunEnd) (tables : Stored) (after : FolderState) → IsRead given next s.read read
        → (bytes : List ℕ) → SessionOver on_error read state (texts_from part []) end bytes (with_tables tables after) → Appends now new bytes → IsRun on_error given next old new before after end
    ends_here next new read end tables after is_read bytes session grown =
        over next new end tables after s.read read is_read (omega (arith, s.counted)) (s.ran.written ++ bytes)
        (subst (λ script. SessionOver on_error read first (texts_from [] script) end (s.ran.written ++ bytes) (with_tables tables after)) (append-nil s.read) (s.ran.goes_on read [] end bytes (with_tables tables after) session))
        (appends_twice old now new s.ran.written bytes s.ran.grown grown)

    all_read : (next : Option (List ℕ)) (buffer : List ℕ) → GivesNext left next room buffer (End Reached) → IsRead given next s.read Reached
    all_read next buffer at_end = read_whole given left s.read s.consumed at_end

    pub ends_reached : (next new : Option (List ℕ)) (buffer : List ℕ) (end : RunEnd) (tables : Stored) (after : FolderState) → GivesNext left next room buffer (End Reached) → AnswersRest on_error part state now new end (with_tables tables after) → IsRun on_error given next old new before after end
    ends_reached next new buffer end tables after at_end rest = ends_here next new Reached end tables after (all_read next buffer at_end) rest.0 rest.1 rest.2

    broken : (next : Option (List ℕ)) (buffer : List ℕ) → GivesNext left next room buffer (End Fault) → IsRead given next s.read Fault
    broken next buffer (inl kept) = inl (Consumes-kept given left next s.read s.consumed kept)
    broken next buffer (inr over) = inr (omega (arith, s.counted, over.0), has_more given left next s.read over.1.0 s.consumed over.1.1)

    pub ends_broken : (next : Option (List ℕ)) (buffer : List ℕ) (tables : Stored) (after : FolderState) → with_tables tables after ≡ state → GivesNext left next room buffer (End Fault) → IsRun on_error given next old now before after ends.ReadFault
    ends_broken next buffer tables after is gives =
        ends_here next now Fault ends.ReadFault tables after (broken next buffer gives) [] (dropped on_error part state (with_tables tables after) is) (appends_none now)
