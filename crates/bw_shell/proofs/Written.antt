-- A session's bytes are the texts of replies.
use Rattle.std.proofs.Common.{◌≡◌, ◌⊎◌, ℕ, ◌+◌, inl, inr, Bool, true, false, ◌||◌, not, if◌then◌else◌, List, [], ◌∷◌, ◌++◌, refl, sym, ap, ◌∙◌, subst, append_assoc}
use Rattle.std.specs.List.{flat_map, list_any}
use Rattle.std.proofs.lemmas.Bool.{true≢false}
use Rattle.bw_lex.specs.Parts.{AreParts, ArePartsFrom, cut, is_blank_run, last, run_len}
use Rattle.bw_lex.specs.declared.script.Part.{Part}
use Rattle.bw_model.specs.ReplyText.{reply_text}
use Rattle.bw_model.specs.declared.reply.Reply.{Reply}
use Rattle.bw_model.specs.declared.reply.Reply.TheVariants.{Done, Count, Units, Rows, Refused}
use Rattle.bw_shell.specs.Replies.{LeavesOff, WroteReplies, and_then, none_left}
use Rattle.bw_shell.specs.Run.{Either, IsOver, MayAnswer, Session, is_dropped, last_end, stops, text_of}
use Rattle.bw_shell.specs.Script.{IsPrefixOf}
use Rattle.bw_shell.specs.States.{State}
use Rattle.bw_shell.specs.declared.reading.ScriptEnd.{ScriptEnd}
use Rattle.bw_shell.specs.declared.reading.ScriptEnd.TheVariants.{Reached, Fault}
use Rattle.bw_shell.specs.declared.running.OnError.{OnError}
use Rattle.bw_shell.specs.declared.running.OnError.TheVariants.{Continue, Stop}
use Rattle.bw_shell.specs.declared.running.RunEnd.{RunEnd}
use Rattle.bw_shell.specs.declared.running.RunEnd.TheVariants as ends

either : (b : Bool) (A B C : Type 0) → (b ≡ true → A → C) → (b ≡ false → B → C) → Either b A B → C
either true A B C f g e = f refl e
either false A B C f g e = g refl e

isnt : (b : Bool) → not b ≡ true → b ≡ false
isnt true e = sym e
isnt false e = refl

neither : (b c : Bool) → b ≡ false → c ≡ false → (b || c) ≡ false
neither true c e f = e
neither false c e f = f

-- a part that no `;` closes is the last
abbrev OpenIsLast : List Part → Type 0
OpenIsLast [] = Unit {0}
OpenIsLast (part ∷ parts) = (part.is_closed ≡ false → parts ≡ []) × OpenIsLast parts

with_closed : (blank : Bool) (part : Part) (parts : List Part) → part.is_closed ≡ true → OpenIsLast parts → OpenIsLast (if blank then parts else part ∷ parts)
with_closed true part parts closed more = more
with_closed false part parts closed more = ((λ unclosed. absurd (true≢false (sym closed ∙ unclosed))), more)

with_rest : (blank : Bool) (part : Part) → OpenIsLast (if blank then [] else part ∷ [])
with_rest true part = tt
with_rest false part = ((λ unclosed. refl), tt)

open_is_last : (at : ℕ) (script : List ℕ) (parts : List Part) → ArePartsFrom at script parts → OpenIsLast parts
open_is_last at script parts (cut {parts = more} run rest is after) =
    with_closed (is_blank_run run) (record { span = record { start = at; end = at + run_len run }; is_closed = true }) more refl (open_is_last (at + run_len run + 1) rest more after)
open_is_last at script parts (last run is) = with_rest (is_blank_run run) (record { span = record { start = at; end = at + run_len run }; is_closed = false })

module _ (on_error : OnError) (script : List ℕ) where
  -- no part is left
  at_end : (read : ScriptEnd) (state : State) → WroteReplies on_error read script state [] (last_end read) [] state
  at_end Reached state = record { answered = []; left = []; split = refl; kept = refl; replies = []; after = state; are_answered = none_left; begun = []; written = refl; leaves_off = (refl, refl, refl, refl, refl) }
  at_end Fault state = record { answered = []; left = []; split = refl; kept = refl; replies = []; after = state; are_answered = none_left; begun = []; written = refl; leaves_off = (refl, refl, tt, refl, refl) }

  -- the rest is dropped
  at_dropped : (read : ScriptEnd) (state : State) (part : Part) (parts : List Part) → (part.is_closed ≡ false → parts ≡ []) → is_dropped read part ≡ true → WroteReplies on_error read script state (part ∷ parts) (last_end read) [] state
  at_dropped Reached state part parts alone dropped = absurd (true≢false (sym dropped))
  at_dropped Fault state part parts alone dropped = record { answered = []; left = part ∷ parts; split = refl; kept = refl; replies = []; after = state; are_answered = none_left; begun = []; written = refl; leaves_off = (refl, refl, (dropped, alone (isnt part.is_closed dropped)), refl, refl) }

-- a run that is over ended so
module _ (on_error : OnError) (read : ScriptEnd) (script : List ℕ) (state at : State) (parts : List Part) (wanted end : RunEnd) (prefix bytes : List ℕ) (final : State) where
  over : WroteReplies on_error read script state parts wanted (prefix ++ []) at → IsOver wanted end bytes at final → WroteReplies on_error read script state parts end (prefix ++ bytes) final
  over wrote is =
      subst (λ e. WroteReplies on_error read script state parts e (prefix ++ bytes) final) (sym is.0)
      (subst (λ b. WroteReplies on_error read script state parts wanted (prefix ++ b) final) (sym is.1)
      (subst (WroteReplies on_error read script state parts wanted (prefix ++ [])) (sym is.2) wrote))

module _ (read : ScriptEnd) (script : List ℕ) (state : State) (part : Part) (parts : List Part) (reply : Reply) (after : State) (kept : is_dropped read part ≡ false) (answers : MayAnswer state part.is_closed (text_of script part) reply after) where
  -- the writer failed in the reply
  at_failure : (on_error : OnError) (end : RunEnd) (bytes : List ℕ) (final : State) → end ≡ ends.WriteFault → IsPrefixOf bytes (reply_text reply) → final ≡ after → WroteReplies on_error read script state (part ∷ parts) end bytes final
  at_failure on_error end bytes final is prefix same =
      subst (λ e. WroteReplies on_error read script state (part ∷ parts) e bytes final) (sym is)
      (subst (WroteReplies on_error read script state (part ∷ parts) ends.WriteFault bytes) (sym same)
      (record { answered = []; left = part ∷ parts; split = refl; kept = refl; replies = []; after = state; are_answered = none_left; begun = bytes; written = refl; leaves_off = ((reply, answers, prefix), refl) }))

one_kept : (read : ScriptEnd) (part : Part) → is_dropped read part ≡ false → list_any (is_dropped read) (part ∷ []) ≡ false
one_kept read part kept = neither (is_dropped read part) false kept refl

-- the reply is an error, and the run stops there
at_stop : (on_error : OnError) (read : ScriptEnd) (script : List ℕ) (state : State) (part : Part) (parts : List Part) (reply : Reply) (after : State) → is_dropped read part ≡ false → MayAnswer state part.is_closed (text_of script part) reply after → stops on_error reply ≡ true
    → WroteReplies on_error read script state (part ∷ parts) ends.Stopped (reply_text reply ++ []) after
at_stop Continue read script state part parts reply after kept answers stop = absurd (true≢false (sym stop))
at_stop Stop read script state part parts Done after kept answers stop = absurd (true≢false (sym stop))
at_stop Stop read script state part parts (Count n) after kept answers stop = absurd (true≢false (sym stop))
at_stop Stop read script state part parts (Units n) after kept answers stop = absurd (true≢false (sym stop))
at_stop Stop read script state part parts (Rows answer) after kept answers stop = absurd (true≢false (sym stop))
at_stop Stop read script state part parts (Refused refusal) after kept answers stop = record {
  answered = part ∷ [];
  left = parts;
  split = refl;
  kept = one_kept read part kept;
  replies = Refused refusal ∷ [];
  after = after;
  are_answered = and_then answers none_left;
  begun = [];
  written = sym (append_assoc (reply_text (Refused refusal)) [] []);
  leaves_off = (refl, refl, refl, ([], refusal, refl, refl));
}

-- one reply more before, after which the run goes on
leaves_off_more : (on_error : OnError) (read : ScriptEnd) (script : List ℕ) (state : State) (left : List Part) (reply : Reply) (replies : List Reply) (begun : List ℕ) (end : RunEnd) (final : State) → stops on_error reply ≡ false
    → LeavesOff on_error read script state left replies begun end final → LeavesOff on_error read script state left (reply ∷ replies) begun end final
leaves_off_more on_error read script state left reply replies begun ends.Done final going so = (so.0, so.1, so.2, so.3, neither (stops on_error reply) _ going so.4)
leaves_off_more on_error read script state left reply replies begun ends.ReadFault final going so = (so.0, so.1, so.2, so.3, neither (stops on_error reply) _ going so.4)
leaves_off_more on_error read script state left reply replies begun ends.Stopped final going so =
    let ended = so.3 in
    (so.0, so.1, so.2, (reply ∷ ended.0, ended.1, ap (λ l. reply ∷ l) ended.2, neither (stops Stop reply) _ (subst (λ o. stops o reply ≡ false) so.1 going) ended.3))
leaves_off_more on_error read script state left reply replies begun ends.WriteFault final going so = (so.0, neither (stops on_error reply) _ going so.1)
leaves_off_more on_error read script state left reply replies begun ends.Memory final going so = so

more : (on_error : OnError) (read : ScriptEnd) (script : List ℕ) (state : State) (part : Part) (parts : List Part) (reply : Reply) (after : State) (end : RunEnd) (rest : List ℕ) (final : State) → is_dropped read part ≡ false → MayAnswer state part.is_closed (text_of script part) reply after → stops on_error reply ≡ false
    → WroteReplies on_error read script after parts end rest final → WroteReplies on_error read script state (part ∷ parts) end (reply_text reply ++ rest) final
more on_error read script state part parts reply after end rest final kept answers going wrote = record {
  answered = part ∷ wrote.answered;
  left = wrote.left;
  split = ap (λ l. part ∷ l) wrote.split;
  kept = neither (is_dropped read part) _ kept wrote.kept;
  replies = reply ∷ wrote.replies;
  after = wrote.after;
  are_answered = and_then answers wrote.are_answered;
  begun = wrote.begun;
  written = ap (λ l. reply_text reply ++ l) wrote.written ∙ sym (append_assoc (reply_text reply) (flat_map reply_text wrote.replies) wrote.begun);
  leaves_off = leaves_off_more on_error read script wrote.after wrote.left reply wrote.replies wrote.begun end final going wrote.leaves_off;
}

by_parts : (on_error : OnError) (read : ScriptEnd) (script : List ℕ) (state : State) (parts : List Part) (end : RunEnd) (bytes : List ℕ) (final : State) → OpenIsLast parts → Session on_error read script state parts end bytes final → WroteReplies on_error read script state parts end bytes final
by_parts on_error read script state [] end bytes final alone session = over on_error read script state state [] (last_end read) end [] bytes final (at_end on_error script read state) session
by_parts on_error read script state (part ∷ parts) end bytes final alone session =
    either (is_dropped read part) _ _ _
    (λ dropped is. over on_error read script state state (part ∷ parts) (last_end read) end [] bytes final (at_dropped on_error script read state part parts alone.0 dropped) is)
    (λ kept answer. by_reply kept answer.0 answer.1 answer.2 (λ rest. by_parts on_error read script answer.1 parts end rest final alone.1) answer.3)
    session
  where
    by_reply : is_dropped read part ≡ false → (reply : Reply) (after : State) → MayAnswer state part.is_closed (text_of script part) reply after → ((rest : List ℕ) → Session on_error read script after parts end rest final → WroteReplies on_error read script after parts end rest final)
        → ((end ≡ ends.WriteFault) × IsPrefixOf bytes (reply_text reply) × (final ≡ after)) ⊎ ((rest : List ℕ) × (bytes ≡ reply_text reply ++ rest) × Either (stops on_error reply) (IsOver ends.Stopped end rest after final) (Session on_error read script after parts end rest final))
        → WroteReplies on_error read script state (part ∷ parts) end bytes final
    by_reply kept reply after answers deeper so =
        elim so [
          | inl failed ↦ at_failure read script state part parts reply after kept answers on_error end bytes final failed.0 failed.1 failed.2
          | inr on ↦ subst (λ b. WroteReplies on_error read script state (part ∷ parts) end b final) (sym on.1) (either (stops on_error reply) _ _ _
              (λ stop is. over on_error read script state after (part ∷ parts) ends.Stopped end (reply_text reply) on.0 final (at_stop on_error read script state part parts reply after kept answers stop) is)
              (λ going session. more on_error read script state part parts reply after end on.0 final kept answers going (deeper on.0 session))
              on.2)
        ]

pub wrote_replies : (on_error : OnError) (read : ScriptEnd) (script : List ℕ) (state : State) (parts : List Part) (end : RunEnd) (bytes : List ℕ) (final : State) → AreParts script parts → Session on_error read script state parts end bytes final → WroteReplies on_error read script state parts end bytes final
wrote_replies on_error read script state parts end bytes final are session = by_parts on_error read script state parts end bytes final (open_is_last 0 script parts are) session
