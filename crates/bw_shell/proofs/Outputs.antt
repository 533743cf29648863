-- A script has one output.
use Rattle.std.proofs.Common.{◌≡◌, ◌≢◌, ◌⊎◌, ℕ, ◌≤◌, inl, inr, Bool, true, false, List, [], ◌∷◌, ◌++◌, refl, sym, ap, ◌∙◌, subst, append_assoc, arith}
use Rattle.bw_lex.specs.declared.script.Part.{Part}
use Rattle.bw_lex.proofs.OneSplit.{same_parts}
use Rattle.bw_model.specs.ReplyText.{reply_text}
use Rattle.bw_model.specs.declared.refusal.Refusal.TheVariants.{OutOfMemory}
use Rattle.bw_model.specs.declared.reply.Reply.{Reply}
use Rattle.bw_model.specs.declared.reply.Reply.TheVariants.{Refused}
use Rattle.bw_shell.specs.Output.{IsOutput, NeverOutOfMemory}
use Rattle.bw_shell.specs.Run.{Either, IsOver, MayAnswer, Session, is_dropped, last_end, stops, text_of}
use Rattle.bw_shell.specs.Script.{IsPrefixOf}
use Rattle.bw_shell.specs.States.{State}
use Rattle.bw_shell.specs.declared.reading.ScriptEnd.{ScriptEnd}
use Rattle.bw_shell.specs.declared.running.OnError.{OnError}
use Rattle.bw_shell.specs.declared.running.RunEnd.{RunEnd}
use Rattle.bw_shell.specs.declared.running.RunEnd.TheVariants as ends
use Rattle.bw_shell.proofs.OneAnswer.{SameState, answer_grows, itself, same_answer}

module _ (on_error : OnError) (read : ScriptEnd) (script : List ℕ) where
  pub record SameEnd (end other : RunEnd) (bytes also : List ℕ) : Type 0 where
    pub ends_so : end ≡ other
    pub writes : bytes ≡ also

  over : (wanted end other : RunEnd) (bytes also : List ℕ) (state begun final left : State) → IsOver wanted end bytes state final → IsOver wanted other also begun left → SameEnd end other bytes also
  over wanted end other bytes also state begun final left a b = record { ends_so = a.0 ∙ sym b.0; writes = a.1 ∙ sym b.1 }

  -- what follows a reply that was written whole
  abbrev Next : Bool → State → List Part → RunEnd → List ℕ → State → Type 0
  Next stop after parts end rest final = Either stop (IsOver ends.Stopped end rest after final) (Session on_error read script after parts end rest final)

  -- failures never become fewer along a session

  next_grows : (stop : Bool) (after : State) (parts : List Part) (end : RunEnd) (rest : List ℕ) (final : State) → (Session on_error read script after parts end rest final → after.failures ≤ final.failures) → Next stop after parts end rest final → after.failures ≤ final.failures
  next_grows true after parts end rest final deeper is = let same = ap (λ s. s.failures) is.2 in omega arith
  next_grows false after parts end rest final deeper session = deeper session

  drop_grows : (dropped : Bool) (state : State) (part : Part) (parts : List Part) (end : RunEnd) (bytes : List ℕ) (final : State) → ((after : State) (rest : List ℕ) → Session on_error read script after parts end rest final → after.failures ≤ final.failures)
      → Either dropped (IsOver (last_end read) end bytes state final)
      ((reply : Reply) × (after : State) × MayAnswer state part.is_closed (text_of script part) reply after × (((end ≡ ends.WriteFault) × IsPrefixOf bytes (reply_text reply) × (final ≡ after)) ⊎ ((rest : List ℕ) × (bytes ≡ reply_text reply ++ rest) × Next (stops on_error reply) after parts end rest final)))
      → state.failures ≤ final.failures
  drop_grows true state part parts end bytes final deeper is = let same = ap (λ s. s.failures) is.2 in omega arith
  drop_grows false state part parts end bytes final deeper session =
      let first = answer_grows state part.is_closed (text_of script part) session.0 session.1 session.2 in
      elim session.3 [
        | inl failed ↦ let same = ap (λ s. s.failures) failed.2 in omega arith
        | inr on ↦ let more = next_grows (stops on_error session.0) session.1 parts end on.0 final (deeper session.1 on.0) on.2 in omega arith
      ]

  session_grows : (state : State) (parts : List Part) (end : RunEnd) (bytes : List ℕ) (final : State) → Session on_error read script state parts end bytes final → state.failures ≤ final.failures
  session_grows state [] end bytes final is = let same = ap (λ s. s.failures) is.2 in omega arith
  session_grows state (part ∷ parts) end bytes final session =
      drop_grows (is_dropped read part) state part parts end bytes final (λ after rest. session_grows after parts end rest final) session

  -- a part answered without a failure, of which the reply was written whole
  record Goes (state : State) (part : Part) (parts : List Part) (end : RunEnd) (bytes : List ℕ) (final : State) : Type 0 where
    pub reply : Reply
    pub after : State
    pub answers : MayAnswer state part.is_closed (text_of script part) reply after
    pub rest : List ℕ
    pub split : bytes ≡ reply_text reply ++ rest
    pub next : Next (stops on_error reply) after parts end rest final
    pub here : after.failures ≡ state.failures
    pub later : final.failures ≡ after.failures

  goes : (dropped : Bool) (state : State) (part : Part) (parts : List Part) (end : RunEnd) (bytes : List ℕ) (final : State) → end ≢ ends.WriteFault → final.failures ≡ state.failures → dropped ≡ false
      → Either dropped (IsOver (last_end read) end bytes state final)
      ((reply : Reply) × (after : State) × MayAnswer state part.is_closed (text_of script part) reply after × (((end ≡ ends.WriteFault) × IsPrefixOf bytes (reply_text reply) × (final ≡ after)) ⊎ ((rest : List ℕ) × (bytes ≡ reply_text reply ++ rest) × Next (stops on_error reply) after parts end rest final)))
      → Goes state part parts end bytes final
  goes true state part parts end bytes final written unfailing kept session = cc
  goes false state part parts end bytes final written unfailing kept session =
      let first = answer_grows state part.is_closed (text_of script part) session.0 session.1 session.2 in
      elim session.3 [
        | inl failed ↦ absurd (written failed.0)
        | inr on ↦
            let more = next_grows (stops on_error session.0) session.1 parts end on.0 final (session_grows session.1 parts end on.0 final) on.2 in
            record { reply = session.0; after = session.1; answers = session.2; rest = on.0; split = on.1; next = on.2; here = omega arith; later = omega arith }
      ]

  had_memory : (state : State) (part : Part) (parts : List Part) (end : RunEnd) (bytes : List ℕ) (final : State) → NeverOutOfMemory bytes → (g : Goes state part parts end bytes final) → g.reply ≢ Refused OutOfMemory
  had_memory state part parts end bytes final memory g is = memory [] g.rest (g.split ∙ ap (λ r. reply_text r ++ g.rest) is)

  had_memory_later : (state : State) (part : Part) (parts : List Part) (end : RunEnd) (bytes : List ℕ) (final : State) → NeverOutOfMemory bytes → (g : Goes state part parts end bytes final) → NeverOutOfMemory g.rest
  had_memory_later state part parts end bytes final memory g prefix rest is =
      memory (reply_text g.reply ++ prefix) rest
      (g.split ∙ ap (λ l. reply_text g.reply ++ l) (is ∙ append_assoc prefix (reply_text (Refused OutOfMemory)) rest)
      ∙ sym (append_assoc (reply_text g.reply) prefix (reply_text (Refused OutOfMemory) ++ rest)) ∙ sym (append_assoc (reply_text g.reply ++ prefix) (reply_text (Refused OutOfMemory)) rest))

  module _ (end other : RunEnd) (final left : State) where
    -- what is known of the rest
    abbrev Deeper : List Part → Type 0
    Deeper parts =
        (state begun : State) (rest others : List ℕ) → SameState state begun → final.failures ≡ state.failures → left.failures ≡ begun.failures → NeverOutOfMemory rest → NeverOutOfMemory others
        → Session on_error read script state parts end rest final → Session on_error read script begun parts other others left → SameEnd end other rest others

    by_stop : (stop : Bool) (after now : State) (parts : List Part) (rest others : List ℕ) → Deeper parts → SameState after now → final.failures ≡ after.failures → left.failures ≡ now.failures → NeverOutOfMemory rest → NeverOutOfMemory others
        → Next stop after parts end rest final → Next stop now parts other others left → SameEnd end other rest others
    by_stop true after now parts rest others deeper same x y m n s t = over ends.Stopped end other rest others after now final left s t
    by_stop false after now parts rest others deeper same x y m n s t = deeper after now rest others same x y m n s t

    by_goes : (state begun : State) (part : Part) (parts : List Part) (bytes also : List ℕ) → Deeper parts → SameState state begun → NeverOutOfMemory bytes → NeverOutOfMemory also → Goes state part parts end bytes final → Goes begun part parts other also left → SameEnd end other bytes also
    by_goes state begun part parts bytes also deeper alike m n g h =
        let same = same_answer state begun g.after h.after part.is_closed (text_of script part) g.reply h.reply alike (had_memory state part parts end bytes final m g) (had_memory begun part parts other also left n h) g.here h.here g.answers h.answers in
        let moved : Next (stops on_error g.reply) h.after parts other h.rest left = subst (λ r. Next (stops on_error r) h.after parts other h.rest left) (sym same.replies) h.next in
        let rest =
        by_stop (stops on_error g.reply) g.after h.after parts g.rest h.rest deeper same.states g.later h.later
        (had_memory_later state part parts end bytes final m g) (had_memory_later begun part parts other also left n h) g.next moved in
        record { ends_so = rest.ends_so; writes = g.split ∙ (λ j. reply_text (same.replies j) ++ rest.writes j) ∙ sym h.split }

    module _ (p : end ≢ ends.WriteFault) (q : other ≢ ends.WriteFault) where
      by_drop : (b : Bool) (state begun : State) (part : Part) (parts : List Part) (bytes also : List ℕ) → is_dropped read part ≡ b → SameState state begun → final.failures ≡ state.failures → left.failures ≡ begun.failures → NeverOutOfMemory bytes → NeverOutOfMemory also → Deeper parts
          → Session on_error read script state (part ∷ parts) end bytes final → Session on_error read script begun (part ∷ parts) other also left → SameEnd end other bytes also
      by_drop true state begun part parts bytes also dropped alike x y m n deeper s t = over (last_end read) end other bytes also state begun final left (rw dropped at s) (rw dropped at t)
      by_drop false state begun part parts bytes also kept alike x y m n deeper s t =
          by_goes state begun part parts bytes also deeper alike m n (goes (is_dropped read part) state part parts end bytes final p x kept s) (goes (is_dropped read part) begun part parts other also left q y kept t)

      pub same_output : (parts : List Part) → Deeper parts
      same_output [] state begun bytes also alike x y m n a b = over (last_end read) end other bytes also state begun final left a b
      same_output (part ∷ parts) state begun bytes also alike x y m n a b = by_drop (is_dropped read part) state begun part parts bytes also refl alike x y m n (same_output parts) a b

pub one_output : (on_error : OnError) (read : ScriptEnd) (script : List ℕ) (state final left : State) (end other : RunEnd) (bytes also : List ℕ) → IsOutput on_error read script state end bytes final → IsOutput on_error read script state other also left → (end ≡ other) × (bytes ≡ also)
one_output on_error read script state final left end other bytes also a b =
    let parts = same_parts 0 script b.parts a.parts b.are_parts a.are_parts in
    let alike : SameState state state = record { tables = refl; files = itself state.files a.known } in
    let same =
    same_output on_error read script end other final left a.written b.written a.parts state state bytes also alike a.unfailing b.unfailing a.memory b.memory a.session
    (subst (λ l. Session on_error read script state l other also left) parts b.session) in
    (same.ends_so, same.writes)
