-- The rest after the last cut of a script.
use Rattle.std.proofs.Common.{◌≡◌, ℕ, inl, inr, Bool, true, false, not, if◌then◌else◌, List, [], ◌∷◌, Option, None, Some, refl, sym, append-nil}
use Rattle.bw_split.specs.Splitting.{part_text, is_blank_part, texts_from}
use Rattle.bw_model.specs.ReplyText.{reply_text}
use Rattle.bw_model.specs.declared.reply.Reply.{Reply}
use Rattle.bw_shell.specs.Sessions.{AnswersRest, HandsOver}
use Rattle.bw_shell.specs.Run.{MayAnswer}
use Rattle.bw_shell.specs.States.{State}
use Rattle.bw_shell.specs.declared.running.OnError.{OnError}
use Rattle.bw_shell.specs.declared.running.RunEnd.{RunEnd}
use Rattle.bw_shell.specs.declared.running.RunEnd.TheVariants as ends
use Rattle.bw_shell.proofs.Texts.{appends_none}

texts_end : (part : List ℕ) → texts_from part [] ≡ (if is_blank_part part then [] else part_text part false ∷ [])
unfolding texts_from
texts_end part = refl

pub is_blank : (says blank : Bool) → says ≡ not blank → says ≡ false → blank ≡ true
is_blank says true e f = refl
is_blank says false e f = cc

pub is_not_blank : (says blank : Bool) → says ≡ not blank → says ≡ true → blank ≡ false
is_not_blank says true e f = cc
is_not_blank says false e f = refl

module _ (on_error : OnError) (part : List ℕ) (state : State) (old : Option (List ℕ)) where
  pub no_rest : is_blank_part part ≡ true → AnswersRest on_error part state old old ends.Done state
  no_rest blank = ([], rw (texts_end part, blank) (refl, refl, refl), appends_none old)

  module _ (says : is_blank_part part ≡ false) (reply : Reply) (after : State) (new : Option (List ℕ)) (answers : MayAnswer state false part reply after) where
    pub rest_answered : HandsOver on_error reply old new None → AnswersRest on_error part state old new ends.Done after
    rest_answered hands =
        (reply_text reply, rw (texts_end part, says) (reply, after, answers, inr ([], sym (append-nil (reply_text reply)), rw hands.1 (refl, refl, refl))), hands.0)

    pub rest_ended : (end : RunEnd) → HandsOver on_error reply old new (Some end) → AnswersRest on_error part state old new end after
    rest_ended end (inl failed) =
        (failed.1.prefix, rw (texts_end part, says) (reply, after, answers, inl (failed.0, (failed.1.rest, failed.1.split), refl)), failed.1.grown)
    rest_ended end (inr stopped) =
        (reply_text reply, rw (texts_end part, says) (reply, after, answers, inr ([], sym (append-nil (reply_text reply)), rw stopped.2 (stopped.0, refl, refl))), stopped.1)
