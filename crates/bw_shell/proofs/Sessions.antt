-- A run so far.
use Rattle.std.proofs.Common.{◌≡◌, ℕ, inl, inr, true, false, List, [], ◌∷◌, ◌++◌, Option, None, Some, refl, sym, subst, append_assoc, append-nil}
use Rattle.bw_split.specs.Splitting.{part_text}
use Rattle.bw_model.specs.ReplyText.{reply_text}
use Rattle.bw_model.specs.declared.reply.Reply.{Reply}
use Rattle.bw_shell.specs.Sessions.{HandsOver, HasEnded, Ran, PartsWith}
use Rattle.bw_shell.specs.Run.{MayAnswer, SessionOver, drops}
use Rattle.bw_shell.specs.States.{State}
use Rattle.bw_shell.specs.declared.reading.ScriptEnd.{ScriptEnd}
use Rattle.bw_shell.specs.declared.reading.ScriptEnd.TheVariants.{Fault, Reached}
use Rattle.bw_shell.specs.declared.running.OnError.{OnError}
use Rattle.bw_shell.specs.declared.running.RunEnd.{RunEnd}
use Rattle.bw_shell.proofs.Texts.{appends_none, appends_twice}

-- a part that a cut closes is never dropped
pub never_drops : (read : ScriptEnd) → drops read true ≡ false
never_drops Reached = refl
never_drops Fault = refl

module _ (on_error : OnError) where
  pub starts : (first : State) (all : PartsWith) (old : Option (List ℕ)) → Ran on_error first all old old all first
  starts first all old = record { written = []; grown = appends_none old; goes_on = λ read more end bytes last s. s }

  -- the parts may be given in another way
  pub ran_same_parts : (first state : State) (all other rest : PartsWith) (old now : Option (List ℕ)) → ((more : List ℕ) → all more ≡ other more) → Ran on_error first all old now rest state → Ran on_error first other old now rest state
  ran_same_parts first state all other rest old now same ran = record {
    written = ran.written;
    grown = ran.grown;
    goes_on = λ read more end bytes last s. subst (λ parts. SessionOver on_error read first parts end (ran.written ++ bytes) last) (same more) (ran.goes_on read more end bytes last s);
  }

  pub rest_same_parts : (first state : State) (all rest other : PartsWith) (old now : Option (List ℕ)) → ((more : List ℕ) → rest more ≡ other more) → Ran on_error first all old now rest state → Ran on_error first all old now other state
  rest_same_parts first state all rest other old now same ran = record {
    written = ran.written;
    grown = ran.grown;
    goes_on = λ read more end bytes last s. ran.goes_on read more end bytes last (subst (λ parts. SessionOver on_error read state parts end bytes last) (sym (same more)) s);
  }

  pub ended_same_parts : (first last : State) (all other : PartsWith) (old new : Option (List ℕ)) (end : RunEnd) → ((more : List ℕ) → all more ≡ other more) → HasEnded on_error first all old new end last → HasEnded on_error first other old new end last
  ended_same_parts first last all other old new end same ended = record {
    written = ended.written;
    grown = ended.grown;
    session = λ read more. subst (λ parts. SessionOver on_error read first parts end ended.written last) (same more) (ended.session read more);
  }

  -- these bytes follow
  pub ran_before : (piece : List ℕ) (first state : State) (all rest : PartsWith) (old now : Option (List ℕ)) → Ran on_error first all old now rest state → Ran on_error first (λ more. all (piece ++ more)) old now (λ more. rest (piece ++ more)) state
  ran_before piece first state all rest old now ran = record {
    written = ran.written;
    grown = ran.grown;
    goes_on = λ read more end bytes last s. ran.goes_on read (piece ++ more) end bytes last s;
  }

  -- one after the other
  pub ran_twice : (first mid state : State) (all between rest : PartsWith) (old now new : Option (List ℕ)) → Ran on_error first all old now between mid → Ran on_error mid between now new rest state → Ran on_error first all old new rest state
  ran_twice first mid state all between rest old now new a b = record {
    written = a.written ++ b.written;
    grown = appends_twice old now new a.written b.written a.grown b.grown;
    goes_on = λ read more end bytes last s.
        subst (λ written. SessionOver on_error read first (all more) end written last) (sym (append_assoc a.written b.written bytes))
        (a.goes_on read more end (b.written ++ bytes) last (b.goes_on read more end bytes last s));
  }

  pub ran_to_end : (first mid last : State) (all between : PartsWith) (old now new : Option (List ℕ)) (end : RunEnd) → Ran on_error first all old now between mid → HasEnded on_error mid between now new end last → HasEnded on_error first all old new end last
  ran_to_end first mid last all between old now new end a b = record {
    written = a.written ++ b.written;
    grown = appends_twice old now new a.written b.written a.grown b.grown;
    session = λ read more. a.goes_on read more end b.written last (b.session read more);
  }

  -- a part that a cut closes was answered, and the reply handed over
  module _ (text : List ℕ) (rest : PartsWith) (state after : State) (reply : Reply) (old new : Option (List ℕ)) (answers : MayAnswer state true text reply after) where
    abbrev all : PartsWith
    all more = part_text text true ∷ rest more

    pub ran_part : HandsOver on_error reply old new None → Ran on_error state all old new rest after
    ran_part hands = record {
      written = reply_text reply;
      grown = hands.0;
      goes_on = λ read more end bytes last s. rw (never_drops read) (reply, after, answers, inr (bytes, refl, rw hands.1 s));
    }

    pub ended_part : (end : RunEnd) → HandsOver on_error reply old new (Some end) → HasEnded on_error state all old new end after
    ended_part end (inl failed) = record {
      written = failed.1.prefix;
      grown = failed.1.grown;
      session = λ read more. rw (never_drops read) (reply, after, answers, inl (failed.0, (failed.1.rest, failed.1.split), refl));
    }
    ended_part end (inr stopped) = record {
      written = reply_text reply;
      grown = stopped.1;
      session = λ read more. rw (never_drops read) (reply, after, answers, inr ([], sym (append-nil (reply_text reply)), rw stopped.2 (stopped.0, refl, refl)));
    }
