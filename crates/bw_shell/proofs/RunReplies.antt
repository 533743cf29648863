-- The bytes of replies determine them: each reply of a run is one that its text determines.
use Rattle.std.proofs.Common.{◌≡◌, ℕ, ◌<◌, ◌^◌, inl, inr, Bool, List, length, refl, sym, ap, subst, arith}
use Rattle.std.specs.List.{All}
use Rattle.std.proofs.lemmas.List.Elements.{All-cons, All-nil}
use Rattle.bw_lex.specs.declared.fault.SqlFault.{SqlFault}
use Rattle.bw_lex.specs.declared.fault.SqlFault.TheVariants as faults
use Rattle.bw_lex.specs.declared.script.Part.{Part}
use Rattle.bw_sql.specs.Brought.{names_brought}
use Rattle.bw_sql.specs.Names.{IsName}
use Rattle.bw_sql.specs.Tree.{StatementTree}
use Rattle.bw_sql.proofs.Spelled.{says_names}
use Rattle.bw_model.specs.Contents.{MayBeSaid}
use Rattle.bw_model.specs.FileUse.{FileUse, file_use, no_file, reads, writes}
use Rattle.bw_model.specs.Named.{AreNamed}
use Rattle.bw_model.specs.Refusals.{refusal_of_fault}
use Rattle.bw_model.specs.Step.{Step}
use Rattle.bw_model.specs.Store.{Store}
use Rattle.bw_model.specs.Told.{IsRefusal, IsReply}
use Rattle.bw_model.specs.WellFormed.{IsStore}
use Rattle.bw_model.specs.declared.content.Content.{Content}
use Rattle.bw_model.specs.declared.content.Content.TheVariants.{Nothing}
use Rattle.bw_model.specs.declared.refusal.Refusal.{Refusal}
use Rattle.bw_model.specs.declared.refusal.Refusal.TheVariants.{UnreadableFile, UnwritableFile}
use Rattle.bw_model.specs.declared.reply.Reply.{Reply}
use Rattle.bw_model.specs.declared.reply.Reply.TheVariants.{Refused}
use Rattle.bw_model.proofs.Kept.{kept, table_in}
use Rattle.bw_model.proofs.Naming.{names_kept}
use Rattle.bw_model.proofs.Replied.{replied}
use Rattle.bw_engine.specs.Counting.{said_of}
use Rattle.bw_engine.specs.Stores.{store_of}
use Rattle.bw_engine.proofs.Counted.{may_be_said}
use Rattle.bw_shell.specs.Answers.{Answers, AnswersBy, IsSaved, Outcome}
use Rattle.bw_shell.specs.Replies.{Answered, and_then, none_left}
use Rattle.bw_shell.specs.Run.{MayAnswer, no_statement, statement, text_of, too_long, unclosed}
use Rattle.bw_shell.specs.States.{State, store_in}

record IsReplyFrom (reply : Reply) (after : Store) : Type 0 where
  pub is_reply : IsReply reply
  pub are : IsStore after
  pub named : AreNamed after

fault_reply : (fault : SqlFault) → IsReply (Refused (refusal_of_fault fault))
fault_reply faults.Syntax = tt
fault_reply faults.TooLong = tt
fault_reply faults.TooDeep = tt
fault_reply faults.BigNumber = tt
fault_reply faults.Memory = tt

module _ (before : State) (tree : StatementTree) (reply : Reply) (after : State) (are : IsStore (store_in before)) (named : AreNamed (store_in before)) where
  -- the store stays
  by_stay : (store_in after) ≡ (store_in before) → IsReply reply → IsReplyFrom reply (store_in after)
  by_stay stays is_reply = record { is_reply = is_reply; are = subst IsStore (sym stays) are; named = subst AreNamed (sym stays) named }

  by_refusal : (refusal : Refusal) → reply ≡ Refused refusal → IsRefusal refusal → (store_in after) ≡ (store_in before) → IsReplyFrom reply (store_in after)
  by_refusal refusal says is_reply stays = by_stay stays (subst IsReply (sym says) is_reply)

  by_saved : (file : List ℕ) → IsSaved before tree file reply after → IsReplyFrom reply (store_in after)
  by_saved file saved =
      let few = (table_in (store_in before) saved.name saved.table saved.there are.tables).few in
      let fits : length saved.table.rows < 2 ^ 64 = omega (arith, few) in
      by_stay (ap store_of saved.tables_stay) (subst IsReply (sym saved.says) fits)

  module _ (brought : All IsName (names_brought tree)) where
    by_step : (said : Content) → MayBeSaid (store_in before) tree said → Step (store_in before) said tree reply (store_in after) → IsReplyFrom reply (store_in after)
    by_step said may step = record {
      is_reply = replied (store_in before) (store_in after) said tree reply are named may step;
      are = kept (store_in before) (store_in after) said tree reply are may step;
      named = names_kept (store_in before) (store_in after) said tree reply named brought may step;
    }

    by_outcome : (said : Content) → MayBeSaid (store_in before) tree said → Outcome before said tree reply after → IsReplyFrom reply (store_in after)
    by_outcome said may outcome = by_step said may (inr (λ j. (outcome.replies j, outcome.leaves.store_is j)))

    by_use : (use_of : FileUse) → AnswersBy use_of before tree reply after → IsReplyFrom reply (store_in after)
    by_use no_file outcome = by_outcome (said_of before.tables tree) (may_be_said before.tables tree) outcome
    by_use (reads file) answers =
        elim answers [
          | inl by ↦ by_outcome by.said (inr (inr (by.file, by.says))) by.outcome
          | inr cannot ↦ by_refusal UnreadableFile cannot.says tt (ap store_of cannot.failed.tables_stay)
        ]
    by_use (writes file) answers =
        elim answers [
          | inl saved ↦ by_saved file saved
          | inr cannot ↦ by_refusal UnwritableFile cannot.says tt (ap store_of cannot.failed.tables_stay)
        ]

    statement_reply : Answers before tree reply after → IsReplyFrom reply (store_in after)
    statement_reply answers =
        elim answers [
          | inl wants ↦ by_step Nothing (inl refl) (inl (record { accepted = wants.accepted; says = wants.says; stays = ap store_of wants.stays.tables_stay }))
          | inr by ↦ by_use (file_use (store_in before) tree) by
        ]

answer_reply : (state after : State) (closed : Bool) (text : List ℕ) (reply : Reply) → IsStore (store_in state) → AreNamed (store_in state) → MayAnswer state closed text reply after → IsReplyFrom reply (store_in after)
answer_reply state after closed text reply are named (too_long long) = record { is_reply = tt; are = are; named = named }
answer_reply state after closed text reply are named (unclosed short) = record { is_reply = tt; are = are; named = named }
answer_reply state after closed text reply are named (no_statement fault is) = record { is_reply = fault_reply fault; are = are; named = named }
answer_reply state after closed text reply are named (statement tree says answers) = statement_reply state tree reply after are named (says_names text tree says) answers

pub answers_are_replies : (script : List ℕ) (state after : State) (parts : List Part) (replies : List Reply) → IsStore (store_in state) → AreNamed (store_in state) → Answered script state parts replies after → All IsReply replies
answers_are_replies script state after parts replies are named none_left = All-nil IsReply
answers_are_replies script state after parts replies are named (and_then {mid = mid} {part = part} {parts = left} {reply = reply} {replies = others} answers more) =
    let this = answer_reply state mid part.is_closed (text_of script part) reply are named answers in
    All-cons IsReply reply others this.is_reply (answers_are_replies script mid after left others this.are this.named more)
