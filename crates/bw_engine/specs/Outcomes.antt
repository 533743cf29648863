-- What a statement replies, and the store after it.
use Rattle.std.specs.Prelude.{◌≡◌, ◌⊎◌, None, Some, Result, Ok, Err, MatchResult}
use Rattle.bw_sql.specs.Tree.{StatementTree}
use Rattle.bw_model.specs.Refusals.{Tests, first_that_holds, refused_early, tests_of}
use Rattle.bw_model.specs.Step.{carried_out}
use Rattle.bw_model.specs.Store.{Store}
use Rattle.bw_model.specs.declared.content.Content.{Content}
use Rattle.bw_model.specs.declared.refusal.Refusal.{Refusal}
use Rattle.bw_model.specs.declared.refusal.Refusal.TheVariants.{OutOfMemory}
use Rattle.bw_model.specs.declared.reply.Reply.{Reply}
use Rattle.bw_model.specs.declared.reply.Reply.TheVariants.{Refused}

abbrev pub reply_of : Result Reply Refusal → Reply
reply_of (Ok reply) = reply
reply_of (Err e) = Refused e

-- the first test that holds; or out of memory, if no test holds that is independent of the file
abbrev pub MayRefuseStep : Store → Content → StatementTree → Refusal → Type 0
MayRefuseStep store said statement e = ((refused_early store statement ≡ None) × (e ≡ OutOfMemory)) ⊎ (first_that_holds (tests_of store said statement) ≡ Some e)

-- P of the value, where no test holds; else the first test that holds or, if none of the early tests holds, out of memory
abbrev pub AnswersAfter : {T : Type 0} → Tests → Tests → Result T Refusal → (T → Type 0) → Type 0
AnswersAfter early tests result P = MatchResult result (λ x. (first_that_holds tests ≡ None) × P x) (λ e. ((first_that_holds early ≡ None) × (e ≡ OutOfMemory)) ⊎ (first_that_holds tests ≡ Some e))

-- if no test holds, the reply and the store after are those of the statement
abbrev pub CarriesOut : Store → Content → StatementTree → Result Reply Refusal → Store → Type 0
CarriesOut store said statement result after =
    MatchResult result (λ reply. (first_that_holds (tests_of store said statement) ≡ None) × (◌≡◌ {A = Reply × Store} (reply, after) (carried_out store said statement))) (MayRefuseStep store said statement)
