-- A statement has one answer over the same store and files, where neither memory nor the folder fails.
use Rattle.std.proofs.Common.{◌≡◌, ◌≢◌, ℕ, ◌≤◌, inl, inr, Bool, List, length, Option, None, Some, IsSome, if◌then◌else◌, refl, sym, ap, ◌∙◌, subst, arith}
use Rattle.std.specs.Str.{bytes_eq}
use Rattle.bw_lex.specs.declared.fault.SqlFault.{SqlFault}
use Rattle.bw_lex.specs.declared.fault.SqlFault.TheVariants as faults
use Rattle.bw_sql.specs.Statements.{IsStatementFault, Says}
use Rattle.bw_sql.specs.Tree.{StatementTree, save}
use Rattle.bw_sql.proofs.WholeStatement.{no_fault, one_fault, says_once}
use Rattle.bw_model.specs.Contents.{IsSaid}
use Rattle.bw_model.specs.FileUse.{FileUse, file_use, no_file, reads, writes}
use Rattle.bw_file.specs.declared.version.Version.TheVariants.{Second}
use Rattle.bw_model.specs.Filing.{HoldsBy}
use Rattle.bw_model.specs.Refusals.{refusal_of_fault}
use Rattle.bw_model.specs.Step.{outcome_of}
use Rattle.bw_model.specs.Store.{Store, table_of}
use Rattle.bw_model.specs.declared.content.Content.{Content}
use Rattle.bw_model.specs.declared.refusal.Refusal.TheVariants.{OutOfMemory}
use Rattle.bw_model.specs.declared.reply.Reply.{Reply}
use Rattle.bw_model.specs.declared.reply.Reply.TheVariants.{Count, Refused}
use Rattle.bw_model.proofs.OneTable.{one_file, one_said}
use Rattle.bw_engine.specs.StoredChanges.{LeavesStored}
use Rattle.bw_engine.specs.Stores.{Stored, store_of}
use Rattle.bw_engine.proofs.OneStored.{one_stored}
use Rattle.bw_shell.specs.Answers.{Answers, AnswersBy, ByFile, IsSaved, Outcome}
use Rattle.bw_shell.specs.Folders.{Files}
use Rattle.bw_shell.specs.Run.{MayAnswer, no_statement, statement, too_long, unclosed}
use Rattle.bw_shell.specs.States.{HasFile, KeepsFiles, SetsFile, State, file_in, store_in}

-- files that are known, and the same under each name

pub record SameFiles (files others : Option Files) : Type 0 where
  pub known : IsSome files
  pub known_too : IsSome others
  pub same : (name : List ℕ) → file_in files name ≡ file_in others name

pub itself : (files : Option Files) → IsSome files → SameFiles files files
itself files known = record { known = known; known_too = known; same = λ name. refl }

kept_files : (files others new newer : Option Files) → SameFiles files others → KeepsFiles files new → KeepsFiles others newer → SameFiles new newer
kept_files None others new newer same x y = absurd (let known = same.known in cc)
kept_files (Some list) None new newer same x y = absurd (let known = same.known_too in cc)
kept_files (Some list) (Some other) new newer same x y =
    subst (λ files. SameFiles files newer) (sym x) (subst (SameFiles (Some list)) (sym y) same)

set_files : (file bytes : List ℕ) (files others new newer : Option Files) → SameFiles files others → SetsFile file bytes files new → SetsFile file bytes others newer → SameFiles new newer
set_files file bytes None others new newer same x y = absurd (let known = same.known in cc)
set_files file bytes (Some list) None new newer same x y = absurd (let known = same.known_too in cc)
set_files file bytes (Some list) (Some other) None newer same x y = absurd x
set_files file bytes (Some list) (Some other) (Some left) None same x y = absurd y
set_files file bytes (Some list) (Some other) (Some left) (Some right) same x y = record {
  known = refl;
  known_too = refl;
  same = λ name. x name ∙ ap (λ o. if bytes_eq file name then Some bytes else o) (same.same name) ∙ sym (y name);
}

one_there : (files others : Option Files) (name : List ℕ) (file other : Option (List ℕ)) → SameFiles files others → HasFile files name file → HasFile others name other → file ≡ other
one_there None others name file other same x y = absurd (let known = same.known in cc)
one_there (Some list) None name file other same x y = absurd (let known = same.known_too in cc)
one_there (Some list) (Some right) name file other same x y = x ∙ same.same name ∙ sym y

-- the same tables, slots and encodings too, and the same files
pub record SameState (state other : State) : Type 0 where
  pub tables : state.tables ≡ other.tables
  pub files : SameFiles state.files other.files

pub record SameAnswer (reply other : Reply) (after left : State) : Type 0 where
  pub replies : reply ≡ other
  pub states : SameState after left

-- over the same tables

module _ (tables : Stored) (files others : Option Files) (failures count : ℕ) (same : SameFiles files others) (tree : StatementTree) (reply other : Reply) (after left : State) where
  abbrev store : Store
  store = store_of tables

  abbrev here : State
  here = record { tables = tables; files = files; failures = failures }

  abbrev there : State
  there = record { tables = tables; files = others; failures = count }

  one_outcome : (said also : Content) → said ≡ also → Outcome here said tree reply after → Outcome there also tree other left → SameAnswer reply other after left
  one_outcome said also is x y =
      let replies = x.replies ∙ ap (λ c. (outcome_of store c tree).0) is ∙ sym y.replies in
      let stores = x.leaves.store_is ∙ ap (λ c. (outcome_of store c tree).1) is ∙ sym y.leaves.store_is in
      record {
        replies = replies;
        states = record {
          tables = one_stored tables after.tables left.tables tree other (subst (λ r. LeavesStored tables tree r after.tables) replies x.stored) y.stored stores;
          files = kept_files files others after.files left.files same x.leaves.files_stay y.leaves.files_stay;
        };
      }

  one_by_file : (name : List ℕ) → ByFile here tree name reply after → ByFile there tree name other left → SameAnswer reply other after left
  one_by_file name x y =
      let file = one_there files others name x.file y.file same x.there y.there in
      let says : IsSaid store tree y.file x.said = subst (λ f. IsSaid store tree f x.said) file x.says in
      one_outcome x.said y.said (one_said store tree y.file x.said y.said says y.says) x.outcome y.outcome

  one_saved : (file : List ℕ) → IsSaved here tree file reply after → IsSaved there tree file other left → SameAnswer reply other after left
  one_saved file x y =
      let asks : save x.name file ≡ save y.name file = sym x.asks ∙ y.asks in
      let name : x.name ≡ y.name = cc in
      let found : Some x.table ≡ Some y.table = sym x.there ∙ ap (table_of store) name ∙ y.there in
      let table : x.table ≡ y.table = cc in
      let bytes : x.bytes ≡ y.bytes = one_file Second x.bytes y.bytes y.table (subst (HoldsBy Second x.bytes) table x.holds) y.holds in
      record {
        replies = x.says ∙ ap (λ t. Count (length t.rows)) table ∙ sym y.says;
        states = record {
          tables = x.tables_stay ∙ sym y.tables_stay;
          files = set_files file y.bytes files others after.files left.files same (subst (λ b. SetsFile file b files after.files) bytes x.file_set) y.file_set;
        };
      }

  one_use : (use_of : FileUse) → after.failures ≡ failures → left.failures ≡ count → AnswersBy use_of here tree reply after → AnswersBy use_of there tree other left → SameAnswer reply other after left
  one_use no_file p q a b = one_outcome _ _ refl a b
  one_use (reads file) p q a b =
      elim a [
        | inl x ↦ elim b [
          | inl y ↦ one_by_file file x y
          | inr cannot ↦ absurd (let more = cannot.failed.one_more in omega arith)
        ]
        | inr cannot ↦ absurd (let more = cannot.failed.one_more in omega arith)
      ]
  one_use (writes file) p q a b =
      elim a [
        | inl x ↦ elim b [
          | inl y ↦ one_saved file x y
          | inr cannot ↦ absurd (let more = cannot.failed.one_more in omega arith)
        ]
        | inr cannot ↦ absurd (let more = cannot.failed.one_more in omega arith)
      ]

  one_statement : reply ≢ Refused OutOfMemory → other ≢ Refused OutOfMemory → after.failures ≡ failures → left.failures ≡ count → Answers here tree reply after → Answers there tree other left → SameAnswer reply other after left
  one_statement m n p q a b =
      elim a [
        | inl wants ↦ absurd (m wants.says)
        | inr x ↦ elim b [ inl wants ↦ absurd (n wants.says) | inr y ↦ one_use (file_use store tree) p q x y ]
      ]

-- failures never become fewer

use_grows : (use_of : FileUse) (state : State) (tree : StatementTree) (reply : Reply) (after : State) → AnswersBy use_of state tree reply after → state.failures ≤ after.failures
use_grows no_file state tree reply after a = omega arith
use_grows (reads file) state tree reply after a =
    elim a [ inl x ↦ let stays = x.outcome.leaves.failures_stay in omega arith | inr cannot ↦ let more = cannot.failed.one_more in omega arith ]
use_grows (writes file) state tree reply after a =
    elim a [ inl x ↦ let stays = x.failures_stay in omega arith | inr cannot ↦ let more = cannot.failed.one_more in omega arith ]

pub answer_grows : (state : State) (closed : Bool) (text : List ℕ) (reply : Reply) (after : State) → MayAnswer state closed text reply after → state.failures ≤ after.failures
answer_grows state closed text reply after (too_long long) = omega arith
answer_grows state closed text reply after (unclosed short) = omega arith
answer_grows state closed text reply after (no_statement fault is) = omega arith
answer_grows state closed text reply after (statement tree says a) =
    elim a [ inl wants ↦ let stays = wants.stays.failures_stay in omega arith | inr x ↦ use_grows (file_use (store_in state) tree) state tree reply after x ]

-- a part's answer

not_memory : (fault : SqlFault) → Refused (refusal_of_fault fault) ≢ Refused OutOfMemory → fault ≢ faults.Memory
not_memory fault other e = other (ap (λ f. Refused (refusal_of_fault f)) e)

same_refusal : (state other : State) (text : List ℕ) (a b : SqlFault) → SameState state other → IsStatementFault a text → IsStatementFault b text → a ≢ faults.Memory → b ≢ faults.Memory → SameAnswer (Refused (refusal_of_fault a)) (Refused (refusal_of_fault b)) state other
same_refusal state other text a b same x y p q = record { replies = ap (λ f. Refused (refusal_of_fault f)) (one_fault text a b x y p q); states = same }

never_both : (text : List ℕ) (tree : StatementTree) (fault : SqlFault) → Says text tree → IsStatementFault fault text → fault ≢ faults.Memory → ⊥
never_both text tree fault says is other = other (no_fault text tree fault says is)

-- the other state, with these tables
same_statement : (state also after left : State) (tree : StatementTree) (reply other : Reply) → SameState state also → reply ≢ Refused OutOfMemory → other ≢ Refused OutOfMemory → after.failures ≡ state.failures → left.failures ≡ also.failures
    → Answers state tree reply after → Answers also tree other left → SameAnswer reply other after left
same_statement state also after left tree reply other same m n p q a b =
    one_statement state.tables state.files also.files state.failures also.failures same.files tree reply other after left m n p q a
    (subst (λ s. Answers (record { tables = s; files = also.files; failures = also.failures }) tree other left) (sym same.tables) b)

pub same_answer : (state also after left : State) (closed : Bool) (text : List ℕ) (reply other : Reply) → SameState state also → reply ≢ Refused OutOfMemory → other ≢ Refused OutOfMemory → after.failures ≡ state.failures → left.failures ≡ also.failures
    → MayAnswer state closed text reply after → MayAnswer also closed text other left → SameAnswer reply other after left
same_answer state also after left closed text reply other same m n p q (too_long long) (too_long longer) = record { replies = refl; states = same }
same_answer state also after left closed text reply other same m n p q (too_long long) (unclosed short) = absurd (omega arith)
same_answer state also after left closed text reply other same m n p q (too_long long) (no_statement fault is) = same_refusal state also text faults.TooLong fault same long is (λ e. cc) (not_memory fault n)
same_answer state also after left closed text reply other same m n p q (too_long long) (statement tree says b) = absurd (never_both text tree faults.TooLong says long (λ e. cc))
same_answer state also after left closed text reply other same m n p q (unclosed short) (too_long long) = absurd (omega arith)
same_answer state also after left closed text reply other same m n p q (unclosed short) (unclosed shorter) = record { replies = refl; states = same }
same_answer state also after left closed text reply other same m n p q (no_statement fault is) (too_long long) = same_refusal state also text fault faults.TooLong same is long (not_memory fault m) (λ e. cc)
same_answer state also after left closed text reply other same m n p q (no_statement fault is) (no_statement second so) = same_refusal state also text fault second same is so (not_memory fault m) (not_memory second n)
same_answer state also after left closed text reply other same m n p q (no_statement fault is) (statement tree says b) = absurd (never_both text tree fault says is (not_memory fault m))
same_answer state also after left closed text reply other same m n p q (statement tree says a) (too_long long) = absurd (never_both text tree faults.TooLong says long (λ e. cc))
same_answer state also after left closed text reply other same m n p q (statement tree says a) (no_statement fault is) = absurd (never_both text tree fault says is (not_memory fault n))
same_answer state also after left closed text reply other same m n p q (statement tree says a) (statement second so b) =
    same_statement state also after left tree reply other same m n p q a (subst (λ t. Answers also t other left) (says_once text second tree so says) b)
