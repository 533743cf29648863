-- A table that is saved opens again from its file.
use Rattle.std.proofs.Common.{◌≡◌, ◌⊎◌, ℕ, ◌<◌, false, is_some, nat_le, nat_lt, List, length, Option, None, Some, IsSome, if◌then◌else◌, refl, ap, ◌∙◌, subst, inl, inr}
use Rattle.std.specs.Bool.{MatchBool}
use Rattle.std.proofs.lemmas.Bool.{lt-leb}
use Rattle.std.proofs.lemmas.Slice.Eq.{bytes_eq-Decides}
use Rattle.bw_file.proofs.Fronts.{length-spelling}
use Rattle.bw_sql.specs.Tree.{StatementTree, open_table, save}
use Rattle.bw_model.specs.Contents.{IsSaid, IsTableIn}
use Rattle.bw_model.specs.FileUse.{reads, unless_refused, writes}
use Rattle.bw_file.specs.declared.version.Version.TheVariants.{Second}
use Rattle.bw_model.specs.Filing.{Holds, HoldsBy, file_limit, filed, filed_length}
use Rattle.bw_model.specs.Refusals.{first_that_holds, over, refused_early, save_tests}
use Rattle.bw_model.specs.Step.{carried_out, outcome_of, refused_or}
use Rattle.bw_model.specs.Store.{Store, Table, table_limit, table_of}
use Rattle.bw_model.specs.declared.content.Content.{Content}
use Rattle.bw_model.specs.declared.content.Content.TheVariants as content
use Rattle.bw_model.specs.declared.refusal.Refusal.{Refusal}
use Rattle.bw_model.specs.declared.refusal.Refusal.TheVariants.{FileTooLarge, OutOfMemory, OverLimit, TableExists, UnwritableFile}
use Rattle.bw_model.specs.declared.reply.Reply.{Reply}
use Rattle.bw_model.specs.declared.reply.Reply.TheVariants.{Count, Refused}
use Rattle.bw_model.proofs.OneTable.{one_held}
use Rattle.bw_model.proofs.Passing.{if_none}
use Rattle.bw_model.proofs.Unchanged.{early_first}
use Rattle.bw_shell.specs.Answers.{Answers, AnswersBy, ByFile, CannotRead, IsSaved, Outcome, RunsOutOfMemory}
use Rattle.bw_shell.specs.Folders.{Files}
use Rattle.bw_shell.specs.Opening.{Opens}
use Rattle.bw_shell.specs.States.{HasFile, Leaves, SetsFile, State, file_in, store_in}

no_refusal : {P : Type 0} (n : ℕ) (refusal : Refusal) → Count n ≡ Refused refusal → P
no_refusal n refusal e = cc

-- what is refused whatever its file says has no count
early : {P : Type 0} (before after : State) (tree : StatementTree) (n : ℕ) (refusal : Refusal) → refused_early (store_in before) tree ≡ Some refusal → Outcome before content.Nothing tree (Count n) after → P
early before after tree n refusal is outcome =
    no_refusal n refusal
    (outcome.replies ∙ ap (λ first. (refused_or first (store_in before) (carried_out (store_in before) content.Nothing tree)).0) (early_first (store_in before) content.Nothing tree refusal is))

-- SAVE

-- the table was there, was counted, and is what the file holds
pub record Saved (store : Store) (name file : List ℕ) (n : ℕ) (files : Option Files) : Type 0 where
  pub table : Table
  pub there : table_of store name ≡ Some table
  pub counted : n ≡ length table.rows
  pub bytes : List ℕ
  pub holds : HoldsBy Second bytes table
  pub fits : nat_lt file_limit (length bytes) ≡ false
  pub filed : file_in files file ≡ Some bytes

set_there : (file bytes : List ℕ) (old new : Option Files) → IsSome old → SetsFile file bytes old new → file_in new file ≡ Some bytes
set_there file bytes None new known is = cc
set_there file bytes (Some list) None known is = absurd is
set_there file bytes (Some list) (Some other) known is =
    is file ∙ ap (λ b. if b then Some bytes else file_in (Some list) file) ((bytes_eq-Decides file file).1 refl)

-- a SAVE that isn't refused is of a table whose bytes are few enough
few_bytes : (there : Option Table) (table : Table) → there ≡ Some table → first_that_holds (over there save_tests) ≡ None → nat_lt file_limit (filed_length table) ≡ false
few_bytes None table is free = cc
few_bytes (Some other) table is free =
    let same : other ≡ table = cc in
    subst (λ t. nat_lt file_limit (filed_length t) ≡ false) same (if_none (nat_lt file_limit (filed_length other)) FileTooLarge None free).0

bytes_fit : (bytes : List ℕ) (table : Table) → HoldsBy Second bytes table → nat_lt file_limit (filed_length table) ≡ false → nat_lt file_limit (length bytes) ≡ false
bytes_fit bytes table holds few = ap (nat_lt file_limit) (ap length holds.spells.bytes_are ∙ length-spelling Second (filed table)) ∙ few

module _ (before after : State) (name file : List ℕ) (n : ℕ) (known : IsSome before.files) where
  by_saved : refused_early (store_in before) (save name file) ≡ None → IsSaved before (save name file) file (Count n) after → Saved (store_in before) name file n after.files
  by_saved free is =
      let asks : save name file ≡ save is.name file = is.asks in
      let same : name ≡ is.name = cc in
      let says : Count n ≡ Count (length is.table.rows) = is.says in
      let there = ap (table_of (store_in before)) same ∙ is.there in
      record {
        table = is.table;
        there = there;
        counted = cc;
        bytes = is.bytes;
        holds = is.holds;
        fits = bytes_fit is.bytes is.table is.holds (few_bytes (table_of (store_in before) name) is.table there free);
        filed = set_there file is.bytes before.files after.files known is.file_set;
      }

  save_by : (first : Option Refusal) → refused_early (store_in before) (save name file) ≡ first → AnswersBy (unless_refused first (writes file)) before (save name file) (Count n) after → Saved (store_in before) name file n after.files
  save_by None free answers = elim answers [ inl is ↦ by_saved free is | inr cannot ↦ no_refusal n UnwritableFile cannot.says ]
  save_by (Some refusal) is outcome = early before after (save name file) n refusal is outcome

  pub saved : Answers before (save name file) (Count n) after → Saved (store_in before) name file n after.files
  saved answers =
      elim answers [ inl wants ↦ no_refusal n OutOfMemory wants.says | inr by ↦ save_by (refused_early (store_in before) (save name file)) refl by ]

-- OPEN

pub there_is : (files : Option Files) (file bytes : List ℕ) (found : Option (List ℕ)) → file_in files file ≡ Some bytes → HasFile files file found → found ≡ Some bytes
there_is None file bytes found is has = cc
there_is (Some list) file bytes found is has = has ∙ is

-- an OPEN isn't refused early where the name is free and there is room for a table
pub open_free : (store : Store) (name file : List ℕ) → table_of store name ≡ None → length store < table_limit → refused_early store (open_table name file) ≡ None
open_free store name file none room =
    ap (λ there. if is_some there then Some TableExists else if nat_le table_limit (length store) then Some OverLimit else None) none
    ∙ ap (λ full. if full then Some OverLimit else None) (lt-leb table_limit (length store) room)

-- bytes that hold a table by the second version hold it
pub held_by : (bytes : List ℕ) (table : Table) → HoldsBy Second bytes table → Holds bytes table
held_by bytes table holds = record { wide = holds.wide; spells = inr holds.spells }

-- bytes that hold a table and are few enough say just that table to an OPEN
module _ (bytes : List ℕ) (table : Table) (holds : Holds bytes table) (fits : nat_lt file_limit (length bytes) ≡ false) where
  read_held : (said : Content) → IsTableIn bytes said → said ≡ content.Held table
  read_held (content.Held other) is = ap content.Held (one_held bytes other table is holds)
  read_held content.NotTable is = absurd (is table holds)
  read_held content.Nothing is = absurd is
  read_held (content.Counted units) is = absurd is
  read_held content.Missing is = absurd is
  read_held content.TooLarge is = absurd is
  read_held (content.Lines rows) is = absurd is
  read_held (content.Fault e) is = absurd is

  held : (said : Content) → MatchBool (nat_lt file_limit (length bytes)) (said ≡ content.TooLarge) (IsTableIn bytes said) → said ≡ content.Held table
  held said says = read_held said (subst (λ long. MatchBool long (said ≡ content.TooLarge) (IsTableIn bytes said)) fits says)

  module _ (later final : State) (other file : List ℕ) (reply : Reply) (filed : file_in later.files file ≡ Some bytes) (free : refused_early (store_in later) (open_table other file) ≡ None) where
    by_file : ByFile later (open_table other file) file reply final → Opens later other table reply final
    by_file by =
        let found = there_is later.files file bytes by.file filed by.there in
        let same = held by.said (subst (λ f. IsSaid (store_in later) (open_table other file) f by.said) found by.says) in
        let outcome : outcome_of (store_in later) by.said (open_table other file) ≡ carried_out (store_in later) (content.Held table) (open_table other file) =
        ap (λ said. outcome_of (store_in later) said (open_table other file)) same
        ∙ ap (λ first. refused_or first (store_in later) (carried_out (store_in later) (content.Held table) (open_table other file))) free
        in
        record {
          says = by.outcome.replies ∙ ap (λ (p : Reply × Store). p.0) outcome;
          adds = subst (λ store. Leaves later store final) (ap (λ (p : Reply × Store). p.1) outcome) by.outcome.leaves;
        }

    open_by : AnswersBy (reads file) later (open_table other file) reply final → Opens later other table reply final ⊎ CannotRead later reply final
    open_by answers = elim answers [ inl by ↦ inl (by_file by) | inr cannot ↦ inr cannot ]

    pub opened : Answers later (open_table other file) reply final → Opens later other table reply final ⊎ RunsOutOfMemory later (open_table other file) reply final ⊎ CannotRead later reply final
    opened answers =
        elim answers [
          | inl wants ↦ inr (inl wants)
          | inr by ↦ elim (open_by (subst (λ first. AnswersBy (unless_refused first (reads file)) later (open_table other file) reply final) free by)) [ inl opens ↦ inl opens | inr cannot ↦ inr (inr cannot) ]
        ]
