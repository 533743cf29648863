-- What a statement is answered, from what the engine and the folder answered.
use Rattle.std.proofs.Common.{◌≡◌, ◌∙◌, ◌⊎◌, ◌+◌, ◌<◌, ◌≤◌, inl, inr, ℕ, List, length, replicate, Option, None, Some, Ok, Err, Result, refl, sym, ap, subst, arith}
use Rattle.std.specs.Prelude.{IsSomeAnd}
use Rattle.std.specs.Bool.{MatchBool}
use Rattle.std.specs.Borrow.{Bor}
use Rattle.std.specs.Global.{Vec as GlobalVec}
use Rattle.std.proofs.lemmas.Bool.{lt-ltb}
use Rattle.std.proofs.lemmas.List.{length-replicate}
use Rattle.bw_sql.specs.Tree.{StatementTree}
use Rattle.bw_model.specs.Contents.{IsReadAs, IsSaid, SaysTo}
use Rattle.bw_model.specs.FileUse.{FileUse, file_read, file_use, no_file, reads, unless_refused, use_in, writes}
use Rattle.bw_model.specs.Filing.{file_limit}
use Rattle.bw_model.specs.Refusals.{refused_early}
use Rattle.bw_model.specs.Step.{Step, WantsMemory}
use Rattle.bw_model.specs.Store.{Store}
use Rattle.bw_model.specs.declared.content.Content.{Content}
use Rattle.bw_model.specs.declared.content.Content.TheVariants as content
use Rattle.bw_model.specs.declared.refusal.Refusal.{Refusal}
use Rattle.bw_model.specs.declared.refusal.Refusal.TheVariants.{OutOfMemory, UnreadableFile}
use Rattle.bw_model.specs.declared.reply.Reply.{Reply}
use Rattle.bw_model.specs.declared.reply.Reply.TheVariants.{Refused}
use Rattle.bw_engine.specs.Files.{IsNoSave, Replies, RepliesBy}
use Rattle.bw_engine.specs.StoredChanges.{LeavesStored}
use Rattle.bw_engine.specs.Stores.{Stored, store_of}
use Rattle.bw_engine.specs.declared.file_answer.FileAnswer.TheVariants as file
use Rattle.bw_shell.specs.Answers.{Answers, AnswersBy, RunsOutOfMemory}
use Rattle.bw_shell.specs.Folders.{Files, Reads, failures_after, file_of}
use Rattle.bw_shell.specs.FileReading.{AnswersFault, IsRead, IsReadFor}
use Rattle.bw_shell.specs.States.{FolderState, HasFile, KeepsFiles, State, seen, with_tables}
use Rattle.bw_shell.specs.declared.folders.FolderFault.{FolderFault}
use Rattle.bw_shell.specs.declared.folders.FolderFault.TheVariants as fault

-- what is used isn't refused early
pub used : (o : Option Refusal) (named : FileUse) (name : List ℕ) → unless_refused o named ≡ writes name → (o ≡ None) × (named ≡ writes name)
used None named name e = (refl, e)
used (Some refusal) named name e = cc

used_read : (o : Option Refusal) (named : FileUse) (name : List ℕ) → unless_refused o named ≡ reads name → o ≡ None
used_read None named name e = refl
used_read (Some refusal) named name e = cc

kept : (files : Option Files) → KeepsFiles files files
kept None = tt
kept (Some files) = refl

-- what is refused leaves all tables
refused_stays : (tables after : Stored) (tree : StatementTree) (reply : Reply) (refusal : Refusal) → reply ≡ Refused refusal → LeavesStored tables tree reply after → after ≡ tables
refused_stays tables after tree reply refusal says stored = subst (λ r. LeavesStored tables tree r after) says stored

module _ (tables : Stored) (tree : StatementTree) (files : Option Files) (failures : ℕ) where
  abbrev before : Store
  before = store_of tables

  abbrev now : State
  now = with_tables tables (seen files failures)

  -- no file was read
  by_use : (named : FileUse) (reply : Reply) (after : Stored) → file_use before tree ≡ named → None ≡ file_read named → RepliesBy (file_read named) tables tree file.NotAsked reply (store_of after) → LeavesStored tables tree reply after → IsNoSave named reply
      → RunsOutOfMemory now tree reply (with_tables after (seen files failures)) ⊎ AnswersBy named now tree reply (with_tables after (seen files failures))
  by_use no_file reply after is none replies stored saves =
      elim replies [
        | inl w ↦ inl (record { accepted = w.accepted; says = w.says; stays = record { tables_stay = refused_stays tables after tree reply OutOfMemory w.says stored; files_stay = kept files; failures_stay = refl } })
        | inr e ↦ inr (record { replies = ap (λ (p : Reply × Store). p.0) e; leaves = record { store_is = ap (λ (p : Reply × Store). p.1) e; files_stay = kept files; failures_stay = refl }; stored = stored })
      ]
  by_use (reads name) reply after is none replies stored saves = cc
  by_use (writes name) reply after is none replies stored saves =
      let p = used (refused_early before tree) (use_in tree) name is in
      inl (record { accepted = p.0; says = saves; stays = record { tables_stay = refused_stays tables after tree reply OutOfMemory saves stored; files_stay = kept files; failures_stay = refl } })

  pub no_read : (reply : Reply) (after : Stored) → None ≡ file_read (file_use before tree) → Replies tables tree file.NotAsked reply (store_of after) → LeavesStored tables tree reply after → IsNoSave (file_use before tree) reply → Answers now tree reply (with_tables after (seen files failures))
  no_read reply after none replies stored saves = by_use (file_use before tree) reply after refl none replies stored saves

  -- a file was asked for
  module _ (name : List ℕ) (new : Option Files) (count : ℕ) where
    -- what a step with what was said comes to
    stepped : (found : Option (List ℕ)) (said : Content) (reply : Reply) (after : Stored) → HasFile files name found → IsSaid before tree found said → KeepsFiles files new → count ≡ failures → Step before said tree reply (store_of after) → LeavesStored tables tree reply after
        → RunsOutOfMemory now tree reply (with_tables after (seen new count)) ⊎ AnswersBy (reads name) now tree reply (with_tables after (seen new count))
    stepped found said reply after there says keeps counts step stored =
        elim step [
          | inl w ↦ inl (record { accepted = w.accepted; says = w.says; stays = record { tables_stay = refused_stays tables after tree reply OutOfMemory w.says stored; files_stay = keeps; failures_stay = counts } })
          | inr e ↦ inr (inl (record { file = found; there = there; said = said; says = says; outcome = record { replies = ap (λ (p : Reply × Store). p.0) e; leaves = record { store_is = ap (λ (p : Reply × Store). p.1) e; files_stay = keeps; failures_stay = counts }; stored = stored } }))
        ]

    -- by the use, which is to read this file
    reading : (P : FileUse → Type 0) (named : FileUse) → Some name ≡ file_read named → P (reads name) → P named
    reading P no_file is p = cc
    reading P (writes other) is p = cc
    reading P (reads other) is p = let same : name ≡ other = cc in subst (λ n. P (reads n)) same p

    pub with_bytes : (bytes handed : List ℕ) (reply : Reply) (after : Stored) → Some name ≡ file_read (file_use before tree) → handed ≡ bytes → HasFile files name (Some bytes) → KeepsFiles files new → count ≡ failures
        → (WantsMemory before tree reply (store_of after) ⊎ ((said : Content) × SaysTo before tree handed said × Step before said tree reply (store_of after))) → LeavesStored tables tree reply after → Answers now tree reply (with_tables after (seen new count))
    with_bytes bytes handed reply after is same there keeps counts so stored =
        reading (λ named. RunsOutOfMemory now tree reply (with_tables after (seen new count)) ⊎ AnswersBy named now tree reply (with_tables after (seen new count))) (file_use before tree) is
        (elim so [
          | inl w ↦ inl (record { accepted = w.accepted; says = w.says; stays = record { tables_stay = refused_stays tables after tree reply OutOfMemory w.says stored; files_stay = keeps; failures_stay = counts } })
          | inr told ↦ stepped (Some bytes) told.0 reply after there (subst (λ b. SaysTo before tree b told.0) same told.1) keeps counts told.2 stored
        ])

    pub without_bytes : (found : Option (List ℕ)) (said : Content) (reply : Reply) (after : Stored) → Some name ≡ file_read (file_use before tree) → HasFile files name found → IsSaid before tree found said → KeepsFiles files new → count ≡ failures
        → Step before said tree reply (store_of after) → LeavesStored tables tree reply after → Answers now tree reply (with_tables after (seen new count))
    without_bytes found said reply after is there says keeps counts step stored =
        reading (λ named. RunsOutOfMemory now tree reply (with_tables after (seen new count)) ⊎ AnswersBy named now tree reply (with_tables after (seen new count))) (file_use before tree) is
        (stepped found said reply after there says keeps counts step stored)

    pub failing : Some name ≡ file_read (file_use before tree) → KeepsFiles files new → count ≡ failures + 1 → Answers now tree (Refused UnreadableFile) (with_tables tables (seen new count))
    failing is keeps counts =
        reading (λ named. RunsOutOfMemory now tree (Refused UnreadableFile) (with_tables tables (seen new count)) ⊎ AnswersBy named now tree (Refused UnreadableFile) (with_tables tables (seen new count))) (file_use before tree) is
        (inr (inr (record { says = refl; failed = record { tables_stay = refl; one_more = counts }; files_stay = keeps })))

    pub wanting : Some name ≡ file_read (file_use before tree) → KeepsFiles files new → count ≡ failures → Answers now tree (Refused OutOfMemory) (with_tables tables (seen new count))
    wanting is keeps counts =
        inl (record { accepted = accepted_by (file_use before tree) refl is; says = refl; stays = record { tables_stay = refl; files_stay = keeps; failures_stay = counts } })
      where
        accepted_by : (named : FileUse) → file_use before tree ≡ named → Some name ≡ file_read named → refused_early before tree ≡ None
        accepted_by no_file used_so read_so = cc
        accepted_by (reads other) used_so read_so = used_read (refused_early before tree) (use_in tree) other used_so
        accepted_by (writes other) used_so read_so = cc

-- what a folder's answer says of its files
pub keeps_read : (limit : ℕ) (name : List ℕ) (old new : Option Files) (r : Result (GlobalVec ℕ) FolderFault) → Reads limit name old new r → KeepsFiles old new
keeps_read limit name None new r h = tt
keeps_read limit name (Some files) new r h = h.0

pub has_bytes : (limit : ℕ) (name : List ℕ) (old new : Option Files) (bytes : GlobalVec ℕ) → Reads limit name old new (Ok bytes) → HasFile old name (Some bytes.items)
has_bytes limit name None new bytes h = tt
has_bytes limit name (Some files) new bytes h = sym h.1

pub has_none : (limit : ℕ) (name : List ℕ) (old new : Option Files) → Reads limit name old new (Err fault.Missing) → HasFile old name None
has_none limit name None new h = tt
has_none limit name (Some files) new h = sym h.1

-- a file that is too long
pub record TooLong (old : Option Files) (name : List ℕ) : Type 0 where
  pub bytes : List ℕ
  pub there : HasFile old name (Some bytes)
  pub long : file_limit < length bytes

some_long : (limit : ℕ) → (bytes : List ℕ) × (limit < length bytes)
some_long limit = (replicate (limit + 1) 0, omega (arith, length-replicate {A = ℕ} (limit + 1) 0))

pub has_more : (name : List ℕ) (old new : Option Files) → Reads file_limit name old new (Err fault.TooLarge) → TooLong old name
has_more name None new h = let p = some_long file_limit in record { bytes = p.0; there = tt; long = p.1 }
has_more name (Some files) new h = by (file_of files name) refl h.1
  where
    by : (found : Option (List ℕ)) → file_of files name ≡ found → IsSomeAnd found (λ bytes. file_limit < length bytes) → TooLong (Some files) name
    by None is more = absurd more
    by (Some bytes) is more = record { bytes = bytes; there = sym is; long = more }

pub says_too_large : (store : Store) (tree : StatementTree) (bytes : List ℕ) → file_limit < length bytes → SaysTo store tree bytes content.TooLarge
says_too_large store tree bytes long = subst (λ b. MatchBool b (content.TooLarge ≡ content.TooLarge) (IsReadAs store tree bytes content.TooLarge)) (sym (lt-ltb file_limit (length bytes) long)) refl

-- what was answered, where a file was asked for
pub reading_bytes : (tables : Stored) (tree : StatementTree) (name : List ℕ) (bytes : Bor (List ℕ)) (reply : Reply) (after : Store) → Some name ≡ file_read (file_use (store_of tables) tree) → Replies tables tree (file.Bytes bytes) reply after
    → WantsMemory (store_of tables) tree reply after ⊎ ((said : Content) × SaysTo (store_of tables) tree bytes.now said × Step (store_of tables) said tree reply after)
reading_bytes tables tree name bytes reply after is replies = subst (λ read. RepliesBy read tables tree (file.Bytes bytes) reply after) (sym is) replies

pub reading_missing : (tables : Stored) (tree : StatementTree) (name : List ℕ) (reply : Reply) (after : Store) → Some name ≡ file_read (file_use (store_of tables) tree) → Replies tables tree file.Unreadable reply after → Step (store_of tables) content.Missing tree reply after
reading_missing tables tree name reply after is replies = subst (λ read. RepliesBy read tables tree file.Unreadable reply after) (sym is) replies

pub reading_too_large : (tables : Stored) (tree : StatementTree) (name : List ℕ) (reply : Reply) (after : Store) → Some name ≡ file_read (file_use (store_of tables) tree) → Replies tables tree file.TooLarge reply after → Step (store_of tables) content.TooLarge tree reply after
reading_too_large tables tree name reply after is replies = subst (λ read. RepliesBy read tables tree file.TooLarge reply after) (sym is) replies

-- which file was read
pub read_none : (wanted : Option (List ℕ)) (before after : FolderState) → IsReadFor wanted before after None → (wanted ≡ None) × (after ≡ before)
read_none None before after h = (refl, h)
read_none (Some name) before after h = absurd h

pub record WasRead (wanted : Option (List ℕ)) (before after : FolderState) (read : Result (GlobalVec ℕ) FolderFault) : Type 0 where
  pub name : List ℕ
  pub is_wanted : Some name ≡ wanted
  pub is : IsRead name before after read

pub read_some : (wanted : Option (List ℕ)) (before after : FolderState) (read : Result (GlobalVec ℕ) FolderFault) → IsReadFor wanted before after (Some read) → WasRead wanted before after read
read_some None before after read h = absurd h
read_some (Some name) before after read h = record { name = name; is_wanted = refl; is = h }

-- where it wasn't given
pub by_fault : (tables : Stored) (tree : StatementTree) (files new : Option Files) (failures count : ℕ) (why : FolderFault) (reply : Reply) (after : Stored)
    → WasRead (file_read (file_use (store_of tables) tree)) (seen files failures) (seen new count) (Err why) → AnswersFault why tables tree reply (store_of after) → LeavesStored tables tree reply after
    → Answers (with_tables tables (seen files failures)) tree reply (with_tables after (seen new count))
by_fault tables tree files new failures count fault.Missing reply after was answers stored =
    without_bytes tables tree files failures was.name new count None content.Missing reply after was.is_wanted (has_none _ _ _ _ was.is.files) refl (keeps_read _ _ _ _ _ was.is.files) was.is.failures
    (reading_missing tables tree was.name reply (store_of after) was.is_wanted answers) stored
by_fault tables tree files new failures count fault.TooLarge reply after was answers stored =
    let long = has_more was.name files new was.is.files in
    without_bytes tables tree files failures was.name new count (Some long.bytes) content.TooLarge reply after was.is_wanted long.there (says_too_large (store_of tables) tree long.bytes long.long) (keeps_read _ _ _ _ _ was.is.files) was.is.failures
    (reading_too_large tables tree was.name reply (store_of after) was.is_wanted answers) stored
by_fault tables tree files new failures count fault.Failed reply after was answers stored =
    rw (answers.0, refused_stays tables after tree reply UnreadableFile answers.0 stored) (failing tables tree files failures was.name new count was.is_wanted (keeps_read _ _ _ _ _ was.is.files) was.is.failures)
by_fault tables tree files new failures count fault.Memory reply after was answers stored =
    rw (answers.0, refused_stays tables after tree reply OutOfMemory answers.0 stored) (wanting tables tree files failures was.name new count was.is_wanted (keeps_read _ _ _ _ _ was.is.files) was.is.failures)

pub failures_upto : (why : FolderFault) (count : ℕ) → failures_after {A = GlobalVec ℕ} (Err why) count ≤ count + 1
failures_upto fault.Missing count = omega arith
failures_upto fault.TooLarge count = omega arith
failures_upto fault.Failed count = omega arith
failures_upto fault.Memory count = omega arith
