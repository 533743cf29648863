-- What a statement comes to, from what it answers by its tests.
use Rattle.std.proofs.Common.{◌≡◌, ◌∙◌, ◌⊎◌, inl, inr, ℕ, Bool, true, false, not, List, Option, None, Some, is_none, is_some, Result, Ok, Err, OnErr, OnOk, MatchOption, option_map, [], if◌then◌else◌, nat_le, nat_lt, refl, sym, ap, subst, arith}
use Rattle.std.specs.Bool.{then_some}
use Rattle.std.specs.Borrow.{Bor}
use Rattle.std.specs.Option.{option_copied}
use Rattle.std.proofs.lemmas.Bool.{true≢false}
use Rattle.std.proofs.lemmas.Bool.Decides.{nat_tests}
use Rattle.bw_sql.specs.Tree.{StatementTree, save, statement_of}
use Rattle.bw_sql.specs.declared.tree.Statement.{Statement}
use Rattle.bw_model.specs.Contents.{SaysTo}
use Rattle.bw_model.specs.FileUse.{FileUse, file_read, file_use, no_file, reads, unless_refused, use_in, writes}
use Rattle.bw_model.specs.Refusals.{first_that_holds, over, refused_early, tests_of}
use Rattle.bw_model.specs.Step.{Step, WantsMemory, carried_out, refused_or}
use Rattle.bw_model.specs.Store.{Store, Table}
use Rattle.bw_model.specs.declared.content.Content.{Content}
use Rattle.bw_model.specs.declared.content.Content.TheVariants.{Nothing}
use Rattle.bw_model.specs.declared.refusal.Refusal.{Refusal}
use Rattle.bw_model.specs.declared.refusal.Refusal.TheVariants.{OutOfMemory, OverLimit, TableExists}
use Rattle.bw_model.specs.declared.reply.Reply.{Reply}
use Rattle.bw_model.specs.declared.reply.Reply.TheVariants.{Count, Done, Refused, Rows, Units}
use Rattle.bw_model.proofs.Unchanged.{early_first, never_refuses}
use Rattle.bw_engine.specs.Counting.{said_of}
use Rattle.bw_engine.specs.Files.{CarriesFile, Executes, IsAnswered, IsNoSave, LeavesBy, Replies, RepliesBy, Saves, SavesOr, saving_of}
use Rattle.bw_engine.specs.Outcomes.{CarriesOut, MayRefuseStep, reply_of}
use Rattle.bw_engine.specs.StoredChanges.{ChangesStored}
use Rattle.bw_engine.specs.Stores.{Stored, store_of}
use Rattle.bw_engine.specs.declared.file_answer.FileAnswer.{FileAnswer}
use Rattle.bw_engine.specs.declared.file_answer.FileAnswer.TheVariants as file
use Rattle.bw_engine.specs.declared.outcome.Outcome.{Outcome}
use Rattle.bw_engine.specs.declared.outcome.Outcome.TheVariants as outcome
use Rattle.bw_engine.specs.declared.outcome.Saving.{Saving}
use Rattle.bw_engine.proofs.Steps.{steps}

-- what touches no file reads none and writes none
none_used : (o : Option Refusal) → unless_refused o no_file ≡ no_file
none_used None = refl
none_used (Some refusal) = refl

-- a statement that names no file
pub plain : (tables after : Stored) (statement : StatementTree) (answer : FileAnswer) (r : Result Reply Refusal) → use_in statement ≡ no_file
    → CarriesOut (store_of tables) (said_of tables statement) statement r (store_of after) → OnErr r (after ≡ tables) → Executes tables statement answer (outcome.Reply (reply_of r)) (store_of after)
plain tables after statement answer r none carries stays =
    let unused : file_use (store_of tables) statement ≡ no_file = ap (unless_refused (refused_early (store_of tables) statement)) none ∙ none_used (refused_early (store_of tables) statement) in (
      subst (λ used. RepliesBy (file_read used) tables statement answer (reply_of r) (store_of after)) (sym unused) (steps tables after (said_of tables statement) statement r carries stays),
      subst (λ used. IsNoSave used (reply_of r)) (sym unused) tt,
    )

-- where P leads to Q, an answer by P is one by Q
pub answered_so : (answer : FileAnswer) (says : List ℕ → Content → Type 0) (P Q : Content → Type 0) (W V : Type 0) → ((said : Content) → P said → Q said) → (W → V) → IsAnswered answer says P W → IsAnswered answer says Q V
answered_so file.NotAsked says P Q W V so want h = so _ h
answered_so file.Unreadable says P Q W V so want h = so _ h
answered_so file.TooLarge says P Q W V so want h = so _ h
answered_so file.NoMemory says P Q W V so want h = want h
answered_so (file.Bytes bytes) says P Q W V so want h = elim h [ inl w ↦ inl (want w) | inr p ↦ inr (p.0, p.1, so p.0 p.2) ]

-- a statement that reads a file
module _ (tables after : Stored) (statement : StatementTree) (answer : FileAnswer) (name : List ℕ) (named : use_in statement ≡ reads name) where
  wants : (r : Result Reply Refusal) → refused_early (store_of tables) statement ≡ None → OnErr r (after ≡ tables) → r ≡ Err OutOfMemory → WantsMemory (store_of tables) statement (reply_of r) (store_of after)
  wants (Ok reply) early stays e = cc
  wants (Err x) early stays e = let same : x ≡ OutOfMemory = cc in record { accepted = early; says = ap (λ y. Refused y) same; stays = ap store_of stays }

  refused_first : (r : Result Reply Refusal) (refusal : Refusal) → refused_early (store_of tables) statement ≡ Some refusal → OnErr r (after ≡ tables) → r ≡ Err refusal → Step (store_of tables) (said_of tables statement) statement (reply_of r) (store_of after)
  refused_first (Ok reply) refusal early stays e = cc
  refused_first (Err x) refusal early stays e =
      let same : x ≡ refusal = cc in
      inr ((λ j. (Refused (same j), ap store_of stays j)) ∙ ap (λ o. refused_or o (store_of tables) (carried_out (store_of tables) (said_of tables statement) statement)) (sym (early_first (store_of tables) (said_of tables statement) statement refusal early)))

  by_early : (o : Option Refusal) (r : Result Reply Refusal) → refused_early (store_of tables) statement ≡ o → OnErr r (after ≡ tables)
      → MatchOption o (IsAnswered answer (SaysTo (store_of tables) statement) (λ said. CarriesOut (store_of tables) said statement r (store_of after)) (r ≡ Err OutOfMemory)) (λ refusal. r ≡ Err refusal)
      → RepliesBy (file_read (unless_refused o (reads name))) tables statement answer (reply_of r) (store_of after) × IsNoSave (unless_refused o (reads name)) (reply_of r)
  by_early None r early stays h =
      (answered_so answer (SaysTo (store_of tables) statement) _ _ _ _ (λ said carries. steps tables after said statement r carries stays) (wants r early stays) h, tt)
  by_early (Some refusal) r early stays h = (refused_first r refusal early stays h, tt)

  pub reading : (r : Result Reply Refusal) → CarriesFile (store_of tables) statement answer r (store_of after) → OnErr r (after ≡ tables) → Executes tables statement answer (outcome.Reply (reply_of r)) (store_of after)
  reading r carries stays =
      subst (λ used. RepliesBy (file_read (unless_refused (refused_early (store_of tables) statement) used)) tables statement answer (reply_of r) (store_of after) × IsNoSave (unless_refused (refused_early (store_of tables) statement) used) (reply_of r)) (sym named)
      (by_early (refused_early (store_of tables) statement) r refl stays carries)

-- what reads no file
pub read_none : (o : Option Refusal) (given : List ℕ) → file_read (unless_refused o (writes given)) ≡ None
read_none None given = refl
read_none (Some refusal) given = refl

pub read_plain : (o : Option Refusal) → file_read (unless_refused o no_file) ≡ None
read_plain None = refl
read_plain (Some refusal) = refl

-- a SAVE
module _ (tables : Stored) (name given : List ℕ) (answer : FileAnswer) where
  abbrev saves_it : StatementTree
  saves_it = save name given

  refused_save : (o : Option Refusal) (e : Refusal) → refused_early (store_of tables) saves_it ≡ o → ((o ≡ None) × (e ≡ OutOfMemory)) ⊎ (o ≡ Some e)
      → Step (store_of tables) Nothing saves_it (Refused e) (store_of tables) × IsNoSave (unless_refused o (writes given)) (Refused e)
  refused_save None e early h =
      elim h [
        | inl p ↦ (inl (record { accepted = early; says = ap (λ x. Refused x) p.1; stays = refl }), ap (λ x. Refused x) p.1)
        | inr p ↦ cc
      ]
  refused_save (Some refusal) e early h =
      elim h [
        | inl p ↦ cc
        | inr p ↦ (inr (ap (λ o. refused_or o (store_of tables) (carried_out (store_of tables) Nothing saves_it)) (sym (early ∙ p))), tt)
      ]

  pub saving : (r : Result Saving Refusal) → SavesOr (store_of tables) saves_it r (store_of tables) → Executes tables saves_it answer (saving_of r) (store_of tables)
  saving (Ok handed) h = h
  saving (Err e) h =
      let p = refused_save (refused_early (store_of tables) saves_it) e refl h in
      (subst (λ read. RepliesBy read tables saves_it answer (Refused e) (store_of tables)) (sym (read_none (refused_early (store_of tables) saves_it) given)) p.0, p.1)

-- what a statement makes of slots and encodings
pub leaves : (tables after : Stored) (said : Content) (statement : StatementTree) (r : Result Reply Refusal) → CarriesOut (store_of tables) said statement r (store_of after) → OnErr r (after ≡ tables) → OnOk r (ChangesStored tables statement after)
    → LeavesBy tables statement (outcome.Reply (reply_of r)) after
leaves tables after said statement (Ok (Refused refusal)) h stays changes = absurd (never_refuses (store_of tables) said statement refusal (ap (λ (p : Reply × Store). p.0) h.1))
leaves tables after said statement (Ok Done) h stays changes = changes
leaves tables after said statement (Ok (Count n)) h stays changes = changes
leaves tables after said statement (Ok (Rows shown)) h stays changes = changes
leaves tables after said statement (Ok (Units n)) h stays changes = changes
leaves tables after said statement (Err e) h stays changes = stays

pub leaves_all : (tables : Stored) (said : Content) (statement : StatementTree) (r : Result Reply Refusal) → CarriesOut (store_of tables) said statement r (store_of tables) → ChangesStored tables statement tables
    → LeavesBy tables statement (outcome.Reply (reply_of r)) tables
leaves_all tables said statement (Ok reply) h changes = leaves tables tables said statement (Ok reply) h tt changes
leaves_all tables said statement (Err e) h changes = refl

taken : (answer : FileAnswer) (says : List ℕ → Content → Type 0) (X : Type 0) → IsAnswered answer says (λ said. X) X → X
taken file.NotAsked says X h = h
taken file.Unreadable says X h = h
taken file.TooLarge says X h = h
taken file.NoMemory says X h = h
taken (file.Bytes bytes) says X h = elim h [ inl x ↦ x | inr p ↦ p.2 ]

on_error : (tables after : Stored) (statement : StatementTree) (r : Result Reply Refusal) (e : Refusal) → r ≡ Err e → OnErr r (after ≡ tables) → LeavesBy tables statement (outcome.Reply (reply_of r)) after
on_error tables after statement (Ok reply) e is stays = cc
on_error tables after statement (Err x) e is stays = stays

pub leaves_reading : (tables after : Stored) (statement : StatementTree) (answer : FileAnswer) (r : Result Reply Refusal) → CarriesFile (store_of tables) statement answer r (store_of after) → OnErr r (after ≡ tables)
    → OnOk r (ChangesStored tables statement after) → LeavesBy tables statement (outcome.Reply (reply_of r)) after
leaves_reading tables after statement answer r carries stays changes = by (refused_early (store_of tables) statement) carries
  where
    by : (o : Option Refusal) → MatchOption o (IsAnswered answer (SaysTo (store_of tables) statement) (λ said. CarriesOut (store_of tables) said statement r (store_of after)) (r ≡ Err OutOfMemory)) (λ refusal. r ≡ Err refusal)
        → LeavesBy tables statement (outcome.Reply (reply_of r)) after
    by None h =
        taken answer (SaysTo (store_of tables) statement) (LeavesBy tables statement (outcome.Reply (reply_of r)) after)
        (answered_so answer (SaysTo (store_of tables) statement) _ _ _ _ (λ said h. leaves tables after said statement r h stays changes) (λ is. on_error tables after statement r OutOfMemory is stays) h)
    by (Some refusal) h = on_error tables after statement r refusal h stays

pub leaves_saving : (tables : Stored) (statement : StatementTree) (r : Result Saving Refusal) → LeavesBy tables statement (saving_of r) tables
leaves_saving tables statement (Ok handed) = refl
leaves_saving tables statement (Err e) = refl

-- whether a statement that reads a file isn't refused early
pub not_over : (o : Option Table) → is_some o ≡ is_none (first_that_holds (over o (λ table. [])))
not_over None = refl
not_over (Some table) = refl

if_none : (b : Bool) (x : Refusal) → is_none (if b then Some x else None) ≡ not b
if_none true x = refl
if_none false x = refl

pub new_table : (exists : Bool) (count : ℕ) → exists ≡ false → nat_lt count 64 ≡ is_none (if exists then Some TableExists else if nat_le 64 count then Some OverLimit else None)
new_table true count e = absurd (true≢false e)
new_table false count e = let below : nat_lt count 64 ≡ not (nat_le 64 count) = grind (arith, nat_tests) in below ∙ sym (if_none (nat_le 64 count) OverLimit)

pub old_table : (exists : Bool) (rest : Option Refusal) → exists ≡ true → false ≡ is_none (if exists then Some TableExists else rest)
old_table true rest e = refl
old_table false rest e = absurd (true≢false (sym e))

pub wanted : (o : Option Refusal) (b : Bool) (x : Bor (List ℕ)) → b ≡ is_none o → option_copied (then_some b x) ≡ file_read (unless_refused o (reads x.now))
wanted None true x e = refl
wanted None false x e = absurd (true≢false (sym e))
wanted (Some refusal) true x e = absurd (true≢false e)
wanted (Some refusal) false x e = refl

-- what reads no file wants none
pub none_wanted : (store : Store) (statement : Statement) → use_in (statement_of statement) ≡ no_file → ◌≡◌ {A = Option (List ℕ)} None (file_read (file_use store (statement_of statement)))
none_wanted store statement none =
    sym (ap (λ used. file_read (unless_refused (refused_early store (statement_of statement)) used)) none ∙ read_plain (refused_early store (statement_of statement)))

pub none_read : (store : Store) (statement : Statement) (given : List ℕ) → use_in (statement_of statement) ≡ writes given → ◌≡◌ {A = Option (List ℕ)} None (file_read (file_use store (statement_of statement)))
none_read store statement given written =
    sym (ap (λ used. file_read (unless_refused (refused_early store (statement_of statement)) used)) written ∙ read_none (refused_early store (statement_of statement)) given)
