-- A statement leaves every file but the one that it saves to.
use Rattle.std.proofs.Common.{◌≡◌, ◌≢◌, ℕ, Bool, true, false, List, Option, None, Some, IsSome, if◌then◌else◌, refl, ap, ◌∙◌, subst, inl, inr}
use Rattle.std.specs.List.{All}
use Rattle.std.specs.Str.{bytes_eq}
use Rattle.std.proofs.lemmas.List.Elements.{All-head, All-tail}
use Rattle.std.proofs.lemmas.Slice.Eq.{bytes_eq-Decides}
use Rattle.bw_lex.specs.declared.script.Part.{Part}
use Rattle.bw_sql.specs.Statements.{Says}
use Rattle.bw_sql.specs.Tree.{StatementTree, create_table, delete, drop_table, insert, list_tables, load, open_table, rebuild, save, select, stats, update}
use Rattle.bw_model.specs.FileUse.{FileUse, file_use, no_file, reads, use_in, writes}
use Rattle.bw_model.specs.Refusals.{refused_early}
use Rattle.bw_model.specs.declared.reply.Reply.{Reply}
use Rattle.bw_shell.specs.Answers.{Answers, AnswersBy}
use Rattle.bw_shell.specs.Elsewhere.{IsNoSaveTo}
use Rattle.bw_shell.specs.Folders.{Files}
use Rattle.bw_shell.specs.Replies.{Answered, and_then, none_left}
use Rattle.bw_shell.specs.Run.{MayAnswer, no_statement, statement, text_of, too_long, unclosed}
use Rattle.bw_shell.specs.States.{KeepsFiles, KeepsOthers, SetsFile, State, file_in, store_in}
use Rattle.bw_shell.proofs.ByFolder.{used}

-- the folder still gives its files, and this one is as it was
pub record Stays (files new : Option Files) (file : List ℕ) : Type 0 where
  pub known : IsSome new
  pub same : file_in new file ≡ file_in files file

kept_file : (files new : Option Files) (file : List ℕ) → IsSome files → KeepsFiles files new → Stays files new file
kept_file None new file known keeps = absurd (cc)
kept_file (Some list) None file known keeps = absurd (cc)
kept_file (Some list) (Some other) file known keeps = record { known = refl; same = ap (λ files. file_in files file) keeps }

set_other : (saved bytes : List ℕ) (files new : Option Files) (file : List ℕ) → IsSome files → bytes_eq saved file ≡ false → SetsFile saved bytes files new → Stays files new file
set_other saved bytes None new file known other set = absurd (cc)
set_other saved bytes (Some list) None file known other set = absurd set
set_other saved bytes (Some list) (Some left) file known other set =
    record { known = refl; same = set file ∙ ap (λ b. if b then Some bytes else file_in (Some list) file) other }

others_kept : (saved : List ℕ) (files new : Option Files) (file : List ℕ) → IsSome files → bytes_eq saved file ≡ false → KeepsOthers saved files new → Stays files new file
others_kept saved None new file known other keeps = absurd (cc)
others_kept saved (Some list) None file known other keeps = absurd keeps
others_kept saved (Some list) (Some left) file known other keeps = record { known = refl; same = keeps file other }

-- two names that are not the same
by_test : (saved file : List ℕ) (b : Bool) → bytes_eq saved file ≡ b → saved ≢ file → bytes_eq saved file ≡ false
by_test saved file true is differs = absurd (differs ((bytes_eq-Decides saved file).0 is))
by_test saved file false is differs = is

-- only a SAVE writes a file
pub saves_to : (tree : StatementTree) (file : List ℕ) → use_in tree ≡ writes file → (name : List ℕ) × (tree ≡ save name file)
saves_to (create_table table columns) file e = cc
saves_to (drop_table table) file e = cc
saves_to list_tables file e = cc
saves_to (insert table listed rows) file e = cc
saves_to (update table sets condition) file e = cc
saves_to (delete table condition) file e = cc
saves_to (rebuild table choices) file e = cc
saves_to (select query) file e = cc
saves_to (stats query) file e = cc
saves_to (load table given first) file e = cc
saves_to (save table given) file e = let same : given ≡ file = cc in (table, ap (save table) same)
saves_to (open_table table given) file e = cc

module _ (before : State) (tree : StatementTree) (reply : Reply) (after : State) (file : List ℕ) (known : IsSome before.files) (elsewhere : (name : List ℕ) → tree ≡ save name file → ⊥) where
  not_this : (saved : List ℕ) → file_use (store_in before) tree ≡ writes saved → bytes_eq saved file ≡ false
  not_this saved is =
      let to = saves_to tree saved (used (refused_early (store_in before) tree) (use_in tree) saved is).1 in
      by_test saved file (bytes_eq saved file) refl (λ same. elsewhere to.0 (to.1 ∙ ap (save to.0) same))

  by_use : (use_of : FileUse) → file_use (store_in before) tree ≡ use_of → AnswersBy use_of before tree reply after → Stays before.files after.files file
  by_use no_file is outcome = kept_file before.files after.files file known outcome.leaves.files_stay
  by_use (reads name) is answers =
      elim answers [
        | inl by ↦ kept_file before.files after.files file known by.outcome.leaves.files_stay
        | inr cannot ↦ kept_file before.files after.files file known cannot.files_stay
      ]
  by_use (writes saved) is answers =
      elim answers [
        | inl by ↦ set_other saved by.bytes before.files after.files file known (not_this saved is) by.file_set
        | inr cannot ↦ others_kept saved before.files after.files file known (not_this saved is) cannot.others_stay
      ]

  pub other_file : Answers before tree reply after → Stays before.files after.files file
  other_file answers =
      elim answers [
        | inl wants ↦ kept_file before.files after.files file known wants.stays.files_stay
        | inr by ↦ by_use (file_use (store_in before) tree) refl by
      ]

-- a folder that has a file gives its files
pub known_by : (files : Option Files) (file bytes : List ℕ) → file_in files file ≡ Some bytes → IsSome files
known_by None file bytes is = cc
known_by (Some list) file bytes is = refl

-- over the parts of a script

itself : (files : Option Files) (file : List ℕ) → IsSome files → Stays files files file
itself files file known = record { known = known; same = refl }

part_stays : (state after : State) (closed : Bool) (text : List ℕ) (reply : Reply) (file : List ℕ) → IsSome state.files → ((name : List ℕ) → Says text (save name file) → ⊥) → MayAnswer state closed text reply after → Stays state.files after.files file
part_stays state after closed text reply file known elsewhere (too_long long) = itself state.files file known
part_stays state after closed text reply file known elsewhere (unclosed short) = itself state.files file known
part_stays state after closed text reply file known elsewhere (no_statement fault is) = itself state.files file known
part_stays state after closed text reply file known elsewhere (statement tree says answers) =
    other_file state tree reply after file known (λ name same. elsewhere name (subst (Says text) same says)) answers

pub parts_stay : (script : List ℕ) (state after : State) (parts : List Part) (replies : List Reply) (file : List ℕ) → IsSome state.files → All (IsNoSaveTo file script) parts → Answered script state parts replies after → Stays state.files after.files file
parts_stay script state after parts replies file known elsewhere none_left = itself state.files file known
parts_stay script state after parts replies file known elsewhere (and_then {mid = mid} {part = part} {parts = left} {reply = reply} {replies = others} answers more) =
    let this = part_stays state mid part.is_closed (text_of script part) reply file known (All-head (IsNoSaveTo file script) part left elsewhere) answers in
    let rest = parts_stay script mid after left others file this.known (All-tail (IsNoSaveTo file script) part left elsewhere) more in
    record { known = rest.known; same = rest.same ∙ this.same }
