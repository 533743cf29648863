-- The table that an OPEN adds is the one that its file holds.
use Rattle.std.proofs.Common.{◌≡◌, ◌∙◌, ℕ, ℤ, ◌<◌, Bor, Bool, true, false, List, [], ◌∷◌, ◌++◌, get_or, if◌then◌else◌, is_some, length, map, nat_le, nat_lt, Option, None, Some, Result, Ok, Err, IsErrAnd, inl, inr, refl, sym, ap, subst, arith}
use Rattle.std.specs.Prelude.{MatchOption}
use Rattle.std.specs.Bool.{MatchBool}
use Rattle.std.specs.List.{All, range_with_len}
use Rattle.std.specs.Result.{IsOkAnd}
use Rattle.std.proofs.lemmas.List.{get_or-map, length-map}
use Rattle.bw_code.proofs.Lists.{made_is, made_len}
use Rattle.std.proofs.lemmas.Slice.Zip.{AllZip-long}
use Rattle.bw_code.specs.Types.{IsTyped}
use Rattle.bw_column.specs.Values as values
use Rattle.bw_file.specs.Format.{Spells}
use Rattle.bw_file.specs.Table as file
use Rattle.bw_table.specs.Opening.{row_across, rows_across}
use Rattle.bw_table.proofs.Places.{map_twice}
use Rattle.bw_sql.specs.Tree.{open_table}
use Rattle.bw_model.specs.Contents.{IsTableIn, SaysTo, table_held}
use Rattle.bw_model.specs.Filing.{Holds, column_of, file_limit, filed}
use Rattle.bw_model.specs.Refusals.{first_that_holds, refused_early, tests_of}
use Rattle.bw_model.specs.Step.{carried_out}
use Rattle.bw_model.specs.Store.{Store, Table, table_limit, table_of, value_at}
use Rattle.bw_model.specs.declared.content.Content.{Content}
use Rattle.bw_model.specs.declared.content.Content.TheVariants.{Held, TooLarge}
use Rattle.bw_model.specs.declared.refusal.Refusal.{Refusal}
use Rattle.bw_model.specs.declared.refusal.Refusal.TheVariants.{FileTooLarge, OutOfMemory, OverLimit, TableExists}
use Rattle.bw_model.specs.declared.reply.Reply.{Reply}
use Rattle.bw_model.specs.declared.reply.Reply.TheVariants.{Count}
use Rattle.bw_model.proofs.Lines.{All-map}
use Rattle.bw_model.proofs.Passing.{if_none}
use Rattle.bw_plan.proofs.Operanding.{one_value}
use Rattle.bw_plan.proofs.Tests.{no_test, this_test}
use Rattle.bw_engine.specs.Files.{AnswersFile, CarriesFile, IsAnswered, IsBytesOf, Within, table_tests, unfiled}
use Rattle.bw_engine.specs.Outcomes.{CarriesOut}
use Rattle.bw_engine.specs.declared.file_answer.FileAnswer.{FileAnswer}
use Rattle.bw_engine.specs.declared.file_answer.FileAnswer.TheVariants as answer

-- columns that are read across and then downward
module _ (rows : ℕ) (columns : List (List (Option ℤ))) (long : All (λ cells. length cells ≡ rows) columns) where
  value_back : (k i : ℕ) → k < length columns → get_or (get_or columns k []) i None ≡ value_at (row_across columns i) k
  value_back k i within = sym (get_or-map (λ cells. values.value_at cells i) columns k [] None within) ∙ one_value (row_across columns i) k

  column_back : (k : ℕ) → k < length columns → get_or columns k [] ≡ column_of (rows_across rows columns) k
  column_back k within =
      made_is rows (λ i. value_at (row_across columns i) k) (get_or columns k []) None (long k [] within) (λ i there. value_back k i within)
      ∙ sym (map_twice (λ row. value_at row k) (row_across columns) (range_with_len 0 rows))

  columns_back : (n : ℕ) → length columns ≡ n → columns ≡ map (column_of (rows_across rows columns)) (range_with_len 0 n)
  columns_back n wide = made_is n (column_of (rows_across rows columns)) columns [] wide (λ k within. column_back k (omega (arith, within, wide)))

columns_wide : (parts : file.Table) → file.IsTable parts → length parts.columns ≡ length parts.headers
columns_wide parts is = AllZip-long IsTyped parts.headers parts.columns is.typed

filed_back : (parts : file.Table) → file.IsTable parts → filed (unfiled parts) ≡ parts
filed_back parts is =
    let rows = made_len parts.rows (row_across parts.columns) in
    let columns = columns_back parts.rows parts.columns is.long (length parts.headers) (columns_wide parts is) in
    λ j. record { headers = parts.headers; rows = rows j; columns = sym columns j }

-- what the bytes of a table file hold
pub holds_unfiled : (bytes : List ℕ) (parts : file.Table) → Spells bytes parts → Holds bytes (unfiled parts)
holds_unfiled bytes parts spells =
    let table : file.IsTable parts = elim spells [ inl first ↦ first.table | inr second ↦ second.table ] in
    record {
      wide = All-map (row_across parts.columns) (length parts.headers) (range_with_len 0 parts.rows)
          (λ i. length-map parts.columns (λ cells. values.value_at cells i) ∙ columns_wide parts table);
      spells = subst (Spells bytes) (sym (filed_back parts table)) spells;
    }

-- the table that a file is said to hold, or why there is none
abbrev IsFound : Result file.Table Refusal → Content → Type 0
IsFound r said = AnswersFile (table_tests said) r (λ parts. said ≡ Held (unfiled parts))

abbrev pub FindsTable : FileAnswer → Result file.Table Refusal → Type 0
FindsTable given r = IsAnswered given (Within IsTableIn) (IsFound r) (r ≡ Err OutOfMemory)

pub no_bytes : (given : FileAnswer) (x : Refusal) (r : Result file.Table Refusal) → IsBytesOf given (Err x) → IsErrAnd r (λ e. e ≡ x) → FindsTable given r
no_bytes given x (Ok parts) is same = absurd same
no_bytes answer.NotAsked x (Err e) is same = inr cc
no_bytes answer.Unreadable x (Err e) is same = inr cc
no_bytes answer.TooLarge x (Err e) is same = inr cc
no_bytes answer.NoMemory x (Err e) is same = cc
no_bytes (answer.Bytes bytes) x (Err e) is same =
    inr (by (nat_lt file_limit (length bytes.now)) is)
  where
    by : (b : Bool) → MatchBool b (◌≡◌ {A = Result (Bor (List ℕ)) Refusal} (Err x) (Err FileTooLarge)) (IsOkAnd {E = Refusal} (Err x) (λ (given : Bor (List ℕ)). given.now ≡ bytes.now))
        → (said : Content) × MatchBool b (said ≡ TooLarge) (IsTableIn bytes.now said) × IsFound (Err e) said
    by true long = (TooLarge, refl, inr cc)
    by false none = absurd none

pub by_bytes : (given : FileAnswer) (bytes : Bor (List ℕ)) (r : Result file.Table Refusal) (said : Content) → IsBytesOf given (Ok bytes) → IsTableIn bytes.now said → IsFound r said → FindsTable given r
by_bytes answer.NotAsked bytes r said is in_file found = let no : ⊥ = cc in absurd no
by_bytes answer.Unreadable bytes r said is in_file found = let no : ⊥ = cc in absurd no
by_bytes answer.TooLarge bytes r said is in_file found = let no : ⊥ = cc in absurd no
by_bytes answer.NoMemory bytes r said is in_file found = let no : ⊥ = cc in absurd no
by_bytes (answer.Bytes handed) bytes r said is in_file found =
    inr (by (nat_lt file_limit (length handed.now)) is)
  where
    by : (b : Bool) → MatchBool b (◌≡◌ {A = Result (Bor (List ℕ)) Refusal} (Ok bytes) (Err FileTooLarge)) (IsOkAnd {E = Refusal} (Ok bytes) (λ (given : Bor (List ℕ)). given.now ≡ handed.now))
        → (said : Content) × MatchBool b (said ≡ TooLarge) (IsTableIn handed.now said) × IsFound r said
    by true long = let no : ⊥ = cc in absurd no
    by false same = (said, subst (λ l. IsTableIn l said) same in_file, found)

-- there is no memory for what the bytes say
pub by_wants : (given : FileAnswer) (bytes : Bor (List ℕ)) → IsBytesOf given (Ok bytes) → FindsTable given (Err OutOfMemory)
by_wants answer.NotAsked bytes is = let no : ⊥ = cc in absurd no
by_wants answer.Unreadable bytes is = let no : ⊥ = cc in absurd no
by_wants answer.TooLarge bytes is = let no : ⊥ = cc in absurd no
by_wants answer.NoMemory bytes is = let no : ⊥ = cc in absurd no
by_wants (answer.Bytes handed) bytes is = inl refl

-- what follows from what a file says, whatever it says
answered : (given : FileAnswer) (says : List ℕ → Content → Type 0) (P Q : Content → Type 0) (V W : Type 0) → ((said : Content) → P said → Q said) → (V → W) → IsAnswered given says P V → IsAnswered given says Q W
answered answer.NotAsked says P Q V W so wants h = so _ h
answered answer.Unreadable says P Q V W so wants h = so _ h
answered answer.TooLarge says P Q V W so wants h = so _ h
answered answer.NoMemory says P Q V W so wants h = wants h
answered (answer.Bytes bytes) says P Q V W so wants h = elim h [ inl w ↦ inl (wants w) | inr p ↦ inr (p.0, p.1, so p.0 p.2) ]

-- an OPEN by its tests
module _ (store : Store) (name path : List ℕ) where
  pub open_exists : is_some (table_of store name) ≡ true → refused_early store (open_table name path) ≡ Some TableExists
  open_exists there = this_test _ _ _ there

  pub open_over : is_some (table_of store name) ≡ false → nat_le table_limit (length store) ≡ true → refused_early store (open_table name path) ≡ Some OverLimit
  open_over absent full = no_test _ _ _ absent ∙ this_test _ _ _ full

  pub open_accepted : is_some (table_of store name) ≡ false → nat_le table_limit (length store) ≡ false → refused_early store (open_table name path) ≡ None
  open_accepted absent room = no_test _ _ _ absent ∙ no_test _ _ _ room

  pub open_refused : (given : FileAnswer) (x : Refusal) (after : Store) → refused_early store (open_table name path) ≡ Some x → CarriesFile store (open_table name path) given (Err x) after
  open_refused given x after early =
      subst (λ o. MatchOption o
      (IsAnswered given (SaysTo store (open_table name path)) (λ said. CarriesOut store said (open_table name path) (Err x) after) (◌≡◌ {A = Result Reply Refusal} (Err x) (Err OutOfMemory)))
      (λ refusal. ◌≡◌ {A = Result Reply Refusal} (Err x) (Err refusal))) (sym early) refl

  module _ (early : refused_early store (open_table name path) ≡ None) where
    tests_left : (said : Content) → first_that_holds (tests_of store said (open_table name path)) ≡ first_that_holds (table_tests said)
    tests_left said =
        let here = if_none (is_some (table_of store name)) TableExists (if nat_le table_limit (length store) then Some OverLimit else None) early in
        let next = if_none (nat_le table_limit (length store)) OverLimit None here.1 in
        no_test (is_some (table_of store name)) TableExists _ here.0 ∙ no_test (nat_le table_limit (length store)) OverLimit (first_that_holds (table_tests said)) next.0

    carries : (given : FileAnswer) (r : Result Reply Refusal) (after : Store)
        → IsAnswered given (SaysTo store (open_table name path)) (λ said. CarriesOut store said (open_table name path) r after) (r ≡ Err OutOfMemory) → CarriesFile store (open_table name path) given r after
    carries given r after h =
        subst (λ o. MatchOption o
        (IsAnswered given (SaysTo store (open_table name path)) (λ said. CarriesOut store said (open_table name path) r after) (r ≡ Err OutOfMemory))
        (λ refusal. r ≡ Err refusal)) (sym early) h

    -- no table is found
    pub open_fails : (given : FileAnswer) (x : Refusal) (r : Result Reply Refusal) (after : Store) → FindsTable given (Err x) → IsErrAnd r (λ e. e ≡ x) → CarriesFile store (open_table name path) given r after
    open_fails given x (Ok reply) after finds same = absurd same
    open_fails given x (Err e) after finds same =
        carries given (Err e) after (answered given (Within IsTableIn) (IsFound (Err x)) (λ said. CarriesOut store said (open_table name path) (Err e) after) _ _
        (λ said found. elim found [ inl wants ↦ inl (early, same ∙ wants) | inr first ↦ inr (tests_left said ∙ first ∙ ap (λ y. Some y) (sym same)) ])
        (λ wants. cc) finds)

    module _ (given : FileAnswer) (parts : file.Table) (finds : FindsTable given (Ok parts)) where
      -- there is no memory for the table
      pub open_wants : (r : Result Reply Refusal) (after : Store) → IsErrAnd r (λ e. e ≡ OutOfMemory) → CarriesFile store (open_table name path) given r after
      open_wants (Ok reply) after wants = absurd wants
      open_wants (Err e) after wants =
          carries given (Err e) after (answered given (Within IsTableIn) (IsFound (Ok parts)) (λ said. CarriesOut store said (open_table name path) (Err e) after) _ _
          (λ said found. inl (early, wants)) (λ never. let no : ⊥ = cc in absurd no) finds)

      opened_reply : (n : ℕ) (after : Store) (said : Content) → n ≡ length (unfiled parts).rows → after ≡ store ++ (name, unfiled parts) ∷ [] → said ≡ Held (unfiled parts)
          → ◌≡◌ {A = Reply × Store} (Count n, after) (carried_out store said (open_table name path))
      opened_reply n after said count stored is =
          let held : table_held said ≡ unfiled parts = ap table_held is in
          let rows : n ≡ length (table_held said).rows = count ∙ ap (λ (table : Table). length table.rows) (sym held) in
          let tables : after ≡ store ++ (name, table_held said) ∷ [] = stored ∙ ap (λ (table : Table). store ++ (name, table) ∷ []) (sym held) in
          λ j. (Count (rows j), tables j)

      -- the table is added
      pub open_adds : (n : ℕ) (after : Store) → n ≡ length (unfiled parts).rows → after ≡ store ++ (name, unfiled parts) ∷ [] → CarriesFile store (open_table name path) given (Ok (Count n)) after
      open_adds n after count stored =
          carries given (Ok (Count n)) after (answered given (Within IsTableIn) (IsFound (Ok parts)) (λ said. CarriesOut store said (open_table name path) (Ok (Count n)) after) _ _
          (λ said found. (tests_left said ∙ found.0, opened_reply n after said count stored found.1)) (λ never. let no : ⊥ = cc in absurd no) finds)
