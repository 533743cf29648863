-- The rows of a CSV file, as they are answered and as the table takes them.
use Rattle.std.proofs.Common.{◌≡◌, ◌∙◌, inl, inr, ℕ, ◌<◌, Bool, true, false, List, [], ◌∷◌, Bor, nat_lt, length, ◌+◌, ◌++◌, ◌^◌, Some, get_or, Result, Ok, Err, IsErrAnd, refl, sym, ap, subst, arith}
use Rattle.std.specs.Bool.{MatchBool}
use Rattle.std.specs.List.{All, flat_map}
use Rattle.std.proofs.lemmas.Bool.{ltb-false}
use Rattle.bw_code.specs.Types.{IsRowOf, types_of}
use Rattle.bw_model.proofs.Typed.{row_wide}
use Rattle.bw_code.specs.declared.kind.ColumnType.{ColumnType}
use Rattle.bw_csvload.specs.Fitting.{IsOrFault}
use Rattle.bw_csvload.specs.Rows.{IsFault, rows_of_file}
use Rattle.bw_csvload.specs.declared.fault.CsvFault.{CsvFault}
use Rattle.bw_csvload.specs.declared.fault.CsvFault.TheVariants as fault
use Rattle.bw_csvload.proofs.Fits.{rows_in_file}
use Rattle.bw_table.specs.Rows.{AreWholeRows, rows_from}
use Rattle.bw_sql.specs.Rows.{joined}
use Rattle.bw_sql.specs.declared.tree.FirstRecord.{FirstRecord}
use Rattle.bw_model.specs.Contents.{first_of, lines_in, lines_or_fault}
use Rattle.bw_model.specs.Filing.{file_limit}
use Rattle.bw_model.specs.Refusals.{load_tests, refusal_of_csv}
use Rattle.bw_model.specs.Store.{AreHeaders, Header, Row, Table, Value, row_limit}
use Rattle.bw_model.specs.declared.content.Content.{Content}
use Rattle.bw_model.specs.declared.content.Content.TheVariants.{Lines, Missing, TooLarge}
use Rattle.bw_model.specs.declared.refusal.Refusal.{Refusal}
use Rattle.bw_model.specs.declared.refusal.Refusal.TheVariants.{FileTooLarge, OutOfMemory, TableFull, UnreadableFile}
use Rattle.bw_model.specs.declared.reply.Reply.{Reply}
use Rattle.bw_model.proofs.Lines.{length-joined}
use Rattle.bw_plan.proofs.Tests.{first-append_some}
use Rattle.bw_engine.specs.Files.{AnswersFile, IsAnswered, IsBytesOf, SaysLines, Within, lines_tests}
use Rattle.bw_engine.specs.declared.file_answer.FileAnswer.{FileAnswer}
use Rattle.bw_engine.specs.declared.file_answer.FileAnswer.TheVariants as file
use Rattle.bw_engine.proofs.Inserted.{rows_again}

-- the rows of what is said, where all of it is rows
abbrev pub AnswersLines : Result (List Row) Refusal → Content → Type 0
AnswersLines r said = AnswersFile (lines_tests said) r (λ rows. said ≡ Lines rows)

-- a file without bytes to be read
module _ (types : List ColumnType) (first : FirstRecord) (x : Refusal) where
  pub unread : (answer : FileAnswer) (r : Result (List Row) Refusal) → IsBytesOf answer (Err x) → IsErrAnd r (λ e. e ≡ x)
      → IsAnswered answer (Within (SaysLines types first)) (AnswersLines r) (r ≡ Err OutOfMemory)
  unread answer (Ok rows) is h = absurd h
  unread file.NotAsked (Err e) is h = let same : e ≡ UnreadableFile = cc in inr (ap Some (sym same))
  unread file.Unreadable (Err e) is h = let same : e ≡ UnreadableFile = cc in inr (ap Some (sym same))
  unread file.TooLarge (Err e) is h = let same : e ≡ FileTooLarge = cc in inr (ap Some (sym same))
  unread file.NoMemory (Err e) is h = let same : e ≡ OutOfMemory = cc in ap Err same
  unread (file.Bytes bytes) (Err e) is h = inr (by (nat_lt file_limit (length bytes.now)) is)
    where
      by : (b : Bool) → MatchBool b (◌≡◌ {A = Result (Bor (List ℕ)) Refusal} (Err x) (Err FileTooLarge)) ⊥ → (said : Content) × MatchBool b (said ≡ TooLarge) (SaysLines types first bytes.now said) × AnswersLines (Err e) said
      by true long = let same : e ≡ FileTooLarge = cc in (TooLarge, refl, inr (ap Some (sym same)))
      by false none = absurd none

-- a file whose bytes have a fault
fault_answers : (wanted : Result (List Row) CsvFault) (found : CsvFault) (r : Result (List Row) Refusal) → IsFault wanted found → IsErrAnd r (λ e. e ≡ refusal_of_csv found) → AnswersLines r (lines_or_fault wanted)
fault_answers wanted found (Ok rows) is h = absurd h
fault_answers (Ok rows) fault.Memory (Err e) is h = inl h
fault_answers (Ok rows) (fault.Fields record') (Err e) is h = absurd (cc)
fault_answers (Ok rows) (fault.NotInteger record' field) (Err e) is h = absurd (cc)
fault_answers (Ok rows) fault.Range (Err e) is h = absurd (cc)
fault_answers (Err other) fault.Memory (Err e) is h = inl h
fault_answers (Err other) (fault.Fields record') (Err e) is h = let same : other ≡ fault.Fields record' = cc in inr (ap Some (ap refusal_of_csv same ∙ sym h))
fault_answers (Err other) (fault.NotInteger record' field) (Err e) is h = let same : other ≡ fault.NotInteger record' field = cc in inr (ap Some (ap refusal_of_csv same ∙ sym h))
fault_answers (Err other) fault.Range (Err e) is h = let same : other ≡ fault.Range = cc in inr (ap Some (ap refusal_of_csv same ∙ sym h))

module _ (types : List ColumnType) (first : FirstRecord) (given : Bor (List ℕ)) (found : CsvFault) where
  pub faulty : (answer : FileAnswer) (r : Result (List Row) Refusal) → IsBytesOf answer (Ok given) → IsFault (rows_of_file types (first_of first) given.now) found → IsErrAnd r (λ e. e ≡ refusal_of_csv found)
      → IsAnswered answer (Within (SaysLines types first)) (AnswersLines r) (r ≡ Err OutOfMemory)
  faulty file.NotAsked r is wrong h = absurd (cc)
  faulty file.Unreadable r is wrong h = absurd (cc)
  faulty file.TooLarge r is wrong h = absurd (cc)
  faulty file.NoMemory r is wrong h = absurd (cc)
  faulty (file.Bytes bytes) r is wrong h = inr (by (nat_lt file_limit (length bytes.now)) is)
    where
      by : (b : Bool) → MatchBool b (◌≡◌ {A = Result (Bor (List ℕ)) Refusal} (Ok given) (Err FileTooLarge)) (given.now ≡ bytes.now)
          → (said : Content) × MatchBool b (said ≡ TooLarge) (SaysLines types first bytes.now said) × AnswersLines r said
      by true long = absurd (cc)
      by false same =
          let wanted = rows_of_file types (first_of first) bytes.now in
          (lines_or_fault wanted, refl, fault_answers wanted found r (subst (λ text. IsFault (rows_of_file types (first_of first) text) found) same wrong) h)

-- the cells of all rows, and the rows again

flat-joined : {A : Type 0} (rows : List (List A)) → flat_map (λ (row : List A). row) rows ≡ joined rows
flat-joined [] = refl
flat-joined (row ∷ rows) = ap (λ l. row ++ l) (flat-joined rows)

module _ (headers : List Header) (rows : List Row) (n : ℕ) (cells : List Value) (wide : All (λ row. length row ≡ length headers) rows)
    (same : n ≡ length headers) (valid : AreHeaders headers) (is : cells ≡ flat_map (λ (row : Row). row) rows) where
  some : 0 < n
  some = omega (arith, valid.some)

  wide_rows : All (λ row. length row ≡ n) rows
  wide_rows = λ i other within. wide i other within ∙ sym same

  pub whole_lines : AreWholeRows n cells
  whole_lines = record { some = some; count = length rows; whole = ap length (is ∙ flat-joined rows) ∙ length-joined n rows wide_rows }

  pub lines_again : rows_from n cells ≡ rows
  lines_again = ap (rows_from n) (is ∙ flat-joined rows) ∙ rows_again n rows some wide_rows

-- rows of values of the columns' types are as wide as these
pub rows_wide : (headers : List Header) (rows : List Row) → All (IsRowOf (types_of headers)) rows → All (λ row. length row ≡ length headers) rows
rows_wide headers rows all = λ i other within. row_wide headers (get_or rows i other) (all i other within)

-- what is answered fits the columns

module _ (types : List ColumnType) (few : length types < 2 ^ 64) (first : FirstRecord) (rows : List Row) where
  among_lines : (wanted : Result (List Row) CsvFault) → IsOrFault (All (IsRowOf types)) wanted → lines_or_fault wanted ≡ Lines rows → All (IsRowOf types) rows
  among_lines (Ok others) fits is = let same : others ≡ rows = cc in subst (All (IsRowOf types)) same fits
  among_lines (Err found) fits is = absurd (cc)

  pub fitting : (answer : FileAnswer) → IsAnswered answer (Within (SaysLines types first)) (AnswersLines (Ok rows)) (◌≡◌ {A = Result (List Row) Refusal} (Ok rows) (Err OutOfMemory)) → All (IsRowOf types) rows
  fitting file.NotAsked h = absurd (cc)
  fitting file.Unreadable h = absurd (cc)
  fitting file.TooLarge h = absurd (cc)
  fitting file.NoMemory h = absurd (cc)
  fitting (file.Bytes bytes) h = elim h [ inl never ↦ absurd (no never) | inr p ↦ by p.0 (nat_lt file_limit (length bytes.now)) refl p.1 p.2.1 ]
    where
      no : ◌≡◌ {A = Result (List Row) Refusal} (Ok rows) (Err OutOfMemory) → ⊥
      no e = cc

      by : (said : Content) (b : Bool) → nat_lt file_limit (length bytes.now) ≡ b → MatchBool b (said ≡ TooLarge) (SaysLines types first bytes.now said) → said ≡ Lines rows → All (IsRowOf types) rows
      by said true long is lines = absurd (cc)
      by said false short is lines = among_lines (rows_of_file types (first_of first) bytes.now) (rows_in_file types few (first_of first) bytes.now (omega (arith, ltb-false file_limit (length bytes.now) short))) (sym is ∙ lines)

-- what a file's lines are refused for, a table refuses them for
module _ (types : List ColumnType) (first : FirstRecord) (table : Table) (P : Content → Reply → Type 0) (x : Refusal) where
  refuses : (said : Content) → AnswersLines (Err x) said → AnswersFile (load_tests said table) (Err x) (P said)
  refuses said h = elim h [ inl memory ↦ inl memory | inr one ↦ inr (first-append_some (lines_tests said) ((TableFull, nat_lt row_limit (length table.rows + length (lines_in said))) ∷ []) x one) ]

  wants : ◌≡◌ {A = Result (List Row) Refusal} (Err x) (Err OutOfMemory) → ◌≡◌ {A = Result Reply Refusal} (Err x) (Err OutOfMemory)
  wants e = let same : x ≡ OutOfMemory = cc in ap Err same

  pub lines_refused : (answer : FileAnswer) (r : Result Reply Refusal) → IsErrAnd r (λ e. e ≡ x) → IsAnswered answer (Within (SaysLines types first)) (AnswersLines (Err x)) (◌≡◌ {A = Result (List Row) Refusal} (Err x) (Err OutOfMemory))
      → IsAnswered answer (Within (SaysLines types first)) (λ said. AnswersFile (load_tests said table) r (P said)) (r ≡ Err OutOfMemory)
  lines_refused answer (Ok y) is h = absurd is
  lines_refused answer (Err e) is h =
      subst (λ z. IsAnswered answer (Within (SaysLines types first)) (λ said. AnswersFile (load_tests said table) (Err z) (P said)) (◌≡◌ {A = Result Reply Refusal} (Err z) (Err OutOfMemory))) (sym is) (by answer h)
    where
      by : (answer : FileAnswer) → IsAnswered answer (Within (SaysLines types first)) (AnswersLines (Err x)) (◌≡◌ {A = Result (List Row) Refusal} (Err x) (Err OutOfMemory))
          → IsAnswered answer (Within (SaysLines types first)) (λ said. AnswersFile (load_tests said table) (Err x) (P said)) (◌≡◌ {A = Result Reply Refusal} (Err x) (Err OutOfMemory))
      by file.NotAsked h = refuses Missing h
      by file.Unreadable h = refuses Missing h
      by file.TooLarge h = refuses TooLarge h
      by file.NoMemory h = wants h
      by (file.Bytes bytes) h = elim h [ inl w ↦ inl (wants w) | inr p ↦ inr (p.0, p.1, refuses p.0 p.2) ]
