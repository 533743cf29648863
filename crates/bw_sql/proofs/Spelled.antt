-- A statement that a text says brings in only names that are names, and names only files that have names of files.
use Rattle.std.proofs.Common.{◌≡◌, ℕ, ◌+◌, ◌≤◌, List, [], ◌∷◌, ◌++◌, drop, length, map, slice_range, take, Option, None, Some, refl, sym, ap, subst, ◌∙◌, drop-drop}
use Rattle.std.proofs.Math.Nat.{add-sub_cancel_left}
use Rattle.std.specs.Char.{to_ascii_uppercase}
use Rattle.std.specs.List.{All}
use Rattle.std.proofs.lemmas.List.Elements.{All-cons, All-nil}
use Rattle.std.proofs.Math.Seq.{drop-append_seam, take-append_seam}
use Rattle.bw_sql.specs.Grammar.{ColumnPart, KindPart, ListOf, Spells, TypePart, UsingPart, bigint, column, creates, deletes, deletes_where, drops, inserts, inserts_into, int, integer, kind, last, lists_tables, loads, loads_with_header, next, no_kind, no_layout, opens, rebuilds, rebuilds_columns, saves, selects, asks_stats, updates, updates_where, using_layout}
use Rattle.bw_sql.specs.Files.{IsFileName}
use Rattle.bw_sql.specs.Named.{files_named}
use Rattle.bw_sql.specs.Names.{IsName, keyword_of}
use Rattle.bw_lex.specs.Pieces.{text_says}
use Rattle.bw_lex.specs.Spellings.{IsWord}
use Rattle.bw_lex.proofs.Quotes.{is_good}
use Rattle.bw_sql.specs.Statements.{AreTerminals, Says}
use Rattle.bw_sql.specs.Terminals.{terminal_of, terminals_of, word_or_name}
use Rattle.bw_lex.specs.Tokens.{AreTokensFrom, IsNext, done, past_separator, past_token, token}
use Rattle.bw_sql.specs.Tree.{StatementTree}
use Rattle.bw_sql.specs.declared.keyword.Keyword.{Keyword}
use Rattle.bw_sql.specs.declared.terminal.Terminal.{Terminal}
use Rattle.bw_sql.specs.declared.terminal.Terminal.TheVariants as t
use Rattle.bw_lex.specs.declared.token.Token.{Token}
use Rattle.bw_lex.specs.declared.token.TokenKind.{TokenKind}
use Rattle.bw_lex.specs.declared.token.TokenKind.TheVariants as k
use Rattle.bw_sql.specs.declared.tree.ColumnDefinition.{ColumnDefinition}
use Rattle.bw_sql.specs.declared.tree.TypeWord.{TypeWord}
use Rattle.bw_sql.specs.declared.tree.KindWord.{KindWord}
use Rattle.bw_sql.specs.declared.tree.LayoutWord.{LayoutWord}
use Rattle.bw_sql.proofs.NameLemmas.{word_is_name}
use Rattle.bw_sql.specs.Brought.{names_brought}

-- the names among terminals are names, and the texts names of files

abbrev Each : {A : Type 0} → (A → Type 0) → List A → Type 0
Each P [] = Unit {0}
Each P (x ∷ xs) = P x × Each P xs

abbrev IsSeen : Terminal → Type 0
IsSeen (t.Name word) = IsName word
IsSeen (t.Text says) = IsFileName says
IsSeen _ = Unit {0}

by_keyword : (bytes : List ℕ) (word : Option Keyword) → keyword_of (map to_ascii_uppercase bytes) ≡ word → IsWord bytes → length bytes ≤ 128 → IsSeen (word_or_name word (map to_ascii_uppercase bytes))
by_keyword bytes None e is short = word_is_name bytes is short e
by_keyword bytes (Some word) e is short = tt

token_seen : (kind : TokenKind) (bytes left : List ℕ) → IsNext (token kind) bytes left → IsSeen (terminal_of kind bytes)
token_seen k.Word bytes left is = by_keyword bytes (keyword_of (map to_ascii_uppercase bytes)) refl is.0.fits is.1
token_seen k.Number bytes left is = tt
token_seen k.Text bytes left is = is_good bytes (text_says bytes) is.1 refl
token_seen (k.Symbol symbol) bytes left is = tt

module _ (text : List ℕ) where
  -- what is left after bytes at a place, and the bytes themselves
  after : (at : ℕ) (part bytes left : List ℕ) → part ≡ drop at text → part ≡ bytes ++ left → left ≡ drop (at + length bytes) text
  after at part bytes left here is =
      sym (drop-append_seam bytes left) ∙ ap (drop (length bytes)) (sym is ∙ here) ∙ drop-drop (length bytes) at text

  bytes_there : (at : ℕ) (part bytes left : List ℕ) → part ≡ drop at text → part ≡ bytes ++ left → slice_range text at (at + length bytes) ≡ bytes
  bytes_there at part bytes left here is =
      ap (λ n. take n (drop at text)) (add-sub_cancel_left at (length bytes)) ∙ ap (take (length bytes)) (sym here ∙ is) ∙ take-append_seam bytes left

  all_seen : {at : ℕ} {part rest : List ℕ} {tokens : List Token} → AreTokensFrom at part rest tokens → part ≡ drop at text → Each IsSeen (terminals_of text tokens)
  all_seen (done e) here = tt
  all_seen {at} {part} (past_separator bytes left is fits more) here = all_seen more (after at part bytes left here is)
  all_seen {at} {part} (past_token shape bytes left is fits more) here =
      (subst (λ b. IsSeen (terminal_of shape b)) (sym (bytes_there at part bytes left here is)) (token_seen shape bytes left fits), all_seen more (after at part bytes left here is))

-- the columns of a CREATE TABLE

past_type : {ts rest : List Terminal} {word : TypeWord} → TypePart ts word rest → Each IsSeen ts → Each IsSeen rest
past_type integer seen = seen.1
past_type int seen = seen.1
past_type bigint seen = seen.1

past_using : {ts rest : List Terminal} {layout : Option LayoutWord} → UsingPart ts layout rest → Each IsSeen ts → Each IsSeen rest
past_using no_layout seen = seen
past_using using_layout seen = seen.1.1

past_kind : {ts rest : List Terminal} {word : Option KindWord} → KindPart ts word rest → Each IsSeen ts → Each IsSeen rest
past_kind no_kind seen = seen
past_kind kind seen = seen.1

past_column : {ts rest : List Terminal} {definition : ColumnDefinition} → ColumnPart ts definition rest → Each IsSeen ts → IsName definition.name × Each IsSeen rest
past_column (column type using word) seen = (seen.0, past_kind word (past_using using (past_type type seen.1)))

columns_named : {ts rest : List Terminal} {definitions : List ColumnDefinition} → ListOf ColumnPart ts definitions rest → Each IsSeen ts → All IsName (map (λ c. c.name) definitions)
columns_named (last {x = definition} one) seen = All-cons IsName definition.name [] (past_column one seen).0 (All-nil IsName)
columns_named (next {x = definition} {xs = definitions} one more) seen =
    let p = past_column one seen in All-cons IsName definition.name (map (λ c. c.name) definitions) p.0 (columns_named more p.1.1)

spelled_names : (terminals : List Terminal) (statement : StatementTree) → Spells terminals statement → Each IsSeen terminals → All IsName (names_brought statement)
spelled_names terminals statement (creates {table} {definitions} many) seen = All-cons IsName table (map (λ c. c.name) definitions) seen.1.1.0 (columns_named many seen.1.1.1.1)
spelled_names terminals statement drops seen = All-nil IsName
spelled_names terminals statement lists_tables seen = All-nil IsName
spelled_names terminals statement (inserts rows) seen = All-nil IsName
spelled_names terminals statement (inserts_into names rows) seen = All-nil IsName
spelled_names terminals statement (updates sets) seen = All-nil IsName
spelled_names terminals statement (updates_where sets condition) seen = All-nil IsName
spelled_names terminals statement deletes seen = All-nil IsName
spelled_names terminals statement (deletes_where condition) seen = All-nil IsName
spelled_names terminals statement rebuilds seen = All-nil IsName
spelled_names terminals statement (rebuilds_columns choices) seen = All-nil IsName
spelled_names terminals statement (selects asked) seen = All-nil IsName
spelled_names terminals statement (asks_stats asked) seen = All-nil IsName
spelled_names terminals statement loads seen = All-nil IsName
spelled_names terminals statement loads_with_header seen = All-nil IsName
spelled_names terminals statement saves seen = All-nil IsName
spelled_names terminals statement (opens {table} {file}) seen = All-cons IsName table [] seen.1.0 (All-nil IsName)

one_file : (file : List ℕ) → IsFileName file → All IsFileName (file ∷ [])
one_file file is = All-cons IsFileName file [] is (All-nil IsFileName)

spelled_files : (terminals : List Terminal) (statement : StatementTree) → Spells terminals statement → Each IsSeen terminals → All IsFileName (files_named statement)
spelled_files terminals statement (creates many) seen = All-nil IsFileName
spelled_files terminals statement drops seen = All-nil IsFileName
spelled_files terminals statement lists_tables seen = All-nil IsFileName
spelled_files terminals statement (inserts rows) seen = All-nil IsFileName
spelled_files terminals statement (inserts_into names rows) seen = All-nil IsFileName
spelled_files terminals statement (updates sets) seen = All-nil IsFileName
spelled_files terminals statement (updates_where sets condition) seen = All-nil IsFileName
spelled_files terminals statement deletes seen = All-nil IsFileName
spelled_files terminals statement (deletes_where condition) seen = All-nil IsFileName
spelled_files terminals statement rebuilds seen = All-nil IsFileName
spelled_files terminals statement (rebuilds_columns choices) seen = All-nil IsFileName
spelled_files terminals statement (selects asked) seen = All-nil IsFileName
spelled_files terminals statement (asks_stats asked) seen = All-nil IsFileName
spelled_files terminals statement (loads {table} {file}) seen = one_file file seen.1.1.1.0
spelled_files terminals statement (loads_with_header {table} {file}) seen = one_file file seen.1.1.1.0
spelled_files terminals statement (saves {table} {file}) seen = one_file file seen.1.1.1.0
spelled_files terminals statement (opens {table} {file}) seen = one_file file seen.1.1.1.0

seen_in : (text : List ℕ) (terminals : List Terminal) → AreTerminals text terminals → Each IsSeen terminals
seen_in text terminals are = subst (Each IsSeen) (sym are.seen) (all_seen text are.are_tokens refl)

pub says_names : (text : List ℕ) (statement : StatementTree) → Says text statement → All IsName (names_brought statement)
says_names text statement says = spelled_names says.terminals statement says.spelled (seen_in text says.terminals says.are_terminals)

pub says_files : (text : List ℕ) (statement : StatementTree) → Says text statement → All IsFileName (files_named statement)
says_files text statement says = spelled_files says.terminals statement says.spelled (seen_in text says.terminals says.are_terminals)
