-- A statement that is read is in the grammar.
use Rattle.std.proofs.Common.{◌≡◌, ◌∙◌, ℕ, ℤ, List, [], ◌∷◌, Option, Some, None, refl, ap, subst}
use Rattle.bw_lex.specs.declared.token.Symbol.TheVariants as s
use Rattle.bw_sql.specs.declared.keyword.Keyword.TheVariants as k
use Rattle.bw_sql.specs.declared.terminal.Terminal.{Terminal}
use Rattle.bw_sql.specs.declared.terminal.Terminal.TheVariants as t
use Rattle.bw_sql.specs.Tree.{StatementTree, create_table, insert, select}
use Rattle.bw_sql.specs.Grammar.{ListOf, NamePart, RowPart, ColumnPart, Spells, creates, inserts, inserts_into, selects}
use Rattle.bw_sql.specs.Reading.{after_close, after_into, after_open, after_table, after_values, column_list_at, columns_at, create_at, ended, insert_at, name_at, names_at, rows_at, select_at, statement_at, whole_at}
use Rattle.bw_sql.proofs.Begun.{IsStatement, spelled}
use Rattle.bw_sql.proofs.ChangesSound.{delete_sound, drop_sound, update_sound, worded_sound}
use Rattle.bw_sql.proofs.FilesSound.{open_sound}
use Rattle.bw_sql.proofs.SelectSound.{select_sound}
use Rattle.bw_sql.proofs.ListsSound.{closes, after_into-is, after_open-is, after_table-is, after_values-is, answers_once, bound, columns_sound, mapped, name_is, name_sound, names_sound, rows_sound}

create_sound : (n : ℕ) (ts : List Terminal) → (tree : StatementTree) (rest : List Terminal) → create_at n ts ≡ Some (tree, rest) → IsStatement (t.Keyword k.Create ∷ ts) tree rest
unfolding create_at
create_sound n ts tree rest h nothing =
    let a = bound (after_table ts) _ (tree, rest) h in
    let b = bound (name_at a.0) _ (tree, rest) a.2 in
    let c = bound (after_open b.0.1) _ (tree, rest) b.2 in
    let d = bound (columns_at n c.0) _ (tree, rest) c.2 in
    let e = closes (ListOf ColumnPart) (create_table b.0.0) c.0 d.0.0 d.0.1 (columns_sound n c.0 d.0.0 d.0.1 d.1) (after_close d.0.1) refl tree rest d.2 in
    let front : ts ≡ t.Keyword k.Table ∷ t.Name b.0.0 ∷ t.Symbol s.Open ∷ c.0 =
    after_table-is ts a.0 a.1 ∙ ap (λ l. t.Keyword k.Table ∷ l) (name_is a.0 b.0.0 b.0.1 (name_sound a.0 b.0.0 b.0.1 b.1) ∙ ap (λ l. t.Name b.0.0 ∷ l) (after_open-is b.0.1 c.0 c.1)) in
    spelled (t.Keyword k.Create) ts _ (create_table b.0.0 d.0.0) tree front e.1 (creates (subst (λ l. ListOf ColumnPart c.0 d.0.0 (t.Symbol s.Close ∷ l)) nothing e.0))

list_part_sound : (n : ℕ) (ts : List Terminal) (names : Option (List (List ℕ))) (us vs : List Terminal) (table : List ℕ) (rows : List (List (Option ℤ))) → column_list_at n ts ≡ Some (names, us) → us ≡ t.Keyword k.Values ∷ vs → ListOf RowPart vs rows [] → Spells (t.Keyword k.Insert ∷ t.Keyword k.Into ∷ t.Name table ∷ ts) (insert table names rows)
unfolding column_list_at
list_part_sound n (t.Symbol s.Open ∷ ts) names us vs table rows h is many =
    let b = bound (names_at n ts) _ (names, us) h in
    let c = closes (ListOf NamePart) (λ l. Some l) ts b.0.0 b.0.1 (names_sound n ts b.0.0 b.0.1 b.1) (after_close b.0.1) refl names us b.2 in
    rw (← c.1) (inserts_into (subst (λ l. ListOf NamePart ts b.0.0 (t.Symbol s.Close ∷ l)) is c.0) many)
list_part_sound n ts names us vs table rows h is many =
    let e = answers_once None names ts us h in
    rw (← e.0, e.1, is) (inserts many)

insert_sound : (n : ℕ) (ts : List Terminal) → (tree : StatementTree) (rest : List Terminal) → insert_at n ts ≡ Some (tree, rest) → IsStatement (t.Keyword k.Insert ∷ ts) tree rest
unfolding insert_at
insert_sound n ts tree rest h nothing =
    let a = bound (after_into ts) _ (tree, rest) h in
    let b = bound (name_at a.0) _ (tree, rest) a.2 in
    let c = bound (column_list_at n b.0.1) _ (tree, rest) b.2 in
    let d = bound (after_values c.0.1) _ (tree, rest) c.2 in
    let e = bound (rows_at n d.0) _ (tree, rest) d.2 in
    let f = answers_once (insert b.0.0 c.0.0 e.0.0) tree e.0.1 rest e.2 in
    let front : ts ≡ t.Keyword k.Into ∷ t.Name b.0.0 ∷ b.0.1 =
    after_into-is ts a.0 a.1 ∙ ap (λ l. t.Keyword k.Into ∷ l) (name_is a.0 b.0.0 b.0.1 (name_sound a.0 b.0.0 b.0.1 b.1)) in
    spelled (t.Keyword k.Insert) ts _ (insert b.0.0 c.0.0 e.0.0) tree front f.0
    (list_part_sound n b.0.1 c.0.0 c.0.1 d.0 b.0.0 e.0.0 c.1 (after_values-is c.0.1 d.0 d.1) (subst (ListOf RowPart d.0 e.0.0) (f.1 ∙ nothing) (rows_sound n d.0 e.0.0 e.0.1 e.1)))

statement_sound : (n : ℕ) (ts : List Terminal) (tree : StatementTree) (rest : List Terminal) → statement_at n ts ≡ Some (tree, rest) → IsStatement ts tree rest
unfolding statement_at
statement_sound n (t.Keyword k.Create ∷ ts) tree rest h = create_sound n ts tree rest h
statement_sound n (t.Keyword k.Drop ∷ ts) tree rest h = drop_sound ts tree rest h
statement_sound n (t.Keyword k.Insert ∷ ts) tree rest h = insert_sound n ts tree rest h
statement_sound n (t.Keyword k.Update ∷ ts) tree rest h = update_sound n ts tree rest h
statement_sound n (t.Keyword k.Delete ∷ ts) tree rest h = delete_sound n ts tree rest h
statement_sound n (t.Keyword k.Select ∷ ts) tree rest h = mapped select (λ us tree rest. IsStatement (t.Keyword k.Select ∷ us) tree rest) ts (select_at n ts) tree rest h (λ asked reads nothing. selects (select_sound n ts asked rest reads nothing))
statement_sound n (t.Keyword k.Open ∷ ts) tree rest h = open_sound ts tree rest h
statement_sound n ts tree rest h = worded_sound n ts tree rest h

all_ended : (tree : StatementTree) (rest : List Terminal) (y : StatementTree) → ended tree rest ≡ Some y → (rest ≡ []) × (tree ≡ y)
all_ended tree [] y h = (refl, cc)
all_ended tree (_ ∷ rest) y h = cc

pub whole_sound : (n : ℕ) (ts : List Terminal) (tree : StatementTree) → whole_at n ts ≡ Some tree → Spells ts tree
unfolding whole_at
whole_sound n ts tree h =
    let a = bound (statement_at n ts) _ tree h in
    let e = all_ended a.0.0 a.0.1 tree a.2 in
    subst (Spells ts) e.1 (statement_sound n ts a.0.0 a.0.1 a.1 e.0)
