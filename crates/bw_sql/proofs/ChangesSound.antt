-- A statement that changes or lists what is there, and that is read, is in the grammar.
use Rattle.std.proofs.Common.{◌≡◌, ◌∙◌, ℕ, List, [], ◌∷◌, codes, Option, Some, None, refl, sym, ap, subst}
use Rattle.bw_lex.specs.declared.token.CompareOp.TheVariants.{Eq}
use Rattle.bw_lex.specs.declared.token.Symbol.TheVariants as s
use Rattle.bw_sql.specs.declared.keyword.Keyword.TheVariants as k
use Rattle.bw_sql.specs.declared.terminal.StatementWord.{StatementWord}
use Rattle.bw_sql.specs.declared.terminal.StatementWord.TheVariants.{Load, Rebuild, Save, Stats, Tables}
use Rattle.bw_sql.specs.declared.terminal.Terminal.{Terminal}
use Rattle.bw_sql.specs.declared.terminal.Terminal.TheVariants as t
use Rattle.bw_sql.specs.declared.tree.KindWord.{KindWord}
use Rattle.bw_sql.specs.declared.tree.LayoutChoice.{LayoutChoice}
use Rattle.bw_sql.specs.declared.tree.LayoutWord.{LayoutWord}
use Rattle.bw_sql.specs.declared.tree.Operand.{Operand}
use Rattle.bw_sql.specs.declared.tree.SetClause.{SetClause}
use Rattle.bw_sql.specs.Tree.{ConditionTree, StatementTree, delete, drop_table, list_tables, rebuild, stats, update}
use Rattle.bw_sql.specs.Grammar.{ChoicePart, ConditionPart, KindPart, ListOf, OperandPart, SetPart, Spells, choice, asks_stats, deletes, deletes_where, drops, lists_tables, rebuilds, rebuilds_columns, set, updates, updates_where}
use Rattle.bw_sql.specs.Reading.{after_close, after_equals, after_from, after_set, after_table, after_using, after_word, choice_at, choice_list_at, choices_at, condition_at, delete_at, drop_at, filter_at, kind_at, layout_at, name_at, operand_at, rebuild_at, select_at, set_at, set_to, sets_at, statement_word_at, stats_at, update_at, worded_at}
use Rattle.bw_sql.specs.Words.{layout_of, layout_spelling, statement_spelling}
use Rattle.bw_sql.proofs.Begun.{IsStatement, spelled}
use Rattle.bw_sql.proofs.ConditionsSound.{condition_sound, operand_sound}
use Rattle.bw_sql.proofs.FilesSound.{load_sound, save_sound}
use Rattle.bw_sql.proofs.SelectSound.{select_sound}
use Rattle.bw_sql.proofs.ListsSound.{IsSound, after_from-is, after_table-is, answers_once, bound, closes, kind_sound, mapped, moved, name_is, name_sound, parts_sound, rested, statement_word_is}
use Rattle.bw_sql.proofs.WordLemmas.{layout_of-is}

-- a keyword or a symbol that was taken stood there
after_set-is : (ts mid : List Terminal) → after_set ts ≡ Some mid → ts ≡ t.Keyword k.Set ∷ mid
after_set-is (t.Keyword k.Set ∷ ts) mid h = cc
after_set-is _ mid h = cc

after_using-is : (ts mid : List Terminal) → after_using ts ≡ Some mid → ts ≡ t.Keyword k.Using ∷ mid
after_using-is (t.Keyword k.Using ∷ ts) mid h = cc
after_using-is _ mid h = cc

after_equals-is : (ts mid : List Terminal) → after_equals ts ≡ Some mid → ts ≡ t.Symbol (s.Compare Eq) ∷ mid
after_equals-is (t.Symbol (s.Compare Eq) ∷ ts) mid h = cc
after_equals-is _ mid h = cc

layout_is : (ts : List Terminal) (l : LayoutWord) (rest : List Terminal) → layout_at ts ≡ Some (l, rest) → ts ≡ t.Name (layout_spelling l) ∷ rest
unfolding layout_at
layout_is (t.Name word ∷ ts) l rest h =
    let r = rested (layout_of word) ts l rest h in
    ap (λ w. t.Name w ∷ ts) (layout_of-is word l r.0) ∙ ap (λ us. t.Name (layout_spelling l) ∷ us) r.1
layout_is _ l rest h = cc

pub drop_sound : (ts : List Terminal) → (tree : StatementTree) (rest : List Terminal) → drop_at ts ≡ Some (tree, rest) → IsStatement (t.Keyword k.Drop ∷ ts) tree rest
unfolding drop_at
drop_sound ts tree rest h nothing =
    let a = bound (after_table ts) _ (tree, rest) h in
    let b = bound (name_at a.0) _ (tree, rest) a.2 in
    let e = answers_once (drop_table b.0.0) tree b.0.1 rest b.2 in
    let front : ts ≡ t.Keyword k.Table ∷ t.Name b.0.0 ∷ [] =
    after_table-is ts a.0 a.1 ∙ ap (λ l. t.Keyword k.Table ∷ l) (name_is a.0 b.0.0 b.0.1 (name_sound a.0 b.0.0 b.0.1 b.1) ∙ ap (λ l. t.Name b.0.0 ∷ l) (e.1 ∙ nothing)) in
    spelled (t.Keyword k.Drop) ts _ (drop_table b.0.0) tree front e.0 drops

-- SET

set_spelled : (ts us : List Terminal) (word : List ℕ) (x : Operand) (rest : List Terminal) → ts ≡ t.Name word ∷ t.Symbol (s.Compare Eq) ∷ us → OperandPart us x rest → SetPart ts (set_to word x) rest
set_spelled ts us word x rest e d = rw e (set d)

set_sound : IsSound SetPart set_at
unfolding set_at
set_sound ts x rest h =
    let a = bound (name_at ts) _ (x, rest) h in
    let b = bound (after_equals a.0.1) _ (x, rest) a.2 in
    let front : ts ≡ t.Name a.0.0 ∷ t.Symbol (s.Compare Eq) ∷ b.0 = name_is ts a.0.0 a.0.1 (name_sound ts a.0.0 a.0.1 a.1) ∙ ap (λ l. t.Name a.0.0 ∷ l) (after_equals-is a.0.1 b.0 b.1) in
    mapped (set_to a.0.0) SetPart ts (operand_at b.0) x rest b.2 (λ y reads. set_spelled ts b.0 a.0.0 y rest front (operand_sound b.0 y rest reads))

sets_sound : (n : ℕ) → IsSound (ListOf SetPart) (sets_at n)
unfolding sets_at
sets_sound n = parts_sound SetPart set_at set_sound n

update_filter_sound : (n : ℕ) (ts us vs : List Terminal) (table : List ℕ) (sets : List SetClause) (filter : Option ConditionTree) → ListOf SetPart ts sets us → filter_at n us ≡ Some (filter, vs) → vs ≡ [] → Spells (t.Keyword k.Update ∷ t.Name table ∷ t.Keyword k.Set ∷ ts) (update table sets filter)
unfolding filter_at
update_filter_sound n ts (t.Keyword k.Where ∷ us) vs table sets filter many h nothing =
    mapped Some (λ _ f rest. rest ≡ [] → Spells (t.Keyword k.Update ∷ t.Name table ∷ t.Keyword k.Set ∷ ts) (update table sets f)) us (condition_at n us) filter vs h (λ c reads ended. updates_where many (subst (ConditionPart us c) ended (condition_sound n us c vs reads))) nothing
update_filter_sound n ts us vs table sets filter many h nothing =
    let e = answers_once None filter us vs h in
    rw (← e.0) (updates (subst (ListOf SetPart ts sets) (e.1 ∙ nothing) many))

pub update_sound : (n : ℕ) (ts : List Terminal) → (tree : StatementTree) (rest : List Terminal) → update_at n ts ≡ Some (tree, rest) → IsStatement (t.Keyword k.Update ∷ ts) tree rest
unfolding update_at
update_sound n ts tree rest h nothing =
    let a = bound (name_at ts) _ (tree, rest) h in
    let b = bound (after_set a.0.1) _ (tree, rest) a.2 in
    let c = bound (sets_at n b.0) _ (tree, rest) b.2 in
    let d = bound (filter_at n c.0.1) _ (tree, rest) c.2 in
    let e = answers_once (update a.0.0 c.0.0 d.0.0) tree d.0.1 rest d.2 in
    let front : ts ≡ t.Name a.0.0 ∷ t.Keyword k.Set ∷ b.0 = name_is ts a.0.0 a.0.1 (name_sound ts a.0.0 a.0.1 a.1) ∙ ap (λ l. t.Name a.0.0 ∷ l) (after_set-is a.0.1 b.0 b.1) in
    spelled (t.Keyword k.Update) ts _ (update a.0.0 c.0.0 d.0.0) tree front e.0
    (update_filter_sound n b.0 c.0.1 d.0.1 a.0.0 c.0.0 d.0.0 (sets_sound n b.0 c.0.0 c.0.1 c.1) d.1 (e.1 ∙ nothing))

-- DELETE

delete_filter_sound : (n : ℕ) (us vs : List Terminal) (table : List ℕ) (filter : Option ConditionTree) → filter_at n us ≡ Some (filter, vs) → vs ≡ [] → Spells (t.Keyword k.Delete ∷ t.Keyword k.From ∷ t.Name table ∷ us) (delete table filter)
unfolding filter_at
delete_filter_sound n (t.Keyword k.Where ∷ us) vs table filter h nothing =
    mapped Some (λ _ f rest. rest ≡ [] → Spells (t.Keyword k.Delete ∷ t.Keyword k.From ∷ t.Name table ∷ t.Keyword k.Where ∷ us) (delete table f)) us (condition_at n us) filter vs h (λ c reads ended. deletes_where (subst (ConditionPart us c) ended (condition_sound n us c vs reads))) nothing
delete_filter_sound n us vs table filter h nothing =
    let e = answers_once None filter us vs h in
    rw (← e.0, e.1 ∙ nothing) deletes

pub delete_sound : (n : ℕ) (ts : List Terminal) → (tree : StatementTree) (rest : List Terminal) → delete_at n ts ≡ Some (tree, rest) → IsStatement (t.Keyword k.Delete ∷ ts) tree rest
unfolding delete_at
delete_sound n ts tree rest h nothing =
    let a = bound (after_from ts) _ (tree, rest) h in
    let b = bound (name_at a.0) _ (tree, rest) a.2 in
    let c = bound (filter_at n b.0.1) _ (tree, rest) b.2 in
    let e = answers_once (delete b.0.0 c.0.0) tree c.0.1 rest c.2 in
    let front : ts ≡ t.Keyword k.From ∷ t.Name b.0.0 ∷ b.0.1 = after_from-is ts a.0 a.1 ∙ ap (λ l. t.Keyword k.From ∷ l) (name_is a.0 b.0.0 b.0.1 (name_sound a.0 b.0.0 b.0.1 b.1)) in
    spelled (t.Keyword k.Delete) ts _ (delete b.0.0 c.0.0) tree front e.0 (delete_filter_sound n b.0.1 c.0.1 b.0.0 c.0.0 c.1 (e.1 ∙ nothing))

-- REBUILD

choice_spelled : (ts us : List Terminal) (word : List ℕ) (l : LayoutWord) (d : Option KindWord) (rest : List Terminal) → ts ≡ t.Name word ∷ t.Keyword k.Using ∷ t.Name (layout_spelling l) ∷ us → KindPart us d rest → ChoicePart ts (record { column = word; layout = l; kind = d }) rest
choice_spelled ts us word l d rest e x = rw e (choice x)

choice_sound : IsSound ChoicePart choice_at
unfolding choice_at
choice_sound ts x rest h =
    let a = bound (name_at ts) _ (x, rest) h in
    let b = bound (after_using a.0.1) _ (x, rest) a.2 in
    let c = bound (layout_at b.0) _ (x, rest) b.2 in
    let front : ts ≡ t.Name a.0.0 ∷ t.Keyword k.Using ∷ t.Name (layout_spelling c.0.0) ∷ c.0.1 =
    name_is ts a.0.0 a.0.1 (name_sound ts a.0.0 a.0.1 a.1) ∙ ap (λ l. t.Name a.0.0 ∷ l) (after_using-is a.0.1 b.0 b.1 ∙ ap (λ l. t.Keyword k.Using ∷ l) (layout_is b.0 c.0.0 c.0.1 c.1)) in
    moved ChoicePart ts (record { column = a.0.0; layout = c.0.0; kind = (kind_at c.0.1).0 }) x (kind_at c.0.1).1 rest (choice_spelled ts c.0.1 a.0.0 c.0.0 (kind_at c.0.1).0 (kind_at c.0.1).1 front (kind_sound c.0.1)) c.2

choices_sound : (n : ℕ) → IsSound (ListOf ChoicePart) (choices_at n)
unfolding choices_at
choices_sound n = parts_sound ChoicePart choice_at choice_sound n

choice_list_sound : (n : ℕ) (ts vs : List Terminal) (table : List ℕ) (choices : List LayoutChoice) → choice_list_at n ts ≡ Some (choices, vs) → vs ≡ [] → Spells (t.Name (codes "REBUILD") ∷ t.Name table ∷ ts) (rebuild table choices)
unfolding choice_list_at
choice_list_sound n (t.Symbol s.Open ∷ ts) vs table choices h nothing =
    let b = bound (choices_at n ts) _ (choices, vs) h in
    let c = closes (ListOf ChoicePart) (λ l. l) ts b.0.0 b.0.1 (choices_sound n ts b.0.0 b.0.1 b.1) (after_close b.0.1) refl choices vs b.2 in
    rw (← c.1) (rebuilds_columns (subst (λ l. ListOf ChoicePart ts b.0.0 (t.Symbol s.Close ∷ l)) nothing c.0))
choice_list_sound n ts vs table choices h nothing =
    let e = answers_once [] choices ts vs h in
    rw (← e.0, e.1 ∙ nothing) rebuilds

rebuild_sound : (n : ℕ) (ts : List Terminal) → (tree : StatementTree) (rest : List Terminal) → rebuild_at n ts ≡ Some (tree, rest) → IsStatement (t.Name (codes "REBUILD") ∷ ts) tree rest
unfolding rebuild_at
rebuild_sound n ts tree rest h nothing =
    let a = bound (name_at ts) _ (tree, rest) h in
    let b = bound (choice_list_at n a.0.1) _ (tree, rest) a.2 in
    let e = answers_once (rebuild a.0.0 b.0.0) tree b.0.1 rest b.2 in
    spelled (t.Name (codes "REBUILD")) ts _ (rebuild a.0.0 b.0.0) tree (name_is ts a.0.0 a.0.1 (name_sound ts a.0.0 a.0.1 a.1)) e.0 (choice_list_sound n a.0.1 b.0.1 a.0.0 b.0.0 b.1 (e.1 ∙ nothing))

-- STATS

stats_sound : (n : ℕ) (ts : List Terminal) → (tree : StatementTree) (rest : List Terminal) → stats_at n ts ≡ Some (tree, rest) → IsStatement (t.Name (codes "STATS") ∷ ts) tree rest
unfolding stats_at
stats_sound n (t.Keyword k.Select ∷ ts) tree rest h nothing =
    mapped stats (λ us tree rest. IsStatement (t.Name (codes "STATS") ∷ t.Keyword k.Select ∷ us) tree rest) ts (select_at n ts) tree rest h (λ asked reads nothing. asks_stats (select_sound n ts asked rest reads nothing)) nothing
stats_sound n ts tree rest h nothing = cc

-- a statement after the name that begins it
after_word_sound : (n : ℕ) (word : StatementWord) (ts : List Terminal) (tree : StatementTree) (rest : List Terminal) → after_word n word ts ≡ Some (tree, rest) → IsStatement (t.Name (statement_spelling word) ∷ ts) tree rest
after_word_sound n Tables ts tree rest h nothing =
    let e = answers_once list_tables tree ts rest h in
    spelled (t.Name (statement_spelling Tables)) ts [] list_tables tree (e.1 ∙ nothing) e.0 lists_tables
after_word_sound n Rebuild ts tree rest h nothing = rebuild_sound n ts tree rest h nothing
after_word_sound n Load ts tree rest h nothing = load_sound ts tree rest h nothing
after_word_sound n Save ts tree rest h nothing = save_sound ts tree rest h nothing
after_word_sound n Stats ts tree rest h nothing = stats_sound n ts tree rest h nothing

pub worded_sound : (n : ℕ) (ts : List Terminal) (tree : StatementTree) (rest : List Terminal) → worded_at n ts ≡ Some (tree, rest) → IsStatement ts tree rest
unfolding worded_at
worded_sound n ts tree rest h =
    let a = bound (statement_word_at ts) _ (tree, rest) h in
    subst (λ l. IsStatement l tree rest) (sym (statement_word_is ts a.0.0 a.0.1 a.1)) (after_word_sound n a.0.0 a.0.1 tree rest a.2)
