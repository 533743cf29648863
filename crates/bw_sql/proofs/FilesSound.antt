-- A statement that goes between a table and a file, and that is read, is in the grammar.
use Rattle.std.proofs.Common.{◌≡◌, ◌∙◌, ℕ, List, [], ◌∷◌, codes, Some, refl, ap}
use Rattle.bw_sql.specs.declared.keyword.Keyword.TheVariants as k
use Rattle.bw_sql.specs.declared.terminal.Terminal.{Terminal}
use Rattle.bw_sql.specs.declared.terminal.Terminal.TheVariants as t
use Rattle.bw_sql.specs.declared.tree.FirstRecord.{FirstRecord}
use Rattle.bw_sql.specs.declared.tree.FirstRecord.TheVariants.{Header, Row}
use Rattle.bw_sql.specs.Tree.{StatementTree, load, open_table, save}
use Rattle.bw_sql.specs.Grammar.{Spells, loads, loads_with_header, opens, saves}
use Rattle.bw_sql.specs.Reading.{after_from, after_to, first_record_at, load_at, name_at, open_at, save_at, source_at, text_at, with_at}
use Rattle.bw_sql.specs.Words.{first_record_of}
use Rattle.bw_sql.proofs.Begun.{IsStatement, spelled}
use Rattle.bw_sql.proofs.ListsSound.{after_from-is, answers_once, bound, name_is, name_sound, rested}
use Rattle.bw_sql.proofs.WordLemmas.{first_record_of-is}

-- a keyword that was taken stood there
after_to-is : (ts mid : List Terminal) → after_to ts ≡ Some mid → ts ≡ t.Keyword k.To ∷ mid
after_to-is (t.Keyword k.To ∷ ts) mid h = cc
after_to-is _ mid h = cc

text_is : (ts : List Terminal) (says : List ℕ) (rest : List Terminal) → text_at ts ≡ Some (says, rest) → ts ≡ t.Text says ∷ rest
unfolding text_at
text_is (t.Text said ∷ ts) says rest h = let e = answers_once said says ts rest h in rw (e.0, e.1) refl
text_is _ says rest h = cc

with_is : (ts : List Terminal) (first : FirstRecord) (rest : List Terminal) → with_at ts ≡ Some (first, rest) → (ts ≡ t.Name (codes "HEADER") ∷ rest) × (Header ≡ first)
unfolding with_at
with_is (t.Name word ∷ ts) first rest h =
    let r = rested (first_record_of word) ts first rest h in
    let w = first_record_of-is word first r.0 in
    (ap (λ l. t.Name l ∷ ts) w.0 ∙ ap (λ l. t.Name (codes "HEADER") ∷ l) r.1, w.1)
with_is _ first rest h = cc

first_record_sound : (ts rest : List Terminal) (table file : List ℕ) (first : FirstRecord) → first_record_at ts ≡ Some (first, rest) → rest ≡ [] → Spells (t.Name (codes "LOAD") ∷ t.Name table ∷ t.Keyword k.From ∷ t.Text file ∷ ts) (load table file first)
unfolding first_record_at
first_record_sound (t.Keyword k.With ∷ ts) rest table file first h nothing =
    let w = with_is ts first rest h in
    rw (w.0, nothing, ← w.1) loads_with_header
first_record_sound ts rest table file first h nothing =
    let e = answers_once Row first ts rest h in
    rw (← e.0, e.1 ∙ nothing) loads

source_is : (ts : List Terminal) (file : List ℕ) (rest : List Terminal) → source_at ts ≡ Some (file, rest) → ts ≡ t.Keyword k.From ∷ t.Text file ∷ rest
unfolding source_at
source_is ts file rest h =
    let a = bound (after_from ts) _ (file, rest) h in
    after_from-is ts a.0 a.1 ∙ ap (λ l. t.Keyword k.From ∷ l) (text_is a.0 file rest a.2)

pub load_sound : (ts : List Terminal) (tree : StatementTree) (rest : List Terminal) → load_at ts ≡ Some (tree, rest) → IsStatement (t.Name (codes "LOAD") ∷ ts) tree rest
unfolding load_at
load_sound ts tree rest h nothing =
    let a = bound (name_at ts) _ (tree, rest) h in
    let b = bound (source_at a.0.1) _ (tree, rest) a.2 in
    let c = bound (first_record_at b.0.1) _ (tree, rest) b.2 in
    let e = answers_once (load a.0.0 b.0.0 c.0.0) tree c.0.1 rest c.2 in
    let front : ts ≡ t.Name a.0.0 ∷ t.Keyword k.From ∷ t.Text b.0.0 ∷ b.0.1 =
    name_is ts a.0.0 a.0.1 (name_sound ts a.0.0 a.0.1 a.1) ∙ ap (λ l. t.Name a.0.0 ∷ l) (source_is a.0.1 b.0.0 b.0.1 b.1) in
    spelled (t.Name (codes "LOAD")) ts _ (load a.0.0 b.0.0 c.0.0) tree front e.0 (first_record_sound b.0.1 c.0.1 a.0.0 b.0.0 c.0.0 c.1 (e.1 ∙ nothing))

pub save_sound : (ts : List Terminal) (tree : StatementTree) (rest : List Terminal) → save_at ts ≡ Some (tree, rest) → IsStatement (t.Name (codes "SAVE") ∷ ts) tree rest
unfolding save_at
save_sound ts tree rest h nothing =
    let a = bound (name_at ts) _ (tree, rest) h in
    let b = bound (after_to a.0.1) _ (tree, rest) a.2 in
    let c = bound (text_at b.0) _ (tree, rest) b.2 in
    let e = answers_once (save a.0.0 c.0.0) tree c.0.1 rest c.2 in
    let front : ts ≡ t.Name a.0.0 ∷ t.Keyword k.To ∷ t.Text c.0.0 ∷ c.0.1 =
    name_is ts a.0.0 a.0.1 (name_sound ts a.0.0 a.0.1 a.1) ∙ ap (λ l. t.Name a.0.0 ∷ l) (after_to-is a.0.1 b.0 b.1 ∙ ap (λ l. t.Keyword k.To ∷ l) (text_is b.0 c.0.0 c.0.1 c.1)) in
    spelled (t.Name (codes "SAVE")) ts _ (save a.0.0 c.0.0) tree front e.0 (rw (e.1 ∙ nothing) saves)

pub open_sound : (ts : List Terminal) (tree : StatementTree) (rest : List Terminal) → open_at ts ≡ Some (tree, rest) → IsStatement (t.Keyword k.Open ∷ ts) tree rest
unfolding open_at
open_sound ts tree rest h nothing =
    let a = bound (name_at ts) _ (tree, rest) h in
    let b = bound (source_at a.0.1) _ (tree, rest) a.2 in
    let e = answers_once (open_table a.0.0 b.0.0) tree b.0.1 rest b.2 in
    let front : ts ≡ t.Name a.0.0 ∷ t.Keyword k.From ∷ t.Text b.0.0 ∷ b.0.1 =
    name_is ts a.0.0 a.0.1 (name_sound ts a.0.0 a.0.1 a.1) ∙ ap (λ l. t.Name a.0.0 ∷ l) (source_is a.0.1 b.0.0 b.0.1 b.1) in
    spelled (t.Keyword k.Open) ts _ (open_table a.0.0 b.0.0) tree front e.0 (rw (e.1 ∙ nothing) opens)
