-- Words for layouts, kinds, statements and a file's first record.
use Rattle.std.proofs.Common.{◌≡◌, ℕ, Bool, true, false, cond, List, codes, Option, Some, None, refl, ap, ◌∙◌}
use Rattle.std.specs.Str.{bytes_eq}
use Rattle.std.specs.Cmp.Lexicographic.{bytes_decides}
use Rattle.bw_sql.specs.declared.terminal.StatementWord.{StatementWord}
use Rattle.bw_sql.specs.declared.terminal.StatementWord.TheVariants.{Load, Rebuild, Save, Stats, Tables}
use Rattle.bw_sql.specs.declared.tree.LayoutWord.{LayoutWord}
use Rattle.bw_sql.specs.declared.tree.LayoutWord.TheVariants.{P, V, H, S}
use Rattle.bw_sql.specs.declared.tree.KindWord.{KindWord}
use Rattle.bw_sql.specs.declared.tree.KindWord.TheVariants.{Offset, Dictionary}
use Rattle.bw_sql.specs.declared.tree.FirstRecord.{FirstRecord}
use Rattle.bw_sql.specs.declared.tree.FirstRecord.TheVariants.{Header}
use Rattle.bw_sql.specs.Words.{first_record_of, kind_of, kind_spelling, layout_of, layout_spelling, statement_spelling, statement_word_of}

-- either the first is chosen, or the others are
module _ {A : Type 0} (spelling : A → List ℕ) (word : List ℕ) (y : A) where
  pub chosen_word : (b : Bool) (x : A) (others : Option A) → (b ≡ true → word ≡ spelling x) → (others ≡ Some y → word ≡ spelling y) → cond b (Some x) others ≡ Some y → word ≡ spelling y
  chosen_word true x others here there h = let e : x ≡ y = cc in here refl ∙ ap spelling e
  chosen_word false x others here there h = there h

is : (word : List ℕ) (spelling : List ℕ) → bytes_eq word spelling ≡ true → word ≡ spelling
is word spelling = (bytes_decides word spelling).0

pub layout_of-is : (word : List ℕ) (l : LayoutWord) → layout_of word ≡ Some l → word ≡ layout_spelling l
unfolding layout_of
layout_of-is word l h =
    chosen_word layout_spelling word l (bytes_eq word (codes "P")) P _ (is word (codes "P"))
    (chosen_word layout_spelling word l (bytes_eq word (codes "V")) V _ (is word (codes "V"))
    (chosen_word layout_spelling word l (bytes_eq word (codes "H")) H _ (is word (codes "H"))
    (chosen_word layout_spelling word l (bytes_eq word (codes "S")) S None (is word (codes "S")) (λ e. cc))))
    h

pub kind_of-is : (word : List ℕ) (d : KindWord) → kind_of word ≡ Some d → word ≡ kind_spelling d
unfolding kind_of
kind_of-is word d h =
    chosen_word kind_spelling word d (bytes_eq word (codes "OFFSET")) Offset _ (is word (codes "OFFSET"))
    (chosen_word kind_spelling word d (bytes_eq word (codes "DICTIONARY")) Dictionary None (is word (codes "DICTIONARY")) (λ e. cc))
    h

pub statement_word_of-is : (word : List ℕ) (w : StatementWord) → statement_word_of word ≡ Some w → word ≡ statement_spelling w
unfolding statement_word_of
statement_word_of-is word w h =
    chosen_word statement_spelling word w (bytes_eq word (codes "TABLES")) Tables _ (is word (codes "TABLES"))
    (chosen_word statement_spelling word w (bytes_eq word (codes "REBUILD")) Rebuild _ (is word (codes "REBUILD"))
    (chosen_word statement_spelling word w (bytes_eq word (codes "LOAD")) Load _ (is word (codes "LOAD"))
    (chosen_word statement_spelling word w (bytes_eq word (codes "SAVE")) Save _ (is word (codes "SAVE"))
    (chosen_word statement_spelling word w (bytes_eq word (codes "STATS")) Stats None (is word (codes "STATS")) (λ e. cc)))))
    h

-- where nothing else can be chosen
only_word : {A : Type 0} (b : Bool) (x y : A) → cond b (Some x) None ≡ Some y → (b ≡ true) × (x ≡ y)
only_word true x y h = (refl, cc)
only_word false x y h = cc

pub first_record_of-is : (word : List ℕ) (first : FirstRecord) → first_record_of word ≡ Some first → (word ≡ codes "HEADER") × (Header ≡ first)
unfolding first_record_of
first_record_of-is word first h =
    let c = only_word (bytes_eq word (codes "HEADER")) Header first h in
    (is word (codes "HEADER") c.0, c.1)

pub layout_of-spelling : (l : LayoutWord) → layout_of (layout_spelling l) ≡ Some l
unfolding layout_of
layout_of-spelling P = refl
layout_of-spelling V = refl
layout_of-spelling H = refl
layout_of-spelling S = refl

pub kind_of-spelling : (d : KindWord) → kind_of (kind_spelling d) ≡ Some d
unfolding kind_of
kind_of-spelling Offset = refl
kind_of-spelling Dictionary = refl

pub statement_word_of-spelling : (w : StatementWord) → statement_word_of (statement_spelling w) ≡ Some w
unfolding statement_word_of
statement_word_of-spelling Tables = refl
statement_word_of-spelling Rebuild = refl
statement_word_of-spelling Load = refl
statement_word_of-spelling Save = refl
statement_word_of-spelling Stats = refl

pub first_record_of-header : first_record_of (codes "HEADER") ≡ Some Header
unfolding first_record_of
first_record_of-header = refl
