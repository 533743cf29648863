-- Values, lists and columns that are read are in the grammar.
use Rattle.std.proofs.Common.{◌≡◌, ◌∙◌, ℕ, ℤ, ◌<◌, ◌≤◌, ◌^◌, Bool, true, false, cond, nat_le, nat_lt, pos, neg_ℤ, zero, suc, List, [], ◌∷◌, Option, Some, None, refl, sym, ap, subst}
use Rattle.std.proofs.lemmas.Bool.{leb-true, ltb-true}
use Rattle.bw_lex.specs.declared.token.Symbol.TheVariants as s
use Rattle.bw_sql.specs.declared.keyword.Keyword.TheVariants as k
use Rattle.bw_sql.specs.declared.terminal.StatementWord.{StatementWord}
use Rattle.bw_sql.specs.declared.terminal.Terminal.{Terminal}
use Rattle.bw_sql.specs.declared.terminal.Terminal.TheVariants as t
use Rattle.bw_sql.specs.declared.tree.TypeWord.{TypeWord}
use Rattle.bw_sql.specs.declared.tree.TypeWord.TheVariants.{BigInt, Integer}
use Rattle.bw_sql.specs.declared.tree.LayoutWord.{LayoutWord}
use Rattle.bw_sql.specs.declared.tree.KindWord.{KindWord}
use Rattle.bw_sql.specs.Words.{kind_of, layout_of, statement_spelling, statement_word_of}
use Rattle.bw_sql.specs.Grammar.{ListOf, last, next, NamePart, name, LiteralPart, number, plus, minus, ValuePart, null_value, literal_value, RowPart, row, TypePart, bigint, int, integer, UsingPart, no_layout, using_layout, KindPart, no_kind, kind, ColumnPart, column}
use Rattle.bw_sql.specs.Reading.{Read, after_and, after_close, after_comma, after_null, after_or, after_from, after_into, after_open, after_table, after_values, closed, column_at, columns_at, go_on, kind_at, kind_taken, layout_at, literal_at, map_first, more_at, name_at, names_at, negative, number_at, parts_at, positive, row_at, rows_at, statement_word_at, type_at, using_at, value_at, values_at, with_first, with_rest, ◌>>=◌}
use Rattle.bw_sql.proofs.WordLemmas.{kind_of-is, layout_of-is, statement_word_of-is}

-- a reader answers only what stands in the relation
abbrev pub IsSound : {A : Type 0} → (List Terminal → A → List Terminal → Type 0) → (List Terminal → Read A) → Type 0
IsSound {A} R read = (ts : List Terminal) (x : A) (rest : List Terminal) → read ts ≡ Some (x, rest) → R ts x rest

-- a bind found something, so both of its steps did
pub bound : {A B : Type 0} (o : Option A) (f : A → Option B) (y : B) → (o >>= f) ≡ Some y → (x : A) × (o ≡ Some x) × (f x ≡ Some y)
bound None f y h = cc
bound (Some x) f y h = (x, refl, h)

-- a separator that was taken stood there
pub after_comma-is : (ts mid : List Terminal) → after_comma ts ≡ Some mid → ts ≡ t.Symbol s.Comma ∷ mid
after_comma-is (t.Symbol s.Comma ∷ ts) mid h = cc
after_comma-is _ mid h = cc

pub after_and-is : (ts mid : List Terminal) → after_and ts ≡ Some mid → ts ≡ t.Keyword k.And ∷ mid
after_and-is (t.Keyword k.And ∷ ts) mid h = cc
after_and-is _ mid h = cc

pub after_or-is : (ts mid : List Terminal) → after_or ts ≡ Some mid → ts ≡ t.Keyword k.Or ∷ mid
after_or-is (t.Keyword k.Or ∷ ts) mid h = cc
after_or-is _ mid h = cc

pub after_null-is : (ts mid : List Terminal) → after_null ts ≡ Some mid → ts ≡ t.Keyword k.Null ∷ mid
after_null-is (t.Keyword k.Null ∷ ts) mid h = cc
after_null-is _ mid h = cc

pub after_close-is : (ts mid : List Terminal) → after_close ts ≡ Some mid → ts ≡ t.Symbol s.Close ∷ mid
after_close-is (t.Symbol s.Close ∷ ts) mid h = cc
after_close-is _ mid h = cc

pub after_open-is : (ts mid : List Terminal) → after_open ts ≡ Some mid → ts ≡ t.Symbol s.Open ∷ mid
after_open-is (t.Symbol s.Open ∷ ts) mid h = cc
after_open-is _ mid h = cc

pub after_table-is : (ts mid : List Terminal) → after_table ts ≡ Some mid → ts ≡ t.Keyword k.Table ∷ mid
after_table-is (t.Keyword k.Table ∷ ts) mid h = cc
after_table-is _ mid h = cc

pub after_into-is : (ts mid : List Terminal) → after_into ts ≡ Some mid → ts ≡ t.Keyword k.Into ∷ mid
after_into-is (t.Keyword k.Into ∷ ts) mid h = cc
after_into-is _ mid h = cc

pub after_values-is : (ts mid : List Terminal) → after_values ts ≡ Some mid → ts ≡ t.Keyword k.Values ∷ mid
after_values-is (t.Keyword k.Values ∷ ts) mid h = cc
after_values-is _ mid h = cc

pub after_from-is : (ts mid : List Terminal) → after_from ts ≡ Some mid → ts ≡ t.Keyword k.From ∷ mid
after_from-is (t.Keyword k.From ∷ ts) mid h = cc
after_from-is _ mid h = cc

-- one answer is the other: so the values are one, and so are the rests
pub answers_once : {A : Type 0} (x y : A) (left rest : List Terminal) → ◌≡◌ {A = Read A} (Some (x, left)) (Some (y, rest)) → (x ≡ y) × (left ≡ rest)
answers_once {A} x y left rest h =
    let e : ◌≡◌ {A = A × List Terminal} (x, left) (y, rest) = cc in
    (ap (λ (p : A × List Terminal). p.0) e, ap (λ (p : A × List Terminal). p.1) e)

-- what stands in a relation stands in it under equal names
pub moved : {A : Type 0} (R : List Terminal → A → List Terminal → Type 0) (ts : List Terminal) (x y : A) (left rest : List Terminal) → R ts x left → ◌≡◌ {A = Read A} (Some (x, left)) (Some (y, rest)) → R ts y rest
moved R ts x y left rest r h = let e = answers_once x y left rest h in rw (sym e.0, sym e.1) r

-- a value that was changed on the way
pub mapped : {A B : Type 0} (f : A → B) (R : List Terminal → B → List Terminal → Type 0) (ts : List Terminal) (read : Read A) (y : B) (rest : List Terminal) → map_first f read ≡ Some (y, rest) → ((x : A) → read ≡ Some (x, rest) → R ts (f x) rest) → R ts y rest
mapped f R ts None y rest h make = cc
mapped f R ts (Some (x, left)) y rest h make =
    let e = answers_once (f x) y left rest h in
    subst (λ z. R ts z rest) e.0 (make x (rw e.1 refl))

module _ {A : Type 0} (after : List Terminal → Option (List Terminal)) (read : List Terminal → Read A) (One : List Terminal → A → List Terminal → Type 0) (Many : List Terminal → List A → List Terminal → Type 0) (sound : IsSound One read) (last_one : (ts : List Terminal) (x : A) (rest : List Terminal) → One ts x rest → Many ts (x ∷ []) rest) (more : (ts rest mid left : List Terminal) (x : A) (xs : List A) → One ts x rest → after rest ≡ Some mid → Many mid xs left → Many ts (x ∷ xs) left) where
  -- x was read, and rest is left, of which some more is read after a separator
  ends : (m : ℕ) → IsSound Many (parts_at after read m) → (ts : List Terminal) (x : A) (rest : List Terminal) → One ts x rest → (goes_on : Option (List Terminal)) → after rest ≡ goes_on → (xs : List A) (left : List Terminal) → with_first x (go_on read (more_at after read m) rest goes_on) ≡ Some (xs, left) → Many ts xs left
  unfolding parts_at
  ends m deeper ts x rest one None stops xs left h =
      subst (λ (p : List A × List Terminal). Many ts p.0 p.1) (let e : Some (x ∷ [], rest) ≡ Some (xs, left) = h in cc) (last_one ts x rest one)
  ends m deeper ts x rest one (Some mid) goes xs left h =
      let b = bound _ (λ y. Some (x ∷ y.0, y.1)) (xs, left) h in
      subst (λ (p : List A × List Terminal). Many ts p.0 p.1) (let e : Some (x ∷ b.0.0, b.0.1) ≡ Some (xs, left) = b.2 in cc) (more ts rest mid b.0.1 x b.0.0 one goes (deeper mid b.0.0 b.0.1 b.1))

  pub separated_sound : (m : ℕ) → IsSound Many (parts_at after read m)
  unfolding parts_at more_at
  separated_sound zero ts xs left h = let b = bound (read ts) _ (xs, left) h in cc
  separated_sound (suc m) ts xs left h =
      let b = bound (read ts) _ (xs, left) h in
      ends m (separated_sound m) ts b.0.0 b.0.1 (sound ts b.0.0 b.0.1 b.1) (after b.0.1) refl xs left b.2

module _ {A : Type 0} (One : List Terminal → A → List Terminal → Type 0) (read : List Terminal → Read A) (sound : IsSound One read) where
  pub parts_sound : (m : ℕ) → IsSound (ListOf One) (parts_at after_comma read m)
  parts_sound = separated_sound after_comma read One (ListOf One) sound (λ ts x rest one. last one) (λ ts rest mid left x xs one goes many. next (subst (One ts x) (after_comma-is rest mid goes) one) many)

pub name_sound : IsSound NamePart name_at
unfolding name_at
name_sound (t.Name word ∷ ts) x rest h = moved NamePart (t.Name word ∷ ts) word x ts rest name h
name_sound _ x rest h = cc

pub names_sound : (n : ℕ) → IsSound (ListOf NamePart) (names_at n)
unfolding names_at
names_sound n = parts_sound NamePart name_at name_sound n

abbrev pub IsNumberPart : List Terminal → ℕ → List Terminal → Type 0
IsNumberPart ts n rest = ts ≡ t.Number n ∷ rest

pub number_sound : IsSound IsNumberPart number_at
unfolding number_at
number_sound (t.Number n ∷ ts) x rest h = let e = answers_once n x ts rest h in rw (e.0, e.1) refl
number_sound _ x rest h = cc

pub chosen : (b : Bool) (z w : ℤ) → cond b (Some z) None ≡ Some w → (b ≡ true) × (z ≡ w)
chosen true z w h = (refl, cc)
chosen false z w h = cc

pub positive_sound : (n : ℕ) (z : ℤ) → positive n ≡ Some z → (n < 2 ^ 63) × (pos n ≡ z)
unfolding positive
positive_sound n z h = let c = chosen (nat_lt n (2 ^ 63)) (pos n) z h in (ltb-true n (2 ^ 63) c.0, c.1)

pub negative_sound : (n : ℕ) (z : ℤ) → negative n ≡ Some z → (n ≤ 2 ^ 63) × (neg_ℤ (pos n) ≡ z)
unfolding negative
negative_sound n z h = let c = chosen (nat_le n (2 ^ 63)) (neg_ℤ (pos n)) z h in (leb-true n (2 ^ 63) c.0, c.1)

-- a value with its rest, where there is one
pub rested : {A : Type 0} (o : Option A) (ts : List Terminal) (y : A) (rest : List Terminal) → with_rest o ts ≡ Some (y, rest) → (o ≡ Some y) × (ts ≡ rest)
rested None ts y rest h = cc
rested (Some x) ts y rest h = let e = answers_once x y ts rest h in (ap (λ z. Some z) e.0, e.1)

-- a number after a sign, or after none
pub minus_is : (n : ℕ) (ts mid rest : List Terminal) (z : ℤ) → ts ≡ t.Number n ∷ mid → mid ≡ rest → n ≤ 2 ^ 63 → neg_ℤ (pos n) ≡ z → LiteralPart (t.Symbol s.Minus ∷ ts) z rest
minus_is n ts mid rest z is same fits value = rw (is, same, ← value) (minus fits)

pub plus_is : (n : ℕ) (ts mid rest : List Terminal) (z : ℤ) → ts ≡ t.Number n ∷ mid → mid ≡ rest → n < 2 ^ 63 → pos n ≡ z → LiteralPart (t.Symbol s.Plus ∷ ts) z rest
plus_is n ts mid rest z is same fits value = rw (is, same, ← value) (plus fits)

pub number_is : (n : ℕ) (ts mid rest : List Terminal) (z : ℤ) → ts ≡ t.Number n ∷ mid → mid ≡ rest → n < 2 ^ 63 → pos n ≡ z → LiteralPart ts z rest
number_is n ts mid rest z is same fits value = rw (is, same, ← value) (number fits)

pub minus_sound : (ts : List Terminal) (z : ℤ) (rest : List Terminal) → (number_at ts >>= λ n. with_rest (negative n.0) n.1) ≡ Some (z, rest) → LiteralPart (t.Symbol s.Minus ∷ ts) z rest
minus_sound ts z rest h =
    let b = bound (number_at ts) _ (z, rest) h in
    let r = rested (negative b.0.0) b.0.1 z rest b.2 in
    let v = negative_sound b.0.0 z r.0 in
    minus_is b.0.0 ts b.0.1 rest z (number_sound ts b.0.0 b.0.1 b.1) r.1 v.0 v.1

pub plus_sound : (ts : List Terminal) (z : ℤ) (rest : List Terminal) → (number_at ts >>= λ n. with_rest (positive n.0) n.1) ≡ Some (z, rest) → LiteralPart (t.Symbol s.Plus ∷ ts) z rest
plus_sound ts z rest h =
    let b = bound (number_at ts) _ (z, rest) h in
    let r = rested (positive b.0.0) b.0.1 z rest b.2 in
    let v = positive_sound b.0.0 z r.0 in
    plus_is b.0.0 ts b.0.1 rest z (number_sound ts b.0.0 b.0.1 b.1) r.1 v.0 v.1

pub plain_sound : (ts : List Terminal) (z : ℤ) (rest : List Terminal) → (number_at ts >>= λ n. with_rest (positive n.0) n.1) ≡ Some (z, rest) → LiteralPart ts z rest
plain_sound ts z rest h =
    let b = bound (number_at ts) _ (z, rest) h in
    let r = rested (positive b.0.0) b.0.1 z rest b.2 in
    let v = positive_sound b.0.0 z r.0 in
    number_is b.0.0 ts b.0.1 rest z (number_sound ts b.0.0 b.0.1 b.1) r.1 v.0 v.1

pub literal_sound : IsSound LiteralPart literal_at
unfolding literal_at
literal_sound (t.Symbol s.Minus ∷ ts) z rest h = minus_sound ts z rest h
literal_sound (t.Symbol s.Plus ∷ ts) z rest h = plus_sound ts z rest h
literal_sound ts z rest h = plain_sound ts z rest h

pub value_sound : IsSound ValuePart value_at
unfolding value_at
value_sound (t.Keyword k.Null ∷ ts) v rest h = moved ValuePart (t.Keyword k.Null ∷ ts) None v ts rest null_value h
value_sound ts v rest h = mapped Some ValuePart ts (literal_at ts) v rest h (λ z reads. literal_value (literal_sound ts z rest reads))

-- a list that a ) closes
module _ {A B : Type 0} (Many : List Terminal → A → List Terminal → Type 0) (make : A → B) (ts : List Terminal) (x : A) (left : List Terminal) (many : Many ts x left) where
  pub closes : (after : Option (List Terminal)) → after_close left ≡ after → (y : B) (rest : List Terminal) → closed (make x) after ≡ Some (y, rest) → Many ts x (t.Symbol s.Close ∷ rest) × (make x ≡ y)
  closes None is y rest h = cc
  closes (Some mid) is y rest h =
      let e = answers_once (make x) y mid rest h in
      (subst (Many ts x) (after_close-is left mid is ∙ ap (λ l. t.Symbol s.Close ∷ l) e.1) many, e.0)

pub values_sound : (n : ℕ) → IsSound (ListOf ValuePart) (values_at n)
unfolding values_at
values_sound n = parts_sound ValuePart value_at value_sound n

pub row_sound : (n : ℕ) → IsSound RowPart (row_at n)
unfolding row_at
row_sound n (t.Symbol s.Open ∷ ts) xs rest h =
    let b = bound (values_at n ts) _ (xs, rest) h in
    let c = closes (ListOf ValuePart) (λ l. l) ts b.0.0 b.0.1 (values_sound n ts b.0.0 b.0.1 b.1) (after_close b.0.1) refl xs rest b.2 in
    rw (← c.1) (row c.0)
row_sound n _ xs rest h = cc

pub rows_sound : (n : ℕ) → IsSound (ListOf RowPart) (rows_at n)
unfolding rows_at
rows_sound n = parts_sound RowPart (row_at n) (row_sound n) n

type_sound : IsSound TypePart type_at
unfolding type_at
type_sound (t.Keyword k.Integer ∷ ts) word rest h = moved TypePart _ Integer word ts rest integer h
type_sound (t.Keyword k.Int ∷ ts) word rest h = moved TypePart _ Integer word ts rest int h
type_sound (t.Keyword k.Bigint ∷ ts) word rest h = moved TypePart _ BigInt word ts rest bigint h
type_sound _ word rest h = cc

pub using_word : (ts : List Terminal) (l : LayoutWord) (rest : List Terminal) → layout_at ts ≡ Some (l, rest) → UsingPart (t.Keyword k.Using ∷ ts) (Some l) rest
unfolding layout_at
using_word (t.Name word ∷ ts) l rest h =
    let r = rested (layout_of word) ts l rest h in
    rw (layout_of-is word l r.0, r.1) using_layout
using_word _ l rest h = cc

pub using_sound : IsSound UsingPart using_at
unfolding using_at
using_sound (t.Keyword k.Using ∷ ts) l rest h = mapped Some UsingPart (t.Keyword k.Using ∷ ts) (layout_at ts) l rest h (λ w reads. using_word ts w rest reads)
using_sound ts l rest h = moved UsingPart ts None l ts rest no_layout h

pub kind_word_sound : (word : List ℕ) (ts : List Terminal) (taken : Option KindWord) → kind_of word ≡ taken → KindPart (t.Name word ∷ ts) (kind_taken taken (t.Name word ∷ ts) ts).0 (kind_taken taken (t.Name word ∷ ts) ts).1
kind_word_sound word ts None is = no_kind
kind_word_sound word ts (Some d) is = rw (kind_of-is word d is) kind

pub kind_sound : (ts : List Terminal) → KindPart ts (kind_at ts).0 (kind_at ts).1
unfolding kind_at
kind_sound (t.Name word ∷ ts) = kind_word_sound word ts (kind_of word) refl
kind_sound _ = no_kind

pub column_sound : IsSound ColumnPart column_at
unfolding column_at
column_sound ts x rest h =
    let a = bound (name_at ts) _ (x, rest) h in
    let b = bound (type_at a.0.1) _ (x, rest) a.2 in
    let c = bound (using_at b.0.1) _ (x, rest) b.2 in
    let k = kind_at c.0.1 in
    let part = named ts a.0.0 a.0.1 (name_sound ts a.0.0 a.0.1 a.1) b.0.0 c.0.0 k.0 b.0.1 c.0.1 k.1 (type_sound a.0.1 b.0.0 b.0.1 b.1) (using_sound b.0.1 c.0.0 c.0.1 c.1) (kind_sound c.0.1) in
    moved ColumnPart ts (record { name = a.0.0; column_type = b.0.0; layout = c.0.0; kind = k.0 }) x k.1 rest part c.2
  where
    named : (ts : List Terminal) (word : List ℕ) (us : List Terminal) → NamePart ts word us → (c : TypeWord) (l : Option LayoutWord) (d : Option KindWord) (vs ws rest : List Terminal) → TypePart us c vs → UsingPart vs l ws → KindPart ws d rest →
        ColumnPart ts (record { name = word; column_type = c; layout = l; kind = d }) rest
    named ts word us name c l d vs ws rest x y z = column x y z

pub columns_sound : (n : ℕ) → IsSound (ListOf ColumnPart) (columns_at n)
unfolding columns_at
columns_sound n = parts_sound ColumnPart column_at column_sound n

pub name_is : (ts : List Terminal) (word : List ℕ) (rest : List Terminal) → NamePart ts word rest → ts ≡ t.Name word ∷ rest
name_is ts word rest name = refl

pub statement_word_is : (ts : List Terminal) (word : StatementWord) (rest : List Terminal) → statement_word_at ts ≡ Some (word, rest) → ts ≡ t.Name (statement_spelling word) ∷ rest
unfolding statement_word_at
statement_word_is (t.Name spelled ∷ ts) word rest h =
    let r = rested (statement_word_of spelled) ts word rest h in
    ap (λ l. t.Name l ∷ ts) (statement_word_of-is spelled word r.0) ∙ ap (λ l. t.Name (statement_spelling word) ∷ l) r.1
statement_word_is _ word rest h = cc
