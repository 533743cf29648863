-- Values, lists and columns that are in the grammar are read, where they can't go on.
use Rattle.std.proofs.Common.{◌≡◌, ◌∙◌, ℕ, ℤ, ◌<◌, ◌≤◌, ◌^◌, zero, suc, List, [], ◌∷◌, length, Option, Some, None, refl, ap, arith}
use Rattle.std.proofs.lemmas.Bool.{le-leb, lt-ltb}
use Rattle.bw_lex.specs.declared.token.Symbol.TheVariants as s
use Rattle.bw_sql.specs.declared.terminal.Terminal.{Terminal}
use Rattle.bw_sql.specs.declared.terminal.Terminal.TheVariants as t
use Rattle.bw_sql.specs.declared.tree.LayoutWord.{LayoutWord}
use Rattle.bw_sql.specs.declared.tree.KindWord.{KindWord}
use Rattle.bw_sql.specs.declared.tree.ColumnDefinition.{ColumnDefinition}
use Rattle.bw_sql.specs.declared.tree.TypeWord.{TypeWord}
use Rattle.bw_sql.specs.Grammar.{ListOf, last, next, NamePart, name, LiteralPart, number, plus, minus, ValuePart, null_value, literal_value, RowPart, row, TypePart, bigint, int, integer, UsingPart, no_layout, using_layout, KindPart, no_kind, kind, ColumnPart, column}
use Rattle.bw_sql.specs.Reading.{Read, after_comma, column_at, columns_at, kind_at, layout_at, literal_at, more_at, name_at, names_at, negative, number_at, parts_at, positive, row_at, rows_at, type_at, using_at, value_at, values_at, with_first}
use Rattle.bw_sql.proofs.WordLemmas.{kind_of-spelling, layout_of-spelling}

module _ {A : Type 0} (after : List Terminal → Option (List Terminal)) (read : List Terminal → Read A) where
  pub parts_at-last : (m : ℕ) (ts rest : List Terminal) (x : A) → read ts ≡ Some (x, rest) → after rest ≡ None → parts_at after read (suc m) ts ≡ Some (x ∷ [], rest)
  unfolding parts_at more_at
  parts_at-last m ts rest x reads stops = rw (reads, stops) refl

  pub parts_at-more : (m : ℕ) (ts rest mid : List Terminal) (x : A) → read ts ≡ Some (x, rest) → after rest ≡ Some mid → parts_at after read (suc m) ts ≡ with_first x (parts_at after read m mid)
  unfolding parts_at more_at
  parts_at-more m ts rest mid x reads goes = rw (reads, goes) refl

-- A list is read where each of its parts is: one that a rest may follow, as a comma may.
module _ {A : Type 0} (One : List Terminal → A → List Terminal → Type 0) (read : List Terminal → Read A) (MayFollow : List Terminal → Type 0) (n : ℕ) (comma : (mid : List Terminal) → MayFollow (t.Symbol s.Comma ∷ mid)) (one : (ts rest : List Terminal) (x : A) → One ts x rest → MayFollow rest → length ts < n → read ts ≡ Some (x, rest)) (shorter : (ts rest : List Terminal) (x : A) → One ts x rest → length rest < length ts) where
  pub list_reads : {ts rest : List Terminal} {xs : List A} → ListOf One ts xs rest → MayFollow rest → after_comma rest ≡ None → (m : ℕ) → length ts < n → length ts < m → parts_at after_comma read m ts ≡ Some (xs, rest)
  list_reads d follows stops zero h j = absurd (omega arith)
  list_reads (last {x} {ts} {rest} d) follows stops (suc m) h j = parts_at-last after_comma read m ts rest x (one ts rest x d follows h) stops
  list_reads (next {x} {xs} {ts} {mid} {rest} d ds) follows stops (suc m) h j =
      let less = shorter ts (t.Symbol s.Comma ∷ mid) x d in
      parts_at-more after_comma read m ts (t.Symbol s.Comma ∷ mid) mid x (one ts (t.Symbol s.Comma ∷ mid) x d (comma mid) h) refl
      ∙ ap (with_first x) (list_reads {ts = mid} ds follows stops m (omega arith) (omega arith))

  pub list_shorter : {ts rest : List Terminal} {xs : List A} → ListOf One ts xs rest → length rest < length ts
  list_shorter (last {x} {ts} {rest} d) = shorter ts rest x d
  list_shorter (next {x} {xs} {ts} {mid} {rest} d ds) = let less = shorter ts (t.Symbol s.Comma ∷ mid) x d in omega (arith, list_shorter {ts = mid} ds)

-- anything may follow
abbrev pub Anything : List Terminal → Type 0
Anything rest = Unit {0}

name_reads : (ts rest : List Terminal) (x : List ℕ) → NamePart ts x rest → name_at ts ≡ Some (x, rest)
unfolding name_at
name_reads ts rest x name = refl

name_shorter : (ts rest : List Terminal) (x : List ℕ) → NamePart ts x rest → length rest < length ts
name_shorter ts rest x name = omega arith

pub names_read : {ts rest : List Terminal} {xs : List (List ℕ)} → ListOf NamePart ts xs rest → after_comma rest ≡ None → (n : ℕ) → length ts < n → names_at n ts ≡ Some (xs, rest)
unfolding names_at
names_read d stops n h = list_reads NamePart name_at Anything n (λ _. tt) (λ ts rest x e _ _. name_reads ts rest x e) name_shorter d tt stops n h h

pub names_shorter : {ts rest : List Terminal} {xs : List (List ℕ)} → ListOf NamePart ts xs rest → length rest < length ts
names_shorter {ts} d = list_shorter NamePart name_at Anything (suc (length ts)) (λ _. tt) (λ ts rest x e _ _. name_reads ts rest x e) name_shorter d

literal_reads : (ts rest : List Terminal) (z : ℤ) → LiteralPart ts z rest → literal_at ts ≡ Some (z, rest)
unfolding literal_at number_at positive negative
literal_reads ts rest z (number {n} h) = rw (lt-ltb n (2 ^ 63) h) refl
literal_reads ts rest z (plus {n} h) = rw (lt-ltb n (2 ^ 63) h) refl
literal_reads ts rest z (minus {n} h) = rw (le-leb n (2 ^ 63) h) refl

literal_shorter : (ts rest : List Terminal) (z : ℤ) → LiteralPart ts z rest → length rest < length ts
literal_shorter ts rest z (number h) = omega arith
literal_shorter ts rest z (plus h) = omega arith
literal_shorter ts rest z (minus h) = omega arith

-- a literal doesn't begin with NULL
literal_plain : (ts rest : List Terminal) (z : ℤ) → LiteralPart ts z rest → value_at ts ≡ Some (Some z, rest)
unfolding value_at
literal_plain ts rest z (number {n} h) = rw (literal_reads ts rest z (number h)) refl
literal_plain ts rest z (plus {n} h) = rw (literal_reads ts rest z (plus h)) refl
literal_plain ts rest z (minus {n} h) = rw (literal_reads ts rest z (minus h)) refl

pub value_reads : (ts rest : List Terminal) (v : Option ℤ) → ValuePart ts v rest → value_at ts ≡ Some (v, rest)
unfolding value_at
value_reads ts rest v null_value = refl
value_reads ts rest v (literal_value {z} d) = literal_plain ts rest z d

pub value_shorter : (ts rest : List Terminal) (v : Option ℤ) → ValuePart ts v rest → length rest < length ts
value_shorter ts rest v null_value = omega arith
value_shorter ts rest v (literal_value {z} d) = literal_shorter ts rest z d

pub values_read : {ts rest : List Terminal} {xs : List (Option ℤ)} → ListOf ValuePart ts xs rest → after_comma rest ≡ None → (n : ℕ) → length ts < n → values_at n ts ≡ Some (xs, rest)
unfolding values_at
values_read d stops n h = list_reads ValuePart value_at Anything n (λ _. tt) (λ ts rest x e _ _. value_reads ts rest x e) value_shorter d tt stops n h h

pub values_shorter : {ts rest : List Terminal} {xs : List (Option ℤ)} → ListOf ValuePart ts xs rest → length rest < length ts
values_shorter {ts} d = list_shorter ValuePart value_at Anything (suc (length ts)) (λ _. tt) (λ ts rest x e _ _. value_reads ts rest x e) value_shorter d

row_reads : (n : ℕ) (ts rest : List Terminal) (xs : List (Option ℤ)) → RowPart ts xs rest → length ts < n → row_at n ts ≡ Some (xs, rest)
unfolding row_at
row_reads n ts rest xs (row d) h = rw (values_read d refl n (omega arith)) refl

row_shorter : (ts rest : List Terminal) (xs : List (Option ℤ)) → RowPart ts xs rest → length rest < length ts
row_shorter ts rest xs (row d) = omega (arith, values_shorter d)

pub rows_read : {ts rest : List Terminal} {xs : List (List (Option ℤ))} → ListOf RowPart ts xs rest → after_comma rest ≡ None → (n : ℕ) → length ts < n → rows_at n ts ≡ Some (xs, rest)
unfolding rows_at
rows_read d stops n h = list_reads RowPart (row_at n) Anything n (λ _. tt) (λ ts rest x e _ j. row_reads n ts rest x e j) row_shorter d tt stops n h h

-- neither USING nor a kind is next
pub record EndsColumn (rest : List Terminal) : Type 0 where
  pub no_using : using_at rest ≡ Some (None, rest)
  pub no_kind_word : kind_at rest ≡ (None, rest)

pub comma_ends : (mid : List Terminal) → EndsColumn (t.Symbol s.Comma ∷ mid)
unfolding using_at kind_at
comma_ends mid = record { no_using = refl; no_kind_word = refl }

pub close_ends : (mid : List Terminal) → EndsColumn (t.Symbol s.Close ∷ mid)
unfolding using_at kind_at
close_ends mid = record { no_using = refl; no_kind_word = refl }

pub kind_reads : (ts rest : List Terminal) (d : Option KindWord) → KindPart ts d rest → EndsColumn rest → kind_at ts ≡ (d, rest)
unfolding kind_at
kind_reads ts rest d no_kind ends = ends.no_kind_word
kind_reads ts rest d (kind {word}) ends = rw (kind_of-spelling word) refl

-- a kind, or what follows a column, doesn't begin with USING
kind_no_using : (ts rest : List Terminal) (d : Option KindWord) → KindPart ts d rest → EndsColumn rest → using_at ts ≡ Some (None, ts)
unfolding using_at
kind_no_using ts rest d no_kind ends = ends.no_using
kind_no_using ts rest d kind ends = refl

using_reads : (ts us rest : List Terminal) (l : Option LayoutWord) (d : Option KindWord) → UsingPart ts l us → KindPart us d rest → EndsColumn rest → using_at ts ≡ Some (l, us)
unfolding using_at layout_at
using_reads ts us rest l d no_layout k ends = kind_no_using ts rest d k ends
using_reads ts us rest l d (using_layout {l = word}) k ends = rw (layout_of-spelling word) refl

type_reads : (ts us : List Terminal) (word : TypeWord) → TypePart ts word us → type_at ts ≡ Some (word, us)
unfolding type_at
type_reads ts us word integer = refl
type_reads ts us word int = refl
type_reads ts us word bigint = refl

column_reads : (ts rest : List Terminal) (x : ColumnDefinition) → ColumnPart ts x rest → EndsColumn rest → column_at ts ≡ Some (x, rest)
unfolding column_at name_at
column_reads ts rest x (column {word} {c = type_word} {l} {d} {ts = us} {us = vs} {vs = ws} a b c) ends =
    rw (type_reads us vs type_word a, using_reads vs ws rest l d b c ends, kind_reads ws rest d c ends) refl

type_shorter : (ts us : List Terminal) (word : TypeWord) → TypePart ts word us → length us < length ts
type_shorter ts us word integer = omega arith
type_shorter ts us word int = omega arith
type_shorter ts us word bigint = omega arith

using_shorter : (ts us : List Terminal) (l : Option LayoutWord) → UsingPart ts l us → length us ≤ length ts
using_shorter ts us l no_layout = omega arith
using_shorter ts us l using_layout = omega arith

pub kind_shorter : (ts us : List Terminal) (d : Option KindWord) → KindPart ts d us → length us ≤ length ts
kind_shorter ts us d no_kind = omega arith
kind_shorter ts us d kind = omega arith

column_shorter : (ts rest : List Terminal) (x : ColumnDefinition) → ColumnPart ts x rest → length rest < length ts
column_shorter ts rest x (column {word} {c = type_word} {l} {d} {ts = us} {us = vs} {vs = ws} a b c) =
    omega (arith, type_shorter us vs type_word a, using_shorter vs ws l b, kind_shorter ws rest d c)

pub columns_read : {ts rest : List Terminal} {xs : List ColumnDefinition} → ListOf ColumnPart ts xs (t.Symbol s.Close ∷ rest) → (n : ℕ) → length ts < n → columns_at n ts ≡ Some (xs, t.Symbol s.Close ∷ rest)
unfolding columns_at
columns_read {ts} {rest} d n h =
    list_reads ColumnPart column_at EndsColumn n comma_ends (λ ts rest x e ends _. column_reads ts rest x e ends) column_shorter d (close_ends rest) refl n h h
