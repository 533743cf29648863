-- The grammar (SQL-92: table definition, drop table statement, insert statement, searched update and delete statements, query specification, search condition and predicates; beyond it,
-- statements that list, rebuild, load, save and open tables): which terminals spell a statement. Each relation reads: these terminals begin with a spelling of the value,
-- and the rest follows it.
use Rattle.std.specs.Prelude.{ℕ, ℤ, ◌<◌, ◌≤◌, ◌^◌, pos, neg_ℤ, List, [], ◌∷◌, codes, Option, Some, None}
use Rattle.bw_lex.specs.declared.token.CompareOp.{CompareOp}
use Rattle.bw_lex.specs.declared.token.CompareOp.TheVariants.{Eq}
use Rattle.bw_lex.specs.declared.token.Symbol.TheVariants as s
use Rattle.bw_sql.specs.declared.keyword.Keyword.TheVariants as k
use Rattle.bw_sql.specs.declared.terminal.Terminal.{Terminal}
use Rattle.bw_sql.specs.declared.terminal.Terminal.TheVariants as t
use Rattle.bw_sql.specs.declared.tree.TypeWord.{TypeWord}
use Rattle.bw_sql.specs.declared.tree.TypeWord.TheVariants.{BigInt, Integer}
use Rattle.bw_sql.specs.declared.tree.LayoutWord.{LayoutWord}
use Rattle.bw_sql.specs.declared.tree.KindWord.{KindWord}
use Rattle.bw_sql.specs.declared.tree.Operand.{Operand}
use Rattle.bw_sql.specs.declared.tree.Operand.TheVariants.{Column, Constant}
use Rattle.bw_sql.specs.declared.tree.TruthWord.{TruthWord}
use Rattle.bw_sql.specs.declared.tree.TruthWord.TheVariants.{True, False, Unknown}
use Rattle.bw_sql.specs.declared.tree.ColumnDefinition.{ColumnDefinition}
use Rattle.bw_sql.specs.declared.tree.LayoutChoice.{LayoutChoice}
use Rattle.bw_sql.specs.declared.tree.SetClause.{SetClause}
use Rattle.bw_sql.specs.declared.tree.SelectItem.{SelectItem}
use Rattle.bw_sql.specs.declared.tree.SelectItem.TheVariants as items
use Rattle.bw_sql.specs.declared.tree.SetFunction.{SetFunction}
use Rattle.bw_sql.specs.declared.tree.FirstRecord.TheVariants.{Header, Row}
use Rattle.bw_sql.specs.Words.{function_word, kind_spelling, layout_spelling}
use Rattle.bw_sql.specs.Tree.{ConditionTree, among, between, comparison, each_of, negated, null, some_of, tested, trees_of, ItemsTree, all_columns, listed, StatementTree, create_table, delete, drop_table, insert, list_tables, load, open_table, rebuild, save, SelectTree, select, stats, update}

-- one {, one}
pub data ListOf {A : Type 0} (One : List Terminal → A → List Terminal → Type 0) : List Terminal → List A → List Terminal → Type 0 where
  last : {x : A} {ts rest : List Terminal} → One ts x rest → ListOf One ts (x ∷ []) rest
  next : {x : A} {xs : List A} {ts mid rest : List Terminal} → One ts x (t.Symbol s.Comma ∷ mid) → ListOf One mid xs rest → ListOf One ts (x ∷ xs) rest

pub data NamePart : List Terminal → List ℕ → List Terminal → Type 0 where
  name : {word : List ℕ} {rest : List Terminal} → NamePart (t.Name word ∷ rest) word rest

-- literal = [+ | -] number
pub data LiteralPart : List Terminal → ℤ → List Terminal → Type 0 where
  number : {n : ℕ} {rest : List Terminal} → n < 2 ^ 63 → LiteralPart (t.Number n ∷ rest) (pos n) rest
  plus : {n : ℕ} {rest : List Terminal} → n < 2 ^ 63 → LiteralPart (t.Symbol s.Plus ∷ t.Number n ∷ rest) (pos n) rest
  minus : {n : ℕ} {rest : List Terminal} → n ≤ 2 ^ 63 → LiteralPart (t.Symbol s.Minus ∷ t.Number n ∷ rest) (neg_ℤ (pos n)) rest

-- value = literal | NULL
pub data ValuePart : List Terminal → Option ℤ → List Terminal → Type 0 where
  null_value : {rest : List Terminal} → ValuePart (t.Keyword k.Null ∷ rest) None rest
  literal_value : {z : ℤ} {ts rest : List Terminal} → LiteralPart ts z rest → ValuePart ts (Some z) rest

-- tuple = ( value {, value} )
pub data RowPart : List Terminal → List (Option ℤ) → List Terminal → Type 0 where
  row : {values : List (Option ℤ)} {ts rest : List Terminal} → ListOf ValuePart ts values (t.Symbol s.Close ∷ rest) → RowPart (t.Symbol s.Open ∷ ts) values rest

-- INTEGER | INT | BIGINT
pub data TypePart : List Terminal → TypeWord → List Terminal → Type 0 where
  integer : {rest : List Terminal} → TypePart (t.Keyword k.Integer ∷ rest) Integer rest
  int : {rest : List Terminal} → TypePart (t.Keyword k.Int ∷ rest) Integer rest
  bigint : {rest : List Terminal} → TypePart (t.Keyword k.Bigint ∷ rest) BigInt rest

-- [USING layout]
pub data UsingPart : List Terminal → Option LayoutWord → List Terminal → Type 0 where
  no_layout : {rest : List Terminal} → UsingPart rest None rest
  using_layout : {l : LayoutWord} {rest : List Terminal} → UsingPart (t.Keyword k.Using ∷ t.Name (layout_spelling l) ∷ rest) (Some l) rest

-- [kind]
pub data KindPart : List Terminal → Option KindWord → List Terminal → Type 0 where
  no_kind : {rest : List Terminal} → KindPart rest None rest
  kind : {word : KindWord} {rest : List Terminal} → KindPart (t.Name (kind_spelling word) ∷ rest) (Some word) rest

-- coldef = name (INTEGER | INT | BIGINT) [USING layout] [kind]
pub data ColumnPart : List Terminal → ColumnDefinition → List Terminal → Type 0 where
  column : {word : List ℕ} {c : TypeWord} {l : Option LayoutWord} {d : Option KindWord} {ts us vs rest : List Terminal} →
      TypePart ts c us → UsingPart us l vs → KindPart vs d rest → ColumnPart (t.Name word ∷ ts) (record { name = word; column_type = c; layout = l; kind = d }) rest

-- item = name | COUNT ( * ) | function ( name )
pub data ItemPart : List Terminal → SelectItem → List Terminal → Type 0 where
  column_item : {word : List ℕ} {rest : List Terminal} → ItemPart (t.Name word ∷ rest) (items.Column word) rest
  count_rows : {rest : List Terminal} → ItemPart (t.Keyword k.Count ∷ t.Symbol s.Open ∷ t.Symbol s.Star ∷ t.Symbol s.Close ∷ rest) items.CountRows rest
  function_item : {f : SetFunction} {word : List ℕ} {rest : List Terminal} →
      ItemPart (t.Keyword (function_word f) ∷ t.Symbol s.Open ∷ t.Name word ∷ t.Symbol s.Close ∷ rest) (items.Function f word) rest

-- items = * | item {, item}
pub data ItemsPart : List Terminal → ItemsTree → List Terminal → Type 0 where
  star : {rest : List Terminal} → ItemsPart (t.Symbol s.Star ∷ rest) all_columns rest
  some_items : {list : List SelectItem} {ts rest : List Terminal} → ListOf ItemPart ts list rest → ItemsPart ts (listed list) rest

-- operand = value | name
pub data OperandPart : List Terminal → Operand → List Terminal → Type 0 where
  constant : {v : Option ℤ} {ts rest : List Terminal} → ValuePart ts v rest → OperandPart ts (Constant v) rest
  column_name : {word : List ℕ} {rest : List Terminal} → OperandPart (t.Name word ∷ rest) (Column word) rest

-- name = source, where source = value | name
pub data SetPart : List Terminal → SetClause → List Terminal → Type 0 where
  set : {word : List ℕ} {x : Operand} {ts rest : List Terminal} → OperandPart ts x rest →
      SetPart (t.Name word ∷ t.Symbol (s.Compare Eq) ∷ ts) (record { column = word; source = x }) rest

-- choice = name USING layout [kind]
pub data ChoicePart : List Terminal → LayoutChoice → List Terminal → Type 0 where
  choice : {word : List ℕ} {l : LayoutWord} {d : Option KindWord} {ts rest : List Terminal} → KindPart ts d rest →
      ChoicePart (t.Name word ∷ t.Keyword k.Using ∷ t.Name (layout_spelling l) ∷ ts) (record { column = word; layout = l; kind = d }) rest

-- operand AND operand
pub data BoundsPart : List Terminal → Operand → Operand → List Terminal → Type 0 where
  bounds : {low high : Operand} {ts mid rest : List Terminal} → OperandPart ts low (t.Keyword k.And ∷ mid) → OperandPart mid high rest → BoundsPart ts low high rest

-- BETWEEN operand AND operand | IN ( value {, value} )
pub data RangePart : Operand → List Terminal → ConditionTree → List Terminal → Type 0 where
  between_bounds : {x low high : Operand} {ts rest : List Terminal} → BoundsPart ts low high rest → RangePart x (t.Keyword k.Between ∷ ts) (between x low high) rest
  in_values : {x : Operand} {values : List (Option ℤ)} {ts rest : List Terminal} → ListOf ValuePart ts values (t.Symbol s.Close ∷ rest) →
      RangePart x (t.Keyword k.In ∷ t.Symbol s.Open ∷ ts) (among x values) rest

-- what follows the operand of a predicate: compare operand | [NOT] BETWEEN .. | [NOT] IN .. | IS [NOT] NULL
pub data TailPart : Operand → List Terminal → ConditionTree → List Terminal → Type 0 where
  compares : {x y : Operand} {op : CompareOp} {ts rest : List Terminal} → OperandPart ts y rest → TailPart x (t.Symbol (s.Compare op) ∷ ts) (comparison x op y) rest
  in_range : {x : Operand} {c : ConditionTree} {ts rest : List Terminal} → RangePart x ts c rest → TailPart x ts c rest
  not_in_range : {x : Operand} {c : ConditionTree} {ts rest : List Terminal} → RangePart x ts c rest → TailPart x (t.Keyword k.Not ∷ ts) (negated c) rest
  is_null : {x : Operand} {rest : List Terminal} → TailPart x (t.Keyword k.Is ∷ t.Keyword k.Null ∷ rest) (null x) rest
  is_not_null : {x : Operand} {rest : List Terminal} → TailPart x (t.Keyword k.Is ∷ t.Keyword k.Not ∷ t.Keyword k.Null ∷ rest) (negated (null x)) rest

-- TRUE | FALSE | UNKNOWN
pub data TruthPart : List Terminal → TruthWord → List Terminal → Type 0 where
  true_word : {rest : List Terminal} → TruthPart (t.Keyword k.True ∷ rest) True rest
  false_word : {rest : List Terminal} → TruthPart (t.Keyword k.False ∷ rest) False rest
  unknown_word : {rest : List Terminal} → TruthPart (t.Keyword k.Unknown ∷ rest) Unknown rest

-- one part is itself, two or more are a chain of OR
abbrev pub any_of : List ConditionTree → ConditionTree
any_of (c ∷ []) = c
any_of cs = some_of (trees_of cs)

-- one part is itself, two or more are a chain of AND
abbrev pub all_of : List ConditionTree → ConditionTree
all_of (c ∷ []) = c
all_of cs = each_of (trees_of cs)

mutual
  -- cond = term {OR term}
  pub data ConditionPart : List Terminal → ConditionTree → List Terminal → Type 0 where
    run_of_or : {cs : List ConditionTree} {ts rest : List Terminal} → TermsPart ts cs rest → ConditionPart ts (any_of cs) rest

  pub data TermsPart : List Terminal → List ConditionTree → List Terminal → Type 0 where
    last_term : {c : ConditionTree} {ts rest : List Terminal} → TermPart ts c rest → TermsPart ts (c ∷ []) rest
    or_term : {c : ConditionTree} {cs : List ConditionTree} {ts mid rest : List Terminal} → TermPart ts c (t.Keyword k.Or ∷ mid) → TermsPart mid cs rest → TermsPart ts (c ∷ cs) rest

  -- term = factor {AND factor}
  pub data TermPart : List Terminal → ConditionTree → List Terminal → Type 0 where
    run_of_and : {cs : List ConditionTree} {ts rest : List Terminal} → FactorsPart ts cs rest → TermPart ts (all_of cs) rest

  pub data FactorsPart : List Terminal → List ConditionTree → List Terminal → Type 0 where
    last_factor : {c : ConditionTree} {ts rest : List Terminal} → FactorPart ts c rest → FactorsPart ts (c ∷ []) rest
    and_factor : {c : ConditionTree} {cs : List ConditionTree} {ts mid rest : List Terminal} → FactorPart ts c (t.Keyword k.And ∷ mid) → FactorsPart mid cs rest → FactorsPart ts (c ∷ cs) rest

  -- factor = [NOT] test
  pub data FactorPart : List Terminal → ConditionTree → List Terminal → Type 0 where
    plain : {c : ConditionTree} {ts rest : List Terminal} → TestPart ts c rest → FactorPart ts c rest
    not : {c : ConditionTree} {ts rest : List Terminal} → TestPart ts c rest → FactorPart (t.Keyword k.Not ∷ ts) (negated c) rest

  -- test = primary [IS [NOT] truth]
  pub data TestPart : List Terminal → ConditionTree → List Terminal → Type 0 where
    untested : {c : ConditionTree} {ts rest : List Terminal} → PrimaryPart ts c rest → TestPart ts c rest
    is_truth : {c : ConditionTree} {word : TruthWord} {ts mid rest : List Terminal} → PrimaryPart ts c (t.Keyword k.Is ∷ mid) → TruthPart mid word rest → TestPart ts (tested c word) rest
    is_not_truth : {c : ConditionTree} {word : TruthWord} {ts mid rest : List Terminal} → PrimaryPart ts c (t.Keyword k.Is ∷ t.Keyword k.Not ∷ mid) → TruthPart mid word rest → TestPart ts (negated (tested c word)) rest

  -- primary = ( cond ) | predicate
  pub data PrimaryPart : List Terminal → ConditionTree → List Terminal → Type 0 where
    in_parentheses : {c : ConditionTree} {ts rest : List Terminal} → ConditionPart ts c (t.Symbol s.Close ∷ rest) → PrimaryPart (t.Symbol s.Open ∷ ts) c rest
    predicate : {x : Operand} {c : ConditionTree} {ts mid rest : List Terminal} → OperandPart ts x mid → TailPart x mid c rest → PrimaryPart ts c rest

-- [WHERE cond]
pub data WherePart : List Terminal → Option ConditionTree → List Terminal → Type 0 where
  no_condition : {rest : List Terminal} → WherePart rest None rest
  where_condition : {c : ConditionTree} {ts rest : List Terminal} → ConditionPart ts c rest → WherePart (t.Keyword k.Where ∷ ts) (Some c) rest

-- [GROUP BY name]
pub data GroupPart : List Terminal → Option (List ℕ) → List Terminal → Type 0 where
  no_groups : {rest : List Terminal} → GroupPart rest None rest
  group_by : {word : List ℕ} {rest : List Terminal} → GroupPart (t.Keyword k.Group ∷ t.Keyword k.By ∷ t.Name word ∷ rest) (Some word) rest

-- after SELECT: items FROM name [WHERE cond] [GROUP BY name], and nothing after it
pub data SelectPart : List Terminal → SelectTree → Type 0 where
  asks : {table : List ℕ} {items : ItemsTree} {c : Option ConditionTree} {g : Option (List ℕ)} {ts us vs : List Terminal} →
      ItemsPart ts items (t.Keyword k.From ∷ t.Name table ∷ us) → WherePart us c vs → GroupPart vs g [] →
      SelectPart ts (record { items = items; table = table; condition = c; grouping = g })

-- statement, and nothing after it
pub data Spells : List Terminal → StatementTree → Type 0 where
  -- CREATE TABLE name ( coldef {, coldef} )
  creates : {table : List ℕ} {definitions : List ColumnDefinition} {ts : List Terminal} →
      ListOf ColumnPart ts definitions (t.Symbol s.Close ∷ []) →
      Spells (t.Keyword k.Create ∷ t.Keyword k.Table ∷ t.Name table ∷ t.Symbol s.Open ∷ ts) (create_table table definitions)
  -- DROP TABLE name
  drops : {table : List ℕ} → Spells (t.Keyword k.Drop ∷ t.Keyword k.Table ∷ t.Name table ∷ []) (drop_table table)
  -- TABLES
  lists_tables : Spells (t.Name (codes "TABLES") ∷ []) list_tables
  -- INSERT INTO name VALUES tuple {, tuple}
  inserts : {table : List ℕ} {rows : List (List (Option ℤ))} {ts : List Terminal} →
      ListOf RowPart ts rows [] →
      Spells (t.Keyword k.Insert ∷ t.Keyword k.Into ∷ t.Name table ∷ t.Keyword k.Values ∷ ts) (insert table None rows)
  -- INSERT INTO name ( name {, name} ) VALUES tuple {, tuple}
  inserts_into : {table : List ℕ} {names : List (List ℕ)} {rows : List (List (Option ℤ))} {ts us : List Terminal} →
      ListOf NamePart ts names (t.Symbol s.Close ∷ t.Keyword k.Values ∷ us) → ListOf RowPart us rows [] →
      Spells (t.Keyword k.Insert ∷ t.Keyword k.Into ∷ t.Name table ∷ t.Symbol s.Open ∷ ts) (insert table (Some names) rows)
  -- UPDATE name SET name = source {, name = source}
  updates : {table : List ℕ} {sets : List SetClause} {ts : List Terminal} →
      ListOf SetPart ts sets [] →
      Spells (t.Keyword k.Update ∷ t.Name table ∷ t.Keyword k.Set ∷ ts) (update table sets None)
  -- UPDATE name SET name = source {, name = source} WHERE cond
  updates_where : {table : List ℕ} {sets : List SetClause} {c : ConditionTree} {ts us : List Terminal} →
      ListOf SetPart ts sets (t.Keyword k.Where ∷ us) → ConditionPart us c [] →
      Spells (t.Keyword k.Update ∷ t.Name table ∷ t.Keyword k.Set ∷ ts) (update table sets (Some c))
  -- DELETE FROM name
  deletes : {table : List ℕ} → Spells (t.Keyword k.Delete ∷ t.Keyword k.From ∷ t.Name table ∷ []) (delete table None)
  -- DELETE FROM name WHERE cond
  deletes_where : {table : List ℕ} {c : ConditionTree} {us : List Terminal} →
      ConditionPart us c [] →
      Spells (t.Keyword k.Delete ∷ t.Keyword k.From ∷ t.Name table ∷ t.Keyword k.Where ∷ us) (delete table (Some c))
  -- REBUILD name
  rebuilds : {table : List ℕ} → Spells (t.Name (codes "REBUILD") ∷ t.Name table ∷ []) (rebuild table [])
  -- REBUILD name ( choice {, choice} )
  rebuilds_columns : {table : List ℕ} {choices : List LayoutChoice} {ts : List Terminal} →
      ListOf ChoicePart ts choices (t.Symbol s.Close ∷ []) →
      Spells (t.Name (codes "REBUILD") ∷ t.Name table ∷ t.Symbol s.Open ∷ ts) (rebuild table choices)
  -- SELECT items FROM name [WHERE cond] [GROUP BY name]
  selects : {asked : SelectTree} {ts : List Terminal} → SelectPart ts asked → Spells (t.Keyword k.Select ∷ ts) (select asked)
  -- STATS SELECT items FROM name [WHERE cond] [GROUP BY name]
  asks_stats : {asked : SelectTree} {ts : List Terminal} → SelectPart ts asked → Spells (t.Name (codes "STATS") ∷ t.Keyword k.Select ∷ ts) (stats asked)
  -- LOAD name FROM text
  loads : {table file : List ℕ} → Spells (t.Name (codes "LOAD") ∷ t.Name table ∷ t.Keyword k.From ∷ t.Text file ∷ []) (load table file Row)
  -- LOAD name FROM text WITH HEADER
  loads_with_header : {table file : List ℕ} →
      Spells (t.Name (codes "LOAD") ∷ t.Name table ∷ t.Keyword k.From ∷ t.Text file ∷ t.Keyword k.With ∷ t.Name (codes "HEADER") ∷ []) (load table file Header)
  -- SAVE name TO text
  saves : {table file : List ℕ} → Spells (t.Name (codes "SAVE") ∷ t.Name table ∷ t.Keyword k.To ∷ t.Text file ∷ []) (save table file)
  -- OPEN name FROM text
  opens : {table file : List ℕ} → Spells (t.Keyword k.Open ∷ t.Name table ∷ t.Keyword k.From ∷ t.Text file ∷ []) (open_table table file)
