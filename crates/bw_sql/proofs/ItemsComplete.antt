-- Select lists that are in the grammar are read.
use Rattle.std.proofs.Common.{◌≡◌, ℕ, ◌<◌, suc, List, ◌∷◌, length, Some, None, refl, arith}
use Rattle.bw_lex.specs.declared.token.Symbol.TheVariants as s
use Rattle.bw_sql.specs.declared.terminal.Terminal.{Terminal}
use Rattle.bw_sql.specs.declared.terminal.Terminal.TheVariants as t
use Rattle.bw_sql.specs.declared.tree.SelectItem.{SelectItem}
use Rattle.bw_sql.specs.declared.tree.SelectItem.TheVariants as items
use Rattle.bw_sql.specs.declared.tree.SetFunction.{SetFunction}
use Rattle.bw_sql.specs.declared.tree.SetFunction.TheVariants.{Count, Sum, Min, Max, Median}
use Rattle.bw_sql.specs.Tree.{ItemsTree, listed}
use Rattle.bw_sql.specs.Words.{function_of, function_word}
use Rattle.bw_sql.specs.Grammar.{ListOf, last, next, ItemPart, column_item, count_rows, function_item, ItemsPart, star, some_items}
use Rattle.bw_sql.specs.Reading.{after_comma, argument_at, function_at, function_item_at, item_at, item_list_at, items_at, name_at}
use Rattle.bw_sql.proofs.ListsComplete.{Anything, list_reads, list_shorter}

function_read : (f : SetFunction) (word : List ℕ) (rest : List Terminal)
    → function_item_at (t.Keyword (function_word f) ∷ t.Symbol s.Open ∷ t.Name word ∷ t.Symbol s.Close ∷ rest) ≡ Some (items.Function f word, rest)
unfolding function_item_at function_at function_of argument_at name_at
function_read Count word rest = refl
function_read Sum word rest = refl
function_read Min word rest = refl
function_read Max word rest = refl
function_read Median word rest = refl

item_reads : (ts rest : List Terminal) (x : SelectItem) → ItemPart ts x rest → item_at ts ≡ Some (x, rest)
unfolding item_at function_item_at function_at function_of argument_at
item_reads ts rest x column_item = refl
item_reads ts rest x count_rows = refl
item_reads ts rest x (function_item {f} {word}) = function_read f word rest

item_shorter : (ts rest : List Terminal) (x : SelectItem) → ItemPart ts x rest → length rest < length ts
item_shorter ts rest x column_item = omega arith
item_shorter ts rest x count_rows = omega arith
item_shorter ts rest x function_item = omega arith

item_list_read : {ts rest : List Terminal} {xs : List SelectItem} → ListOf ItemPart ts xs rest → after_comma rest ≡ None → (n : ℕ) → length ts < n → item_list_at n ts ≡ Some (xs, rest)
unfolding item_list_at
item_list_read d stops n h = list_reads ItemPart item_at Anything n (λ _. tt) (λ ts rest x e _ _. item_reads ts rest x e) item_shorter d tt stops n h h

-- a list of items doesn't begin with a star
no_star : {ts mid : List Terminal} {x : SelectItem} {list : List SelectItem} {rest : List Terminal} (n : ℕ) → ItemPart ts x mid → item_list_at n ts ≡ Some (list, rest) → items_at n ts ≡ Some (listed list, rest)
unfolding items_at
no_star n column_item e = rw e refl
no_star n count_rows e = rw e refl
no_star n function_item e = rw e refl

list_first : {ts rest : List Terminal} {list : List SelectItem} (n : ℕ) → ListOf ItemPart ts list rest → item_list_at n ts ≡ Some (list, rest) → items_at n ts ≡ Some (listed list, rest)
list_first n (last d) e = no_star n d e
list_first n (next d ds) e = no_star n d e

pub items_read : {ts rest : List Terminal} {x : ItemsTree} → ItemsPart ts x rest → after_comma rest ≡ None → (n : ℕ) → length ts < n → items_at n ts ≡ Some (x, rest)
unfolding items_at
items_read star stops n h = refl
items_read (some_items d) stops n h = list_first n d (item_list_read d stops n h)

pub items_shorter : {ts rest : List Terminal} {x : ItemsTree} → ItemsPart ts x rest → length rest < length ts
items_shorter star = omega arith
items_shorter {ts} (some_items d) = list_shorter ItemPart item_at Anything (suc (length ts)) (λ _. tt) (λ ts rest x e _ _. item_reads ts rest x e) item_shorter d
