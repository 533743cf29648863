-- Select lists that are read are in the grammar.
use Rattle.std.proofs.Common.{◌≡◌, ◌∙◌, ℕ, List, ◌∷◌, Option, Some, refl, ap, subst, sym}
use Rattle.bw_lex.specs.declared.token.Symbol.TheVariants as s
use Rattle.bw_sql.specs.declared.keyword.Keyword.{Keyword}
use Rattle.bw_sql.specs.declared.keyword.Keyword.TheVariants as k
use Rattle.bw_sql.specs.declared.terminal.Terminal.{Terminal}
use Rattle.bw_sql.specs.declared.terminal.Terminal.TheVariants as t
use Rattle.bw_sql.specs.declared.tree.SelectItem.{SelectItem}
use Rattle.bw_sql.specs.declared.tree.SelectItem.TheVariants as items
use Rattle.bw_sql.specs.declared.tree.SetFunction.{SetFunction}
use Rattle.bw_sql.specs.declared.tree.SetFunction.TheVariants.{Count}
use Rattle.bw_sql.specs.Tree.{all_columns, listed}
use Rattle.bw_sql.specs.Words.{function_of, function_word}
use Rattle.bw_sql.specs.Grammar.{ListOf, ItemPart, column_item, count_rows, function_item, ItemsPart, star, some_items}
use Rattle.bw_sql.specs.Reading.{after_close, after_open, argument_at, function_at, function_item_at, item_at, item_list_at, items_at, map_first, name_at}
use Rattle.bw_sql.proofs.ListsSound.{IsSound, after_open-is, answers_once, bound, closes, mapped, moved, name_is, name_sound, parts_sound, rested}

-- it is the reserved word of the function
function_word_is : (word : Keyword) (f : SetFunction) → function_of word ≡ Some f → word ≡ function_word f
unfolding function_of
function_word_is k.Count f h = cc
function_word_is k.Sum f h = cc
function_word_is k.Min f h = cc
function_word_is k.Max f h = cc
function_word_is k.Median f h = cc
function_word_is _ f h = cc

-- these terminals begin with a function's word
abbrev IsFunction : List Terminal → SetFunction → List Terminal → Type 0
IsFunction ts f rest = ts ≡ t.Keyword (function_word f) ∷ rest

function_sound : IsSound IsFunction function_at
unfolding function_at
function_sound (t.Keyword word ∷ ts) f rest h =
    let r = rested (function_of word) ts f rest h in
    ap (λ w. t.Keyword w ∷ ts) (function_word_is word f r.0) ∙ ap (λ l. t.Keyword (function_word f) ∷ l) r.1
function_sound _ f rest h = cc

-- what the function is of, closed after it, makes an item
abbrev IsArgument : SetFunction → List Terminal → SelectItem → List Terminal → Type 0
IsArgument f ts x mid = (rest : List Terminal) → mid ≡ t.Symbol s.Close ∷ rest → ItemPart (t.Keyword (function_word f) ∷ t.Symbol s.Open ∷ ts) x rest

named_argument : (f : SetFunction) (ts : List Terminal) (x : SelectItem) (mid : List Terminal) → map_first (items.Function f) (name_at ts) ≡ Some (x, mid) → IsArgument f ts x mid
named_argument f ts x mid h =
    mapped (items.Function f) (IsArgument f) ts (name_at ts) x mid h (λ word reads rest ends.
    subst (λ us. ItemPart (t.Keyword (function_word f) ∷ t.Symbol s.Open ∷ us) (items.Function f word) rest)
    (ap (λ l. t.Name word ∷ l) (sym ends) ∙ sym (name_is ts word mid (name_sound ts word mid reads))) function_item)

rows_argument : (ts : List Terminal) (x : SelectItem) (mid : List Terminal) → ◌≡◌ {A = Option (SelectItem × List Terminal)} (Some (items.CountRows, ts)) (Some (x, mid)) → IsArgument Count (t.Symbol s.Star ∷ ts) x mid
rows_argument ts x mid h rest ends =
    let e = answers_once items.CountRows x ts mid h in
    rw (← e.0) (subst (λ us. ItemPart (t.Keyword k.Count ∷ t.Symbol s.Open ∷ t.Symbol s.Star ∷ us) items.CountRows rest) (sym (e.1 ∙ ends)) count_rows)

argument_sound : (f : SetFunction) → IsSound (IsArgument f) (argument_at f)
unfolding argument_at
argument_sound Count (t.Symbol s.Star ∷ ts) x mid h = rows_argument ts x mid h
argument_sound f ts x mid h = named_argument f ts x mid h

same_item : {ts us : List Terminal} {x y : SelectItem} {rest : List Terminal} → ts ≡ us → y ≡ x → ItemPart us y rest → ItemPart ts x rest
same_item {ts} {us} {x} {y} {rest} e same part = subst (λ l. ItemPart l x rest) (sym e) (subst (λ z. ItemPart us z rest) same part)

function_item_sound : IsSound ItemPart function_item_at
unfolding function_item_at
function_item_sound ts x rest h =
    let a = bound (function_at ts) _ (x, rest) h in
    let b = bound (after_open a.0.1) _ (x, rest) a.2 in
    let c = bound (argument_at a.0.0 b.0) _ (x, rest) b.2 in
    let front : ts ≡ t.Keyword (function_word a.0.0) ∷ t.Symbol s.Open ∷ b.0 =
    function_sound ts a.0.0 a.0.1 a.1 ∙ ap (λ l. t.Keyword (function_word a.0.0) ∷ l) (after_open-is a.0.1 b.0 b.1) in
    let e = closes (IsArgument a.0.0) (λ y. y) b.0 c.0.0 c.0.1 (argument_sound a.0.0 b.0 c.0.0 c.0.1 c.1) (after_close c.0.1) refl x rest c.2 in
    same_item front e.1 (e.0 rest refl)

item_sound : IsSound ItemPart item_at
unfolding item_at
item_sound (t.Name word ∷ ts) x rest h = moved ItemPart (t.Name word ∷ ts) (items.Column word) x ts rest column_item h
item_sound ts x rest h = function_item_sound ts x rest h

item_list_sound : (n : ℕ) → IsSound (ListOf ItemPart) (item_list_at n)
unfolding item_list_at
item_list_sound n = parts_sound ItemPart item_at item_sound n

pub items_sound : (n : ℕ) → IsSound ItemsPart (items_at n)
unfolding items_at
items_sound n (t.Symbol s.Star ∷ ts) x rest h = moved ItemsPart (t.Symbol s.Star ∷ ts) all_columns x ts rest star h
items_sound n ts x rest h = mapped listed ItemsPart ts (item_list_at n ts) x rest h (λ list reads. some_items (item_list_sound n ts list rest reads))
