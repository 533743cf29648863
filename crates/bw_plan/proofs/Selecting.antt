-- Select lists by their items.
use Rattle.std.proofs.Common.{◌≡◌, ◌++◌, ◌+◌, ◌<◌, ◌∙◌, ◌||◌, Bool, List, None, Option, Some, [], ◌∷◌, ap, false, get_or, is_some, length, map, not, option_map, refl, suc, sym, take, true, zero, arith, ℕ}
use Rattle.std.specs.List.{list_any}
use Rattle.std.proofs.lemmas.Bool.{true≢false}
use Rattle.std.proofs.lemmas.List.{map-append}
use Rattle.bw_sql.specs.declared.tree.SelectItem.{SelectItem}
use Rattle.bw_sql.specs.declared.tree.SelectItem.TheVariants as item
use Rattle.bw_model.specs.Refusals.{is_missing}
use Rattle.bw_model.specs.Select.{columns_in, has_functions, is_column, is_mixed}
use Rattle.bw_model.specs.Store.{Header, place_of}
use Rattle.bw_model.proofs.Items.{columns_more}
use Rattle.bw_model.proofs.Passing.{neither}
use Rattle.bw_plan.specs.Selections.{is_ungrouped, is_unplaced}
use Rattle.bw_plan.specs.declared.grouping.GroupItem.TheVariants as grouped
use Rattle.bw_plan.specs.declared.select.FunctionPlan.TheVariants as function

last : (b : Bool) → (b || false) ≡ b
last true = refl
last false = refl

-- a column is missing where it is missing in one of the items
pub any_column : (headers : List Header) (list : List SelectItem) → list_any (λ one. list_any (is_missing headers) (columns_in (one ∷ []))) list ≡ list_any (is_missing headers) (columns_in list)
any_column headers [] = refl
any_column headers (item.Column name ∷ list) =
    ap (λ b. b || list_any (λ one. list_any (is_missing headers) (columns_in (one ∷ []))) list) (last (is_missing headers name))
    ∙ ap (λ b. is_missing headers name || b) (any_column headers list)
any_column headers (item.CountRows ∷ list) = any_column headers list
any_column headers (item.Function f name ∷ list) =
    ap (λ b. b || list_any (λ one. list_any (is_missing headers) (columns_in (one ∷ []))) list) (last (is_missing headers name))
    ∙ ap (λ b. is_missing headers name || b) (any_column headers list)

-- columns alone
pub columns_apart : (names : List (List ℕ)) → has_functions (map (λ name. item.Column name) names) ≡ false
columns_apart [] = refl
columns_apart (name ∷ names) = columns_apart names

pub columns_unmixed : (names : List (List ℕ)) → is_mixed (map (λ name. item.Column name) names) ≡ false
columns_unmixed names = rw (columns_apart names) refl

-- set functions alone, of columns that are there
unplaced_by : (headers : List Header) (name : List ℕ) (place : Option ℕ) → place_of headers name ≡ place → not (is_some place) ≡ false → is_some (place_of headers name) ≡ true
unplaced_by headers name None at there = absurd (true≢false there)
unplaced_by headers name (Some place) at there = ap is_some at

some_mapped : {A B : Type 0} (f : A → B) (o : Option A) → is_some o ≡ true → not (is_some (option_map f o)) ≡ false
some_mapped f None e = absurd (true≢false (sym e))
some_mapped f (Some x) e = refl

pub all_placed : (headers : List Header) (list : List SelectItem) → list_any (is_missing headers) (columns_in list) ≡ false → list_any is_column list ≡ false → list_any (is_unplaced headers) list ≡ false
all_placed headers [] there apart = refl
all_placed headers (item.Column name ∷ list) there apart = absurd (true≢false apart)
all_placed headers (item.CountRows ∷ list) there apart = all_placed headers list there apart
all_placed headers (item.Function f name ∷ list) there apart =
    let p = neither (is_missing headers name) (list_any (is_missing headers) (columns_in list)) there in
    ap (λ b. b || list_any (is_unplaced headers) list) (some_mapped _ (place_of headers name) (unplaced_by headers name (place_of headers name) refl p.0))
    ∙ all_placed headers list p.1 apart

-- with groups each item is placed where its column is there
pub all_grouped : (headers : List Header) (list : List SelectItem) → list_any (is_missing headers) (columns_in list) ≡ false → list_any (is_ungrouped headers) list ≡ false
all_grouped headers [] there = refl
all_grouped headers (item.Column name ∷ list) there = all_grouped headers list (neither (is_missing headers name) (list_any (is_missing headers) (columns_in list)) there).1
all_grouped headers (item.CountRows ∷ list) there = all_grouped headers list there
all_grouped headers (item.Function f name ∷ list) there =
    let p = neither (is_missing headers name) (list_any (is_missing headers) (columns_in list)) there in
    ap (λ b. b || list_any (is_ungrouped headers) list) (placed_twice (place_of headers name) (unplaced_by headers name (place_of headers name) refl p.0))
    ∙ all_grouped headers list p.1
  where
    placed_twice : (o : Option ℕ) → is_some o ≡ true → not (is_some (option_map grouped.Function (option_map (function.Of f) o))) ≡ false
    placed_twice None e = absurd (true≢false (sym e))
    placed_twice (Some x) e = refl

-- a list of functions that isn't mixed has no column
pub no_columns : (list : List SelectItem) → has_functions list ≡ true → is_mixed list ≡ false → list_any is_column list ≡ false
no_columns list some apart = rw some at apart

-- what no entry passes none at a place passes
none_at : {A : Type 0} (p : A → Bool) (xs : List A) (i : ℕ) (d : A) → i < length xs → list_any p xs ≡ false → p (get_or xs i d) ≡ false
none_at p [] i d within none = absurd (omega arith)
none_at p (x ∷ xs) zero d within none = (neither (p x) (list_any p xs) none).0
none_at p (x ∷ xs) (suc i) d within none = none_at p xs i d (omega (arith, within)) (neither (p x) (list_any p xs) none).1

-- the column of an item is there where each is
pub there_at : (headers : List Header) (list : List SelectItem) (i : ℕ) (x : SelectItem) → i < length list → x ≡ get_or list i x → list_any (is_missing headers) (columns_in list) ≡ false
    → list_any (is_missing headers) (columns_in (x ∷ [])) ≡ false
there_at headers list i x within at there =
    ap (λ one. list_any (is_missing headers) (columns_in (one ∷ []))) at
    ∙ none_at (λ one. list_any (is_missing headers) (columns_in (one ∷ []))) list i x within (any_column headers list ∙ there)

-- one item more
pub places_more : (headers : List Header) (list : List SelectItem) (i : ℕ) (x : SelectItem) → i < length list → x ≡ get_or list i x
    → map (place_of headers) (columns_in (take i list)) ++ map (place_of headers) (columns_in (x ∷ [])) ≡ map (place_of headers) (columns_in (take (i + 1) list))
places_more headers list i x within at =
    sym (map-append (place_of headers) (columns_in (take i list)) (columns_in (x ∷ []))) ∙ ap (map (place_of headers)) (columns_more list i x within at)
