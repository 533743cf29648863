-- Columns of a table definition in which no name stands twice.
use Rattle.std.proofs.Common.{◌≡◌, ℕ, ◌+◌, ◌<◌, Bor, if◌then◌else◌, Bool, true, false, ◌||◌, not, List, [], ◌∷◌, ◌++◌, length, map, get_or, zero, suc, refl, sym, ap, ◌∙◌, arith, take}
use Rattle.std.specs.List.{list_any}
use Rattle.std.specs.Str.{bytes_eq}
use Rattle.std.proofs.lemmas.Bool.{true≢false}
use Rattle.std.proofs.lemmas.List.{length-map}
use Rattle.bw_model.specs.Store.{are_distinct}
use Rattle.bw_model.proofs.Names.{bytes_eq-comm, map-push}
use Rattle.bw_sql.specs.declared.tree.ColumnDefinition.{ColumnDefinition}
use Rattle.bw_plan.proofs.Names.{once_to, one_more, twice_at}

pub seen_is : (ks : List (Bor (List ℕ))) (x : List ℕ) → list_any (λ k. bytes_eq x k.now) ks ≡ list_any (λ y. bytes_eq y x) (map (λ k. k.now) ks)
seen_is [] x = refl
seen_is (k ∷ ks) x = ap (λ b. b || list_any (λ j. bytes_eq x j.now) ks) (bytes_eq-comm x k.now) ∙ ap (λ b. bytes_eq k.now x || b) (seen_is ks x)

get_or-map : {A B : Type 0} (f : A → B) (xs : List A) (i : ℕ) (x : A) → x ≡ get_or xs i x → i < length xs → f x ≡ get_or (map f xs) i (f x)
get_or-map f [] i x e within = absurd (omega arith)
get_or-map f (y ∷ ys) zero x e within = ap f e
get_or-map f (y ∷ ys) (suc i) x e within = get_or-map f ys i x e (omega arith)

pushed_if : {A : Type 0} (b : Bool) (xs : List A) (x : A) → b ≡ false → (if b then xs else xs ++ x ∷ []) ≡ xs ++ x ∷ []
pushed_if true xs x e = absurd (true≢false e)
pushed_if false xs x e = refl

not_is : (a b : Bool) → a ≡ not b → a ≡ false → b ≡ true
not_is a true p q = refl
not_is a false p q = absurd (true≢false (sym p ∙ q))

not_isnt : (a b : Bool) → a ≡ not b → a ≡ true → b ≡ false
not_isnt a true p q = sym q ∙ p
not_isnt a false p q = refl

-- a name among those of the columns so far
pub among : (columns : List ColumnDefinition) (i : ℕ) (name : List ℕ) → list_any (λ c. bytes_eq name c.name) (take i columns) ≡ list_any (λ y. bytes_eq y name) (take i (map (λ c. c.name) columns))
among [] zero name = refl
among [] (suc i) name = refl
among (c ∷ columns) zero name = refl
among (c ∷ columns) (suc i) name = ap (λ b. b || list_any (λ c. bytes_eq name c.name) (take i columns)) (bytes_eq-comm name c.name) ∙ ap (λ b. bytes_eq c.name name || b) (among columns i name)

-- a set of the names so far
module _ (columns : List ColumnDefinition) (i : ℕ) (column : ColumnDefinition) (keys : List (Bor (List ℕ))) (added : Bool)
    (within : i < length columns) (at : column ≡ get_or columns i column)
    (seen : map (λ k. k.now) keys ≡ take i (map (λ c. c.name) columns))
    (says : added ≡ not (list_any (λ k. bytes_eq column.name k.now) keys)) where
  fits : i < length (map (λ c. c.name) columns)
  fits = omega (arith, length-map columns (λ c. c.name))

  looked : list_any (λ k. bytes_eq column.name k.now) keys ≡ list_any (λ y. bytes_eq y column.name) (take i (map (λ c. c.name) columns))
  looked = seen_is keys column.name ∙ ap (list_any (λ y. bytes_eq y column.name)) seen

  pub twice_in : added ≡ false → true ≡ not (are_distinct (map (λ c. c.name) columns))
  twice_in old = sym (twice_at (map (λ c. c.name) columns) i column.name fits (get_or-map (λ c. c.name) columns i column at within) (sym looked ∙ not_is added _ says old))

  pub once_in : added ≡ true → are_distinct (take i (map (λ c. c.name) columns)) ≡ true → are_distinct (take (i + 1) (map (λ c. c.name) columns)) ≡ true
  once_in new before = once_to (map (λ c. c.name) columns) i column.name fits (get_or-map (λ c. c.name) columns i column at within) before (sym looked ∙ not_isnt added _ says new)

  pub seen_in : (key : Bor (List ℕ)) → key.now ≡ column.name → added ≡ true → (after : List (Bor (List ℕ))) → after ≡ (if list_any (λ k. bytes_eq column.name k.now) keys then keys else keys ++ key ∷ []) → map (λ k. k.now) after ≡ take (i + 1) (map (λ c. c.name) columns)
  seen_in key is new after e =
      ap (map (λ k. k.now)) (e ∙ pushed_if _ keys key (not_isnt added _ says new))
      ∙ map-push (λ k. k.now) keys key
      ∙ ap (λ l. l ++ key.now ∷ []) seen
      ∙ ap (λ x. take i (map (λ c. c.name) columns) ++ x ∷ []) is
      ∙ sym (one_more (map (λ c. c.name) columns) i column.name fits (get_or-map (λ c. c.name) columns i column at within))

-- a name looked for among the columns so far
module _ (columns : List ColumnDefinition) (i : ℕ) (column : ColumnDefinition) (found : Bool)
    (within : i < length columns) (at : column ≡ get_or columns i column)
    (says : found ≡ list_any (λ c. bytes_eq column.name c.name) (take i columns)) where
  pub twice_among : found ≡ true → true ≡ not (are_distinct (map (λ c. c.name) columns))
  twice_among here = sym (twice_at (map (λ c. c.name) columns) i column.name (omega (arith, within, length-map columns (λ c. c.name))) (get_or-map (λ c. c.name) columns i column at within) (sym (among columns i column.name) ∙ sym says ∙ here))

  pub once_among : found ≡ false → are_distinct (take i (map (λ c. c.name) columns)) ≡ true → are_distinct (take (i + 1) (map (λ c. c.name) columns)) ≡ true
  once_among absent before = once_to (map (λ c. c.name) columns) i column.name (omega (arith, within, length-map columns (λ c. c.name))) (get_or-map (λ c. c.name) columns i column at within) before (sym (among columns i column.name) ∙ sym says ∙ absent)
