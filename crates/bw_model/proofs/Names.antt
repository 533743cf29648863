-- Lists of names in which no name stands twice.
use Rattle.std.proofs.Common.{◌≡◌, ℕ, ◌<◌, ◌≤◌, IsTrue, Bool, true, false, ◌&&◌, ◌||◌, not, List, [], ◌∷◌, ◌++◌, length, map, refl, sym, ap, ◌∙◌}
use Rattle.std.specs.List.{All, list_any}
use Rattle.std.proofs.lemmas.Bool.{true≢false}
use Rattle.std.proofs.lemmas.List.Elements.{All-cons, All-nil}
use Rattle.std.specs.Str.{bytes_eq}
use Rattle.std.proofs.lemmas.List.Folds.{list_any-append}
use Rattle.std.proofs.lemmas.Slice.Eq.{bytes_eq-Decides}
use Rattle.bw_sql.specs.declared.tree.ColumnDefinition.{ColumnDefinition}
use Rattle.bw_code.specs.Types.{holds_its_type}
use Rattle.bw_model.specs.Refusals.{is_too_narrow}
use Rattle.bw_model.specs.Store.{AreHeaders, Header, are_distinct, header_of, names}

-- a is in the list, b the new one, d the rest is distinct, e the new one is in the rest
pushed : (a b d e : Bool) → (not (a || (b || false)) && (d && not e)) ≡ ((not a && d) && not (b || e))
pushed true b d e = refl
pushed false true true true = refl
pushed false true true false = refl
pushed false true false true = refl
pushed false true false false = refl
pushed false false true e = refl
pushed false false false e = refl

pub are_distinct-push : (xs : List (List ℕ)) (x : List ℕ) → are_distinct (xs ++ x ∷ []) ≡ (are_distinct xs && not (list_any (λ y. bytes_eq y x) xs))
are_distinct-push [] x = refl
are_distinct-push (y ∷ ys) x =
    ap (λ b. not b && are_distinct (ys ++ x ∷ [])) (list_any-append (bytes_eq y) ys (x ∷ []))
    ∙ ap (λ b. not (list_any (bytes_eq y) ys || (bytes_eq y x || false)) && b) (are_distinct-push ys x)
    ∙ pushed (list_any (bytes_eq y) ys) (bytes_eq y x) (are_distinct ys) (list_any (λ z. bytes_eq z x) ys)

-- it doesn't matter which name is compared with which
pub bytes_eq-comm : (x y : List ℕ) → bytes_eq x y ≡ bytes_eq y x
bytes_eq-comm x y = same (bytes_eq x y) (bytes_eq y x) (λ e. (bytes_eq-Decides y x).1 (sym ((bytes_eq-Decides x y).0 e))) (λ e. (bytes_eq-Decides x y).1 (sym ((bytes_eq-Decides y x).0 e)))
  where
    same : (a b : Bool) → (a ≡ true → b ≡ true) → (b ≡ true → a ≡ true) → a ≡ b
    same true b f g = sym (f refl)
    same false true f g = g refl
    same false false f g = refl

pub names_of_definitions : (columns : List ColumnDefinition) → names (map header_of columns) ≡ map (λ c. c.name) columns
names_of_definitions [] = refl
names_of_definitions (column ∷ columns) = ap (λ l. column.name ∷ l) (names_of_definitions columns)

-- those of which one is too narrow, as they are defined
pub narrow_of_definitions : (columns : List ColumnDefinition) → list_any is_too_narrow (map header_of columns) ≡ list_any (λ definition. is_too_narrow (header_of definition)) columns
narrow_of_definitions [] = refl
narrow_of_definitions (column ∷ columns) = ap (λ b. is_too_narrow (header_of column) || b) (narrow_of_definitions columns)

-- none is too narrow where each layout holds its type
pub all_wide : (headers : List Header) → list_any is_too_narrow headers ≡ false → All (λ header. IsTrue (holds_its_type header)) headers
all_wide [] none = All-nil (λ header. IsTrue (holds_its_type header))
all_wide (header ∷ headers) none = by (holds_its_type header) refl none (all_wide headers)
  where
    by : (b : Bool) → holds_its_type header ≡ b → (not b || list_any is_too_narrow headers) ≡ false → (list_any is_too_narrow headers ≡ false → All (λ h. IsTrue (holds_its_type h)) headers)
        → All (λ h. IsTrue (holds_its_type h)) (header ∷ headers)
    by true holds rest others = All-cons (λ h. IsTrue (holds_its_type h)) header headers holds (others rest)
    by false holds rest others = absurd (true≢false rest)

-- 1 to 64 columns, each with a name of its own and in a layout that holds its type, are headers
pub headers_from : (headers : List Header) → 0 < length headers → length headers ≤ 64 → IsTrue (are_distinct (names headers)) → list_any is_too_narrow headers ≡ false → AreHeaders headers
headers_from headers some few distinct wide = record { some = some; few = few; distinct = distinct; held = all_wide headers wide }

pub map-push : {A B : Type 0} (f : A → B) (xs : List A) (x : A) → map f (xs ++ x ∷ []) ≡ map f xs ++ f x ∷ []
map-push f [] x = refl
map-push f (y ∷ ys) x = ap (λ l. f y ∷ l) (map-push f ys x)
