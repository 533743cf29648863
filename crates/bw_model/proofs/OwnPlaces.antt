-- Of names of which none stands twice, each has its own place.
use Rattle.std.proofs.Common.{◌≡◌, ℕ, ◌+◌, ◌<◌, Bool, true, false, ◌&&◌, ◌||◌, not, List, [], ◌∷◌, ◌++◌, length, map, take, drop, drop-cons, take-append-drop, nat_lt, get_or, position, Some, None, if◌then◌else◌, zero, suc, refl, sym, ap, subst, ◌∙◌, arith, append_assoc, length-append, length-take}
use Rattle.std.specs.List.{list_any, position_or_len}
use Rattle.std.specs.Str.{bytes_eq}
use Rattle.std.proofs.lemmas.Bool.{lt-ltb, true≢false}
use Rattle.std.proofs.lemmas.List.{length-map}
use Rattle.std.proofs.lemmas.List.Folds.{list_any-append}
use Rattle.std.proofs.lemmas.Slice.Eq.{bytes_eq-Decides}
use Rattle.bw_model.specs.Store.{Header, are_distinct, names, place_of}
use Rattle.bw_model.proofs.Names.{are_distinct-push, bytes_eq-comm}
use Rattle.bw_model.proofs.Passing.{neither}

fronts : (a b c d : Bool) → (c ≡ true → d ≡ true) → (not (a || b) && c) ≡ true → (not a && d) ≡ true
fronts true b c d rest e = e
fronts false true c d rest e = absurd (true≢false (sym e))
fronts false false c d rest e = rest e

-- the front of a list without a name that stands twice
pub are_distinct_front : (xs ys : List (List ℕ)) → are_distinct (xs ++ ys) ≡ true → are_distinct xs ≡ true
are_distinct_front [] ys e = refl
are_distinct_front (x ∷ xs) ys e =
    fronts (list_any (bytes_eq x) xs) (list_any (bytes_eq x) ys) (are_distinct (xs ++ ys)) (are_distinct xs) (are_distinct_front xs ys)
    (subst (λ b. (not b && are_distinct (xs ++ ys)) ≡ true) (list_any-append (bytes_eq x) xs ys) e)

isnt : (b c : Bool) → (b && not c) ≡ true → c ≡ false
isnt true true e = sym e
isnt true false e = refl
isnt false c e = absurd (true≢false (sym e))

pub one_plus : (n : ℕ) → 1 + n ≡ suc n
one_plus n = omega arith

length-front : {A : Type 0} (i : ℕ) (l : List A) → i < length l → length (take i l) ≡ i
length-front i l within = omega (arith, length-take i l)

pub get_or-mapped : {A B : Type 0} (f : A → B) (xs : List A) (i : ℕ) (d : A) (e : B) → i < length xs → get_or (map f xs) i e ≡ f (get_or xs i d)
get_or-mapped f [] i d e within = absurd (omega arith)
get_or-mapped f (x ∷ xs) zero d e within = refl
get_or-mapped f (x ∷ xs) (suc i) d e within = get_or-mapped f xs i d e (omega arith)

pub same_name : (x : List ℕ) → bytes_eq x x ≡ true
same_name x = (bytes_eq-Decides x x).1 refl

-- the first place that passes, after a prefix in which none passes
prefix-behind : {A : Type 0} (p : A → Bool) (front : List A) (x : A) (rest : List A) → list_any p front ≡ false → p x ≡ true → position_or_len p (front ++ x ∷ rest) ≡ length front
prefix-behind p [] x rest none passes = ap (λ b. if not b then 1 + position_or_len p rest else 0) passes
prefix-behind p (y ∷ front) x rest none passes =
    let parts = neither (p y) (list_any p front) none in
    ap (λ b. if not b then 1 + position_or_len p (front ++ x ∷ rest) else 0) parts.0
    ∙ ap (λ n. 1 + n) (prefix-behind p front x rest parts.1 passes)
    ∙ one_plus (length front)

pub position-behind : {A : Type 0} (p : A → Bool) (front : List A) (x : A) (rest : List A) → list_any p front ≡ false → p x ≡ true → position p (front ++ x ∷ rest) ≡ Some (length front)
position-behind p front x rest none passes =
    ap (λ n. if nat_lt n (length (front ++ x ∷ rest)) then Some n else None) (prefix-behind p front x rest none passes)
    ∙ ap (λ b. if b then Some (length front) else None) (lt-ltb (length front) (length (front ++ x ∷ rest)) (omega (arith, length-append front (x ∷ rest))))

position_or_len-map : {A B : Type 0} (p : B → Bool) (f : A → B) (xs : List A) → position_or_len p (map f xs) ≡ position_or_len (λ x. p (f x)) xs
position_or_len-map p f [] = refl
position_or_len-map p f (x ∷ xs) = ap (λ n. if not (p (f x)) then 1 + n else 0) (position_or_len-map p f xs)

pub position-map : {A B : Type 0} (p : B → Bool) (f : A → B) (xs : List A) → position p (map f xs) ≡ position (λ x. p (f x)) xs
position-map p f xs =
    ap (λ n. if nat_lt n (length (map f xs)) then Some n else None) (position_or_len-map p f xs)
    ∙ ap (λ m. if nat_lt (position_or_len (λ x. p (f x)) xs) m then Some (position_or_len (λ x. p (f x)) xs) else None) (length-map xs f)

pub place_of-names : (headers : List Header) (name : List ℕ) → place_of headers name ≡ position (bytes_eq name) (names headers)
place_of-names headers name = sym (position-map (bytes_eq name) (λ h. h.name) headers)

-- a name isn't in front of its place
pub new_behind : (front : List (List ℕ)) (x : List ℕ) (rest : List (List ℕ)) → are_distinct (front ++ x ∷ rest) ≡ true → list_any (bytes_eq x) front ≡ false
new_behind front x rest distinct =
    let pushed : are_distinct (front ++ x ∷ []) ≡ true = are_distinct_front (front ++ x ∷ []) rest (ap are_distinct (append_assoc front (x ∷ []) rest) ∙ distinct) in
    (λ j. list_any (λ y. bytes_eq-comm x y j) front)
    ∙ isnt _ _ (sym (are_distinct-push front x) ∙ pushed)

pub at_behind : (front : List (List ℕ)) (x : List ℕ) (rest : List (List ℕ)) → are_distinct (front ++ x ∷ rest) ≡ true → position (bytes_eq x) (front ++ x ∷ rest) ≡ Some (length front)
at_behind front x rest distinct = position-behind (bytes_eq x) front x rest (new_behind front x rest distinct) (same_name x)

-- each name's place is its own
pub place_at : (list : List (List ℕ)) (i : ℕ) (d : List ℕ) → are_distinct list ≡ true → i < length list → position (bytes_eq (get_or list i d)) list ≡ Some i
place_at list i d distinct within =
    let x = get_or list i d in
    let split : take i list ++ x ∷ drop (suc i) list ≡ list = ap (λ l. take i list ++ l) (sym (drop-cons list i d within)) ∙ take-append-drop i list in
    ap (position (bytes_eq x)) (sym split)
    ∙ at_behind (take i list) x (drop (suc i) list) (ap are_distinct split ∙ distinct)
    ∙ ap (λ n. Some n) (length-front i list within)
