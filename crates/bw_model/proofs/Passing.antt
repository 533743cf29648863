-- What the tests of a statement let pass.
use Rattle.std.proofs.Common.{◌≡◌, ◌∙◌, ℕ, ◌<◌, ◌≤◌, ◌==◌, Bool, true, false, ◌&&◌, ◌||◌, is_some, List, [], ◌∷◌, ◌++◌, length, nat_le, nat_lt, Option, None, Some, MatchOption, if◌then◌else◌, zero, suc, refl, sym, ap, subst, arith}
use Rattle.std.specs.List.{All, list_all, list_any}
use Rattle.std.proofs.lemmas.Bool.{eqb-true, leb-false, ltb-false, not-false, true≢false}
use Rattle.std.proofs.lemmas.List.Elements.{All-cons, All-nil}
use Rattle.bw_model.specs.Refusals.{Tests, create_tests, first_that_holds, is_too_narrow}
use Rattle.bw_model.specs.Store.{Header, Store, are_distinct, column_limit, names, table_limit, table_of}
use Rattle.bw_model.specs.declared.refusal.Refusal.{Refusal}

pub two : (b c : Bool) → (b && c) ≡ true → (b ≡ true) × (c ≡ true)
two true c e = (refl, e)
two false c e = absurd (true≢false (sym e))

more : (n : ℕ) → (n == 0) ≡ false → 0 < n
more zero e = absurd (true≢false e)
more (suc n) e = omega arith

if_some : (b : Bool) (x y : Refusal) (r s : Option Refusal) → (r ≡ Some y → s ≡ Some y) → (if b then Some x else r) ≡ Some y → (if b then Some x else s) ≡ Some y
if_some true x y r s h e = e
if_some false x y r s h e = h e

pub if_none : (b : Bool) (x : Refusal) (r : Option Refusal) → (if b then Some x else r) ≡ None → (b ≡ false) × (r ≡ None)
if_none true x r e = cc
if_none false x r e = (refl, e)

-- no test holds
abbrev pub NoneHolds : Tests → Type 0
NoneHolds [] = Unit {0}
NoneHolds (test ∷ tests) = (test.1 ≡ false) × NoneHolds tests

pub none_holds : (tests : Tests) → first_that_holds tests ≡ None → NoneHolds tests
none_holds [] e = tt
none_holds (test ∷ tests) e = let p = if_none test.1 test.0 (first_that_holds tests) e in (p.0, none_holds tests p.1)

pub widths : {A : Type 0} (w : ℕ) (rows : List (List A)) → list_all (λ row. length row == w) rows ≡ true → All (λ row. length row ≡ w) rows
widths w [] all = All-nil (λ r. length r ≡ w)
widths w (row ∷ rows) all =
    let p = two (length row == w) (list_all (λ r. length r == w) rows) all in
    All-cons (λ r. length r ≡ w) row rows (eqb-true (length row) w p.0) (widths w rows p.1)

-- what the tests of CREATE let pass
pub record Passes (columns : List Header) (name : List ℕ) (store : Store) : Type 0 where
  pub some : 0 < length columns
  pub absent : is_some (table_of store name) ≡ false
  pub distinct : are_distinct (names columns) ≡ true
  pub few : length columns ≤ column_limit
  pub room : length store < table_limit
  pub wide : list_any is_too_narrow columns ≡ false

pub neither : (b c : Bool) → (b || c) ≡ false → (b ≡ false) × (c ≡ false)
neither true c e = absurd (true≢false e)
neither false c e = (refl, e)

pub passes : (columns : List Header) (name : List ℕ) (store : Store) → first_that_holds (create_tests columns name store) ≡ None → Passes columns name store
passes columns name store none =
    let p = none_holds (create_tests columns name store) none in
    let within = neither (length columns == 0 || nat_lt column_limit (length columns)) (nat_le table_limit (length store)) p.1.1.0 in
    let fits = neither (length columns == 0) (nat_lt column_limit (length columns)) within.0 in
    record {
      some = more (length columns) fits.0;
      absent = p.0;
      distinct = not-false (are_distinct (names columns)) p.1.0;
      few = ltb-false column_limit (length columns) fits.1;
      room = leb-false table_limit (length store) within.1;
      wide = p.1.1.1.0;
    }

-- tests after others of which none holds
pub first-append_none : (a b : Tests) → first_that_holds a ≡ None → first_that_holds (a ++ b) ≡ first_that_holds b
first-append_none [] b e = refl
first-append_none (t ∷ a) b e =
    let p = if_none t.1 t.0 (first_that_holds a) e in
    ap (λ c. if c then Some t.0 else first_that_holds (a ++ b)) p.0 ∙ first-append_none a b p.1

pub first-append_some : (a b : Tests) (e : Refusal) → first_that_holds a ≡ Some e → first_that_holds (a ++ b) ≡ Some e
first-append_some [] b e h = cc
first-append_some (t ∷ a) b e h = if_some t.1 t.0 e (first_that_holds a) (first_that_holds (a ++ b)) (first-append_some a b e) h

-- what follows from the first test that holds, of some tests and one more
module _ (A : Type 0) (B : Refusal → Type 0) (early : Tests) (last : Refusal × Bool) where
  pub by_early : (x : Refusal) → first_that_holds early ≡ Some x → B x → MatchOption (first_that_holds (early ++ last ∷ [])) A B
  by_early x first here = subst (λ o. MatchOption o A B) (sym (first-append_some early (last ∷ []) x first)) here

  pub by_last : (x : Refusal) → first_that_holds early ≡ None → first_that_holds (last ∷ []) ≡ Some x → B x → MatchOption (first_that_holds (early ++ last ∷ [])) A B
  by_last x none first here = subst (λ o. MatchOption o A B) (sym (first-append_none early (last ∷ []) none ∙ first)) here

  pub by_none : first_that_holds early ≡ None → first_that_holds (last ∷ []) ≡ None → A → MatchOption (first_that_holds (early ++ last ∷ [])) A B
  by_none none also here = subst (λ o. MatchOption o A B) (sym (first-append_none early (last ∷ []) none ∙ also)) here
