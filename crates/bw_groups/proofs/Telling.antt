-- What is told of each group, one row further.
use Rattle.std.proofs.Common.{All, Bool, List, None, Option, Some, [], ap, append-nil, append_assoc, arith, cond, false, get_or, inl, inr, length, refl, set, subst, sym, take, true, ℕ, ℤ, ◌++◌, ◌+◌, ◌<◌, ◌==◌, ◌∙◌, ◌∷◌, ◌≡◌, ◌≤◌, ◌≤ℤ◌}
use Rattle.std.proofs.lemmas.Bool.{cases_eq}
use Rattle.std.proofs.lemmas.Bool.Decides.{nat_tests}
use Rattle.std.proofs.lemmas.Int.{ints}
use Rattle.std.proofs.lemmas.Grind.{get_or-set_at}
use Rattle.std.proofs.lemmas.List.{get_or-set_other, length-append, length-set, length-take-le, take_more}
use Rattle.std.proofs.lemmas.List.Elements.{All-cons, All-nil, filter_map-append}
use Rattle.std.proofs.lemmas.List.Sums.{count_by-le-length}
use Rattle.bw_cells.specs.SetFunctions.{known}
use Rattle.bw_code.specs.Fittings.{AreEnds}
use Rattle.bw_groups.specs.Folding.{AreFolds}
use Rattle.bw_groups.specs.Grouping.{members}
use Rattle.bw_groups.proofs.Members.{known_few, members-push}

-- a null adds nothing, in whichever group
null_adds : (xs : List ℤ) (b : Bool) → xs ++ known (cond b (None ∷ []) []) ≡ xs
null_adds xs true = append-nil xs
null_adds xs false = append-nil xs

one_more : {A : Type 0} (xs ys : List A) (i : ℕ) (d : A) → i < length ys → xs ++ take (i + 1) ys ≡ (xs ++ take i ys) ++ get_or ys i d ∷ []
one_more xs ys i d low = ap (λ zs. xs ++ zs) (take_more ys i d low) ∙ sym (append_assoc xs (take i ys) (get_or ys i d ∷ []))

-- rows and their values, and then row i of a run
module _ (rows ranks : List ℕ) (values run : List (Option ℤ)) (before : length values ≡ length rows) (as_many : length run ≡ length ranks) (i : ℕ) (l : i < length ranks) where
  abbrev q : ℕ
  q = get_or ranks i 0

  abbrev so_far : ℕ → List ℤ
  so_far g = known (members (rows ++ take i ranks) (values ++ take i run) g)

  abbrev then_on : ℕ → List ℤ
  then_on g = known (members (rows ++ take (i + 1) ranks) (values ++ take (i + 1) run) g)

  long : length (rows ++ take i ranks) ≡ length (values ++ take i run)
  long =
      let a = length-append rows (take i ranks) in
      let b = length-append values (take i run) in
      let c = length-take-le i ranks (omega (arith, l)) in
      let d = length-take-le i run (omega (arith, l, as_many)) in
      omega (arith, a, b, c, d, before)

  then_is : (g : ℕ) → then_on g ≡ so_far g ++ known (cond (q == g) (get_or run i None ∷ []) [])
  then_is g =
      ap (λ xs. known (members xs (values ++ take (i + 1) run) g)) (one_more rows ranks i 0 l)
      ∙ ap (λ ys. known (members ((rows ++ take i ranks) ++ q ∷ []) ys g)) (one_more values run i None (omega (arith, l, as_many)))
      ∙ ap known (members-push g (rows ++ take i ranks) (values ++ take i run) q (get_or run i None) long)
      ∙ filter_map-append (λ value. value) (members (rows ++ take i ranks) (values ++ take i run) g) (cond (q == g) (get_or run i None ∷ []) [])

  -- no group has more values than there are rows
  pub few : (g : ℕ) → length (so_far g) ≤ length rows + i
  few g =
      let a = known_few g (rows ++ take i ranks) (values ++ take i run) in
      let b = count_by-le-length (λ r. r == g) (rows ++ take i ranks) in
      let c = length-append rows (take i ranks) in
      let d = length-take-le i ranks (omega (arith, l)) in
      omega (arith, a, b, c, d)

  module _ {F : Type 0} (tells : F → List ℤ → Type 0) (folds : List F) (are : AreFolds tells (rows ++ take i ranks) (values ++ take i run) folds) where
    pub after_same : (fold : F) → get_or run i None ≡ None → tells fold (so_far q) → AreFolds tells (rows ++ take (i + 1) ranks) (values ++ take (i + 1) run) (set folds q fold)
    after_same fold is told g d h =
        let keeps : then_on g ≡ so_far g = then_is g ∙ ap (λ v. so_far g ++ known (cond (q == g) (v ∷ []) [])) is ∙ null_adds (so_far g) (q == g) in
        elim (cases_eq g q) [
          | inl same ↦
              let low : q < length folds = omega (arith, h, wide, same) in
              subst (λ f. tells f (then_on g)) (sym (get_or-set_at folds q g fold d same low)) (subst (tells fold) (ap so_far (sym same) ∙ sym keeps) told)
          | inr other ↦
              let low : g < length folds = omega (arith, h, wide) in
              subst (λ f. tells f (then_on g)) (sym (get_or-set_other folds q g fold d other)) (subst (tells (get_or folds g d)) (sym keeps) (are g d low))
        ]
      where
        wide : length (set folds q fold) ≡ length folds
        wide = length-set folds q fold

    pub after_value : (x : ℤ) (fold : F) → get_or run i None ≡ Some x → tells fold (so_far q ++ x ∷ []) → AreFolds tells (rows ++ take (i + 1) ranks) (values ++ take (i + 1) run) (set folds q fold)
    after_value x fold is told g d h =
        elim (cases_eq g q) [
          | inl same ↦
              let low : q < length folds = omega (arith, h, wide, same) in
              let test : (q == g) ≡ true = grind (arith, nat_tests, same) in
              let here = then_is g ∙ ap (λ v. so_far g ++ known (cond (q == g) (v ∷ []) [])) is ∙ ap (λ b. so_far g ++ known (cond b (Some x ∷ []) [])) test in
              subst (λ f. tells f (then_on g)) (sym (get_or-set_at folds q g fold d same low)) (subst (tells fold) (ap (λ m. so_far m ++ x ∷ []) (sym same) ∙ sym here) told)
          | inr other ↦
              let low : g < length folds = omega (arith, h, wide) in
              let test : (q == g) ≡ false = grind (arith, nat_tests, other) in
              let keeps = then_is g ∙ ap (λ b. so_far g ++ known (cond b (get_or run i None ∷ []) [])) test ∙ append-nil (so_far g) in
              subst (λ f. tells f (then_on g)) (sym (get_or-set_other folds q g fold d other)) (subst (tells (get_or folds g d)) (sym keeps) (are g d low))
        ]
      where
        wide : length (set folds q fold) ≡ length folds
        wide = length-set folds q fold

-- before any row
pub before_any : {F : Type 0} (tells : F → List ℤ → Type 0) (rows : List ℕ) (values : List (Option ℤ)) (folds : List F) → rows ≡ [] → values ≡ [] → All (λ fold. tells fold []) folds → AreFolds tells rows values folds
before_any tells rows values folds no_rows no_values none g d h =
    let nothing = ap (λ rs. known (members rs values g)) no_rows ∙ ap (λ (vs : List (Option ℤ)). known (members [] vs g)) no_values in
    subst (tells (get_or folds g d)) (sym nothing) (none g d h)

-- one value is both ends
pub single_ends : (x : ℤ) → AreEnds (x ∷ []) (Some (record { least = x; greatest = x }))
single_ends x = (
  record { reached = (0, (omega arith), refl); bound = All-cons (λ y. x ≤ℤ y) x [] (omega (arith, ints)) (All-nil (λ y. x ≤ℤ y)) },
  record { reached = (0, (omega arith), refl); bound = All-cons (λ y. y ≤ℤ x) x [] (omega (arith, ints)) (All-nil (λ y. y ≤ℤ x)) },
)
