-- What an UPDATE and a REBUILD answer by their tests.
-- of an UPDATE those that look at no row come first
use Rattle.std.proofs.Common.{◌≡◌, ◌∙◌, Bool, true, false, not, [], ◌∷◌, ◌++◌, None, Option, Some, Result, Ok, Err, IsErrAnd, inl, inr, sym, ap, ◌⊎◌}
use Rattle.bw_model.specs.Refusals.{Tests, first_that_holds}
use Rattle.bw_model.specs.declared.refusal.Refusal.{Refusal}
use Rattle.bw_model.specs.declared.refusal.Refusal.TheVariants.{LayoutTooNarrow, OutOfMemory, OutOfRange}
use Rattle.bw_plan.specs.Checks.{Answers, MayRefuse}
use Rattle.bw_plan.proofs.Tests.{first-append_none, first-append_some, no_test, this_test}
use Rattle.bw_engine.specs.Outcomes.{AnswersAfter}

module _ {T : Type 0} (early : Tests) where
  -- refused by what looks at no row
  pub after_early : (last : Refusal × Bool) (r : Result T Refusal) (P : T → Type 0) (x : Refusal) → MayRefuse early x → IsErrAnd r (λ e. e ≡ x) → AnswersAfter early (early ++ last ∷ []) r P
  after_early last (Ok y) P x may same = absurd same
  after_early last (Err e) P x may same =
      elim may [
        | inl p ↦ inl (p.0, same ∙ p.1)
        | inr p ↦ inr (first-append_some early (last ∷ []) x p ∙ ap (λ y. Some y) (sym same))
      ]

  -- it runs out of memory after it
  pub after_memory : (last : Refusal × Bool) (r : Result T Refusal) (P : T → Type 0) → first_that_holds early ≡ None → IsErrAnd r (λ e. e ≡ OutOfMemory) → AnswersAfter early (early ++ last ∷ []) r P
  after_memory last (Ok y) P none same = absurd same
  after_memory last (Err e) P none same = inl (none, same)

  -- a copied value is of another type, or it runs out of memory
  pub after_fault : (fit : Bool) (r : Result T Refusal) (P : T → Type 0) (x : Refusal) → first_that_holds early ≡ None → ((x ≡ OutOfMemory) ⊎ ((x ≡ OutOfRange) × (fit ≡ false))) → IsErrAnd r (λ e. e ≡ x)
      → AnswersAfter early (early ++ (OutOfRange, not fit) ∷ []) r P
  after_fault fit (Ok y) P x none may same = absurd same
  after_fault fit (Err e) P x none may same =
      elim may [
        | inl p ↦ inl (none, same ∙ p)
        | inr p ↦ inr (first-append_none early ((OutOfRange, not fit) ∷ []) none ∙ this_test (not fit) OutOfRange None (ap not p.1) ∙ ap (λ y. Some y) (sym (same ∙ p.0)))
      ]

pub after_none : (early : Tests) (fit : Bool) → first_that_holds early ≡ None → fit ≡ true → first_that_holds (early ++ (OutOfRange, not fit) ∷ []) ≡ None
after_none early fit none fits = first-append_none early ((OutOfRange, not fit) ∷ []) none ∙ no_test (not fit) OutOfRange None (ap not fits)

-- what a REBUILD answers by its tests: whether a layout is too narrow comes last, and before any memory
module _ (listed : Tests) (narrow : Bool) where
  pub chosen_narrow : first_that_holds listed ≡ None → narrow ≡ true → MayRefuse (listed ++ (LayoutTooNarrow, narrow) ∷ []) LayoutTooNarrow
  chosen_narrow none is = inr (first-append_none listed ((LayoutTooNarrow, narrow) ∷ []) none ∙ this_test narrow LayoutTooNarrow None is)

  pub chosen_passes : first_that_holds listed ≡ None → narrow ≡ false → first_that_holds (listed ++ (LayoutTooNarrow, narrow) ∷ []) ≡ None
  chosen_passes none is = first-append_none listed ((LayoutTooNarrow, narrow) ∷ []) none ∙ no_test narrow LayoutTooNarrow None is

  module _ {T : Type 0} where
    pub chosen_early : (r : Result T Refusal) (P : T → Type 0) (x : Refusal) → first_that_holds listed ≡ Some x → IsErrAnd r (λ e. e ≡ x) → Answers (listed ++ (LayoutTooNarrow, narrow) ∷ []) r P
    chosen_early (Ok y) P x first same = absurd same
    chosen_early (Err e) P x first same = inr (first-append_some listed ((LayoutTooNarrow, narrow) ∷ []) x first ∙ ap (λ y. Some y) (sym same))

    pub chosen_wants : (r : Result T Refusal) (P : T → Type 0) → first_that_holds listed ≡ None → narrow ≡ false → IsErrAnd r (λ e. e ≡ OutOfMemory) → Answers (listed ++ (LayoutTooNarrow, narrow) ∷ []) r P
    chosen_wants (Ok y) P none is same = absurd same
    chosen_wants (Err e) P none is same = inl (chosen_passes none is, same)

    pub chosen_placed : (r : Result T Refusal) (P : T → Type 0) (x : Refusal) → first_that_holds listed ≡ None → narrow ≡ false → MayRefuse listed x → IsErrAnd r (λ e. e ≡ x) → Answers (listed ++ (LayoutTooNarrow, narrow) ∷ []) r P
    chosen_placed (Ok y) P x none is may same = absurd same
    chosen_placed (Err e) P x none is may same =
        elim may [
          | inl p ↦ inl (chosen_passes none is, same ∙ p.1)
          | inr p ↦ absurd (no (sym none ∙ p))
        ]
      where
        no : ◌≡◌ {A = Option Refusal} None (Some x) → ⊥
        no q = cc
