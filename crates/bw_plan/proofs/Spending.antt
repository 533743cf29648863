-- What the parts of a run read, one after the other.
use Rattle.std.proofs.Common.{Bool, List, ap, arith, drop, drop-cons, get_or, length, length-drop, map, not, suc, sym, take, ℕ, ◌&&◌, ◌+◌, ◌-◌, ◌<◌, ◌≤◌, ◌∷◌, ◌≡◌, ◌∙◌, refl}
use Rattle.std.proofs.lemmas.List.{take_all}
use Rattle.bw_mask.specs.Truth.{is_value}
use Rattle.bw_mask.specs.declared.truth_value.TruthValue.TheVariants.{False, True}
use Rattle.bw_code.specs.Meters.{raised}
use Rattle.bw_table.specs.Slots.{SlotsView}
use Rattle.bw_plan.specs.Costs.{units_by, units_of_each, units_of_some}
use Rattle.bw_plan.specs.Operands.{truth_in}
use Rattle.bw_plan.specs.Plans.{Plan, Plans, more, plan_of, plans_of}
use Rattle.bw_plan.specs.declared.plan.RowCondition.{RowCondition}

raised_twice : (m a b : ℕ) → raised (raised m a) b ≡ raised m (a + b)
raised_twice m a b = omega arith

-- a meter to which what another tells is added
pub raised_by_read : (m a : ℕ) → raised m (raised 0 a) ≡ raised m a
raised_by_read m a = omega arith

-- a meter that was raised is within its greatest value
pub raised_within : (new m a : ℕ) → new ≡ raised m a → new ≡ raised new 0
raised_within new m a is = omega (arith, is)

module _ (units : Plan → (ℕ → Bool) → ℕ) (units_of_run : Plans → (ℕ → Bool) → ℕ) (rest_of : Plan → (ℕ → Bool) → ℕ → Bool) (opens : (p : Plan) (ps : Plans) (needed : ℕ → Bool) → units_of_run (more p ps) needed ≡ units p needed + units_of_run ps (rest_of p needed)) where
  -- a meter that was raised by one part, and is to be raised by the parts after it
  run_units : (items : List RowCondition) (n : ℕ) (d part : RowCondition) (needed next : ℕ → Bool) (cost new : ℕ) → n < length items → part ≡ get_or items n d → ((i : ℕ) → next i ≡ rest_of (plan_of part) needed i) → new ≡ raised cost (units (plan_of part) needed)
      → raised new (units_of_run (plans_of (map plan_of (drop (n + 1) items))) next) ≡ raised cost (units_of_run (plans_of (map plan_of (drop n items))) needed)
  run_units items n d part needed next cost new within is same grown =
      let later = plans_of (map plan_of (drop (n + 1) items)) in
      let rows : next ≡ rest_of (plan_of part) needed = λ t i. same i t in
      ap (λ m. raised m (units_of_run later next)) grown
      ∙ raised_twice cost (units (plan_of part) needed) (units_of_run later next)
      ∙ ap (λ (f : ℕ → Bool). raised cost (units (plan_of part) needed + units_of_run later f)) rows
      ∙ ap (raised cost) (sym (opens (plan_of part) later needed))
      ∙ ap (λ (p : RowCondition). raised cost (units_of_run (more (plan_of p) later) needed)) is
      ∙ ap (λ (xs : List RowCondition). raised cost (units_of_run (plans_of (map plan_of xs)) needed)) (sym (drop_one items n d within))
    where
      drop_one : (xs : List RowCondition) (n : ℕ) (d : RowCondition) → n < length xs → drop n xs ≡ get_or xs n d ∷ drop (n + 1) xs
      drop_one xs n d l = let next : suc n ≡ n + 1 = omega arith in drop-cons xs n d l ∙ ap (λ m. get_or xs n d ∷ drop m xs) next

module _ (view : SlotsView) where
  pub each_units : (items : List RowCondition) (n : ℕ) (d part : RowCondition) (needed next : ℕ → Bool) (cost new : ℕ) → n < length items → part ≡ get_or items n d → ((i : ℕ) → next i ≡ (needed i && not (is_value (truth_in (plan_of part) view.slots i) False)))
      → new ≡ raised cost (units_by (plan_of part) view needed) → raised new (units_of_each (plans_of (map plan_of (drop (n + 1) items))) view next) ≡ raised cost (units_of_each (plans_of (map plan_of (drop n items))) view needed)
  each_units = run_units (λ p needed. units_by p view needed) (λ ps needed. units_of_each ps view needed) (λ p needed i. needed i && not (is_value (truth_in p view.slots i) False)) (λ p ps needed. refl)

  pub some_units : (items : List RowCondition) (n : ℕ) (d part : RowCondition) (needed next : ℕ → Bool) (cost new : ℕ) → n < length items → part ≡ get_or items n d → ((i : ℕ) → next i ≡ (needed i && not (is_value (truth_in (plan_of part) view.slots i) True)))
      → new ≡ raised cost (units_by (plan_of part) view needed) → raised new (units_of_some (plans_of (map plan_of (drop (n + 1) items))) view next) ≡ raised cost (units_of_some (plans_of (map plan_of (drop n items))) view needed)
  some_units = run_units (λ p needed. units_by p view needed) (λ ps needed. units_of_some ps view needed) (λ p needed i. needed i && not (is_value (truth_in p view.slots i) True)) (λ p ps needed. refl)

-- all but the first
pub others : (items : List RowCondition) → 1 ≤ length items → take (length items - 1) (drop 1 items) ≡ drop (0 + 1) items
others items within = take_all (length items - 1) (drop 1 items) (omega (arith, length-drop 1 items))
