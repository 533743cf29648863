-- A condition that is read is in the grammar.
use Rattle.std.proofs.Common.{◌≡◌, ◌∙◌, ℕ, ℤ, zero, suc, List, ◌∷◌, Option, Some, None, refl, sym, ap, subst}
use Rattle.bw_lex.specs.declared.token.Symbol.TheVariants as s
use Rattle.bw_sql.specs.declared.keyword.Keyword.TheVariants as k
use Rattle.bw_sql.specs.declared.terminal.Terminal.{Terminal}
use Rattle.bw_sql.specs.declared.terminal.Terminal.TheVariants as t
use Rattle.bw_sql.specs.declared.tree.Operand.{Operand}
use Rattle.bw_sql.specs.declared.tree.Operand.TheVariants.{Column, Constant}
use Rattle.bw_sql.specs.declared.tree.TruthWord.TheVariants.{True, False, Unknown}
use Rattle.bw_sql.specs.Tree.{ConditionTree, among, between, comparison, negated, null, tested}
use Rattle.bw_sql.specs.Grammar.{all_of, any_of, ListOf, ValuePart, OperandPart, constant, column_name, BoundsPart, bounds, RangePart, between_bounds, in_values, TailPart, compares, in_range, not_in_range, is_null, is_not_null, TruthPart, true_word, false_word, unknown_word, ConditionPart, run_of_or, TermsPart, last_term, or_term, TermPart, run_of_and, FactorsPart, last_factor, and_factor, FactorPart, plain, not, TestPart, untested, is_truth, is_not_truth, PrimaryPart, in_parentheses, predicate}
use Rattle.bw_sql.specs.Reading.{Read, after_and, after_close, after_null, after_open, after_or, among_at, bounds_at, closed, condition_at, condition_by, factor_by, is_at, null_at, operand_at, parts_at, predicate_at, primary_at, range_at, tail_at, term_by, test_by, tested_at, truth_at, value_at, values_at}
use Rattle.bw_sql.proofs.ListsSound.{IsSound, after_and-is, after_close-is, after_null-is, after_open-is, after_or-is, answers_once, bound, mapped, moved, separated_sound, value_sound, values_sound}

pub operand_sound : IsSound OperandPart operand_at
unfolding operand_at
operand_sound (t.Name name ∷ ts) x rest h = moved OperandPart (t.Name name ∷ ts) (Column name) x ts rest column_name h
operand_sound ts x rest h = mapped Constant OperandPart ts (value_at ts) x rest h (λ v reads. constant (value_sound ts v rest reads))

-- a BETWEEN of x
abbrev IsBetween : Operand → List Terminal → ConditionTree → List Terminal → Type 0
IsBetween x ts c rest = (low : Operand) × (high : Operand) × BoundsPart ts low high rest × (c ≡ between x low high)

both_bounds : (ts mid us rest : List Terminal) (low high : Operand) → OperandPart ts low mid → mid ≡ t.Keyword k.And ∷ us → OperandPart us high rest → BoundsPart ts low high rest
both_bounds ts mid us rest low high d is e = bounds (subst (OperandPart ts low) is d) e

bounds_sound : (x : Operand) → IsSound (IsBetween x) (bounds_at x)
unfolding bounds_at
bounds_sound x ts c rest h =
    let a = bound (operand_at ts) _ (c, rest) h in
    let b = bound (after_and a.0.1) _ (c, rest) a.2 in
    mapped (between x a.0.0) (λ _ d r. IsBetween x ts d r) b.0 (operand_at b.0) c rest b.2
    (λ high reads. (a.0.0, high, both_bounds ts a.0.1 b.0 rest a.0.0 high (operand_sound ts a.0.0 a.0.1 a.1) (after_and-is a.0.1 b.0 b.1) (operand_sound b.0 high rest reads), refl))

-- an IN of x
abbrev IsAmong : Operand → List Terminal → ConditionTree → List Terminal → Type 0
IsAmong x ts c rest = (values : List (Option ℤ)) × (us : List Terminal) × (ts ≡ t.Symbol s.Open ∷ us) × ListOf ValuePart us values (t.Symbol s.Close ∷ rest) × (c ≡ among x values)

among_closes : (x : Operand) (ts us : List Terminal) (values : List (Option ℤ)) (left : List Terminal) → ts ≡ t.Symbol s.Open ∷ us → ListOf ValuePart us values left → (next : Option (List Terminal)) → after_close left ≡ next → (c : ConditionTree) (rest : List Terminal) → closed (among x values) next ≡ Some (c, rest) → IsAmong x ts c rest
among_closes x ts us values left opens many None is c rest h = cc
among_closes x ts us values left opens many (Some mid) is c rest h =
    let e = answers_once (among x values) c mid rest h in
    (values, us, opens, subst (ListOf ValuePart us values) (after_close-is left mid is ∙ ap (λ l. t.Symbol s.Close ∷ l) e.1) many, sym e.0)

among_sound : (n : ℕ) (x : Operand) → IsSound (IsAmong x) (among_at n x)
unfolding among_at
among_sound n x ts c rest h =
    let a = bound (after_open ts) _ (c, rest) h in
    let b = bound (values_at n a.0) _ (c, rest) a.2 in
    among_closes x ts a.0 b.0.0 b.0.1 (after_open-is ts a.0 a.1) (values_sound n a.0 b.0.0 b.0.1 b.1) (after_close b.0.1) refl c rest b.2

among_part : (x : Operand) (ts : List Terminal) (c : ConditionTree) (rest : List Terminal) → IsAmong x ts c rest → RangePart x (t.Keyword k.In ∷ ts) c rest
among_part x ts c rest is = rw (is.2, is.4) (in_values is.3)

range_sound : (n : ℕ) (x : Operand) → IsSound (RangePart x) (range_at n x)
unfolding range_at
range_sound n x (t.Keyword k.Between ∷ ts) c rest h = let b = bounds_sound x ts c rest h in rw b.3 (between_bounds b.2)
range_sound n x (t.Keyword k.In ∷ ts) c rest h = among_part x ts c rest (among_sound n x ts c rest h)
range_sound n x _ c rest h = cc

not_null : (x : Operand) (ts us rest : List Terminal) (c : ConditionTree) → ts ≡ t.Keyword k.Null ∷ us → us ≡ rest → negated (null x) ≡ c → TailPart x (t.Keyword k.Is ∷ t.Keyword k.Not ∷ ts) c rest
not_null x ts us rest c is same e = rw (is, same, ← e) is_not_null

null_sound : (x : Operand) (ts : List Terminal) (c : ConditionTree) (rest : List Terminal) → null_at x ts ≡ Some (c, rest) → TailPart x (t.Keyword k.Is ∷ ts) c rest
unfolding null_at
null_sound x (t.Keyword k.Null ∷ ts) c rest h = moved (TailPart x) (t.Keyword k.Is ∷ t.Keyword k.Null ∷ ts) (null x) c ts rest is_null h
null_sound x (t.Keyword k.Not ∷ ts) c rest h =
    let a = bound (after_null ts) _ (c, rest) h in
    let e = answers_once (negated (null x)) c a.0 rest a.2 in
    not_null x ts a.0 rest c (after_null-is ts a.0 a.1) e.1 e.0
null_sound x _ c rest h = cc

tail_sound : (n : ℕ) (x : Operand) → IsSound (TailPart x) (tail_at n x)
unfolding tail_at
tail_sound n x (t.Symbol (s.Compare op) ∷ ts) c rest h = mapped (comparison x op) (TailPart x) (t.Symbol (s.Compare op) ∷ ts) (operand_at ts) c rest h (λ y reads. compares (operand_sound ts y rest reads))
tail_sound n x (t.Keyword k.Is ∷ ts) c rest h = null_sound x ts c rest h
tail_sound n x (t.Keyword k.Not ∷ ts) c rest h = mapped negated (TailPart x) (t.Keyword k.Not ∷ ts) (range_at n x ts) c rest h (λ d reads. not_in_range (range_sound n x ts d rest reads))
tail_sound n x ts c rest h = in_range (range_sound n x ts c rest h)

predicate_sound : (n : ℕ) → IsSound PrimaryPart (predicate_at n)
unfolding predicate_at
predicate_sound n ts c rest h =
    let b = bound (operand_at ts) _ (c, rest) h in
    predicate (operand_sound ts b.0.0 b.0.1 b.1) (tail_sound n b.0.0 b.0.1 c rest b.2)

truth_sound : IsSound TruthPart truth_at
unfolding truth_at
truth_sound (t.Keyword k.True ∷ ts) x rest h = moved TruthPart (t.Keyword k.True ∷ ts) True x ts rest true_word h
truth_sound (t.Keyword k.False ∷ ts) x rest h = moved TruthPart (t.Keyword k.False ∷ ts) False x ts rest false_word h
truth_sound (t.Keyword k.Unknown ∷ ts) x rest h = moved TruthPart (t.Keyword k.Unknown ∷ ts) Unknown x ts rest unknown_word h
truth_sound _ x rest h = cc

is_sound : (ts : List Terminal) (c : ConditionTree) (mid us : List Terminal) → PrimaryPart ts c mid → mid ≡ t.Keyword k.Is ∷ us → (d : ConditionTree) (rest : List Terminal) → is_at c us ≡ Some (d, rest) → TestPart ts d rest
unfolding is_at
is_sound ts c mid (t.Keyword k.Not ∷ us) first is d rest h =
    mapped (λ word. negated (tested c word)) (λ _ d r. TestPart ts d r) us (truth_at us) d rest h (λ word reads. is_not_truth (subst (PrimaryPart ts c) is first) (truth_sound us word rest reads))
is_sound ts c mid us first is d rest h =
    mapped (tested c) (λ _ d r. TestPart ts d r) us (truth_at us) d rest h (λ word reads. is_truth (subst (PrimaryPart ts c) is first) (truth_sound us word rest reads))

tested_sound : (ts : List Terminal) (c : ConditionTree) (mid : List Terminal) → PrimaryPart ts c mid → (d : ConditionTree) (rest : List Terminal) → tested_at c mid ≡ Some (d, rest) → TestPart ts d rest
unfolding tested_at
tested_sound ts c (t.Keyword k.Is ∷ us) first d rest h = is_sound ts c (t.Keyword k.Is ∷ us) us first refl d rest h
tested_sound ts c mid first d rest h = moved TestPart ts c d mid rest (untested first) h

module _ (primary : List Terminal → Read ConditionTree) (sound : IsSound PrimaryPart primary) where
  test_sound : IsSound TestPart (test_by primary)
  unfolding test_by
  test_sound ts c rest h =
      let b = bound (primary ts) (λ x. tested_at x.0 x.1) (c, rest) h in
      tested_sound ts b.0.0 b.0.1 (sound ts b.0.0 b.0.1 b.1) c rest b.2

  factor_sound : IsSound FactorPart (factor_by primary)
  unfolding factor_by
  factor_sound (t.Keyword k.Not ∷ ts) c rest h = mapped negated FactorPart (t.Keyword k.Not ∷ ts) (test_by primary ts) c rest h (λ x reads. not (test_sound ts x rest reads))
  factor_sound ts c rest h = plain (test_sound ts c rest h)

  factors_sound : (m : ℕ) → IsSound FactorsPart (parts_at after_and (factor_by primary) m)
  factors_sound = separated_sound after_and (factor_by primary) FactorPart FactorsPart factor_sound (λ ts x rest one. last_factor one) (λ ts rest mid left x xs one goes many. and_factor (subst (FactorPart ts x) (after_and-is rest mid goes) one) many)

  term_sound : (n : ℕ) → IsSound TermPart (term_by primary n)
  unfolding term_by
  term_sound n ts c rest h = mapped all_of TermPart ts (parts_at after_and (factor_by primary) n ts) c rest h (λ x reads. run_of_and (factors_sound n ts x rest reads))

  terms_sound : (n m : ℕ) → IsSound TermsPart (parts_at after_or (term_by primary n) m)
  terms_sound n = separated_sound after_or (term_by primary n) TermPart TermsPart (term_sound n) (λ ts x rest one. last_term one) (λ ts rest mid left x xs one goes many. or_term (subst (TermPart ts x) (after_or-is rest mid goes) one) many)

  condition_by_sound : (n : ℕ) → IsSound ConditionPart (condition_by primary n)
  unfolding condition_by
  condition_by_sound n ts c rest h = mapped any_of ConditionPart ts (parts_at after_or (term_by primary n) n ts) c rest h (λ x reads. run_of_or (terms_sound n n ts x rest reads))

closes : (ts : List Terminal) (x c : ConditionTree) (left rest : List Terminal) → ConditionPart ts x left → (next : Option (List Terminal)) → after_close left ≡ next → closed x next ≡ Some (c, rest) → PrimaryPart (t.Symbol s.Open ∷ ts) c rest
closes ts x c left rest inner None is h = cc
closes ts x c left rest inner (Some mid) is h =
    let e = answers_once x c mid rest h in
    rw (sym e.0, sym e.1) (in_parentheses (subst (ConditionPart ts x) (after_close-is left mid is) inner))

primary_sound : (n : ℕ) → IsSound PrimaryPart (primary_at n)
unfolding primary_at
primary_sound zero ts c rest h = cc
primary_sound (suc n) (t.Symbol s.Open ∷ ts) c rest h =
    let b = bound (condition_by (primary_at n) n ts) (λ x. closed x.0 (after_close x.1)) (c, rest) h in
    closes ts b.0.0 c b.0.1 rest (condition_by_sound (primary_at n) (primary_sound n) n ts b.0.0 b.0.1 b.1) (after_close b.0.1) refl b.2
primary_sound (suc n) ts c rest h = predicate_sound (suc n) ts c rest h

pub condition_sound : (n : ℕ) → IsSound ConditionPart (condition_at n)
unfolding condition_at
condition_sound n = condition_by_sound (primary_at n) (primary_sound n) n
