-- A condition that is in the grammar is read, where it can't go on.
use Rattle.std.proofs.Common.{◌≡◌, ◌∙◌, ℕ, ℤ, ◌<◌, zero, suc, List, [], ◌∷◌, length, Option, Some, None, refl, ap, arith}
use Rattle.bw_lex.specs.declared.token.Symbol.TheVariants as s
use Rattle.bw_sql.specs.declared.keyword.Keyword.TheVariants as k
use Rattle.bw_sql.specs.declared.terminal.Terminal.{Terminal}
use Rattle.bw_sql.specs.declared.terminal.Terminal.TheVariants as t
use Rattle.bw_sql.specs.declared.tree.Operand.{Operand}
use Rattle.bw_sql.specs.declared.tree.Operand.TheVariants.{Constant}
use Rattle.bw_sql.specs.declared.tree.TruthWord.{TruthWord}
use Rattle.bw_sql.specs.Tree.{ConditionTree, among, between, negated, tested}
use Rattle.bw_sql.specs.Grammar.{ListOf, LiteralPart, number, plus, minus, ValuePart, null_value, literal_value, OperandPart, constant, column_name, BoundsPart, bounds, RangePart, between_bounds, in_values, TailPart, compares, in_range, not_in_range, is_null, is_not_null, TruthPart, true_word, false_word, unknown_word, ConditionPart, run_of_or, TermsPart, last_term, or_term, TermPart, run_of_and, FactorsPart, last_factor, and_factor, FactorPart, plain, not, TestPart, untested, is_truth, is_not_truth, PrimaryPart, in_parentheses, predicate}
use Rattle.bw_sql.specs.Reading.{Read, after_and, after_or, among_at, bounds_at, condition_by, factor_by, is_at, null_at, operand_at, parts_at, predicate_at, primary_at, range_at, tail_at, term_by, test_by, tested_at, truth_at, with_first}
use Rattle.bw_sql.proofs.ListsComplete.{parts_at-last, parts_at-more, value_reads, value_shorter, values_read, values_shorter}

pub operand_shorter : {ts rest : List Terminal} {x : Operand} → OperandPart ts x rest → length rest < length ts
operand_shorter (constant {v} {ts} {rest} d) = value_shorter ts rest v d
operand_shorter column_name = omega arith

bounds_shorter : {ts rest : List Terminal} {x y : Operand} → BoundsPart ts x y rest → length rest < length ts
bounds_shorter (bounds d e) = omega (arith, operand_shorter d, operand_shorter e)

range_shorter : {ts rest : List Terminal} {x : Operand} {c : ConditionTree} → RangePart x ts c rest → length rest < length ts
range_shorter (between_bounds d) = omega (arith, bounds_shorter d)
range_shorter (in_values d) = omega (arith, values_shorter d)

tail_shorter : {ts rest : List Terminal} {x : Operand} {c : ConditionTree} → TailPart x ts c rest → length rest < length ts
tail_shorter (compares d) = omega (arith, operand_shorter d)
tail_shorter (in_range d) = range_shorter d
tail_shorter (not_in_range d) = omega (arith, range_shorter d)
tail_shorter is_null = omega arith
tail_shorter is_not_null = omega arith

truth_shorter : {ts rest : List Terminal} {word : TruthWord} → TruthPart ts word rest → length rest < length ts
truth_shorter true_word = omega arith
truth_shorter false_word = omega arith
truth_shorter unknown_word = omega arith

-- a spelling has a terminal
mutual
  condition_shorter : {ts rest : List Terminal} {c : ConditionTree} → ConditionPart ts c rest → length rest < length ts
  condition_shorter (run_of_or d) = terms_shorter d

  terms_shorter : {ts rest : List Terminal} {cs : List ConditionTree} → TermsPart ts cs rest → length rest < length ts
  terms_shorter (last_term d) = term_shorter d
  terms_shorter (or_term d ds) = omega (arith, term_shorter d, terms_shorter ds)

  term_shorter : {ts rest : List Terminal} {c : ConditionTree} → TermPart ts c rest → length rest < length ts
  term_shorter (run_of_and d) = factors_shorter d

  factors_shorter : {ts rest : List Terminal} {cs : List ConditionTree} → FactorsPart ts cs rest → length rest < length ts
  factors_shorter (last_factor d) = factor_shorter d
  factors_shorter (and_factor d ds) = omega (arith, factor_shorter d, factors_shorter ds)

  factor_shorter : {ts rest : List Terminal} {c : ConditionTree} → FactorPart ts c rest → length rest < length ts
  factor_shorter (plain d) = test_shorter d
  factor_shorter (not d) = omega (arith, test_shorter d)

  test_shorter : {ts rest : List Terminal} {c : ConditionTree} → TestPart ts c rest → length rest < length ts
  test_shorter (untested d) = primary_shorter d
  test_shorter (is_truth d e) = omega (arith, primary_shorter d, truth_shorter e)
  test_shorter (is_not_truth d e) = omega (arith, primary_shorter d, truth_shorter e)

  primary_shorter : {ts rest : List Terminal} {c : ConditionTree} → PrimaryPart ts c rest → length rest < length ts
  primary_shorter (in_parentheses d) = omega (arith, condition_shorter d)
  primary_shorter (predicate d e) = omega (arith, operand_shorter d, tail_shorter e)

-- a value doesn't begin with a name
literal_operand : (ts rest : List Terminal) (z : ℤ) → LiteralPart ts z rest → (v : Option ℤ) → ValuePart ts v rest → operand_at ts ≡ Some (Constant v, rest)
unfolding operand_at
literal_operand ts rest z (number {n} h) v d = rw (value_reads ts rest v d) refl
literal_operand ts rest z (plus {n} h) v d = rw (value_reads ts rest v d) refl
literal_operand ts rest z (minus {n} h) v d = rw (value_reads ts rest v d) refl

pub operand_reads : {ts rest : List Terminal} {x : Operand} → OperandPart ts x rest → operand_at ts ≡ Some (x, rest)
unfolding operand_at
operand_reads (constant {v} {ts} {rest} null_value) = rw (value_reads ts rest v null_value) refl
operand_reads (constant {v} {ts} {rest} (literal_value {z} d)) = literal_operand ts rest z d v (literal_value d)
operand_reads column_name = refl

bounds_read : {ts rest : List Terminal} {low high : Operand} (x : Operand) → BoundsPart ts low high rest → bounds_at x ts ≡ Some (between x low high, rest)
unfolding bounds_at
bounds_read x (bounds d e) = rw (operand_reads d) (rw (operand_reads e) refl)

among_reads : {ts rest : List Terminal} {values : List (Option ℤ)} (x : Operand) (n : ℕ) → ListOf ValuePart ts values (t.Symbol s.Close ∷ rest) → length ts < n → among_at n x (t.Symbol s.Open ∷ ts) ≡ Some (among x values, rest)
unfolding among_at
among_reads x n d h = rw (values_read d refl n h) refl

range_reads : {ts rest : List Terminal} {x : Operand} {c : ConditionTree} → RangePart x ts c rest → (n : ℕ) → length ts < n → range_at n x ts ≡ Some (c, rest)
unfolding range_at
range_reads (between_bounds {x} d) n h = bounds_read x d
range_reads (in_values {x} d) n h = among_reads x n d (omega arith)

-- BETWEEN and IN are no IS, no NOT and no comparison
range_plain : {ts rest : List Terminal} {x : Operand} {c : ConditionTree} (n : ℕ) → RangePart x ts c rest → tail_at n x ts ≡ range_at n x ts
unfolding tail_at
range_plain n (between_bounds d) = refl
range_plain n (in_values d) = refl

tail_reads : {ts rest : List Terminal} {x : Operand} {c : ConditionTree} → TailPart x ts c rest → (n : ℕ) → length ts < n → tail_at n x ts ≡ Some (c, rest)
unfolding tail_at null_at
tail_reads (compares d) n h = rw (operand_reads d) refl
tail_reads (in_range d) n h = range_plain n d ∙ range_reads d n h
tail_reads (not_in_range d) n h = rw (range_reads d n (omega arith)) refl
tail_reads is_null n h = refl
tail_reads is_not_null n h = refl

-- no IS is next
abbrev pub after_is : List Terminal → Option (List Terminal)
after_is (t.Keyword k.Is ∷ ts) = Some ts
after_is _ = None

untested_at : (c : ConditionTree) (rest : List Terminal) → after_is rest ≡ None → tested_at c rest ≡ Some (c, rest)
unfolding tested_at
untested_at c [] h = refl
untested_at c (t.Keyword k.Is ∷ ts) h = cc
untested_at c (_ ∷ ts) h = refl

truth_reads : {ts rest : List Terminal} {word : TruthWord} (c : ConditionTree) → TruthPart ts word rest → is_at c ts ≡ Some (tested c word, rest)
unfolding is_at truth_at
truth_reads c true_word = refl
truth_reads c false_word = refl
truth_reads c unknown_word = refl

not_truth_reads : {ts rest : List Terminal} {word : TruthWord} (c : ConditionTree) → TruthPart ts word rest → is_at c (t.Keyword k.Not ∷ ts) ≡ Some (negated (tested c word), rest)
unfolding is_at truth_at
not_truth_reads c true_word = refl
not_truth_reads c false_word = refl
not_truth_reads c unknown_word = refl

-- no operand begins with (
literal_first : (ts rest : List Terminal) (z : ℤ) (n : ℕ) → LiteralPart ts z rest → primary_at (suc n) ts ≡ predicate_at (suc n) ts
unfolding primary_at
literal_first ts rest z n (number h) = refl
literal_first ts rest z n (plus h) = refl
literal_first ts rest z n (minus h) = refl

operand_first : {ts mid : List Terminal} {x : Operand} (n : ℕ) → OperandPart ts x mid → primary_at (suc n) ts ≡ predicate_at (suc n) ts
unfolding primary_at
operand_first n (constant null_value) = refl
operand_first n (constant {v} {ts} {rest} (literal_value {z} d)) = literal_first ts rest z n d
operand_first n column_name = refl

-- nor with NOT
literal_plain : (ts rest : List Terminal) (z : ℤ) (primary : List Terminal → Read ConditionTree) → LiteralPart ts z rest → factor_by primary ts ≡ test_by primary ts
unfolding factor_by
literal_plain ts rest z primary (number h) = refl
literal_plain ts rest z primary (plus h) = refl
literal_plain ts rest z primary (minus h) = refl

operand_plain : {ts mid : List Terminal} {x : Operand} (primary : List Terminal → Read ConditionTree) → OperandPart ts x mid → factor_by primary ts ≡ test_by primary ts
unfolding factor_by
operand_plain primary (constant null_value) = refl
operand_plain primary (constant {v} {ts} {rest} (literal_value {z} d)) = literal_plain ts rest z primary d
operand_plain primary column_name = refl

primary_plain : {ts rest : List Terminal} {c : ConditionTree} (primary : List Terminal → Read ConditionTree) → PrimaryPart ts c rest → factor_by primary ts ≡ test_by primary ts
unfolding factor_by
primary_plain primary (in_parentheses d) = refl
primary_plain primary (predicate d e) = operand_plain primary d

factor_by-plain : {ts rest : List Terminal} {c : ConditionTree} (primary : List Terminal → Read ConditionTree) → TestPart ts c rest → factor_by primary ts ≡ test_by primary ts
factor_by-plain primary (untested d) = primary_plain primary d
factor_by-plain primary (is_truth d e) = primary_plain primary d
factor_by-plain primary (is_not_truth d e) = primary_plain primary d

-- with enough fuel, a spelling is read where it can't go on
mutual
  unfolding condition_by term_by factor_by test_by tested_at primary_at predicate_at

  pub condition_reads : {ts rest : List Terminal} {c : ConditionTree} → ConditionPart ts c rest → after_is rest ≡ None → after_and rest ≡ None → after_or rest ≡ None → (n : ℕ) → length ts < n → condition_by (primary_at n) n ts ≡ Some (c, rest)
  condition_reads (run_of_or d) no_is no_and no_or n h = rw (terms_read d no_is no_and no_or n n h h) refl

  terms_read : {ts rest : List Terminal} {cs : List ConditionTree} → TermsPart ts cs rest → after_is rest ≡ None → after_and rest ≡ None → after_or rest ≡ None → (n m : ℕ) → length ts < n → length ts < m → parts_at after_or (term_by (primary_at n) n) m ts ≡ Some (cs, rest)
  terms_read d no_is no_and no_or n zero h j = absurd (omega arith)
  terms_read (last_term {c} {ts} {rest} d) no_is no_and no_or n (suc m) h j =
      parts_at-last after_or (term_by (primary_at n) n) m ts rest c (term_reads d no_is no_and n h) no_or
  terms_read (or_term {c} {cs} {ts} {mid} {rest} d ds) no_is no_and no_or n (suc m) h j =
      parts_at-more after_or (term_by (primary_at n) n) m ts (t.Keyword k.Or ∷ mid) mid c (term_reads d refl refl n h) refl
      ∙ ap (with_first c) (terms_read ds no_is no_and no_or n m (omega (arith, term_shorter d)) (omega (arith, term_shorter d)))

  term_reads : {ts rest : List Terminal} {c : ConditionTree} → TermPart ts c rest → after_is rest ≡ None → after_and rest ≡ None → (n : ℕ) → length ts < n → term_by (primary_at n) n ts ≡ Some (c, rest)
  term_reads (run_of_and d) no_is no_and n h = rw (factors_read d no_is no_and n n h h) refl

  factors_read : {ts rest : List Terminal} {cs : List ConditionTree} → FactorsPart ts cs rest → after_is rest ≡ None → after_and rest ≡ None → (n m : ℕ) → length ts < n → length ts < m → parts_at after_and (factor_by (primary_at n)) m ts ≡ Some (cs, rest)
  factors_read d no_is no_and n zero h j = absurd (omega arith)
  factors_read (last_factor {c} {ts} {rest} d) no_is no_and n (suc m) h j =
      parts_at-last after_and (factor_by (primary_at n)) m ts rest c (factor_reads d no_is n h) no_and
  factors_read (and_factor {c} {cs} {ts} {mid} {rest} d ds) no_is no_and n (suc m) h j =
      parts_at-more after_and (factor_by (primary_at n)) m ts (t.Keyword k.And ∷ mid) mid c (factor_reads d refl n h) refl
      ∙ ap (with_first c) (factors_read ds no_is no_and n m (omega (arith, factor_shorter d)) (omega (arith, factor_shorter d)))

  factor_reads : {ts rest : List Terminal} {c : ConditionTree} → FactorPart ts c rest → after_is rest ≡ None → (n : ℕ) → length ts < n → factor_by (primary_at n) ts ≡ Some (c, rest)
  factor_reads (plain d) no_is n h = factor_by-plain (primary_at n) d ∙ test_reads d no_is n h
  factor_reads (not d) no_is n h = rw (test_reads d no_is n (omega arith)) refl

  test_reads : {ts rest : List Terminal} {c : ConditionTree} → TestPart ts c rest → after_is rest ≡ None → (n : ℕ) → length ts < n → test_by (primary_at n) ts ≡ Some (c, rest)
  test_reads (untested {c} {ts} {rest} d) no_is n h = rw (primary_reads d n h) (untested_at c rest no_is)
  test_reads (is_truth {c} {word} {ts} {mid} {rest} d e) no_is n h = rw (primary_reads d n h) (truth_reads c e)
  test_reads (is_not_truth {c} {word} {ts} {mid} {rest} d e) no_is n h = rw (primary_reads d n h) (not_truth_reads c e)

  primary_reads : {ts rest : List Terminal} {c : ConditionTree} → PrimaryPart ts c rest → (n : ℕ) → length ts < n → primary_at n ts ≡ Some (c, rest)
  primary_reads d zero h = absurd (omega arith)
  primary_reads (in_parentheses d) (suc n) h = rw (condition_reads d refl refl refl n (omega arith)) refl
  primary_reads (predicate d e) (suc n) h =
      operand_first n d ∙ rw (operand_reads d) (tail_reads e (suc n) (omega (arith, operand_shorter d)))
