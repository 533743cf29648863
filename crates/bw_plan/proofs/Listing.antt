-- IN over a list of entries of which some may be null, by the numbers among them.
use Rattle.std.proofs.Common.{Bool, List, None, Some, [], ap, ap₂, arith, false, length, refl, sym, true, ℕ, ℤ, ◌<◌, ◌||◌, ◌∷◌, ◌≡◌, ◌∙◌}
use Rattle.std.specs.Prelude.{if◌then◌else◌, is_none}
use Rattle.std.specs.List.{list_any}
use Rattle.std.specs.Ordering.{int_eq}
use Rattle.bw_mask.specs.Masks.{MaskRows, row_at}
use Rattle.bw_mask.specs.Truth.{or_of, truth_of_bool}
use Rattle.bw_mask.specs.Truths.{truth_at}
use Rattle.bw_mask.specs.declared.truth_value.TruthValue.{TruthValue}
use Rattle.bw_mask.specs.declared.truth_value.TruthValue.TheVariants.{False, True, Unknown}
use Rattle.bw_lex.specs.declared.token.CompareOp.TheVariants.{Eq}
use Rattle.bw_column.specs.Comparisons.{AreTruthsAt, is_listed}
use Rattle.bw_column.specs.Values.{known}
use Rattle.bw_model.specs.Condition.{is_one_of}
use Rattle.bw_model.specs.Store.{Value}
use Rattle.bw_plan.proofs.Comparing.{order_is}

-- what null entries leave open
abbrev left_open : Bool → TruthValue
left_open null = if null then Unknown else False

none_of : (b null : Bool) → or_of Unknown (or_of (truth_of_bool b) (left_open null)) ≡ or_of (truth_of_bool b) Unknown
none_of true null = refl
none_of false true = refl
none_of false false = refl

one_more : (e b null : Bool) → or_of (truth_of_bool e) (or_of (truth_of_bool b) (left_open null)) ≡ or_of (truth_of_bool (e || b)) (left_open null)
one_more true b null = refl
one_more false b null = refl

listed : (x : ℤ) (entries : List Value) → is_one_of (Some x) entries ≡ or_of (truth_of_bool (list_any (λ entry. int_eq x entry) (known entries))) (left_open (list_any is_none entries))
listed x [] = refl
listed x (None ∷ entries) = ap (or_of Unknown) (listed x entries) ∙ none_of (list_any (λ entry. int_eq x entry) (known entries)) (list_any is_none entries)
listed x (Some y ∷ entries) =
    ap₂ or_of (ap truth_of_bool (order_is Eq x y)) (listed x entries)
    ∙ one_more (int_eq x y) (list_any (λ entry. int_eq x entry) (known entries)) (list_any is_none entries)

null_listed : (entries : List Value) → 0 < length entries → is_one_of None entries ≡ Unknown
null_listed [] some = absurd (omega (arith, some))
null_listed (entry ∷ []) some = refl
null_listed (entry ∷ next ∷ entries) some = ap (or_of Unknown) (null_listed (next ∷ entries) (omega arith))

all_or_unknown : (t : TruthValue) → or_of t False ≡ t
all_or_unknown True = refl
all_or_unknown False = refl
all_or_unknown Unknown = refl

-- what a scan for the numbers says of a value, and what null entries leave open
said : (entries : List Value) (value : Value) → 0 < length entries → or_of (is_listed (known entries) value) (left_open (list_any is_none entries)) ≡ is_one_of value entries
said entries None some = by (list_any is_none entries) ∙ sym (null_listed entries some)
  where
    by : (null : Bool) → or_of Unknown (left_open null) ≡ Unknown
    by true = refl
    by false = refl
said entries (Some x) some = sym (listed x entries)

needed_open : (need : Bool) (t : TruthValue) → or_of (if need then t else Unknown) Unknown ≡ (if need then or_of t Unknown else Unknown)
needed_open true t = refl
needed_open false t = refl

module _ (need : MaskRows) (entries : List Value) (some : 0 < length entries) (values : ℕ → Value) (numbers : List ℤ) (known_are : numbers ≡ known entries) (truths : List TruthValue) (are : AreTruthsAt need (λ i. is_listed numbers (values i)) truths) where
  row : (null : Bool) → list_any is_none entries ≡ null → (i : ℕ) → or_of (is_listed numbers (values i)) (left_open null) ≡ is_one_of (values i) entries
  row null is i = rw (← is, known_are) (said entries (values i) some)

  -- no entry is null
  pub all_listed : list_any is_none entries ≡ false → AreTruthsAt need (λ i. is_one_of (values i) entries) truths
  all_listed none = record {
    len = are.len;
    rows = λ i. are.rows i ∙ ap (λ t. if row_at need i then t else Unknown) (sym (all_or_unknown (is_listed numbers (values i))) ∙ row false none i);
  }

  -- an entry is null
  pub some_listed : (open_truths : List TruthValue) → list_any is_none entries ≡ true → length open_truths ≡ length truths → ((i : ℕ) → truth_at open_truths i ≡ or_of (truth_at truths i) Unknown) → AreTruthsAt need (λ i. is_one_of (values i) entries) open_truths
  some_listed open_truths null long rows = record {
    len = long ∙ are.len;
    rows = λ i.
        rows i ∙ ap (λ t. or_of t Unknown) (are.rows i) ∙ needed_open (row_at need i) (is_listed numbers (values i))
        ∙ ap (λ t. if row_at need i then t else Unknown) (row true null i);
  }
