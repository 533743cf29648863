-- A need that shrinks: where a part settles a row, the parts after it are not asked there.
use Rattle.std.proofs.Common.{Bool, List, ap, ap₂, false, get_or, length, not, refl, sym, true, ℕ, ◌&&◌, ◌≡◌, ◌∙◌}
use Rattle.std.specs.Prelude.{if◌then◌else◌}
use Rattle.bw_mask.specs.Masks.{MaskRows, len, row_at}
use Rattle.bw_mask.specs.Truth.{and_of, is_of, is_value, not_of, or_of}
use Rattle.bw_mask.specs.Truths.{truth_at}
use Rattle.bw_mask.specs.declared.truth_value.TruthValue.{TruthValue}
use Rattle.bw_mask.specs.declared.truth_value.TruthValue.TheVariants.{False, True, Unknown}
use Rattle.bw_mask.proofs.Tables.{and_of_assoc, or_of_assoc}
use Rattle.bw_column.specs.Comparisons.{AreTruthsAt}

-- ---- one row

pub and_settles : (a p left : TruthValue) → and_of (and_of a (if not (is_value a False) then p else Unknown)) left ≡ and_of a (and_of p left)
and_settles True p left = refl
and_settles False p left = refl
and_settles Unknown p left = and_of_assoc Unknown p left

pub or_settles : (a p left : TruthValue) → or_of (or_of a (if not (is_value a True) then p else Unknown)) left ≡ or_of a (or_of p left)
or_settles True p left = refl
or_settles False p left = refl
or_settles Unknown p left = or_of_assoc Unknown p left

pub and_open : (a p : TruthValue) → (not (is_value a False) && not (is_value (and_of a (if not (is_value a False) then p else Unknown)) False)) ≡ not (is_value (and_of a (if not (is_value a False) then p else Unknown)) False)
and_open True p = refl
and_open False p = refl
and_open Unknown p = refl

pub or_open : (a p : TruthValue) → (not (is_value a True) && not (is_value (or_of a (if not (is_value a True) then p else Unknown)) True)) ≡ not (is_value (or_of a (if not (is_value a True) then p else Unknown)) True)
or_open True p = refl
or_open False p = refl
or_open Unknown p = refl

pub and_leaves : (a p : TruthValue) → (not (is_value a False) && not (is_value (and_of a (if not (is_value a False) then p else Unknown)) False)) ≡ (not (is_value a False) && not (is_value p False))
and_leaves True p = refl
and_leaves False p = refl
and_leaves Unknown True = refl
and_leaves Unknown False = refl
and_leaves Unknown Unknown = refl

pub or_leaves : (a p : TruthValue) → (not (is_value a True) && not (is_value (or_of a (if not (is_value a True) then p else Unknown)) True)) ≡ (not (is_value a True) && not (is_value p True))
or_leaves True p = refl
or_leaves False p = refl
or_leaves Unknown True = refl
or_leaves Unknown False = refl
or_leaves Unknown Unknown = refl

not_needed : (b : Bool) (t : TruthValue) → not_of (if b then t else Unknown) ≡ (if b then not_of t else Unknown)
not_needed true t = refl
not_needed false t = refl

is_needed : (b : Bool) (t value : TruthValue) → (if b then is_of (if b then t else Unknown) value else Unknown) ≡ (if b then is_of t value else Unknown)
is_needed true t value = refl
is_needed false t value = refl

-- ---- NOT, and an IS test

module _ (need : MaskRows) (f : ℕ → TruthValue) (truth new : List TruthValue) (are : AreTruthsAt need f truth) (same : length new ≡ length truth) where
  pub negated_at : ((i : ℕ) → truth_at new i ≡ not_of (truth_at truth i)) → AreTruthsAt need (λ i. not_of (f i)) new
  negated_at rows = record {
    len = same ∙ are.len;
    rows = λ i. rows i ∙ ap not_of (are.rows i) ∙ not_needed (row_at need i) (f i);
  }

  pub tested_at : (value : TruthValue) → ((i : ℕ) → truth_at new i ≡ (if row_at need i then is_of (truth_at truth i) value else Unknown)) → AreTruthsAt need (λ i. is_of (f i) value) new
  tested_at value rows = record {
    len = same ∙ are.len;
    rows = λ i. rows i ∙ ap (λ t. if row_at need i then is_of t value else Unknown) (are.rows i) ∙ is_needed (row_at need i) (f i) value;
  }

-- ---- a run

-- The truth of a run so far: with the parts that are left it gives the whole at each needed row, and the rows that are
-- still needed are those not settled.
pub record AreOpen (op : TruthValue → TruthValue → TruthValue) (stop : TruthValue) (need rest : MaskRows) (left whole : ℕ → TruthValue) (said truth : List TruthValue) : Type 0 where
  pub rest_len : len rest ≡ len need
  pub said_len : length said ≡ len need
  pub truth_len : length truth ≡ len need
  pub rest_rows : (i : ℕ) → row_at rest i ≡ (row_at need i && not (is_value (truth_at truth i) stop))
  pub whole_rows : (i : ℕ) → row_at need i ≡ true → op (truth_at truth i) (left i) ≡ whole i
  pub other_rows : (i : ℕ) → row_at need i ≡ false → truth_at truth i ≡ Unknown

module _ (op : TruthValue → TruthValue → TruthValue) (unit stop : TruthValue) (need : MaskRows) (whole : ℕ → TruthValue) where
  -- after the first part
  module _
      (all rest : MaskRows) (part left : ℕ → TruthValue) (said truth : List TruthValue) (same : all.rows ≡ need.rows) (are : AreTruthsAt need part truth) (said_len : length said ≡ len need)
      (rest_len : len rest ≡ len all) (rest_rows : (i : ℕ) → row_at rest i ≡ (row_at all i && not (is_value (truth_at truth i) stop)))
    where
      unsettled : (i : ℕ) → row_at rest i ≡ (row_at need i && not (is_value (truth_at truth i) stop))
      unsettled i = rest_rows i ∙ ap (λ rows. get_or rows i false && not (is_value (truth_at truth i) stop)) same

      pub open_first : ((i : ℕ) → op (part i) (left i) ≡ whole i) → AreOpen op stop need rest left whole said truth
      open_first splits = record {
        rest_len = rest_len ∙ ap length same;
        said_len = said_len;
        truth_len = are.len;
        rest_rows = unsettled;
        whole_rows = λ i e. ap (λ t. op t (left i)) (are.rows i ∙ ap (λ b. if b then part i else Unknown) e) ∙ splits i;
        other_rows = λ i e. are.rows i ∙ ap (λ b. if b then part i else Unknown) e;
      }

      -- the rows that are still needed are those that it does not settle
      pub rest_first : (i : ℕ) → row_at rest i ≡ (row_at need i && not (is_value (part i) stop))
      rest_first i = unsettled i ∙ ap (λ t. row_at need i && not (is_value t stop)) (are.rows i) ∙ by (row_at need i) (part i)
        where
          by : (b : Bool) (p : TruthValue) → (b && not (is_value (if b then p else Unknown) stop)) ≡ (b && not (is_value p stop))
          by true p = refl
          by false p = refl

  -- after one part more
  module _
      (settles : (a p left : TruthValue) → op (op a (if not (is_value a stop) then p else Unknown)) left ≡ op a (op p left))
      (open_rows : (a p : TruthValue) → (not (is_value a stop) && not (is_value (op a (if not (is_value a stop) then p else Unknown)) stop)) ≡ not (is_value (op a (if not (is_value a stop) then p else Unknown)) stop))
      (unknown : op Unknown Unknown ≡ Unknown)
    where
      pub open_next : (rest new_rest : MaskRows) (left part new_left : ℕ → TruthValue) (said new_said truth new_truth : List TruthValue) → AreOpen op stop need rest left whole said truth → AreTruthsAt rest part new_said
          → ((i : ℕ) → left i ≡ op (part i) (new_left i)) → length new_truth ≡ length truth → ((i : ℕ) → truth_at new_truth i ≡ op (truth_at truth i) (truth_at new_said i))
          → len new_rest ≡ len rest → ((i : ℕ) → row_at new_rest i ≡ (row_at rest i && not (is_value (truth_at new_truth i) stop))) → AreOpen op stop need new_rest new_left whole new_said new_truth
      open_next rest new_rest left part new_left said new_said truth new_truth so are splits truth_len truth_rows rest_len rest_rows = record {
        rest_len = rest_len ∙ so.rest_len;
        said_len = are.len ∙ so.rest_len;
        truth_len = truth_len ∙ so.truth_len;
        rest_rows = λ i. rest_rows i ∙ ap₂ (λ b t. b && not (is_value t stop)) (so.rest_rows i) (now i) ∙ shrinks (row_at need i) (truth_at truth i) (part i) ∙ ap (λ t. row_at need i && not (is_value t stop)) (sym (now i));
        whole_rows = λ i e. ap (λ t. op t (new_left i)) (now i ∙ ap (λ b. next b (truth_at truth i) (part i)) e) ∙ settles (truth_at truth i) (part i) (new_left i) ∙ ap (op (truth_at truth i)) (sym (splits i)) ∙ so.whole_rows i e;
        other_rows = λ i e. now i ∙ ap₂ (λ b t. next b t (part i)) e (so.other_rows i e) ∙ unknown;
      }
        where
          next : Bool → TruthValue → TruthValue → TruthValue
          next b a p = op a (if b && not (is_value a stop) then p else Unknown)

          now : (i : ℕ) → truth_at new_truth i ≡ next (row_at need i) (truth_at truth i) (part i)
          now i = truth_rows i ∙ ap (op (truth_at truth i)) (are.rows i ∙ ap (λ b. if b then part i else Unknown) (so.rest_rows i))

          shrinks : (b : Bool) (a p : TruthValue) → ((b && not (is_value a stop)) && not (is_value (next b a p) stop)) ≡ (b && not (is_value (next b a p) stop))
          shrinks true a p = open_rows a p
          shrinks false a p = refl

  -- after one part more, the rows that are still needed are those that it does not settle
  pub rest_next : ((a p : TruthValue) → (not (is_value a stop) && not (is_value (op a (if not (is_value a stop) then p else Unknown)) stop)) ≡ (not (is_value a stop) && not (is_value p stop)))
      → (rest new_rest : MaskRows) (left part : ℕ → TruthValue) (said new_said truth new_truth : List TruthValue) → AreOpen op stop need rest left whole said truth → AreTruthsAt rest part new_said
      → ((i : ℕ) → truth_at new_truth i ≡ op (truth_at truth i) (truth_at new_said i)) → ((i : ℕ) → row_at new_rest i ≡ (row_at rest i && not (is_value (truth_at new_truth i) stop))) → (i : ℕ) → row_at new_rest i ≡ (row_at rest i && not (is_value (part i) stop))
  rest_next leaves rest new_rest left part said new_said truth new_truth so are truth_rows rest_rows i =
      rest_rows i ∙ ap (λ t. row_at rest i && not (is_value t stop)) (truth_rows i ∙ ap (op (truth_at truth i)) (are.rows i))
      ∙ ap (λ b. b && not (is_value (op (truth_at truth i) (if b then part i else Unknown)) stop)) (so.rest_rows i) ∙ by (row_at need i) (truth_at truth i) (part i) ∙ ap (λ b. b && not (is_value (part i) stop)) (sym (so.rest_rows i))
    where
      by : (b : Bool) (a p : TruthValue) → ((b && not (is_value a stop)) && not (is_value (op a (if b && not (is_value a stop) then p else Unknown)) stop)) ≡ ((b && not (is_value a stop)) && not (is_value p stop))
      by true a p = leaves a p
      by false a p = refl

  -- after the last part
  pub open_last : ((t : TruthValue) → op t unit ≡ t) → (rest : MaskRows) (left : ℕ → TruthValue) (said truth : List TruthValue) → AreOpen op stop need rest left whole said truth → ((i : ℕ) → left i ≡ unit) → AreTruthsAt need whole truth
  open_last neutral rest left said truth so none = record {
    len = so.truth_len;
    rows = λ i. by i (row_at need i) refl;
  }
    where
      by : (i : ℕ) (b : Bool) → row_at need i ≡ b → truth_at truth i ≡ (if row_at need i then whole i else Unknown)
      by i true e = sym (neutral (truth_at truth i)) ∙ ap (op (truth_at truth i)) (sym (none i)) ∙ so.whole_rows i e ∙ sym (ap (λ b. if b then whole i else Unknown) e)
      by i false e = so.other_rows i e ∙ sym (ap (λ b. if b then whole i else Unknown) e)
