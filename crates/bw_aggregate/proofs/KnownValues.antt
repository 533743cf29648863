-- The values of some rows that are not null, by the codes of these rows.
use Rattle.std.proofs.Common.{count_by, inl, inr, pow_pos, subst, ◌<◌, ◌^◌, Bool, List, None, Option, Some, [], ap, arith, false, get_or, length, map, refl, suc, sym, true, zero, ℕ, ℤ, ◌&&◌, ◌≡◌, ◌∙◌, ◌∷◌}
use Rattle.std.proofs.lemmas.Bool.{cases_lt}
use Rattle.std.proofs.lemmas.List.{get_or_past}
use Rattle.std.proofs.lemmas.List.Elements.{All-cons, All-head, All-nil, All-tail}
use Rattle.std.specs.List.{items_where_true}
use Rattle.std.specs.Prelude.{All, is_some}
use Rattle.bw_code.specs.Encodings.{IsEncoding, code_of, value_of, width}
use Rattle.bw_code.specs.declared.encoding.Encoding.{Encoding}
use Rattle.bw_code.proofs.Codes.{code_back, code_low}
use Rattle.bw_column.specs.Codes.{IsCoded, code_for}
use Rattle.bw_column.proofs.Rows.{code_is}
use Rattle.bw_column.specs.Values.{value_at}
use Rattle.bw_cells.specs.SetFunctions.{known}
use Rattle.bw_aggregate.proofs.Counting.{common, common_at, common_len, count_no, count_yes}
use Rattle.bw_aggregate.proofs.Values.{IsOwn}

-- the rows that are in, without those that are null
abbrev pub AreKnown : List Bool → List Bool → List (Option ℤ) → Type 0
AreKnown keep rows values = (r : ℕ) → get_or keep r false ≡ (get_or rows r false && is_some (value_at values r))

-- each value has its code
abbrev pub AreCoded : Encoding → List (Option ℤ) → Type 0
AreCoded e values = (r : ℕ) (x : ℤ) → value_at values r ≡ Some x → code_of e x ≡ Some (code_for e (Some x))

module _ (e : Encoding) (sound : IsEncoding e) where
  pub known_is : (keep rows : List Bool) (values : List (Option ℤ)) → length keep ≡ length values → length rows ≡ length values → AreKnown keep rows values → AreCoded e values
      → known (items_where_true rows values) ≡ map (value_of e) (items_where_true keep (map (code_for e) values))
  known_is [] [] [] a b each coded = refl
  known_is [] (m ∷ rows) [] a b each coded = absurd (omega (arith, b))
  known_is (k ∷ keep) rows [] a b each coded = absurd (omega (arith, a))
  known_is [] rows (v ∷ values) a b each coded = absurd (omega (arith, a))
  known_is (k ∷ keep) [] (v ∷ values) a b each coded = absurd (omega (arith, b))
  known_is (k ∷ keep) (true ∷ rows) (Some x ∷ values) a b each coded =
      let rest = known_is keep rows values (omega (arith, a)) (omega (arith, b)) (λ r. each (suc r)) (λ r. coded (suc r)) in
      let here : k ≡ true = each 0 in
      let back = code_back e sound x (code_for e (Some x)) (coded 0 x refl) in
      rw (here, back, rest) refl
  known_is (k ∷ keep) (true ∷ rows) (None ∷ values) a b each coded =
      let rest = known_is keep rows values (omega (arith, a)) (omega (arith, b)) (λ r. each (suc r)) (λ r. coded (suc r)) in
      let here : k ≡ false = each 0 in
      rw (here, rest) refl
  known_is (k ∷ keep) (false ∷ rows) (v ∷ values) a b each coded =
      let rest = known_is keep rows values (omega (arith, a)) (omega (arith, b)) (λ r. each (suc r)) (λ r. coded (suc r)) in
      let here : k ≡ false = each 0 in
      rw (here, rest) refl

  -- and each of these codes is that of its value
  pub all_own : (keep rows : List Bool) (values : List (Option ℤ)) → length keep ≡ length values → length rows ≡ length values → AreKnown keep rows values → AreCoded e values
      → All (IsOwn e) (items_where_true keep (map (code_for e) values))
  all_own [] [] [] a b each coded = All-nil (IsOwn e)
  all_own [] (m ∷ rows) [] a b each coded = absurd (omega (arith, b))
  all_own (k ∷ keep) rows [] a b each coded = absurd (omega (arith, a))
  all_own [] rows (v ∷ values) a b each coded = absurd (omega (arith, a))
  all_own (k ∷ keep) [] (v ∷ values) a b each coded = absurd (omega (arith, b))
  all_own (k ∷ keep) (true ∷ rows) (Some x ∷ values) a b each coded =
      let rest = all_own keep rows values (omega (arith, a)) (omega (arith, b)) (λ r. each (suc r)) (λ r. coded (suc r)) in
      let here : k ≡ true = each 0 in
      let code = code_for e (Some x) in
      let own : IsOwn e code = ap (code_of e) (code_back e sound x code (coded 0 x refl)) ∙ coded 0 x refl in
      rw here (All-cons (IsOwn e) code (items_where_true keep (map (code_for e) values)) own rest)
  all_own (k ∷ keep) (true ∷ rows) (None ∷ values) a b each coded =
      let here : k ≡ false = each 0 in
      rw here (all_own keep rows values (omega (arith, a)) (omega (arith, b)) (λ r. each (suc r)) (λ r. coded (suc r)))
  all_own (k ∷ keep) (false ∷ rows) (v ∷ values) a b each coded =
      let here : k ≡ false = each 0 in
      rw here (all_own keep rows values (omega (arith, a)) (omega (arith, b)) (λ r. each (suc r)) (λ r. coded (suc r)))

  -- a value that is there has its code, where each has one
  pub coded_all : (values : List (Option ℤ)) → All (IsCoded e) values → AreCoded e values
  coded_all values all r x is =
      elim (cases_lt r (length values)) [
        | inl there ↦ code_is e sound x (subst (IsCoded e) is (all r None there))
        | inr past ↦ let none = get_or_past values r None past in absurd (let both = sym none ∙ is in cc)
      ]

  code_low_of : (value : Option ℤ) → IsCoded e value → code_for e value < 2 ^ width e
  code_low_of None h = pow_pos (width e)
  code_low_of (Some x) h = code_low e sound x (code_for e (Some x)) (code_is e sound x h)

  pub codes_low : (values : List (Option ℤ)) → All (IsCoded e) values → All (λ c. c < 2 ^ width e) (map (code_for e) values)
  codes_low [] all = All-nil (λ c. c < 2 ^ width e)
  codes_low (v ∷ values) all = All-cons (λ c. c < 2 ^ width e) (code_for e v) (map (code_for e) values) (code_low_of v (All-head (IsCoded e) v values all)) (codes_low values (All-tail (IsCoded e) v values all))

pub code_of_row : (e : Encoding) (values : List (Option ℤ)) (r : ℕ) → get_or (map (code_for e) values) r 0 ≡ code_for e (value_at values r)
code_of_row e [] r = refl
code_of_row e (v ∷ values) zero = refl
code_of_row e (v ∷ values) (suc r) = code_of_row e values r

-- so many rows as values
pub count_known : (keep rows : List Bool) (values : List (Option ℤ)) → length keep ≡ length values → length rows ≡ length values → AreKnown keep rows values
    → count_by (λ b. b) keep ≡ length (known (items_where_true rows values))
count_known [] [] [] a b each = refl
count_known [] (m ∷ rows) [] a b each = absurd (omega (arith, b))
count_known (k ∷ keep) rows [] a b each = absurd (omega (arith, a))
count_known [] rows (v ∷ values) a b each = absurd (omega (arith, a))
count_known (k ∷ keep) [] (v ∷ values) a b each = absurd (omega (arith, b))
count_known (k ∷ keep) (true ∷ rows) (Some x ∷ values) a b each =
    let rest = count_known keep rows values (omega (arith, a)) (omega (arith, b)) (λ r. each (suc r)) in
    let here : k ≡ true = each 0 in
    count_yes (λ (c : Bool). c) k keep here ∙ omega (arith, rest)
count_known (k ∷ keep) (true ∷ rows) (None ∷ values) a b each =
    let here : k ≡ false = each 0 in
    count_no (λ (c : Bool). c) k keep here ∙ count_known keep rows values (omega (arith, a)) (omega (arith, b)) (λ r. each (suc r))
count_known (k ∷ keep) (false ∷ rows) (v ∷ values) a b each =
    let here : k ≡ false = each 0 in
    count_no (λ (c : Bool). c) k keep here ∙ count_known keep rows values (omega (arith, a)) (omega (arith, b)) (λ r. each (suc r))

pub both_known : (rows nonnull : List Bool) (values : List (Option ℤ)) → length rows ≡ length values → ((r : ℕ) → get_or nonnull r false ≡ is_some (value_at values r))
    → count_by (λ b. b) (common rows nonnull) ≡ length (known (items_where_true rows values))
both_known rows nonnull values e each =
    count_known (common rows nonnull) rows values (common_len rows nonnull ∙ e) e (λ r. common_at rows nonnull r ∙ ap (λ b. get_or rows r false && b) (each r))

-- what holds of each value holds of the value of each code that is chosen
module _ (e : Encoding) (sound : IsEncoding e) (P : ℤ → Type 0) where
  pub all_of_known : (keep rows : List Bool) (values : List (Option ℤ)) → length keep ≡ length values → length rows ≡ length values → AreKnown keep rows values → AreCoded e values
      → ((r : ℕ) (x : ℤ) → value_at values r ≡ Some x → P x) → All (λ c. P (value_of e c)) (items_where_true keep (map (code_for e) values))
  all_of_known [] [] [] a b each coded all = All-nil (λ c. P (value_of e c))
  all_of_known [] (m ∷ rows) [] a b each coded all = absurd (omega (arith, b))
  all_of_known (k ∷ keep) rows [] a b each coded all = absurd (omega (arith, a))
  all_of_known [] rows (v ∷ values) a b each coded all = absurd (omega (arith, a))
  all_of_known (k ∷ keep) [] (v ∷ values) a b each coded all = absurd (omega (arith, b))
  all_of_known (k ∷ keep) (true ∷ rows) (Some x ∷ values) a b each coded all =
      let rest = all_of_known keep rows values (omega (arith, a)) (omega (arith, b)) (λ r. each (suc r)) (λ r. coded (suc r)) (λ r. all (suc r)) in
      let here : k ≡ true = each 0 in
      let code = code_for e (Some x) in
      let holds : P (value_of e code) = subst P (sym (code_back e sound x code (coded 0 x refl))) (all 0 x refl) in
      rw here (All-cons (λ c. P (value_of e c)) code (items_where_true keep (map (code_for e) values)) holds rest)
  all_of_known (k ∷ keep) (true ∷ rows) (None ∷ values) a b each coded all =
      let here : k ≡ false = each 0 in
      rw here (all_of_known keep rows values (omega (arith, a)) (omega (arith, b)) (λ r. each (suc r)) (λ r. coded (suc r)) (λ r. all (suc r)))
  all_of_known (k ∷ keep) (false ∷ rows) (v ∷ values) a b each coded all =
      let here : k ≡ false = each 0 in
      rw here (all_of_known keep rows values (omega (arith, a)) (omega (arith, b)) (λ r. each (suc r)) (λ r. coded (suc r)) (λ r. all (suc r)))
