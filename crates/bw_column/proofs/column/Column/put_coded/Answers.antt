use Rattle.std.proofs.Common.{All, ap, arith, get_or, if◌then◌else◌, is_some, length, refl, subst, sym, ℕ, ◌+◌, ◌-◌, ◌<◌, ◌≡◌, ◌≤◌, ◌∙◌, None, Option, List, ℤ, inl, inr}
use Rattle.std.proofs.lemmas.Bool.{cases_Bool}
use Rattle.bw_mask.specs.Masks.{bit_of, row_at}
use Rattle.bw_code.specs.Columns.{code_at, count, is_chosen}
use Rattle.bw_code.proofs.Lists.{made_at, made_len}
use Rattle.bw_code.proofs.Runs.{put_to}
use Rattle.bw_column.specs.Codes.{AreRowCodes, IsCoded, IsRowCode, code_for}
use Rattle.bw_column.specs.Storing.{layout_of, list_of}
use Rattle.bw_column.specs.Values.{IsNullOrHeld, value_at}
use Rattle.bw_column.proofs.Blocks.{row, rows, rows_coded, rows_codes, rows_fit}
use Rattle.bw_column.proofs.Chosen.{code_any, holds_any, rows_chosen, values_chosen}
use Rattle.bw_column.proofs.Filled.{chosen_among}
use Rattle.bw_column.proofs.Rows.{there}
use Rattle.bw_column.proofs.column.Column.put_coded.Goals as goal

pub put_run-requires-clause-there : goal.put_run-requires-clause-there
put_run-requires-clause-there c = grind (arith, made_len)

pub put_run-requires-clause-fit : goal.put_run-requires-clause-fit
put_run-requires-clause-fit c =
    let e = c.self.inside.encoding in
    let codes = c.args.codes.now in
    let each : (k : ℕ) → k < length codes → IsRowCode e (get_or codes k 0) (bit_of c.args.present k) = rw (← c.self.view_is) at c.requires.each in
    rw c.self.invariant.width (rows_fit e c.self.invariant.sound codes c.args.present each)

pub put_presence-requires-clause-inside : goal.put_presence-requires-clause-inside
put_presence-requires-clause-inside c =
    let inside : c.args.at + length c.args.codes.now ≤ count (list_of c.self.inside.codes) = grind (arith, made_len) in
    omega (arith, inside, c.self.invariant.len)

abbrev taken : goal.After-put_presence → List (Option ℤ)
taken c = rows c.self.inside.encoding c.args.codes.now c.args.present

each_row : (c : goal.After-put_presence) (k : ℕ) → k < length c.args.codes.now → IsRowCode c.self.inside.encoding (get_or c.args.codes.now k 0) (bit_of c.args.present k)
each_row c = rw (← c.self.view_is) at c.requires.each

coded : (c : goal.After-put_presence) (j : ℕ) → IsCoded c.self.inside.encoding (value_at (taken c) (j - c.args.at))
coded c j =
    holds_any (IsCoded c.self.inside.encoding) (taken c) tt (rows_coded c.self.inside.encoding c.self.invariant.sound c.args.codes.now c.args.present (each_row c)) (j - c.args.at)

kept : (c : goal.After-put_presence) (j : ℕ) → IsNullOrHeld (layout_of c.self.inside.codes) (value_at (taken c) (j - c.args.at))
kept c j =
    let all : All (IsNullOrHeld (layout_of c.self.inside.codes)) (taken c) = rw (← c.self.view_is) at c.requires.held in
    holds_any (IsNullOrHeld (layout_of c.self.inside.codes)) (taken c) tt all (j - c.args.at)

many : (c : goal.After-put_presence) → count (list_of c.put_run.new.self) ≡ count (list_of c.self.inside.codes)
many c =
    let old = list_of c.self.inside.codes in
    ap length c.put_run.ensures.codes ∙ made_len (count old) (put_to old.codes c.args.at c.args.rows (λ j. get_or c.args.codes.now (j - c.args.at) 0))

abbrev Code : goal.After-put_presence → ℕ → Type 0
Code c j = code_at (list_of c.put_run.new.self) j ≡ (if is_chosen c.args.at c.args.rows j then code_for c.self.inside.encoding (value_at (taken c) (j - c.args.at)) else code_at (list_of c.self.inside.codes) j)

code : (c : goal.After-put_presence) (j : ℕ) → j < count (list_of c.self.inside.codes) → Code c j
code c j h =
    let e = c.self.inside.encoding in
    let codes = c.args.codes.now in
    let at = c.args.at in
    let old = list_of c.self.inside.codes in
    let is : get_or codes (j - at) 0 ≡ code_for e (value_at (taken c) (j - at)) = ap (λ xs. get_or xs (j - at) 0) (rows_codes e c.self.invariant.sound codes c.args.present (each_row c)) ∙ code_any e (taken c) (j - at) in
    ap (λ xs. get_or xs j 0) c.put_run.ensures.codes ∙ made_at (count old) (put_to old.codes at c.args.rows (λ i. get_or codes (i - at) 0)) j 0 h
    ∙ ap (λ (x : ℕ). if is_chosen at c.args.rows j then x else code_at old j) is

abbrev Row : goal.After-put_presence → ℕ → Type 0
Row c j = row_at c.put_presence.new.nonnull j ≡ (if is_chosen c.args.at c.args.rows j then is_some (value_at (taken c) (j - c.args.at)) else row_at c.self.inside.nonnull j)

present : (c : goal.After-put_presence) (j : ℕ) → Row c j
present c j =
    let e = c.self.inside.encoding in
    let codes = c.args.codes.now in
    let word = c.args.present in
    let at = c.args.at in
    c.put_presence.ensures.rows j
    ∙ elim (cases_Bool (is_chosen at c.args.rows j)) [
      | inl t ↦
          let here = chosen_among at c.args.rows (length codes) j c.requires.given t in
          let is : bit_of word (j - at) ≡ is_some (value_at (taken c) (j - at)) = there e (get_or codes (j - at) 0) (bit_of word (j - at)) ∙ ap is_some (sym (made_at (length codes) (row e codes word) (j - at) None here.1)) in
          rw (t, is) refl
      | inr t ↦ rw t refl
    ]

pub invariant_of-self : goal.invariant_of-self
invariant_of-self c =
    let e = c.self.inside.encoding in
    let new = list_of c.put_run.new.self in
    subst (λ l. AreRowCodes l e new c.put_presence.new.nonnull) (sym c.put_run.ensures.layout)
    (rows_chosen e (list_of c.self.inside.codes) new c.self.inside.nonnull c.put_presence.new.nonnull c.self.invariant c.put_run.ensures.shape.width (is_chosen c.args.at c.args.rows) (λ j. value_at (taken c) (j - c.args.at))
    (λ j t. coded c j) (λ j t. kept c j) (many c) c.put_presence.ensures.shape.0 (code c) (present c))

pub returns-clause-values : goal.returns-clause-values
returns-clause-values c =
    let e = c.self.inside.encoding in
    rw (← c.self.view_is) (values_chosen e (list_of c.self.inside.codes) (list_of c.put_run.new.self) c.self.inside.nonnull c.put_presence.new.nonnull c.self.invariant c.put_run.ensures.shape.width (is_chosen c.args.at c.args.rows) (λ j. value_at (taken c) (j - c.args.at))
    (λ j t. coded c j) (λ j t. kept c j) (many c) c.put_presence.ensures.shape.0 (code c) (present c))
