use Rattle.std.proofs.Common.{ap, arith, get_or, if◌then◌else◌, inl, inr, is_some, length, refl, subst, sym, true, ℕ, ◌+◌, ◌-◌, ◌<◌, ◌≡◌, ◌≤◌, ◌∙◌}
use Rattle.std.proofs.lemmas.Bool.{both_ways, cases_Bool, cases_lt}
use Rattle.bw_mask.specs.Masks.{bit_of, row_at}
use Rattle.bw_code.specs.Columns.{code_at, count, is_chosen}
use Rattle.bw_code.proofs.Lists.{made_at, made_len}
use Rattle.bw_code.proofs.Runs.{chosen_above, chosen_from, put_to}
use Rattle.bw_column.specs.Codes.{AreRowCodes, IsCoded, code_for}
use Rattle.bw_column.specs.Storing.{layout_of, list_of}
use Rattle.bw_column.specs.Values.{IsNullOrHeld}
use Rattle.bw_column.proofs.Changed.{code_fits}
use Rattle.bw_column.proofs.Chosen.{rows_chosen, values_chosen}
use Rattle.bw_column.proofs.column.Column.fill_rows.Goals as goal

pub fill_run-requires-clause-inside : goal.fill_run-requires-clause-inside
fill_run-requires-clause-inside c = grind (arith, made_len)

pub fill_run-requires-clause-there : goal.fill_run-requires-clause-there
fill_run-requires-clause-there c i t =
    let inside : c.args.at + c.args.n ≤ count (list_of c.self.inside.codes) = grind (arith, made_len) in
    elim (cases_lt i c.args.n) [
      | inl h ↦ omega (arith, inside, h)
      | inr h ↦ absurd (both_ways (bit_of c.args.rows i) (c.requires.given i h) t)
    ]

pub fill_run-requires-clause-fits : goal.fill_run-requires-clause-fits
fill_run-requires-clause-fits c =
    let e = c.self.inside.encoding in
    let is : c.args.code ≡ code_for e c.args.value = rw (← c.self.view_is) at c.requires.code in
    let coded : IsCoded e c.args.value = rw (← c.self.view_is) at c.requires.coded in
    rw (is, c.self.invariant.width) (code_fits e c.self.invariant.sound c.args.value coded)

pub put_presence-requires-clause-inside : goal.put_presence-requires-clause-inside
put_presence-requires-clause-inside c =
    let inside : c.args.at + c.args.n ≤ count (list_of c.self.inside.codes) = grind (arith, made_len) in
    omega (arith, inside, c.self.invariant.len)

-- each chosen row has the value's code, and is there as it is
abbrev Code : goal.After-put_presence → ℕ → Type 0
Code c j = code_at (list_of c.fill_run.new.self) j ≡ (if is_chosen c.args.at c.args.rows j then code_for c.self.inside.encoding c.args.value else code_at (list_of c.self.inside.codes) j)

code : (c : goal.After-put_presence) (j : ℕ) → j < count (list_of c.self.inside.codes) → Code c j
code c j h =
    let old = list_of c.self.inside.codes in
    let is : c.args.code ≡ code_for c.self.inside.encoding c.args.value = rw (← c.self.view_is) at c.requires.code in
    ap (λ xs. get_or xs j 0) c.fill_run.ensures.codes ∙ made_at (count old) (put_to old.codes c.args.at c.args.rows (λ _. c.args.code)) j 0 h
    ∙ ap (λ (x : ℕ). if is_chosen c.args.at c.args.rows j then x else code_at old j) is

abbrev Row : goal.After-put_presence → ℕ → Type 0
Row c j = row_at c.put_presence.new.nonnull j ≡ (if is_chosen c.args.at c.args.rows j then is_some c.args.value else row_at c.self.inside.nonnull j)

row : (c : goal.After-put_presence) (j : ℕ) → Row c j
row c j =
    let at = c.args.at in
    let rows = c.args.rows in
    c.put_presence.ensures.rows j
    ∙ elim (cases_Bool (is_chosen at rows j)) [
      | inl t ↦
          let bit : bit_of rows (j - at) ≡ true = sym (chosen_from at rows j (chosen_above at rows j t)) ∙ t in
          rw (t, c.present_rows.ensures (j - at), bit) refl
      | inr t ↦ rw t refl
    ]

many : (c : goal.After-put_presence) → count (list_of c.fill_run.new.self) ≡ count (list_of c.self.inside.codes)
many c =
    let old = list_of c.self.inside.codes in
    ap (length) c.fill_run.ensures.codes ∙ made_len (count old) (put_to old.codes c.args.at c.args.rows (λ _. c.args.code))

pub invariant_of-self : goal.invariant_of-self
invariant_of-self c =
    let e = c.self.inside.encoding in
    let value = c.args.value in
    let new = list_of c.fill_run.new.self in
    let coded : IsCoded e value = rw (← c.self.view_is) at c.requires.coded in
    let kept : IsNullOrHeld (layout_of c.self.inside.codes) value = rw (← c.self.view_is) at c.requires.held in
    subst (λ l. AreRowCodes l e new c.put_presence.new.nonnull) (sym c.fill_run.ensures.layout)
    (rows_chosen e (list_of c.self.inside.codes) new c.self.inside.nonnull c.put_presence.new.nonnull c.self.invariant c.fill_run.ensures.shape.width (is_chosen c.args.at c.args.rows) (λ _. value)
    (λ j t. coded) (λ j t. kept) (many c) c.put_presence.ensures.shape.0 (code c) (row c))

pub returns-clause-values : goal.returns-clause-values
returns-clause-values c =
    let e = c.self.inside.encoding in
    let value = c.args.value in
    let coded : IsCoded e value = rw (← c.self.view_is) at c.requires.coded in
    let kept : IsNullOrHeld (layout_of c.self.inside.codes) value = rw (← c.self.view_is) at c.requires.held in
    rw (← c.self.view_is) (values_chosen e (list_of c.self.inside.codes) (list_of c.fill_run.new.self) c.self.inside.nonnull c.put_presence.new.nonnull c.self.invariant c.fill_run.ensures.shape.width (is_chosen c.args.at c.args.rows) (λ _. value)
    (λ j t. coded) (λ j t. kept) (many c) c.put_presence.ensures.shape.0 (code c) (row c))
