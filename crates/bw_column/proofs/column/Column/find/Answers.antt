use Rattle.std.proofs.Common.{Bool, ap, arith, false, is_some, length, sym, true, ℕ, ◌&&◌, ◌≡◌, ◌∙◌}
use Rattle.std.proofs.lemmas.List.{length-replicate}
use Rattle.bw_mask.specs.Masks.{row_at}
use Rattle.bw_code.specs.Meters.{raised}
use Rattle.bw_column.specs.Comparisons.{holds_of}
use Rattle.bw_column.specs.Costs.{needed_known, units_of_test}
use Rattle.bw_column.specs.Storing.{list_of}
use Rattle.bw_column.specs.Values.{value_at}
use Rattle.bw_column.proofs.Rows.{known_rows}
use Rattle.bw_column.proofs.Scans.{all_there, both_there, known_true, met_true, same_rows}
use Rattle.bw_column.proofs.column.Column.find.Goals as goal

pub find_known-requires-clause-known : goal.find_known-requires-clause-known
find_known-requires-clause-known c i h =
    rw (← c.self.view_is) (sym (known_rows c.self.inside.encoding (list_of c.self.inside.codes) c.self.inside.nonnull c.self.invariant i) ∙ c.is_within.ensures.0 c.if-is_within.true i h)

pub returns-then-is_within-clause-found : goal.returns-then-is_within-clause-found
returns-then-is_within-clause-found c holds exact = record {
  len = c.find_known.ensures.len ∙ omega (arith, ap length c.in_ok-found.ensures, length-replicate c.len.result false, c.len.ensures.rows);
  rows = λ i. c.find_known.ensures.rows holds exact i ∙ met_true holds (row_at c.args.need.now i) (value_at c.args.self.now.values i);
}

pub returns-then-is_within-clause-units : goal.returns-then-is_within-clause-units
returns-then-is_within-clause-units c =
    let need = row_at c.args.need.now in
    let values = c.args.self.now.values in
    let there : (i : ℕ) → need i ≡ true → is_some (value_at values i) ≡ true = λ i h.
    rw (← c.self.view_is) (sym (known_rows c.self.inside.encoding (list_of c.self.inside.codes) c.self.inside.nonnull c.self.invariant i) ∙ c.is_within.ensures.0 c.if-is_within.true i h) in
    let rows : need ≡ needed_known c.args.need.now values = same_rows need (needed_known c.args.need.now values) (λ i. all_there (need i) (is_some (value_at values i)) (there i)) in
    c.find_known.ensures.units ∙ ap (λ (needed : ℕ → Bool). raised c.args.meter.now (units_of_test c.args.self.now c.args.test needed)) rows

pub find_known-requires-2-clause-known : goal.find_known-requires-2-clause-known
find_known-requires-2-clause-known c i h =
    let there = known_rows c.self.inside.encoding (list_of c.self.inside.codes) c.self.inside.nonnull c.self.invariant i in
    let both : (row_at c.args.need.now i && row_at c.self.inside.nonnull i) ≡ true = rw c.in_ok-known.ensures at (sym (c.and_in.ensures.rows i) ∙ h) in
    rw (← c.self.view_is) (sym there ∙ both_there (row_at c.args.need.now i) (row_at c.self.inside.nonnull i) both)

-- the rows that are scanned where some needed row is null
scanned : (c : goal.After-drop-known-inside) (i : ℕ) → row_at c.and_in.new.self i ≡ needed_known c.args.need.now c.args.self.now.values i
scanned c i =
    c.and_in.ensures.rows i
    ∙ rw (c.in_ok-known.ensures, ← c.self.view_is) (ap (λ b. row_at c.args.need.now i && b) (known_rows c.self.inside.encoding (list_of c.self.inside.codes) c.self.inside.nonnull c.self.invariant i))

pub returns-clause-found : goal.returns-clause-found
returns-clause-found c holds exact = record {
  len = c.find_known-2.ensures.len ∙ omega (arith, ap length c.in_ok-found.ensures, length-replicate c.len.result false, c.len.ensures.rows);
  rows = λ i.
      let value = value_at c.args.self.now.values i in
      c.find_known-2.ensures.rows holds exact i ∙ ap (λ b. b && holds_of holds value) (scanned c i) ∙ known_true holds (row_at c.args.need.now i) value;
}

pub returns-clause-units : goal.returns-clause-units
returns-clause-units c =
    let rows : row_at c.and_in.new.self ≡ needed_known c.args.need.now c.args.self.now.values = same_rows _ _ (scanned c) in
    c.find_known-2.ensures.units ∙ ap (λ (needed : ℕ → Bool). raised c.args.meter.now (units_of_test c.args.self.now c.args.test needed)) rows
