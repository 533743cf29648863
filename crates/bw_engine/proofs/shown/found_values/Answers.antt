use Rattle.std.proofs.Common.{[], ap, append-nil, arith, count_by, drop, false, inl, inr, length, length-append, length-drop, length-take, min, sym, ◌%◌, ◌++◌, ◌+◌, ◌-◌, ◌<◌, ◌≤◌, ℕ, ◌∙◌, ◌≡◌}
use Rattle.std.proofs.lemmas.Bool.{cases_Bool}
use Rattle.bw_mask.specs.Masks.{MaskRows, len, row_at}
use Rattle.bw_column.proofs.Filled.{some_set}
use Rattle.bw_column.proofs.Overwriting.{below_len}
use Rattle.bw_engine.specs.Runs.{lines_from, slot_line}
use Rattle.bw_engine.proofs.RunLaws.{lines_join, lines_none, lines_where}
use Rattle.bw_engine.proofs.shown.found_values.Goals as goal

pub loop-slot-preserved : goal.loop-slot-preserved
loop-slot-preserved c =
    let line = slot_line c.args.places.now c.args.table.now.slots in
    let passes = row_at c.args.found.now in
    let at = c.loop-slot.at in
    let is = c.in-Some.ensures in
    let slot = c.in-Some.slot in
    let start = slot - slot % 64 in
    let total = length c.args.table.now.slots in
    let n = min (total - start) 64 in
    let next = c.min-at.result in
    let runs = c.loop-slot.runs in
    let new = c.show_slots.new.runs in
    let old = c.loop-slot.invariant in
    let low : slot < len c.args.found.now = below_len c.args.found.now slot is.1 in
    let whole : at % 64 ≡ 0 = old.whole (omega (arith, low, is.0)) in
    let after : at ≤ start = omega (arith, is.0, whole) in
    let gap : lines_from line passes 0 start ≡ lines_from line passes 0 at =
    lines_join line passes at (start - at) 0 start at (omega (arith, after)) (omega arith)
    ∙ ap (λ l. lines_from line passes 0 at ++ l) (lines_none line passes (start - at) at (λ i h. is.2 (at + i) (omega arith) (omega (arith, h, after))))
    ∙ append-nil (lines_from line passes 0 at) in
    let more : lines_from line passes 0 next ≡ lines_from line passes 0 start ++ lines_from line passes start n =
    lines_join line passes start n 0 next start (omega (arith, low, c.requires.found, c.min-at.ensures, c.len-end.ensures)) (omega arith) in
    record {
      at = omega (arith, low, c.min-at.ensures, c.len-end.ensures);
      whole = λ h. omega (arith, h, c.min-at.ensures, c.len-end.ensures);
      count =
          omega (arith, length-take runs.len (new ++ drop (length new) runs.items), length-append new (drop (length new) runs.items), length-drop (length new) runs.items, c.in_ok-show_slots.ensures.runs, ap length c.deref_mut.ensures.value, runs.ok.0, old.count);
      values = c.in_ok-show_slots.ensures.values ∙ ap (λ l. l ++ lines_from line passes start n) (old.values ∙ sym gap) ∙ sym more;
    }

-- where no slot is counted, none is found
none_found : (found : MaskRows) (i : ℕ) → count_by (λ row. row) found.rows ≡ 0 → row_at found i ≡ false
none_found found i none = elim (cases_Bool (row_at found i)) [ inl set ↦ absurd (omega (arith, none, some_set found i set)) | inr e ↦ e ]

pub returns-then-count-eq0 : goal.returns-then-count-eq0
returns-then-count-eq0 c =
    let slots = c.args.table.now.slots in
    let line = slot_line c.args.places.now slots in
    let passes = row_at c.args.found.now in
    let none : lines_from line passes 0 (length slots) ≡ [] = lines_none line passes (length slots) 0 (λ i h. none_found c.args.found.now (0 + i) (sym c.count-count.ensures.rows ∙ c.if-count-eq0.true)) in
    c.in_ok-values.ensures.items ∙ sym none ∙ lines_where c.args.places.now passes slots

pub returns : goal.returns
returns c =
    let slots = c.args.table.now.slots in
    let line = slot_line c.args.places.now slots in
    let passes = row_at c.args.found.now in
    let at = c.loop-slot.at in
    let total = length slots in
    let all : lines_from line passes 0 total ≡ lines_from line passes 0 at =
    lines_join line passes at (total - at) 0 total at (omega (arith, c.loop-slot.invariant.at, c.requires.found)) (omega arith)
    ∙ ap (λ l. lines_from line passes 0 at ++ l) (lines_none line passes (total - at) at (λ i h. c.in_default.ensures (at + i) (omega arith)))
    ∙ append-nil (lines_from line passes 0 at) in
    c.loop-slot.invariant.values ∙ sym all ∙ lines_where c.args.places.now passes slots
