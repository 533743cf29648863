use Rattle.std.proofs.Common.{OnOk, ap, min, subst, sym, ◌++◌, ◌-◌, ◌∙◌, ◌≡◌}
use Rattle.bw_mask.specs.Masks.{row_at}
use Rattle.bw_engine.specs.Runs.{lines_from, slot_line}
use Rattle.bw_engine.proofs.RunLaws.{run_fetched, run_lines}
use Rattle.bw_engine.proofs.shown.show_slots.Goals as goal

pub returns : goal.returns
returns c =
    let slots = c.args.table.now.slots in
    let found = c.args.found.now in
    let many = c.min-n.ensures ∙ ap (λ k. min (k - c.args.at) 64) (c.len.ensures.rows ∙ c.requires.found) in
    record {
      runs = c.read_columns.ensures.count ∙ sym c.requires.runs;
      values =
          subst (λ l. OnOk c.show_rows.result (c.show_rows.new.values.items ≡ c.args.values.now.items ++ l))
          (run_lines slots c.args.places.now found c.bits-word.result c.args.at c.min-n.result c.bits-word.ensures c.read_columns.new.runs c.read_columns.ensures
          ∙ ap (λ n. lines_from (slot_line c.args.places.now slots) (row_at found) c.args.at n) many)
          c.show_rows.ensures;
    }

pub returns-then-word-le-FEW-clause-values : goal.returns-then-word-le-FEW-clause-values
returns-then-word-le-FEW-clause-values c =
    let slots = c.args.table.now.slots in
    let found = c.args.found.now in
    let many = c.min-n.ensures ∙ ap (λ k. min (k - c.args.at) 64) (c.len.ensures.rows ∙ c.requires.found) in
    subst (λ l. OnOk c.fetch_rows.result (c.fetch_rows.new.values.items ≡ c.args.values.now.items ++ l))
    (run_fetched slots c.args.places.now found c.bits-word.result c.args.at c.min-n.result c.bits-word.ensures
    ∙ ap (λ n. lines_from (slot_line c.args.places.now slots) (row_at found) c.args.at n) many)
    c.fetch_rows.ensures
