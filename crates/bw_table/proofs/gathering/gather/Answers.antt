use Rattle.std.proofs.Common.{Option, [], ap, arith, drop, length, map, refl, sym, take, ℕ, ℤ, ◌++◌, ◌+◌, ◌<◌, ◌≡◌, ◌≤◌, ◌∙◌, ◌∷◌}
use Rattle.std.specs.List.{filter, range_with_len}
use Rattle.std.proofs.lemmas.Bool.{lt-ltb}
use Rattle.std.proofs.lemmas.List.{length-map}
use Rattle.bw_mask.specs.Masks.{bit_of, row_at}
use Rattle.bw_code.proofs.Lists.{front_is}
use Rattle.bw_column.specs.Values.{value_at}
use Rattle.bw_column.proofs.Overwriting.{below_len}
use Rattle.bw_table.specs.Changes.{places, places_below}
use Rattle.bw_table.proofs.Picks.{gathered_run, picked_run}
use Rattle.bw_table.proofs.Places.{count_places, gathered_all, gathered_next, places_between}
use Rattle.bw_table.proofs.gathering.gather.Goals as goal

pub loop-row-preserved-then-rows-lt-FEW : goal.loop-row-preserved-then-rows-lt-FEW
loop-row-preserved-then-rows-lt-FEW c =
    let is = c.in-Some.ensures in
    let mask = c.args.mask.now in
    let value : ℕ → Option ℤ = value_at c.args.column.now.values in
    let low = below_len mask c.in-Some.row is.1 in
    record {
      at = omega (arith, low);
      values =
          c.in_ok-push.ensures.items
          ∙ ap (λ xs. xs ++ c.get.result ∷ []) c.loop-row.invariant.values
          ∙ ap (λ x. map value (places_below mask c.loop-row.at) ++ x ∷ []) c.get.ensures.is
          ∙ sym (gathered_next mask value c.loop-row.at c.in-Some.row is);
    }

pub loop-row-preserved : goal.loop-row-preserved
loop-row-preserved c =
    let is = c.in-Some.ensures in
    let mask = c.args.mask.now in
    let vs = c.args.column.now.values in
    let value : ℕ → Option ℤ = value_at vs in
    let row = c.in-Some.row in
    let n = c.min-n.result in
    let at = c.loop-row.at in
    let run = c.loop-row.run in
    let rows = c.bits-rows.result in
    let low = below_len mask row is.1 in
    let fits : row + n ≤ length vs = omega (arith, c.min-n.ensures, c.len-end.ensures.count, c.requires.long, low) in
    let few : n ≤ length run = omega (arith, c.min-n.ensures, c.if-rows-lt-FEW.array_long) in
    let read : take n (c.read.new.out ++ drop n run) ≡ take n (drop row vs) = front_is run c.read.new.out vs row n few fits c.read.ensures in
    let same : (i : ℕ) → i < n → bit_of rows i ≡ row_at mask (row + i) = λ i h. c.bits-rows.ensures i ∙ rw (lt-ltb i n h) refl in
    record {
      at = omega (arith, fits, c.requires.long);
      values =
          c.in_ok-extend_from_slice.ensures.items
          ∙ ap (λ xs. c.loop-row.values.items ++ xs) (c.pick-count.ensures.front ∙ picked_run rows row n vs (take n (c.read.new.out ++ drop n run)) read fits)
          ∙ ap (λ xs. xs ++ map (λ i. value (row + i)) (filter (bit_of rows) (range_with_len 0 n))) (c.loop-row.invariant.values ∙ ap (map value) (sym (places_between mask at row is.0 is.2)))
          ∙ sym (gathered_run mask value row rows n same);
    }

pub returns-clause-values : goal.returns-clause-values
returns-clause-values c = c.loop-row.invariant.values ∙ gathered_all c.args.mask.now (value_at c.args.column.now.values) c.loop-row.at c.loop-row.invariant.at c.in_default.ensures

pub returns-clause-few : goal.returns-clause-few
returns-clause-few c =
    let mask = c.args.mask.now in
    let vs = c.args.column.now.values in
    let whole = c.loop-row.invariant.values ∙ gathered_all mask (value_at vs) c.loop-row.at c.loop-row.invariant.at c.in_default.ensures in
    omega (arith, c.loop-row.values.ok.0, ap length whole, length-map (places mask) (value_at vs), count_places mask, c.count.ensures.rows, c.count.ensures.few)
