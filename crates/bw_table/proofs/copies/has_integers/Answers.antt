use Rattle.std.proofs.Common.{List, Option, ap, arith, drop, false, inl, inr, length, length-take, map, negsuc, sym, take, true, ℕ, ℤ, ◌+◌, ◌-◌, ◌∙◌, ◌≡◌, ◌≤◌}
use Rattle.std.proofs.lemmas.Bool.{cases_lt}
use Rattle.bw_mask.specs.Masks.{row_at}
use Rattle.bw_cells.specs.Distances.{distance_from}
use Rattle.bw_code.specs.Types.{IsNullOrOfType}
use Rattle.bw_code.specs.declared.kind.ColumnType.TheVariants.{Integer}
use Rattle.bw_column.specs.Values.{value_at}
use Rattle.bw_column.proofs.Held.{all_storable}
use Rattle.bw_column.proofs.Overwriting.{below_len}
use Rattle.bw_table.proofs.Copied.{run_far, run_near}
use Rattle.bw_table.proofs.copies.has_integers.Goals as goal

-- what the distances of a run are
run_is : (vs : List (Option ℤ)) (list out : List ℕ) (row n : ℕ) → out ≡ map (distance_from (negsuc 2147483647)) (take (length (take n list)) (drop row vs)) → n ≤ length list → out ≡ map (distance_from (negsuc 2147483647)) (take n (drop row vs))
run_is vs list out row n is few =
    let long : length (take n list) ≡ n = omega (arith, length-take n list, few) in
    is ∙ ap (λ k. map (distance_from (negsuc 2147483647)) (take k (drop row vs))) long

pub loop-row-preserved : goal.loop-row-preserved
loop-row-preserved c =
    let is = c.in-Some.ensures in
    let mask = c.args.mask.now in
    let column = c.args.column.now in
    let vs = column.values in
    let row = c.in-Some.row in
    let n = c.min-n.result in
    let inside : row + n ≤ length vs = omega (arith, c.min-n.ensures, c.len-end.ensures.count, c.requires, below_len mask row is.1) in
    let are = run_is vs c.loop-row.list c.distances.new.out row n c.distances.ensures.distances (omega (arith, c.min-n.ensures, c.min-n.array_long)) in
    let near = run_near vs mask row n c.bits.result c.distances.new.out are inside c.bits.ensures (all_storable column.layout vs c.len-end.ensures.held) (c.are_spanned.ensures.0 c.if-not-are_spanned.false) in
    record {
      at = omega (arith, inside, c.requires);
      each = λ i h there.
          elim (cases_lt i c.loop-row.at) [
            | inl low ↦ c.loop-row.invariant.each i low there
            | inr high ↦
                elim (cases_lt i row) [
                  | inl between ↦ let out : row_at mask i ≡ false = is.2 i high between in absurd cc
                  | inr above ↦
                      let e : row + (i - row) ≡ i = omega (arith, above) in
                      let there_at : row_at mask (row + (i - row)) ≡ true = rw e there in
                      let value : IsNullOrOfType Integer (value_at vs (row + (i - row))) = near (i - row) (omega (arith, h, above)) there_at in
                      rw e at value
                ]
          ];
    }

pub returns-then-not-are_spanned : goal.returns-then-not-are_spanned
returns-then-not-are_spanned c =
    let mask = c.args.mask.now in
    let vs = c.args.column.now.values in
    let row = c.in-Some.row in
    let n = c.min-n.result in
    let inside : row + n ≤ length vs = omega (arith, c.min-n.ensures, c.len-end.ensures.count, c.requires, below_len mask row c.in-Some.ensures.1) in
    let are = run_is vs c.loop-row.list c.distances.new.out row n c.distances.ensures.distances (omega (arith, c.min-n.ensures, c.min-n.array_long)) in
    let refused = c.if-not-are_spanned.true in
    (λ e. absurd cc, λ all. sym refused ∙ c.are_spanned.ensures.1 (run_far vs mask row n c.bits.result c.distances.new.out are inside c.bits.ensures all))
