use Rattle.std.proofs.Common.{FitsSigned, None, ap, arith, drop, inl, inr, length, length-take, map, pow_pos, refl, rules, subst, take, w64, ◌+◌, ◌-◌, ◌<◌, ◌^◌, ◌≡◌, ◌≤◌, ◌∙◌}
use Rattle.std.proofs.lemmas.Bool.{cases_lt}
use Rattle.std.proofs.lemmas.Int.{to_z-of_z}
use Rattle.std.proofs.lemmas.List.{get_or_default}
use Rattle.bw_cells.specs.Distances.{distance_from}
use Rattle.bw_code.specs.declared.encoding.Encoding.TheVariants as by
use Rattle.bw_column.specs.Codes.{IsCoded}
use Rattle.bw_column.specs.Values.{value_at}
use Rattle.bw_column.proofs.Held.{all_storable}
use Rattle.bw_column.proofs.Near.{run_len, run_near}
use Rattle.bw_column.proofs.column.Column.lies_within.Goals as goal

pub returns-then-joined-greatest : goal.returns-then-joined-greatest
returns-then-joined-greatest c =
    let o = c.args.offset in
    let at = c.loop-at.at in
    let n = c.min-n.result in
    let out = c.distances.new.out in
    let values = c.args.self.now.values in
    let fits : FitsSigned w64 o.base = search rules in
    let inside : at + n ≤ length values = omega (arith, c.min-n.ensures, c.len-in-loop-at.ensures.count, c.loop-at.invariant.at) in
    let long : length (take n c.loop-at.list) ≡ n = omega (arith, c.min-n.ensures, c.min-n.array_long, length-take n c.loop-at.list) in
    let given : out ≡ map (distance_from o.base) (take (length (take n c.loop-at.list)) (drop at values)) = rw (to_z-of_z w64 o.base fits) at c.distances.ensures.distances in
    let are : out ≡ map (distance_from o.base) (take n (drop at values)) = given ∙ ap (λ k. map (distance_from o.base) (take k (drop at values))) long in
    let many : length out ≡ n = run_len o values out at n inside are in
    let coded = run_near o values out at n inside are fits c.requires (all_storable c.args.self.now.layout values c.len-held.ensures.held) in (
      λ f. absurd cc,
      λ all.
          let small : c.joined.result < 2 ^ o.width = (c.joined.ensures o.width).1 (λ k h. (coded k (omega (arith, h, many))).1 (all (at + k) None (omega (arith, h, many, inside)))) in
          absurd (omega (arith, small, c.if-joined-greatest.true, c.greatest_code-greatest.ensures)),
    )

pub loop-at-preserved : goal.loop-at-preserved
loop-at-preserved c =
    let o = c.args.offset in
    let at = c.loop-at.at in
    let n = c.min-n.result in
    let out = c.distances.new.out in
    let values = c.args.self.now.values in
    let fits : FitsSigned w64 o.base = search rules in
    let inside : at + n ≤ length values = omega (arith, c.min-n.ensures, c.len-in-loop-at.ensures.count, c.loop-at.invariant.at) in
    let long : length (take n c.loop-at.list) ≡ n = omega (arith, c.min-n.ensures, c.min-n.array_long, length-take n c.loop-at.list) in
    let given : out ≡ map (distance_from o.base) (take (length (take n c.loop-at.list)) (drop at values)) = rw (to_z-of_z w64 o.base fits) at c.distances.ensures.distances in
    let are : out ≡ map (distance_from o.base) (take n (drop at values)) = given ∙ ap (λ k. map (distance_from o.base) (take k (drop at values))) long in
    let many : length out ≡ n = run_len o values out at n inside are in
    let coded = run_near o values out at n inside are fits c.requires (all_storable c.args.self.now.layout values c.len-held.ensures.held) in
    let small : c.joined.result < 2 ^ o.width = omega (arith, c.if-joined-greatest.false, c.greatest_code-greatest.ensures, pow_pos o.width) in
    record {
      at = inside;
      done = λ k h.
          elim (cases_lt k at) [
            | inl before ↦ c.loop-at.invariant.done k before
            | inr here ↦
                let place : at + (k - at) ≡ k = omega (arith, here) in
                let low : k - at < n = omega (arith, here, h) in
                subst (λ j. IsCoded (by.Offset o) (value_at values j)) place ((coded (k - at) low).0 ((c.joined.ensures o.width).0 small (k - at) (omega (arith, low, many))))
          ];
    }

pub returns : goal.returns
returns c =
    let values = c.args.self.now.values in (
      λ _ k d h. rw (get_or_default values k d None h) (c.loop-at.invariant.done k (omega (arith, h, c.loop-at-test.false, c.len.ensures.count))),
      λ _. refl,
    )
