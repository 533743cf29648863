use Rattle.std.proofs.Common.{List, [], ◌∷◌, ap, arith, get_or, inl, inr, refl, replicate, ℕ, ◌%◌, ◌*◌, ◌+◌, ◌-◌, ◌/◌, ◌∙◌, ◌≡◌}
use mathlib.Core.Logic.{◌≢◌}
use Rattle.std.specs.Prelude.{if◌then◌else◌}
use Rattle.std.proofs.lemmas.Bool.{cases_eq}
use Rattle.std.proofs.lemmas.List.{get_or-replicate}
use Rattle.bw_mask.specs.Masks.{bit_of, row_in}
use Rattle.bw_vertical.specs.Carries.{lane_bit}
use Rattle.bw_vertical.specs.Storage.{code_of, is_set, lists}
use Rattle.bw_vertical.proofs.Lanes.{no_rows}
use Rattle.bw_vertical.proofs.Placing.{sizes_more}
use Rattle.bw_vertical.proofs.copying.copy_block.Goals as goal

pub copy_bit-requires-clause-there : goal.copy_bit-requires-clause-there
copy_bit-requires-clause-there c s l g h = omega (arith, c.requires.there s l g h, c.loop-b.invariant.sizes.sizes g)

pub loop-b-init : goal.loop-b-init
loop-b-init c =
    let zeros : List ℕ = 0 ∷ 0 ∷ 0 ∷ 0 ∷ [] in
    record {
      sizes = record {
        count = refl;
        sizes = λ g. refl;
        capacities = λ g. omega arith;
      };
      done = λ i s j from to among h. absurd (omega (arith, from, to));
      carry = λ s j among h.
          let first : get_or (replicate 16 zeros) s [] ≡ zeros = get_or-replicate 16 s zeros [] (omega (arith, among, c.requires.few)) in
          ap (λ x. lane_bit x j) first ∙ rw (no_rows j h) (omega arith);
      left = λ i v h. refl;
      other = λ i v h side. refl;
    }

pub loop-b-preserved : goal.loop-b-preserved
loop-b-preserved c =
    let inv = c.loop-b.invariant in
    let k = c.args.k in
    let q = c.args.q in
    let b = c.loop-b.b in
    let here = k - 1 - b in
    let old = lists c.args.groups.now.items in
    let rows = c.args.rows.now in
    let moved = c.args.moved.now in
    let step = c.copy_bit.ensures in
    record {
      sizes = sizes_more step.sizes inv.sizes;
      done = λ i s j from to among h.
          let r = 256 * (q + s) + j in
          let sum : ℕ = code_of c.args.own (lists c.args.others.now) r + (if row_in moved r then c.args.by else 0) in
          elim (cases_eq i here) [
            | inl e ↦
                let bit : b ≡ k - 1 - i = omega (arith, e, c.loop-b-test.true) in
                let was : is_set k (lists c.loop-b.groups.items) i r ≡ is_set k old i r = ap (λ w. bit_of w (r % 64)) (inv.left i (r / 64) (omega (arith, e, c.loop-b-test.true))) in
                rw e (step.plane s j among h (inv.carry s j among h))
                ∙ ap (λ z. if row_in rows r then bit_of sum z else is_set k (lists c.loop-b.groups.items) i r) bit
                ∙ ap (λ z. if row_in rows r then bit_of sum (k - 1 - i) else z) was
            | inr d ↦ ap (λ w. bit_of w (r % 64)) (step.other i (r / 64) to (inl d)) ∙ inv.done i s j (omega (arith, from, d)) to among h
          ];
      carry = λ s j among h. step.carry s j among h (inv.carry s j among h);
      left = λ i v h. let far : i ≢ here = λ e. omega (arith, h, e, c.loop-b-test.true) in step.other i v (omega (arith, h)) (inl far) ∙ inv.left i v (omega (arith, h));
      other = λ i v h side. step.other i v h (inr side) ∙ inv.other i v h side;
    }
