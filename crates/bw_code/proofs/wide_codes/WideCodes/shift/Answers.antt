use Rattle.std.proofs.Common.{ap, arith, drop, get_or, length, of_z, pos, refl, subst, sym, take, to_z, w64, ℕ, ◌++◌, ◌-ℤ◌, ◌<◌, ◌^◌, ◌≡◌, ◌∙◌}
use Rattle.std.proofs.Math.Seq.{take-append_seam}
use Rattle.std.proofs.lemmas.Int.{ints, to_z-of_z}
use Rattle.std.proofs.lemmas.List.Elements.{All-from_get_or}
use Rattle.bw_mask.specs.Masks.{row_at}
use Rattle.bw_code.specs.Columns.{code_at, count, CodeList, Fit, AreWide}
use Rattle.bw_code.specs.Shifts.{shifted, StaysBelow}
use Rattle.bw_code.proofs.FitLemmas.{all_wider}
use Rattle.bw_code.proofs.wide_codes.WideCodes.shift.Goals as goal

pub shift_wide_codes-requires-clause-low : goal.shift_wide_codes-requires-clause-low
shift_wide_codes-requires-clause-low c = subst (Fit 64) (sym c.deref_mut.ensures.value) (all_wider c.self.inside.width 64 (omega (arith, c.self.invariant.narrow)) c.self.inside.codes.items c.self.invariant.fit)

pub invariant_of-self : goal.invariant_of-self
invariant_of-self c =
    let width = c.args.width in
    let items = c.self.inside.codes.items in
    let new = c.shift_wide_codes.new.codes in
    let by = c.args.from -ℤ c.args.to in
    let back : to_z w64 (of_z w64 c.args.from) -ℤ to_z w64 (of_z w64 c.args.to) ≡ c.args.from -ℤ c.args.to = rw (to_z-of_z w64 c.args.from c.ranges.from, to_z-of_z w64 c.args.to c.ranges.to) refl in
    let fits : (i : ℕ) → i < length items → StaysBelow (2 ^ width) (shifted by (row_at c.args.rows.now i) (get_or items i 0)) =
    subst (λ (v : CodeList). (i : ℕ) → i < count v → StaysBelow (2 ^ width) (shifted by (row_at c.args.rows.now i) (code_at v i))) (sym c.self.view_is) c.requires.fit in
    let long : length new ≡ length items = c.shift_wide_codes.ensures.len ∙ ap length c.deref_mut.ensures.value in
    let end : c.self.inside.codes.len ≡ length new = omega (arith, c.deref_mut.ensures.len, c.shift_wide_codes.ensures.len) in
    let all : take c.self.inside.codes.len (new ++ drop (length new) items) ≡ new = ap (λ n. take n (new ++ drop (length new) items)) end ∙ take-append_seam new (drop (length new) items) in
    subst (AreWide width) (sym all) (record {
      some = c.requires.some;
      narrow = c.requires.narrow;
      few = omega (arith, long, c.self.invariant.few);
      fit = All-from_get_or (λ code. code < 2 ^ width) new 0 (λ i h.
          let l : i < length items = omega (arith, h, long) in
          let same : get_or c.deref_mut.result.now i 0 ≡ get_or items i 0 = ap (λ xs. get_or xs i 0) c.deref_mut.ensures.value in
          let is : pos (get_or new i 0) ≡ shifted by (row_at c.args.rows.now i) (get_or items i 0) = c.shift_wide_codes.ensures.codes i (omega (arith, h, c.shift_wide_codes.ensures.len)) ∙ ap (λ z. shifted z (row_at c.args.rows.now i) (get_or c.deref_mut.result.now i 0)) back ∙ ap (shifted by (row_at c.args.rows.now i)) same in
          let f = fits i l in
          omega (arith, ints, is, f.1));
    })
