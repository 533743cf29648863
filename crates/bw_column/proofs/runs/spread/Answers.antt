use Rattle.std.proofs.Common.{ap, arith, false, inl, inr, length, length-set, refl, sym, true, ◌+◌, ◌<◌, ◌≡◌, ◌∙◌}
use Rattle.std.proofs.lemmas.Bool.{cases_eq, lt-ltb}
use Rattle.std.proofs.lemmas.List.{get_or_default, get_or-set_other, get_or-set_same}
use Rattle.bw_mask.specs.Masks.{len, row_at}
use Rattle.bw_column.specs.Places.{rank}
use Rattle.bw_column.proofs.Ranks.{rank_below, rank_set, rank_unset}
use Rattle.bw_column.proofs.runs.spread.Goals.{else-is_set, else-is_set-2, then-is_set, then-is_set-2}
use Rattle.bw_column.proofs.runs.spread.Goals as goal

pub loop-i-preserved : goal.loop-i-preserved
loop-i-preserved g c =
    let places = c.args.places.now in
    let none = c.args.none in
    let i = c.loop-i.i in
    let p = c.args.at + i in
    let out = c.loop-i.out in
    let x = c.if-is_set.out in
    let inv = c.loop-i.invariant in
    let low : i < length c.args.out.now = omega (arith, c.loop-i-test.true, inv.long) in
    let there : p < len places = omega (arith, low, c.requires.inside) in
    let more : c.args.at + (i + 1) ≡ p + 1 = omega arith in
    let is : c.has_bit-is_set.result ≡ row_at places p = c.has_bit-is_set.ensures ∙ c.bits-rows.ensures i ∙ rw (lt-ltb i (length c.args.out.now) low) refl in
    record {
      long = length-set out i x ∙ inv.long;
      next =
          elim c.if-is_set-2.branch [
            | then-is_set-2 w ↦ omega (arith, w.next-is, inv.next, ap (rank places) more, rank_set places p there (sym is ∙ w.if-is_set-2.true))
            | else-is_set-2 w ↦ omega (arith, w.next-is, inv.next, ap (rank places) more, rank_unset places p there (sym is ∙ w.if-is_set-2.false))
          ];
      small = elim c.if-is_set-2.branch [ then-is_set-2 w ↦ omega (arith, w.next-is, inv.small) | else-is_set-2 w ↦ omega (arith, w.next-is, inv.small) ];
      each = λ k h.
          elim (cases_eq k i) [
            | inr d ↦ get_or-set_other out i k x none d ∙ inv.each k (omega (arith, h, d))
            | inl e ↦
                rw e (get_or-set_same out i x none (omega (arith, low, inv.long))
                ∙ elim c.if-is_set.branch [
                  | then-is_set w ↦
                      let t : row_at places p ≡ true = sym is ∙ w.if-is_set.true in
                      let own : c.min.result ≡ rank places p = omega (arith, c.min.ensures, inv.next, rank_below places p there t, c.requires.count) in
                      let below : c.min.result < length c.args.list.now = omega (arith, own, rank_below places p there t, c.requires.count) in
                      w.out-is ∙ c.index-list-min.is ∙ get_or_default c.args.list.now c.min.result c.index-list-min.result none below ∙ rw (t, own) refl
                  | else-is_set w ↦ let t : row_at places p ≡ false = sym is ∙ w.if-is_set.false in w.out-is ∙ rw t refl
                ])
          ];
    }
