use Rattle.std.proofs.Common.{[], ap, arith, get_or, get_or-set_other, get_or-set_same, inl, inr, length, nat_lt, set, sym, ◌%◌, ◌&&◌, ◌*◌, ◌+◌, ◌-◌, ◌/◌, ◌<◌, ◌==◌, ◌≡◌, ◌≢◌, ◌∙◌}
use Rattle.std.proofs.lemmas.Bool.{cases_eq}
use Rattle.std.proofs.lemmas.List.{length-set}
use Rattle.bw_mask.specs.Masks.{bit_of, row_in}
use Rattle.bw_file.specs.Planes.{plane_bit}
use Rattle.bw_file.proofs.codes.read_block.Goals as goal

pub loop-i-preserved : goal.loop-i-preserved
loop-i-preserved c =
    let k = c.args.k in
    let size = c.args.size in
    let at = c.args.at in
    let planes = c.args.planes.now in
    let i = c.loop-i.i in
    let block = c.loop-i.block in
    let plane = c.read_rows.new.words in
    let inv = c.loop-i.invariant in
    let there : k - 1 - i < length block = omega (arith, c.requires.narrow, c.loop-i-test.true, inv.long) in
    record {
      long = length-set block (k - 1 - i) plane ∙ inv.long;
      rows = λ p r h.
          elim (cases_eq p i) [
            | inl e ↦
                let byte : (8 * (i * size) + at + r) / 8 ≡ i * size + (at + r) / 8 = omega arith in
                let place : (8 * (i * size) + at + r) % 8 ≡ (at + r) % 8 = omega arith in
                ap (λ q. row_in (get_or (set block (k - 1 - i) plane) (k - 1 - q) []) r) e
                ∙ ap (λ w. row_in w r) (get_or-set_same block (k - 1 - i) plane [] there)
                ∙ c.read_rows.ensures r
                ∙ ap (λ n. bit_of (get_or planes n 0) ((8 * (i * size) + at + r) % 8) && nat_lt r c.args.count) byte
                ∙ ap (λ n. bit_of (get_or planes (i * size + (at + r) / 8) 0) n && nat_lt r c.args.count) place
                ∙ ap (λ q. (plane_bit size planes q (at + r) == 1) && nat_lt r c.args.count) (sym e)
            | inr d ↦
                let far : k - 1 - p ≢ k - 1 - i = λ q. d (omega (arith, q, h, c.loop-i-test.true)) in
                ap (λ w. row_in w r) (get_or-set_other block (k - 1 - i) (k - 1 - p) plane [] far) ∙ inv.rows p r (omega (arith, h, d))
          ];
    }

pub returns : goal.returns
returns c b r h l =
    let p = c.args.k - 1 - b in
    let place : b ≡ c.args.k - 1 - p = omega (arith, h) in
    ap (λ q. row_in (get_or c.loop-i.block q []) r) place ∙ c.loop-i.invariant.rows p r (omega (arith, h, c.loop-i-test.false))
