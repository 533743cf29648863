use Rattle.std.proofs.Common.{[], ap, arith, get_or, inl, inr, length, length-take, subst, sym, take, List, ℕ, ◌%◌, ◌*◌, ◌+◌, ◌-◌, ◌/◌, ◌<◌, ◌≡◌, ◌≤◌, ◌∙◌}
use Rattle.std.proofs.lemmas.Bool.{cases_lt}
use Rattle.std.proofs.lemmas.List.{get_or-take}
use Rattle.bw_mask.specs.Masks.{bit_of, row_in}
use Rattle.bw_mask.proofs.Bits.{bit_of_zero}
use Rattle.bw_byteslice.proofs.PlaneBytes.{IsOfPlanes}
use Rattle.bw_byteslice.proofs.plane_blocks.put_slice.Goals as goal

-- a row of a plane is a bit of a word
row_of_word : (plane : List ℕ) (j r : ℕ) → 64 * j ≤ r → r < 64 * j + 64 → bit_of (get_or plane j 0) (r - 64 * j) ≡ row_in plane r
row_of_word plane j r h l =
    let word : j ≡ r / 64 = omega (arith, h, l) in
    let bit : r - 64 * j ≡ r % 64 = omega (arith, h, l) in
    ap (λ w. bit_of (get_or plane w 0) (r - 64 * j)) word ∙ ap (bit_of (get_or plane (r / 64) 0)) bit

pub words-preserved : goal.words-preserved
words-preserved c =
    let at = c.args.at in
    let block = c.args.block.now in
    let low = c.args.low in
    let spare = c.args.spare in
    let rows = c.min-rows.result in
    let j = c.words.j in
    let n = c.min-n.result in
    let bytes = c.bytes_of_words-bytes.result in
    let new = c.overwrite.new.slice.items in
    let inv = c.words.invariant in
    let step = c.overwrite.ensures in
    let cut : length (take n bytes) ≡ n = omega (arith, length-take n bytes, c.min-n.ensures) in
    record {
      len = step.len ∙ inv.len;
      capacity = step.capacity ∙ inv.capacity;
      put = λ r h l.
          elim (cases_lt r (64 * j)) [
            | inl p ↦ subst (IsOfPlanes block low spare r) (sym (step.outside (at + r) (λ up. absurd (omega (arith, up, p))))) (inv.put r p l)
            | inr p ↦
                let e = r - 64 * j in
                let near : e < 64 = omega (arith, h, p) in
                let few : e < n = omega (arith, near, l, p, c.min-n.ensures) in
                let place : at + 64 * j + e ≡ at + r = omega (arith, p) in
                let byte : get_or new (at + r) 0 ≡ get_or bytes e 0 = ap (λ q. get_or new q 0) (sym place) ∙ step.inside e (omega (arith, cut, few)) ∙ get_or-take n bytes e 0 few in
                subst (IsOfPlanes block low spare r) (sym byte) (record {
                  small = c.bytes_of_words-bytes.ensures.fit e;
                  planes = λ t u q.
                      c.bytes_of_words-bytes.ensures.bits e t near u
                      ∙ ap (λ w. bit_of w e) (c.slice_words.ensures.planes t u q)
                      ∙ row_of_word (get_or block (low + t - spare) []) j r p (omega (arith, h));
                  below = λ t q. c.bytes_of_words-bytes.ensures.bits e t near (omega (arith, q, c.requires.few)) ∙ ap (λ w. bit_of w e) (c.slice_words.ensures.below t q) ∙ bit_of_zero e;
                })
          ];
      outside = λ q apart. step.outside q (λ up. let past = apart (omega (arith, up)) in omega (arith, past, cut, c.min-n.ensures)) ∙ inv.outside q apart;
    }

pub returns-clause-small : goal.returns-clause-small
returns-clause-small c r h l = (c.words.invariant.put r (omega (arith, c.words-test.false, h, l, c.min-rows.ensures)) (omega (arith, h, l, c.min-rows.ensures))).small

pub returns-clause-planes : goal.returns-clause-planes
returns-clause-planes c r t h l = (c.words.invariant.put r (omega (arith, c.words-test.false, h, l, c.min-rows.ensures)) (omega (arith, h, l, c.min-rows.ensures))).planes t

pub returns-clause-below : goal.returns-clause-below
returns-clause-below c r t h l = (c.words.invariant.put r (omega (arith, c.words-test.false, h, l, c.min-rows.ensures)) (omega (arith, h, l, c.min-rows.ensures))).below t

pub returns-clause-outside : goal.returns-clause-outside
returns-clause-outside c j apart = c.words.invariant.outside j (λ up. let past = apart up in omega (arith, past, c.min-rows.ensures))
