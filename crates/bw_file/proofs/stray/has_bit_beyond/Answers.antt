use Rattle.std.proofs.Common.{ap, arith, bit_and, bit_or, get_or, inl, inr, ◌-◌, ◌≡◌, ◌∙◌}
use Rattle.std.proofs.lemmas.Bool.{cases_eq}
use Rattle.bw_file.proofs.StrayBits.{or_none}
use Rattle.bw_file.proofs.stray.has_bit_beyond.Goals as goal

pub bytes-preserved : goal.bytes-preserved
bytes-preserved c =
    let inv = c.bytes.invariant in
    let plane = c.args.plane.now in
    let present = c.args.present.now in
    let j = c.bytes.j in
    let here = bit_and (get_or c.args.plane.now c.bytes.j 0) (255 - get_or c.args.present.now c.bytes.j 0) in
    record {
      no = λ e i h.
          let parts = or_none c.bytes.stray (bit_and (get_or c.args.plane.now c.bytes.j 0) (255 - get_or c.args.present.now c.bytes.j 0)) e in
          elim (cases_eq i c.bytes.j) [
            | inl same ↦ ap (λ m. bit_and (get_or c.args.plane.now m 0) (255 - get_or c.args.present.now m 0)) same ∙ parts.1
            | inr other ↦ inv.no parts.0 i (omega (arith, h, other))
          ];
      yes = λ clean.
          let before : c.bytes.stray ≡ 0 = inv.yes (λ i h. clean i (omega (arith, h))) in
          ap (λ s. bit_or s here) before ∙ ap (bit_or 0) (clean c.bytes.j (omega arith));
    }
