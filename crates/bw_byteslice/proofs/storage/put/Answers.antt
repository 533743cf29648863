use Rattle.std.proofs.Common.{ap, arith, drop, get_or, inl, inr, length, length-drop, length-take, subst, take, ◌*◌, ◌+◌, ◌-◌, ◌<◌, ◌^◌, ◌≡◌, ◌≤◌, ◌∙◌}
use Rattle.std.proofs.lemmas.Bool.{cases_lt}
use Rattle.std.proofs.lemmas.List.{get_or-drop, get_or-take}
use Rattle.bw_code.specs.Units.{digit}
use Rattle.bw_byteslice.specs.Slices.{shift_of, slices_of}
use Rattle.bw_byteslice.specs.Storing.{byte_of, bytes_of}
use Rattle.bw_byteslice.proofs.storage.put.Goals as goal

pub parts-preserved : goal.parts-preserved
parts-preserved c =
    let codes = c.args.codes.now in
    let at = c.args.at in
    let done = c.parts.done in
    let n = c.min-n.result in
    let size = done + n - done in
    let fits : done + n ≤ length codes = omega (arith, c.min-n.ensures, c.parts.invariant.some) in
    let long : length (take size (drop done codes)) ≡ n = omega (arith, length-take size (drop done codes), length-drop done codes, fits) in
    let after = bytes_of c.put_block.new.slices.items in
    record {
      some = fits;
      count = c.put_block.ensures.count ∙ c.parts.invariant.count;
      capacities = c.put_block.ensures.capacities ∙ c.parts.invariant.capacities;
      len = λ i. c.put_block.ensures.len i ∙ c.parts.invariant.len i;
      inside = λ i r low h.
          elim (cases_lt r done) [
            | inl l ↦ c.put_block.ensures.outside i (at + r) (λ up. absurd (omega arith)) ∙ c.parts.invariant.inside i r low l
            | inr up ↦
                let e = r - done in
                let within : e < length (take size (drop done codes)) = omega (arith, long, up, h) in
                let place : at + done + e ≡ at + r = omega (arith, up) in
                let here : done + e ≡ r = omega (arith, up) in
                let code : get_or (take size (drop done codes)) e 0 ≡ get_or codes r 0 = get_or-take size (drop done codes) e 0 (omega (arith, within, long)) ∙ get_or-drop done codes e 0 ∙ ap (λ k. get_or codes k 0) here in
                subst (λ j. byte_of after j i ≡ digit 256 (slices_of c.args.width) (get_or codes r 0 * 2 ^ shift_of c.args.width) i) place
                (c.put_block.ensures.inside i e low within ∙ ap (λ x. digit 256 (slices_of c.args.width) (x * 2 ^ shift_of c.args.width) i) code)
          ];
      outside = λ i j apart.
          c.put_block.ensures.outside i j (λ up. let past = apart (omega (arith, up)) in omega (arith, past, long))
          ∙ c.parts.invariant.outside i j (λ up. let past = apart up in omega (arith, past));
    }
