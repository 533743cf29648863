use Rattle.std.proofs.Common.{ap, arith, drop, get_or, inl, inr, length, length-drop, length-take, take, ◌+◌, ◌-◌, ◌<◌, ◌≡◌, ◌≤◌, ◌∙◌}
use Rattle.std.proofs.lemmas.Bool.{cases_lt}
use Rattle.std.proofs.lemmas.List.{get_or-drop, get_or-take}
use Rattle.bw_horizontal.specs.Words.{code_in}
use Rattle.bw_horizontal.proofs.storage.put_runs.Goals as goal

pub runs-preserved : goal.runs-preserved
runs-preserved c =
    let k = c.args.width in
    let at = c.args.at in
    let done = c.runs.done in
    let codes = c.args.codes.now in
    let n = c.min-n.result in
    let size = done + n - done in
    let part = take size (drop done codes) in
    let new = c.put_run.new.words in
    let fits : done + n ≤ length codes = omega (arith, c.min-n.ensures, c.runs.invariant.some) in
    let long : length part ≡ n = omega (arith, length-take size (drop done codes), length-drop done codes, fits) in
    let width = c.runs.invariant.width in
    let first : c.runs.place.row ≡ at + done = c.runs.invariant.row in
    let put = rw width at c.put_run.ensures.put in
    let other = rw width at c.put_run.ensures.other in
    record {
      some = fits;
      len = c.put_run.ensures.len ∙ c.runs.invariant.len;
      width = c.after-place.ensures.width ∙ width;
      row = c.after-place.ensures.row ∙ omega (arith, first);
      stored = rw width at c.put_run.ensures.stored;
      put = λ i h.
          elim (cases_lt i done) [
            | inl l ↦ other (at + i) (λ up. absurd (omega (arith, up, first, l))) ∙ c.runs.invariant.put i l
            | inr up ↦
                let row : at + i ≡ c.runs.place.row + (i - done) = omega (arith, up, first) in
                let low : i - done < size = omega (arith, up, h) in
                ap (code_in k new) row
                ∙ put (i - done) (omega (arith, long, up, h))
                ∙ get_or-take size (drop done codes) (i - done) 0 low
                ∙ get_or-drop done codes (i - done) 0
                ∙ ap (λ m. get_or codes m 0) (omega (arith, up))
          ];
      other = λ j outside. other j (λ up. omega (arith, long, first, outside (omega (arith, up, first)))) ∙ c.runs.invariant.other j (λ up. omega (arith, outside up));
    }
