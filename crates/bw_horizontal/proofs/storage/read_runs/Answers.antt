use Rattle.std.proofs.Common.{ap, arith, drop, inl, inr, length, length-drop, length-take, take, ◌+◌, ◌-◌, ◌≡◌, ◌≤◌, ◌∙◌}
use Rattle.std.proofs.lemmas.Bool.{cases_lt}
use Rattle.bw_code.proofs.Parts.{before_part, in_part, part_length}
use Rattle.bw_horizontal.specs.Words.{code_in}
use Rattle.bw_horizontal.proofs.storage.read_runs.Goals as goal

pub runs-preserved : goal.runs-preserved
runs-preserved c =
    let k = c.args.width in
    let at = c.args.at in
    let done = c.runs.done in
    let out = c.runs.out in
    let n = c.min-n.result in
    let size = done + n - done in
    let part = c.codes.new.out in
    let fits : done + n ≤ length out = omega (arith, c.min-n.ensures, c.runs.invariant.some) in
    let within : done + size ≤ length out = omega (arith, fits) in
    let whole : length (take size (drop done out)) ≡ size = omega (arith, length-take size (drop done out), length-drop done out, within) in
    let long : length part ≡ size = c.codes.ensures.len ∙ whole in
    let same = part_length done size out part 0 within long in
    record {
      some = omega (arith, fits, same);
      len = same ∙ c.runs.invariant.len;
      width = c.after-place.ensures.width ∙ c.runs.invariant.width;
      row = c.after-place.ensures.row ∙ omega (arith, c.runs.invariant.row);
      codes = λ i h.
          elim (cases_lt i done) [
            | inl l ↦ before_part done size out part 0 within long i l ∙ c.runs.invariant.codes i l
            | inr up ↦
                let row : c.runs.place.row + (i - done) ≡ at + i = omega (arith, up, c.runs.invariant.row) in
                in_part done size out part 0 within long i up (omega (arith, up, h))
                ∙ c.codes.ensures.codes (i - done) (omega (arith, whole, up, h))
                ∙ ap (λ w. code_in w c.args.words.now (c.runs.place.row + (i - done))) c.runs.invariant.width
                ∙ ap (λ j. code_in k c.args.words.now j) row
          ];
    }
