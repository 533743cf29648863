use Rattle.std.proofs.Common.{ap, arith, drop, inl, inr, length, length-drop, length-take, take, ◌+◌, ◌-◌, ◌≡◌, ◌≤◌, ◌∙◌}
use Rattle.std.proofs.lemmas.Bool.{cases_lt}
use Rattle.bw_code.proofs.Parts.{before_part, in_part, part_length}
use Rattle.bw_byteslice.specs.Storing.{bytes_of, code_of}
use Rattle.bw_byteslice.proofs.reading.read.Goals as goal

pub runs-preserved : goal.runs-preserved
runs-preserved c =
    let at = c.args.at in
    let done = c.runs.done in
    let out = c.runs.out in
    let n = c.min-n.result in
    let size = done + n - done in
    let part = c.read_run.new.out in
    let fits : done + n ≤ length out = omega (arith, c.min-n.ensures, c.runs.invariant.some) in
    let within : done + size ≤ length out = omega (arith, fits) in
    let whole : length (take size (drop done out)) ≡ size = omega (arith, length-take size (drop done out), length-drop done out, within) in
    let long : length part ≡ size = c.read_run.ensures.len ∙ whole in
    let same = part_length done size out part 0 within long in
    record {
      some = omega (arith, fits, same);
      len = same ∙ c.runs.invariant.len;
      codes = λ r h.
          elim (cases_lt r done) [
            | inl l ↦ before_part done size out part 0 within long r l ∙ c.runs.invariant.codes r l
            | inr up ↦
                let row : at + done + (r - done) ≡ at + r = omega (arith, up) in
                in_part done size out part 0 within long r up (omega (arith, up, h))
                ∙ c.read_run.ensures.codes (r - done) (omega (arith, whole, up, h))
                ∙ ap (λ j. code_of c.args.width (bytes_of c.args.slices.now) j) row
          ];
    }
