use Rattle.std.proofs.Common.{ap, arith, drop, get_or, if◌then◌else◌, inl, inr, length, length-drop, length-take, refl, sym, take, ◌+◌, ◌-◌, ◌/◌, ◌<◌, ◌^◌, ◌≡◌, ◌≤◌, ◌∙◌}
use Rattle.std.proofs.lemmas.Bool.{cases_lt}
use Rattle.std.proofs.lemmas.List.{get_or-drop, get_or-take}
use Rattle.bw_mask.specs.Masks.{bit_of}
use Rattle.bw_mask.proofs.Bits.{bit_of_shr}
use Rattle.bw_code.proofs.Runs.{chosen_below, chosen_from}
use Rattle.bw_horizontal.specs.Words.{code_in}
use Rattle.bw_horizontal.proofs.blending.put_runs.Goals as goal

pub runs-preserved : goal.runs-preserved
runs-preserved c =
    let k = c.args.width in
    let at = c.args.at in
    let rows = c.args.rows in
    let done = c.runs.done in
    let codes = c.args.codes.now in
    let old = c.args.words.now in
    let words = c.runs.words in
    let n = c.min-n.result in
    let size = done + n - done in
    let part = take size (drop done codes) in
    let new = c.put_chosen.new.words in
    let fits : done + n ≤ length codes = omega (arith, c.min-n.ensures, c.runs.invariant.some) in
    let long : length part ≡ n = omega (arith, length-take size (drop done codes), length-drop done codes, fits) in
    let width = c.runs.invariant.width in
    let first : c.runs.place.row ≡ at + done = c.runs.invariant.row in
    let put = rw width at c.put_chosen.ensures.put in
    let other = rw width at c.put_chosen.ensures.other in
    record {
      some = fits;
      len = c.put_chosen.ensures.len ∙ c.runs.invariant.len;
      width = c.after-place.ensures.width ∙ width;
      row = c.after-place.ensures.row ∙ omega (arith, first);
      stored = rw width at c.put_chosen.ensures.stored;
      put = λ i h.
          elim (cases_lt i done) [
            | inl l ↦ other (at + i) (λ up. absurd (omega (arith, up, first, l))) ∙ c.runs.invariant.put i l
            | inr up ↦
                let row : at + i ≡ c.runs.place.row + (i - done) = omega (arith, up, first) in
                let low : i - done < size = omega (arith, up, h) in
                let bit : bit_of (rows / 2 ^ done) (i - done) ≡ bit_of rows i = bit_of_shr rows done (i - done) ∙ ap (bit_of rows) (omega (arith, up)) in
                let code : get_or part (i - done) 0 ≡ get_or codes i 0 = get_or-take size (drop done codes) (i - done) 0 low ∙ get_or-drop done codes (i - done) 0 ∙ ap (λ m. get_or codes m 0) (omega (arith, up)) in
                let was : code_in k words (c.runs.place.row + (i - done)) ≡ code_in k old (at + i) = ap (code_in k words) (sym row) ∙ c.runs.invariant.other (at + i) (λ _. omega (arith, up)) in
                ap (code_in k new) row
                ∙ put (i - done) (omega (arith, long, up, h))
                ∙ ap (λ b. if b then get_or part (i - done) 0 else code_in k words (c.runs.place.row + (i - done))) bit
                ∙ ap (λ x. if bit_of rows i then x else code_in k words (c.runs.place.row + (i - done))) code
                ∙ ap (λ x. if bit_of rows i then get_or codes i 0 else x) was
          ];
      other = λ j outside. other j (λ up. omega (arith, long, first, outside (omega (arith, up, first)))) ∙ c.runs.invariant.other j (λ up. omega (arith, outside up));
    }

pub returns-clause-codes : goal.returns-clause-codes
returns-clause-codes c j =
    let k = c.args.width in
    let at = c.args.at in
    let rows = c.args.rows in
    let codes = c.args.codes.now in
    let old = c.args.words.now in
    elim (cases_lt j at) [
      | inl l ↦ c.runs.invariant.other j (λ up. absurd (omega (arith, up, l))) ∙ rw (chosen_below at rows j l) refl
      | inr up ↦
          elim (cases_lt (j - at) (length codes)) [
            | inl l ↦
                let same : at + (j - at) ≡ j = omega (arith, up) in
                ap (code_in k c.runs.words) (sym same)
                ∙ c.runs.invariant.put (j - at) (omega (arith, l, c.runs-test.false))
                ∙ ap (λ n. if bit_of rows (j - at) then get_or codes (j - at) 0 else code_in k old n) same
                ∙ ap (λ b. if b then get_or codes (j - at) 0 else code_in k old j) (sym (chosen_from at rows j up))
            | inr l ↦ c.runs.invariant.other j (λ _. omega (arith, up, l, c.runs.invariant.some)) ∙ rw (chosen_from at rows j up, c.requires.given (j - at) l) refl
          ]
    ]
