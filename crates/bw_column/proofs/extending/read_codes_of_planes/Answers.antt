use Rattle.std.proofs.Common.{ap, arith, drop, inl, inr, length, length-drop, length-take, refl, take, ◌*◌, ◌+◌, ◌-◌, ◌<◌, ◌≡◌, ◌≤◌, ◌∙◌}
use Rattle.std.proofs.lemmas.Bool.{cases_lt}
use Rattle.bw_code.proofs.Parts.{before_part, in_part, part_length}
use Rattle.bw_vertical.specs.Planes.{code_by_planes}
use Rattle.bw_column.proofs.BlockWords.{number_of_word, zero_at}
use Rattle.bw_column.proofs.extending.read_codes_of_planes.Goals as goal

pub loop-j-init : goal.loop-j-init
loop-j-init c = record {
  len = refl;
  rest = λ b h. zero_at 64 b;
  codes = λ r h l. absurd (omega (arith, h));
}

pub put_codes_of_words-requires-clause-rest : goal.put_codes_of_words-requires-clause-rest
put_codes_of_words-requires-clause-rest c b h l = c.read_word_of_planes.ensures.rest b h ∙ c.loop-j.invariant.rest b h

pub loop-j-preserved : goal.loop-j-preserved
loop-j-preserved c =
    let k = c.args.k in
    let block = c.args.block.now in
    let j = c.loop-j.j in
    let out = c.loop-j.out in
    let inv = c.loop-j.invariant in
    let at = 64 * j in
    let end = c.min.result in
    let size = end - 64 * j in
    let part = c.put_codes_of_words.new.out in
    let words = c.read_word_of_planes.new.words in
    let less : 64 * j < length out = omega (arith, c.loop-j-test.true, c.div_ceil-j-end.ensures, inv.len) in
    let within : 64 * j + size ≤ length out = omega (arith, c.min.ensures, inv.len, less) in
    let whole : length (take size (drop (64 * j) out)) ≡ size = omega (arith, length-take size (drop (64 * j) out), length-drop (64 * j) out, within) in
    let long : length part ≡ size = c.put_codes_of_words.ensures.len ∙ whole in
    let same = part_length (64 * j) size out part 0 within long in
    record {
      len = same ∙ inv.len;
      rest = λ b h. c.read_word_of_planes.ensures.rest b h ∙ inv.rest b h;
      codes = λ r h l.
          elim (cases_lt r (64 * j)) [
            | inl before ↦ before_part (64 * j) size out part 0 within long r before ∙ inv.codes r before (omega (arith, before, less))
            | inr up ↦
                let inside : r < 64 * j + size = omega (arith, h, l, same, c.min.ensures, inv.len, up) in
                let low : r - 64 * j < 64 = omega (arith, h, up) in
                let place : 64 * j + (r - 64 * j) ≡ r = omega (arith, up) in
                in_part (64 * j) size out part 0 within long r up inside
                ∙ c.put_codes_of_words.ensures.codes (r - 64 * j) (omega (arith, whole, up, inside))
                ∙ number_of_word k j words block c.read_word_of_planes.ensures.read (r - 64 * j) low
                ∙ ap (code_by_planes k block) place
          ];
    }

pub returns-clause-codes : goal.returns-clause-codes
returns-clause-codes c r h = c.loop-j.invariant.codes r (omega (arith, h, c.loop-j-test.false, c.div_ceil-j-end.ensures, c.loop-j.invariant.len)) (omega (arith, h, c.loop-j.invariant.len))
