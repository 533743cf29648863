use Rattle.std.proofs.Common.{ap, arith, get_or, inl, inr, length, length-take, replicate, subst, sym, take, ℕ, ◌*◌, ◌+◌, ◌-◌, ◌<◌, ◌^◌, ◌≡◌, ◌≤◌, ◌∙◌}
use Rattle.std.proofs.lemmas.Bool.{cases_lt}
use Rattle.std.proofs.lemmas.List.{length-replicate}
use Rattle.std.proofs.lemmas.List.Elements.{All-get_or}
use Rattle.std.proofs.Math.Nat.{zero-add}
use Rattle.bw_code.specs.Units.{digit}
use Rattle.bw_byteslice.specs.Slices.{shift_of, slices_of}
use Rattle.bw_byteslice.specs.Storing.{byte_of, bytes_of}
use Rattle.bw_byteslice.proofs.Halves.{lower_digit, upper_digit}
use Rattle.bw_byteslice.proofs.Raised.{raised_fits}
use Rattle.bw_byteslice.proofs.storage.put_block.Goals as goal

pub returns-else-width-le32-clause-inside : goal.returns-else-width-le32-clause-inside
returns-else-width-le32-clause-inside c i r low h =
    let k = c.args.width in
    let codes = c.args.codes.now in
    let number = get_or codes r 0 * 2 ^ shift_of k in
    let m = c.len-m.result - 4 in
    let count : slices_of k ≡ c.len-m.result - 4 + 4 = omega (arith, c.len-m.ensures, c.requires.count, c.if-width-le32.false) in
    let few : c.len-m.result - 4 ≤ 4 = omega (arith, count, c.requires.narrow) in
    let fits : number < 256 ^ (c.len-m.result - 4 + 4) = subst (λ n. number < 256 ^ n) count (raised_fits k (get_or codes r 0) (All-get_or (λ code. code < 2 ^ k) codes r 0 h c.requires.fit)) in
    let all : length {A = ℕ} (take (length codes) (replicate 64 0)) ≡ length codes = omega (arith, length-take (length codes) (replicate {A = ℕ} 64 0), length-replicate {A = ℕ} 64 0, c.requires.few) in
    let there : r < length c.raise_parts.new.numbers = omega (arith, c.raise_parts.ensures.len, all, h) in
    let also : r < length c.raise_parts-else-width-le32.new.numbers = omega (arith, c.raise_parts-else-width-le32.ensures.len, c.raise_parts.ensures.len, all, h) in
    elim (cases_lt i (c.len-m.result - 4)) [
      | inl p ↦
          c.put_numbers-else-width-le32-2.ensures.others i (c.args.at + r) (λ q. absurd (omega (arith, p, q)))
          ∙ ap (λ n. byte_of (bytes_of c.put_numbers-else-width-le32.new.slices.items) (c.args.at + r) n) (sym (zero-add i))
          ∙ c.put_numbers-else-width-le32.ensures.inside i r p there
          ∙ ap (λ x. digit 256 (c.len-m.result - 4) x i) (c.raise_parts.ensures.numbers r h)
          ∙ upper_digit (c.len-m.result - 4) number i few fits p
          ∙ ap (λ n. digit 256 n number i) (sym count)
      | inr p ↦
          let e = i - (c.len-m.result - 4) in
          let place : c.len-m.result - 4 + (i - (c.len-m.result - 4)) ≡ i = omega (arith, p) in
          let near : i - (c.len-m.result - 4) < 4 = omega (arith, low, count, p) in
          ap (λ n. byte_of (bytes_of c.put_numbers-else-width-le32-2.new.slices.items) (c.args.at + r) n) (sym place)
          ∙ c.put_numbers-else-width-le32-2.ensures.inside (i - (c.len-m.result - 4)) r near also
          ∙ ap (λ x. digit 256 4 x (i - (c.len-m.result - 4))) (c.raise_parts-else-width-le32.ensures.numbers r h)
          ∙ lower_digit (c.len-m.result - 4) number (i - (c.len-m.result - 4)) near
          ∙ ap (λ n. digit 256 (c.len-m.result - 4 + 4) number n) place
          ∙ ap (λ n. digit 256 n number i) (sym count)
    ]
