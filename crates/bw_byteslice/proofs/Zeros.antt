-- Rows of code 0 after the last: their bytes are zeros already.
use Rattle.std.proofs.Common.{List, [], ap, arith, get_or, length, pow_pos, replicate, subst, sym, ℕ, ◌*◌, ◌+◌, ◌++◌, ◌<◌, ◌^◌, ◌≡◌, ◌≤◌, ◌∙◌}
use Rattle.std.proofs.lemmas.List.{length-replicate}
use Rattle.std.proofs.lemmas.Simd.{get_or-replicate}
use Rattle.bw_code.specs.Columns.{Fit}
use Rattle.bw_code.specs.Lists.{made}
use Rattle.bw_code.specs.Units.{digit, segments_of}
use Rattle.bw_byteslice.specs.Slices.{shift_of, slices_of}
use Rattle.bw_byteslice.specs.Storing.{AreSlices, byte_of, code_of}
use Rattle.bw_byteslice.proofs.Keeping.{byte_is_digit, code_inside, code_outside, code_past, codes_more, slices_put}

module _ (k n more : ℕ) (before after : List (List ℕ)) (stored : AreSlices k n before) (same : (i j : ℕ) → byte_of after j i ≡ byte_of before j i) where
  abbrev zeros : List ℕ
  zeros = replicate more 0

  long : length zeros ≡ more
  long = length-replicate more 0

  zero : (r d : ℕ) → r < length zeros → get_or zeros r d ≡ 0
  zero r d h = get_or-replicate more r 0 d (omega (arith, h, long))

  fit : Fit k zeros
  fit r d h = subst (λ x. x < 2 ^ k) (sym (zero r d h)) (pow_pos k)

  inside : (i r : ℕ) → i < slices_of k → r < length zeros → byte_of after (n + r) i ≡ digit 256 (slices_of k) (get_or zeros r 0 * 2 ^ shift_of k) i
  inside i r low h =
      same i (n + r) ∙ byte_is_digit k n before stored i (n + r) low
      ∙ ap (λ x. digit 256 (slices_of k) (x * 2 ^ shift_of k) i) (code_past k n before stored (n + r) (omega arith) ∙ sym (zero r 0 h))

  outside : (i j : ℕ) → (n ≤ j → n + length zeros ≤ j) → byte_of after j i ≡ byte_of before j i
  outside i j _ = same i j

  pub slices_more : n + more ≤ 2 ^ 24 → length after ≡ length before → ((i : ℕ) → i < slices_of k → length (get_or after i []) ≡ 32 * segments_of 32 (n + more)) → AreSlices k (n + more) after
  slices_more few count all = slices_put k n zeros before after fit inside outside n (n + more) stored (omega arith) few (omega (arith, long)) count all

  pub codes_zeros : made (n + more) (code_of k after) ≡ made n (code_of k before) ++ replicate more 0
  codes_zeros =
      subst (λ m. made (n + m) (code_of k after) ≡ made n (code_of k before) ++ zeros) long
      (codes_more k n zeros before after (code_inside k n zeros before after fit inside outside) (λ j h. code_outside k n zeros before after fit inside outside j (λ up. absurd (omega (arith, up, h)))))
