-- Runs of 64 numbers of a list, of which the last is cut short.
use Rattle.std.proofs.Common.{List, ap, arith, drop, get_or, inl, inr, length, length-drop, length-take, min, refl, sym, take, ℕ, ◌*◌, ◌+◌, ◌-◌, ◌<◌, ◌≡◌, ◌∙◌}
use Rattle.std.proofs.lemmas.Bool.{cases_lt}
use Rattle.std.proofs.lemmas.List.{get_or_past}
use Rattle.bw_code.proofs.Lists.{part_at}

-- number q of run j
pub number_of_run : (xs : List ℕ) (j from end q : ℕ) → from ≡ min (length xs) (64 * j) → end ≡ min (length xs) (64 * j + 64) → q < 64 → get_or (take (end - from) (drop from xs)) q 0 ≡ get_or xs (64 * j + q) 0
number_of_run xs j from end q start stop low =
    let run = take (end - from) (drop from xs) in
    let long : length run ≡ end - from = omega (arith, length-take (end - from) (drop from xs), length-drop from xs, start, stop) in
    elim (cases_lt (64 * j + q) (length xs)) [
      | inl h ↦
          let here : from ≡ 64 * j = omega (arith, start, h) in
          part_at xs run from (end - from) q 0 refl (omega (arith, long, start, stop, h, low)) ∙ ap (λ n. get_or xs (n + q) 0) here
      | inr h ↦ get_or_past run q 0 (omega (arith, long, start, stop, h)) ∙ sym (get_or_past xs (64 * j + q) 0 h)
    ]
