use Rattle.std.proofs.Common.{List, ap, arith, drop, get_or, inl, inr, length, length-drop, length-take, sym, take, ℕ, ◌++◌, ◌+◌, ◌-◌, ◌≡◌, ◌≤◌, ◌∙◌}
use Rattle.std.proofs.Math.Seq.{take-append_seam}
use Rattle.std.proofs.lemmas.Bool.{cases_lt}
use borrow.Rule.Slice.PartMut.{put_mid}
use Rattle.bw_code.proofs.Parts.{before_part, behind_part, part_length}
use Rattle.bw_byteslice.proofs.exchanging.exchange_in_slices.Goals as goal

-- bytes outside a part that is written
outside : (at n : ℕ) (xs items part : List ℕ) (len : ℕ) → xs ≡ items → len ≡ length items → at + n ≤ length items → length part ≡ length (take n (drop at xs)) → (j : ℕ) → (at ≤ j → at + n ≤ j)
    → get_or (take len (put_mid at n xs part ++ drop (length (put_mid at n xs part)) items)) j 0 ≡ get_or items j 0
outside at n xs items part len same all there part_len j apart =
    let whole = put_mid at n xs part in
    let fits : at + n ≤ length xs = omega (arith, there, ap length same) in
    let long : length part ≡ n = omega (arith, part_len, length-take n (drop at xs), length-drop at xs, fits) in
    let len_is : length whole ≡ len = omega (arith, part_length at n xs part 0 fits long, ap length same, all) in
    let is : get_or whole j 0 ≡ get_or xs j 0 =
    elim (cases_lt j at) [
      | inl l ↦ before_part at n xs part 0 fits long j l
      | inr up ↦ behind_part at n xs part 0 fits long j (omega (arith, apart up))
    ] in
    ap (λ zs. get_or zs j 0) (ap (λ m. take m (whole ++ drop (length whole) items)) (sym len_is) ∙ take-append_seam whole (drop (length whole) items)) ∙ is ∙ ap (λ zs. get_or zs j 0) same

pub returns-clause-kept : goal.returns-clause-kept
returns-clause-kept c j apart =
    outside c.args.at (c.args.at + c.args.n - c.args.at) c.deref_mut.result.now c.args.own.now.items c.exchange_bytes.new.own c.args.own.now.len c.deref_mut.ensures.value
    (omega (arith, c.args.own.now.ok.0)) (omega (arith, c.requires.there)) c.exchange_bytes.ensures.len j (λ up. omega (arith, apart up))

pub returns-clause-other_kept : goal.returns-clause-other_kept
returns-clause-other_kept c j apart =
    outside c.args.at (c.args.at + c.args.n - c.args.at) c.deref_mut-2.result.now c.args.other.now.items c.exchange_bytes.new.other c.args.other.now.len c.deref_mut-2.ensures.value
    (omega (arith, c.args.other.now.ok.0)) (omega (arith, c.requires.other_there)) c.exchange_bytes.ensures.other_len j (λ up. omega (arith, apart up))
