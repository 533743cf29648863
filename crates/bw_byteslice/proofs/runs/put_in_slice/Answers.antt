use Rattle.std.proofs.Common.{ap, arith, drop, get_or, inl, inr, length, length-drop, length-take, sym, take, ◌++◌, ◌+◌, ◌-◌, ◌≡◌, ◌≤◌, ◌∙◌}
use Rattle.std.proofs.Math.Seq.{take-append_seam}
use Rattle.std.proofs.lemmas.Bool.{cases_lt}
use Rattle.std.proofs.lemmas.List.{get_or-drop, get_or-take}
use borrow.Rule.Slice.PartMut.{put_mid}
use Rattle.bw_code.proofs.Parts.{before_part, behind_part, in_part, part_length}
use Rattle.bw_byteslice.proofs.runs.put_in_slice.Goals as goal

pub returns-clause-kept : goal.returns-clause-kept
returns-clause-kept c j apart =
    let at = c.args.at in
    let n = at + length c.args.chosen.now - at in
    let xs = c.deref_mut.result.now in
    let items = c.args.slice.now.items in
    let part = c.put_chosen.new.kept in
    let all = put_mid at n xs part in
    let same : xs ≡ items = c.deref_mut.ensures.value in
    let fits : at + n ≤ length xs = omega (arith, c.requires.there, ap length same) in
    let whole : length (take n (drop at xs)) ≡ n = omega (arith, length-take n (drop at xs), length-drop at xs, fits) in
    let long : length part ≡ n = c.put_chosen.ensures.len ∙ whole in
    let len : length all ≡ c.args.slice.now.len = omega (arith, part_length at n xs part 0 fits long, ap length same, c.args.slice.now.ok.0) in
    let is : get_or all j 0 ≡ get_or xs j 0 =
    elim (cases_lt j at) [
      | inl l ↦ before_part at n xs part 0 fits long j l
      | inr up ↦
          elim (cases_lt j (at + n)) [
            | inl l ↦
                in_part at n xs part 0 fits long j up l
                ∙ c.put_chosen.ensures.kept (j - at) (apart up)
                ∙ get_or-take n (drop at xs) (j - at) 0 (omega (arith, up, l))
                ∙ get_or-drop at xs (j - at) 0
                ∙ ap (λ m. get_or xs m 0) (omega (arith, up))
            | inr l ↦ behind_part at n xs part 0 fits long j l
          ]
    ] in
    ap (λ zs. get_or zs j 0) (ap (λ m. take m (all ++ drop (length all) items)) (sym len) ∙ take-append_seam all (drop (length all) items)) ∙ is ∙ ap (λ zs. get_or zs j 0) same
