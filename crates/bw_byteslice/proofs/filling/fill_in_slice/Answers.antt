use Rattle.std.proofs.Common.{ap, arith, drop, false, get_or, if◌then◌else◌, inl, inr, length, length-drop, length-take, sym, take, ◌++◌, ◌+◌, ◌-◌, ◌≡◌, ◌≤◌, ◌∙◌}
use Rattle.std.proofs.Math.Seq.{take-append_seam}
use Rattle.std.proofs.lemmas.Bool.{cases_lt}
use Rattle.std.proofs.lemmas.List.{get_or-drop, get_or-take}
use borrow.Rule.Slice.PartMut.{put_mid}
use Rattle.bw_code.proofs.Parts.{before_part, behind_part, in_part, part_length}
use Rattle.bw_byteslice.proofs.filling.fill_in_slice.Goals as goal

pub returns-clause-bytes : goal.returns-clause-bytes
returns-clause-bytes c r h =
    let at = c.args.at in
    let n = at + c.args.n - at in
    let xs = c.deref_mut.result.now in
    let items = c.args.slice.now.items in
    let part = c.fill_bytes.new.bytes in
    let all = put_mid at n xs part in
    let same : xs ≡ items = c.deref_mut.ensures.value in
    let fits : at + n ≤ length xs = omega (arith, c.requires.there, ap length same) in
    let whole : length (take n (drop at xs)) ≡ n = omega (arith, length-take n (drop at xs), length-drop at xs, fits) in
    let long : length part ≡ n = c.fill_bytes.ensures.len ∙ whole in
    let len : length all ≡ c.args.slice.now.len = omega (arith, part_length at n xs part 0 fits long, ap length same, c.args.slice.now.ok.0) in
    let back : at + r - at ≡ r = omega arith in
    let byte : get_or (take n (drop at xs)) r 0 ≡ get_or items (at + r) 0 = get_or-take n (drop at xs) r 0 (omega (arith, h)) ∙ get_or-drop at xs r 0 ∙ ap (λ zs. get_or zs (at + r) 0) same in
    ap (λ zs. get_or zs (at + r) 0) (ap (λ m. take m (all ++ drop (length all) items)) (sym len) ∙ take-append_seam all (drop (length all) items))
    ∙ in_part at n xs part 0 fits long (at + r) (omega arith) (omega (arith, h))
    ∙ ap (λ j. get_or part j 0) back
    ∙ c.fill_bytes.ensures.bytes r (omega (arith, h, whole))
    ∙ ap (λ b. if get_or c.args.chosen.now r false then c.args.byte else b) byte

pub returns-clause-others : goal.returns-clause-others
returns-clause-others c j apart =
    let at = c.args.at in
    let n = at + c.args.n - at in
    let xs = c.deref_mut.result.now in
    let items = c.args.slice.now.items in
    let part = c.fill_bytes.new.bytes in
    let all = put_mid at n xs part in
    let same : xs ≡ items = c.deref_mut.ensures.value in
    let fits : at + n ≤ length xs = omega (arith, c.requires.there, ap length same) in
    let whole : length (take n (drop at xs)) ≡ n = omega (arith, length-take n (drop at xs), length-drop at xs, fits) in
    let long : length part ≡ n = c.fill_bytes.ensures.len ∙ whole in
    let len : length all ≡ c.args.slice.now.len = omega (arith, part_length at n xs part 0 fits long, ap length same, c.args.slice.now.ok.0) in
    let is : get_or all j 0 ≡ get_or xs j 0 =
    elim (cases_lt j at) [
      | inl l ↦ before_part at n xs part 0 fits long j l
      | inr up ↦ behind_part at n xs part 0 fits long j (omega (arith, apart up))
    ] in
    ap (λ zs. get_or zs j 0) (ap (λ m. take m (all ++ drop (length all) items)) (sym len) ∙ take-append_seam all (drop (length all) items)) ∙ is ∙ ap (λ zs. get_or zs j 0) same
