use Rattle.std.proofs.Common.{[], ℕ, FitsSigned, None, ap, arith, false, get_or, inl, inr, is_some, of_z, rules, subst, sym, true, to_z, w64, ◌%◌, ◌*◌, ◌+◌, ◌-◌, ◌/◌, ◌<◌, ◌==◌, ◌≡◌, ◌∙◌}
use Rattle.std.proofs.lemmas.Bool.{cases_lt}
use Rattle.std.proofs.lemmas.Int.{to_z-of_z}
use Rattle.std.proofs.lemmas.Nat.Bits.{bit_at-lt}
use Rattle.bw_mask.specs.Masks.{bit_of, row_in}
use Rattle.bw_file.specs.Cells.{presence_size}
use Rattle.bw_file.specs.Planes.{HasBase, HasTop, bit_in, plane_bit}
use Rattle.bw_file.proofs.Bits.{presence-by_known}
use Rattle.bw_file.proofs.Filled.{near_at}
use Rattle.bw_file.proofs.PlanePlaces.{few_in}
use Rattle.bw_file.proofs.Spelled.{planes-by_bits, same_bit}
use Rattle.bw_file.proofs.Tight.{tight, two}
use Rattle.bw_file.proofs.planes.write_planes.Goals as goal
use Rattle.bw_file.proofs.planes.write_planes.Goals.{then-middle-rows, else-middle-rows}

pub loop-j-init : goal.loop-j-init
loop-j-init g c = record {
  present = c.requires.present;
  whole = λ m. omega (arith, c.type_inv.present m);
  told = λ i h l. absurd (omega (arith, h));
  long = c.requires.long;
  small = λ m. omega (arith, c.type_inv.planes m);
  bits = λ p i h l m. absurd (omega (arith, l));
  base_seen = λ e. let no : false ≡ true = sym c.nothing-seen.ensures.base ∙ e in absurd cc;
  top_seen = λ e. let no : false ≡ true = sym c.nothing-seen.ensures.top ∙ e in absurd cc;
}

pub loop-j-preserved : goal.loop-j-preserved
loop-j-preserved g c =
    let inv = c.loop-j.invariant in
    let cells = g.C.Cells.cells c.args.column.now in
    let base = to_z w64 (of_z w64 c.args.base) in
    let k = c.args.k in
    let rows = c.args.rows in
    let size = c.div_ceil.result in
    let at = c.loop-j.j * 4096 in
    let middle = c.loop-j.j * 4096 + 2048 in
    let planes = c.put_blocks.new.planes in
    let one = c.take_block-seen.ensures in
    let put = c.put_blocks.ensures in
    let size_is : size ≡ presence_size rows = omega (arith, c.div_ceil.ensures) in
    let told : (i : ℕ) → i < middle → i / 8 < presence_size rows → bit_of (get_or c.take_block-seen.new.present (i / 8) 0) (i % 8) ≡ is_some (get_or cells i None) =
    λ i l n.
    elim (cases_lt i at) [
      | inl before ↦ one.before i before ∙ inv.told i before n
      | inr here ↦ one.told i here l (omega (arith, n, c.requires.count))
    ] in
    let bits : (p i : ℕ) → p < k → i < middle → i / 8 < presence_size rows → plane_bit (presence_size rows) planes p i ≡ bit_in base (k - 1 - p) (get_or cells i None) =
    λ p i h l n.
    let there : i / 8 < size = omega (arith, n, size_is) in
    ap (λ s. plane_bit s planes p i) (sym size_is)
    ∙ elim (cases_lt i at) [
      | inl before ↦
          put.outside p i h there (λ high. absurd (omega (arith, high, before)))
          ∙ ap (λ s. plane_bit s c.loop-j.planes p i) size_is ∙ inv.bits p i h before n
      | inr here ↦
          let b = k - 1 - p in
          let low : b < k = omega (arith, h) in
          let row : at + (i - at) ≡ i = omega (arith, here) in
          same_bit (plane_bit size planes p i) (bit_in base b (get_or cells i None)) (bit_at-lt (get_or planes (p * size + i / 8) 0) (i % 8)) (few_in base b (get_or cells i None))
          (put.first p i h there here l ∙ one.planes b (i - at) low (omega (arith, here, l)) ∙ ap (λ x. bit_in base b (get_or cells x None) == 1) row)
    ] in
    let has_base : c.take_block-seen.result.base ≡ true → HasBase base cells = λ e. elim (one.base e) [ inl before ↦ inv.base_seen before | inr here ↦ here ] in
    let has_top : c.take_block-seen.result.top ≡ true → HasTop base k cells = λ e. elim (one.top e) [ inl before ↦ inv.top_seen before | inr here ↦ here ] in
    elim c.if-middle-rows.branch [
      | then-middle-rows w ↦
          let two = w.take_block-seen-then-middle-rows.ensures in
          rw (w.present-is, w.seen-is) (record {
            present = two.len ∙ one.len ∙ inv.present;
            whole = two.small;
            told = λ i l n.
                elim (cases_lt i middle) [
                  | inl before ↦ two.before i before ∙ told i before n
                  | inr here ↦ two.told i here (omega (arith, l)) (omega (arith, n, c.requires.count))
                ];
            long = put.len ∙ inv.long;
            small = put.small;
            bits = λ p i h l n.
                elim (cases_lt i middle) [
                  | inl before ↦ bits p i h before n
                  | inr here ↦
                      let b = k - 1 - p in
                      let low : b < k = omega (arith, h) in
                      let there : i / 8 < size = omega (arith, n, size_is) in
                      let row : middle + (i - middle) ≡ i = omega (arith, here) in
                      ap (λ s. plane_bit s planes p i) (sym size_is)
                      ∙ same_bit (plane_bit size planes p i) (bit_in base b (get_or cells i None)) (bit_at-lt (get_or planes (p * size + i / 8) 0) (i % 8)) (few_in base b (get_or cells i None))
                      (put.second p i h there here (omega (arith, l)) ∙ ap (λ bs. row_in (get_or bs b []) (i - middle)) w.second-is ∙ two.planes b (i - middle) low (omega (arith, here, l))
                      ∙ ap (λ x. bit_in base b (get_or cells x None) == 1) row)
                ];
            base_seen = λ e. elim (two.base e) [ inl before ↦ has_base before | inr here ↦ here ];
            top_seen = λ e. elim (two.top e) [ inl before ↦ has_top before | inr here ↦ here ];
          })
      | else-middle-rows w ↦
          rw (w.present-is, w.seen-is) (record {
            present = one.len ∙ inv.present;
            whole = one.small;
            told = λ i l n. told i (omega (arith, n, w.if-middle-rows.false)) n;
            long = put.len ∙ inv.long;
            small = put.small;
            bits = λ p i h l n. bits p i h (omega (arith, n, w.if-middle-rows.false)) n;
            base_seen = has_base;
            top_seen = has_top;
          })
    ]

pub returns-clause-bits : goal.returns-clause-bits
returns-clause-bits g c =
    presence-by_known (presence_size c.args.rows) c.loop-j.present (g.C.Cells.cells c.args.column.now) c.loop-j.invariant.present c.loop-j.invariant.whole
    (λ i h. c.loop-j.invariant.told i (omega (arith, h, c.div_ceil-j-end.ensures, c.loop-j-test.false)) h)

pub returns-clause-planes : goal.returns-clause-planes
returns-clause-planes g c =
    let cells = g.C.Cells.cells c.args.column.now in
    let fits : FitsSigned w64 c.args.base = search rules in
    let same : to_z w64 (of_z w64 c.args.base) ≡ c.args.base = to_z-of_z w64 c.args.base fits in
    planes-by_bits c.args.base c.args.k (presence_size c.args.rows) c.loop-j.planes cells c.loop-j.invariant.long c.loop-j.invariant.small
    (λ p i h l. c.loop-j.invariant.bits p i h (omega (arith, l, c.div_ceil-j-end.ensures, c.loop-j-test.false)) l ∙ ap (λ z. bit_in z (c.args.k - 1 - p) (get_or cells i None)) same)

pub returns-clause-frame : goal.returns-clause-frame
returns-clause-frame g c e =
    let inv = c.loop-j.invariant in
    let cells = g.C.Cells.cells c.args.column.now in
    let base = c.args.base in
    let fits : FitsSigned w64 base = search rules in
    let same : to_z w64 (of_z w64 base) ≡ base = to_z-of_z w64 base fits in
    let both = two c.loop-j.seen.base c.loop-j.seen.top (sym c.both.ensures ∙ e) in
    tight base c.args.k cells c.requires.some c.requires.narrow (near_at base c.args.k cells fits c.requires.near) (subst (λ z. HasBase z cells) same (inv.base_seen both.0)) (subst (λ z. HasTop z c.args.k cells) same (inv.top_seen both.1))
