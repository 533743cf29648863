use Rattle.std.proofs.Common.{ap, arith, false, inl, inr, refl, ◌%◌, ◌*◌, ◌+◌, ◌-◌, ◌/◌, ◌<◌, ◌∙◌, ◌≡◌, ◌≤◌}
use Rattle.std.specs.Prelude.{if◌then◌else◌}
use Rattle.std.proofs.lemmas.Bool.{cases_lt}
use Rattle.std.proofs.lemmas.List.{get_or_past}
use Rattle.bw_mask.specs.Masks.{bit_of, row_at}
use Rattle.bw_vertical.specs.Storage.{code_of, is_set, lists}
use Rattle.bw_vertical.proofs.Holding.{has_segment}
use Rattle.bw_vertical.proofs.Placing.{sizes_more}
use Rattle.bw_vertical.proofs.copying.copy_codes.Goals as goal

pub copy_block-requires-clause-there : goal.copy_block-requires-clause-there
copy_block-requires-clause-there c s among g h = omega (arith, has_segment c.args.k c.args.len (lists c.args.groups.now.items) c.requires.planes (c.runs.q + s) (omega arith) g h, c.runs.invariant.sizes.sizes g)

pub copy_block-requires-clause-other_there : goal.copy_block-requires-clause-other_there
copy_block-requires-clause-other_there c s among g h = has_segment c.args.own c.args.len (lists c.args.others.now) c.requires.others (c.runs.q + s) (omega arith) g h

pub runs-preserved : goal.runs-preserved
runs-preserved c =
    let inv = c.runs.invariant in
    let k = c.args.k in
    let q = c.runs.q in
    let n = c.min-n.result in
    let old = lists c.args.groups.now.items in
    let now = lists c.runs.groups.items in
    let others = lists c.args.others.now in
    let rows = c.args.rows.now in
    let moved = c.args.moved.now in
    record {
      within = omega arith;
      done = λ i j h l.
          elim (cases_lt j (256 * q)) [
            | inl below ↦
                let far : j / 64 / 4 < q = omega (arith, below) in
                ap (λ v. bit_of v (j % 64)) (c.copy_block.ensures.other i (j / 64) h (inl far)) ∙ inv.done i j h below
            | inr above ↦
                let s = j / 256 - q in
                let r = j % 256 in
                let low : r < 256 = omega arith in
                let among : s < n = omega (arith, l, above) in
                let here : 256 * (q + s) + r ≡ j = omega (arith, above) in
                let was : is_set k now i j ≡ is_set k old i j = ap (λ v. bit_of v (j % 64)) (inv.left i (j / 64) h (omega (arith, above))) in
                (rw (here, c.words-row_words.ensures.rows j, c.words-moved_words.ensures.rows j) at (c.copy_block.ensures.block i s r h among low))
                ∙ ap (λ z. if row_at rows j then bit_of (code_of c.args.own others j + (if row_at moved j then c.args.by else 0)) (k - 1 - i) else z) was
          ];
      left = λ i v h l. let far : q + n ≤ v / 4 = omega (arith, l) in c.copy_block.ensures.other i v h (inr far) ∙ inv.left i v h (omega (arith, l));
      sizes = sizes_more c.copy_block.ensures.sizes inv.sizes;
    }

pub returns-clause-codes : goal.returns-clause-codes
returns-clause-codes c i j h =
    let inv = c.runs.invariant in
    let k = c.args.k in
    let rows = c.args.rows.now in
    elim (cases_lt j (256 * c.runs.q)) [
      | inl below ↦ inv.done i j h below
      | inr above ↦
          let past : row_at rows j ≡ false = get_or_past rows.rows j false (omega (arith, above, c.requires.rows, c.runs-test.false, c.div_ceil-segments.ensures)) in
          ap (λ v. bit_of v (j % 64)) (inv.left i (j / 64) h (omega (arith, above)))
          ∙ rw past refl
    ]
