use Rattle.std.proofs.Common.{ap, arith, false, refl, subst, sum, sym, true, ℕ, ◌&&◌, ◌*◌, ◌+◌, ◌-◌, ◌<◌, ◌^◌, ◌≡◌, ◌≤◌, ◌∙◌}
use Rattle.std.proofs.lemmas.List.{get_or_past}
use Rattle.std.proofs.lemmas.List.Sums.{sum_by-append}
use Rattle.std.specs.List.{items_where_true}
use Rattle.bw_mask.specs.Masks.{row_at, row_in}
use Rattle.bw_code.specs.Columns.{code_at, count}
use Rattle.bw_aggregate.specs.Ends.{AreNearest}
use Rattle.bw_aggregate.specs.Left.{codes_between}
use Rattle.bw_aggregate.proofs.Halves.{chosen_small, told_small}
use Rattle.bw_aggregate.proofs.Nearest.{ends_cut, ends_more}
use Rattle.bw_aggregate.proofs.Parts.{between_all, between_append}
use Rattle.bw_aggregate.proofs.tally_planes.tally_by_planes.Goals as goal

pub segments-preserved : goal.segments-preserved
segments-preserved c =
    let rows = c.args.rows.now.rows in
    let codes = c.args.codes.now.codes in
    let q = c.segments.q in
    let before = codes_between rows codes 0 (256 * q) in
    let part = codes_between rows codes (256 * q) (256 * q + 256) in
    let next : 256 * (q + 1) ≡ 256 * q + 256 = omega arith in
    let whole : sum (codes_between rows codes 0 (256 * (q + 1))) ≡ sum before + sum part =
    ap (λ n. sum (codes_between rows codes 0 n)) next ∙ ap sum (sym (between_append rows codes (256 * q) (256 * q + 256) c.requires.len (omega arith))) ∙ sum_by-append (λ x. x) before part in
    let known = λ (r : ℕ). row_at c.args.rows.now r && row_at c.args.nonnull.now r in
    let top = 2 ^ c.args.codes.now.width - 1 in
    let in_both : (j : ℕ) → j < 256 → row_in c.rows_with-known.result j ≡ known (256 * q + j) = λ j h. c.rows_with-known.ensures j h
    ∙ rw (c.rows_at-rows.ensures j h ∙ c.words-words.ensures.rows (256 * q + j), c.rows_at.ensures j h ∙ c.words-nonnull_words.ensures.rows (256 * q + j)) refl in
    record {
      total = λ asked.
          let here : c.sum_if-total.result ≡ sum part = c.sum_if-total.ensures.sum asked rows c.requires.len (λ j h. c.rows_at-rows.ensures j h ∙ c.words-words.ensures.rows (256 * q + j)) in
          omega (arith, whole, here, c.segments.invariant.total asked);
      unasked = λ e. omega (arith, c.sum_if-total.ensures.unasked e, c.segments.invariant.unasked e);
      small = omega (arith, c.segments.invariant.small, c.sum_if-total.ensures.small);
      nearest = subst (λ n. AreNearest n known (code_at c.args.codes.now) top c.args.far c.nearest_to_ends-best.result) (sym next)
          (ends_more (256 * q) 256 known (row_in c.rows_with-known.result) (code_at c.args.codes.now) (λ (j : ℕ). code_at c.args.codes.now (256 * q + j)) top c.args.far c.segments.best c.nearest_to_ends-best.result
          in_both (λ j h. refl) c.segments.invariant.nearest c.nearest_to_ends-best.ensures);
    }

pub returns : goal.returns
returns c =
    let codes = c.args.codes.now in
    let rows = c.args.rows.now.rows in
    let past : count codes ≤ 256 * c.segments.q = omega (arith, c.segments-test.false, c.div_ceil-q-end.ensures, c.len.ensures.count) in
    let known = λ (r : ℕ). row_at c.args.rows.now r && row_at c.args.nonnull.now r in
    let whole = λ (asked : c.args.sum ≡ true). c.segments.invariant.total asked ∙ ap sum (between_all rows codes.codes (256 * c.segments.q) c.requires.len (omega (arith, past, c.requires.len))) in
    record {
      small = told_small c.args.sum c.segments.total (sum (items_where_true rows codes.codes)) whole c.segments.invariant.unasked (chosen_small codes.width rows codes.codes c.requires.narrow (omega (arith, c.len.ensures.count, c.len.ensures.few)) c.width.ensures.fit);
      sum = whole;
      nearest = ends_cut (256 * c.segments.q) (count codes) known (code_at codes) (2 ^ codes.width - 1) c.args.far c.segments.best past
          (λ j h. ap (λ b. b && row_at c.args.nonnull.now j) (get_or_past rows j false (omega (arith, h, c.requires.len)))) c.segments.invariant.nearest;
    }
