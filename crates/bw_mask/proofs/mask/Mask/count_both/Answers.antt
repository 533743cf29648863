use Rattle.std.proofs.Common.{arith, count_by, ℕ, ◌&&◌, ◌≡◌, ◌∙◌}
use Rattle.std.proofs.lemmas.List.Sums.{count_by-le-length}
use Rattle.bw_mask.specs.Masks.{len, row_at, row_in, rows_of}
use Rattle.bw_mask.proofs.Counts.{many_both}
use Rattle.bw_mask.proofs.Views.{rows_len}
use Rattle.bw_mask.proofs.mask.Mask.count_both.Goals as goal

counted : (c : goal.After-count_both_words) → c.count_both_words.result ≡ count_by (λ row. row) (rows_of (len c.args.self.now) (λ i. row_at c.args.self.now i && row_at c.args.other.now i))
counted c =
    let n = c.self.inside.len in
    let same : n ≡ c.other.inside.len = grind (arith, rows_len) in
    let size = rows_len n (row_in c.self.inside.words.items) in
    rw (← c.self.view_is, ← c.other.view_is, ← same, size) (
    c.count_both_words.ensures.sum ∙ rw (c.deref.ensures.value, c.deref-2.ensures.value) (many_both c.self.inside.words.items c.other.inside.words.items n c.self.invariant (rw same c.other.invariant) (λ k. rw (← c.deref.ensures.value) (c.count_both_words.ensures.fits k))))

pub returns-clause-rows : goal.returns-clause-rows
returns-clause-rows c = counted c

pub returns-clause-few : goal.returns-clause-few
returns-clause-few c =
    let test = λ (i : ℕ). row_at c.args.self.now i && row_at c.args.other.now i in
    let most = count_by-le-length (λ row. row) (rows_of (len c.args.self.now) test) in
    omega (arith, counted c, most, rows_len (len c.args.self.now) test)
