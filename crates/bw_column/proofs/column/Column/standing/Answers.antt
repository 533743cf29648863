use Rattle.std.proofs.Common.{ap, arith, drop, false, get_or, length, refl, replicate, suc, sym, take, true≢false, zero, ℕ, ◌++◌, ◌≡◌, ◌∙◌}
use Rattle.std.proofs.Math.Seq.{take-append_seam}
use Rattle.bw_dictionary.specs.Merging.{StandsAt}
use Rattle.bw_column.proofs.column.Column.standing.Goals as goal

none : (n m : ℕ) → get_or (replicate n false) m false ≡ false
none zero m = refl
none (suc n) zero = refl
none (suc n) (suc m) = none n m

pub mark_rows-requires-clause-none : goal.mark_rows-requires-clause-none
mark_rows-requires-clause-none c m h =
    let is = c.deref_mut.ensures.value ∙ c.in_ok-stands.ensures.items_if_clones_equal (λ y h. h) in
    let there : StandsAt (replicate (length c.args.entries.now) false) m = rw is at h in
    true≢false (sym there ∙ none (length c.args.entries.now) m)

pub returns-clause-stands : goal.returns-clause-stands
returns-clause-stands c =
    let new = c.mark_rows.new.stands in
    let items = c.in_ok-stands.stands.items in
    let n = c.in_ok-stands.stands.len in
    let same : n ≡ length new = omega (arith, c.in_ok-stands.stands.ok.0, c.mark_rows.ensures.count, ap length c.deref_mut.ensures.value) in
    let back : take n (new ++ drop (length new) items) ≡ new = ap (λ k. take k (new ++ drop (length new) items)) same ∙ take-append_seam new (drop (length new) items) in
    rw back c.mark_rows.ensures.stands
