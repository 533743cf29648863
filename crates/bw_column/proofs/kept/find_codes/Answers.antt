use Rattle.std.proofs.Common.{All, ap, is_some, refl, sym, true≢false, ◌∙◌}
use Rattle.std.specs.Prelude.{Contains}
use Rattle.bw_code.specs.Encodings.{AreCodes, entry_code}
use Rattle.bw_code.specs.declared.encoding.Encoding.TheVariants as by
use Rattle.bw_column.specs.Codes.{IsCoded}
use Rattle.bw_column.proofs.Grown.{cells_coded, codes_by_table, entries_coded}
use Rattle.bw_column.proofs.kept.find_codes.Goals as goal

pub returns-in_default-2-clause-all : goal.returns-in_default-2-clause-all
returns-in_default-2-clause-all g c =
    let cells = g.C.Cells.cells c.args.cells.now in
    let d = c.in-Dictionary.dictionary in
    let new = c.args.ranked.now.entries.items in (
      λ it. absurd (true≢false (sym it)),
      λ coded.
          let here : All (IsCoded (by.Dictionary d)) cells = rw c.in-Dictionary.is at coded in
          let all : All (Contains c.entries.result.now) c.deref.result.now = rw (c.entries.ensures.is, c.deref.ensures.value) (entries_coded cells new c.requires.ranked.entries d here) in
          sym (ap is_some c.in_default-2.is) ∙ c.in_ok-table.ensures.all.1 all,
    )

pub returns-clause-all : goal.returns-clause-all
returns-clause-all g c =
    let cells = g.C.Cells.cells c.args.cells.now in
    let d = c.in-Dictionary.dictionary in
    let new = c.args.ranked.now.entries.items in (
      λ it.
          let all : All (Contains d) new = rw (c.entries.ensures.is, c.deref.ensures.value) at (c.in_ok-table.ensures.all.0 (ap is_some c.in-Some.is)) in
          rw c.in-Dictionary.is (cells_coded cells new c.requires.ranked.entries d all),
      λ coded. refl,
    )

pub returns-clause-kept : goal.returns-clause-kept
returns-clause-kept g c =
    let cells = g.C.Cells.cells c.args.cells.now in
    let d = c.in-Dictionary.dictionary in
    let new = c.args.ranked.now.entries.items in
    let are : AreCodes (entry_code d) new c.in-Some.table.items = rw (c.in-Some.is, c.entries.ensures.is, c.deref.ensures.value) at c.in_ok-table.ensures.places in
    let codes = c.in_ok-codes.ensures in
    rw (c.in-Dictionary.is, codes, c.deref-2.ensures.value) (codes_by_table cells new c.requires.ranked.entries (by.Dictionary d) c.in-Some.table.items are)
