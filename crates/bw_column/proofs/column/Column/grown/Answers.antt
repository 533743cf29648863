use Rattle.std.proofs.Common.{length, replicate, true, false, ℕ, ◌<◌, ◌≡◌, ◌∙◌}
use Rattle.std.proofs.lemmas.List.{get_or-replicate}
use Rattle.std.proofs.lemmas.Result.{IfOk-weaker}
use Rattle.bw_code.specs.Encodings.{AreCodes, code_of}
use Rattle.bw_dictionary.specs.Merging.{AreStandingCodes, StandsAt}
use Rattle.bw_column.specs.Values.{known}
use Rattle.bw_column.proofs.Grown.{all_codes, all_stand}
use Rattle.bw_column.proofs.column.Column.grown.Goals as goal

pub grown_in-requires-clause-others : goal.grown_in-requires-clause-others
grown_in-requires-clause-others g c =
    let entries = c.args.entries.now in
    let n = length entries in
    let is : c.deref.result.now ≡ replicate n true = c.deref.ensures.value ∙ c.in_ok-stands.ensures.items_if_clones_equal (λ y h. h) in
    rw is (all_stand (known (g.C.Cells.cells c.args.cells.now)) entries (replicate n true) c.requires.distinct (λ m h. get_or-replicate n m true false h))

pub returns-clause-codes : goal.returns-clause-codes
returns-clause-codes g c =
    let entries = c.args.entries.now in
    let n = length entries in
    let is : c.deref.result.now ≡ replicate n true = c.deref.ensures.value ∙ c.in_ok-stands.ensures.items_if_clones_equal (λ y h. h) in
    let stands = c.deref.result.now in
    let marked : (m : ℕ) → m < n → StandsAt stands m = rw is (λ m h. get_or-replicate n m true false h) in
    IfOk-weaker c.grown_in.result (λ grown. AreStandingCodes (code_of grown.column.encoding) entries stands grown.codes.items) (λ grown. AreCodes (code_of grown.column.encoding) entries grown.codes.items)
    (λ grown are. all_codes grown.column.encoding entries stands grown.codes.items marked are)
    c.grown_in.ensures.codes
