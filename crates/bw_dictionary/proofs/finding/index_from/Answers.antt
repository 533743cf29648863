use Rattle.std.proofs.Common.{arith, get_or, length, of_z, pos, sym, to_z, true≢false, w64, ◌<◌, ◌≡◌, ◌≤ℤ◌}
use Rattle.std.specs.Prelude.{Contains}
use Rattle.std.proofs.lemmas.Int.{ints, to_z-of_z}
use Rattle.bw_code.proofs.Entries.{entry_at}
use Rattle.bw_dictionary.specs.Finding.{AreBelow}
use Rattle.bw_dictionary.proofs.Below.{is_absent}
use Rattle.bw_dictionary.proofs.finding.index_from.Goals.{then-index-entries-via-then-index-entries, then-index-entries-via-else-index-entries+then-entries-index}
use Rattle.bw_dictionary.proofs.finding.index_from.Goals as goal

pub returns-then-index-entries-clause-is : goal.returns-then-index-entries-clause-is
returns-then-index-entries-clause-is c =
    let entries = c.args.entries.now in
    let x = c.args.x in
    let n = c.first_from-index.result in
    let e = c.first_from-index.ensures in
    let back : to_z w64 (of_z w64 x) ≡ x = search (arith, ints, to_z-of_z) in
    let below : AreBelow entries x n = rw back at e.before in
    let from : n < length entries → x ≤ℤ get_or entries n (pos 0) = rw back at e.there in
    let none : (Contains entries x → ⊥) = is_absent entries x c.requires.entries n below from
    (elim c.then-index-entries.branch [
      | then-index-entries-via-then-index-entries w ↦ λ h same. omega (arith, w.if-index-entries.true, h)
      | then-index-entries-via-else-index-entries+then-entries-index w ↦ λ h same. omega (arith, ints, w.if-entries-index.true, same)
    ]) in
    (λ it. absurd (true≢false (sym it)), λ there. absurd (none there))

pub returns-clause-code : goal.returns-clause-code
returns-clause-code c =
    let entries = c.args.entries.now in
    let x = c.args.x in
    let n = c.first_from-index.result in
    let inside : n < length entries = omega (arith, c.if-index-entries.false, c.first_from-index.ensures.inside) in
    let is : get_or entries n (pos 0) ≡ x = omega (arith, ints, c.if-entries-index.false) in
    entry_at entries x n c.requires.entries inside is
