use Rattle.std.proofs.Common.{ap, arith, get_or, length, of_z, pos, to_z, w64, ◌++◌, ◌<◌, ◌≡◌, ◌≤ℤ◌, ◌∙◌}
use Rattle.std.specs.List.{insert}
use Rattle.std.proofs.lemmas.Int.{ints, to_z-of_z}
use Rattle.bw_dictionary.specs.Finding.{AreBelow}
use Rattle.bw_dictionary.proofs.Added.{all_above, still_ascending}
use Rattle.bw_dictionary.proofs.adding.add_entry.Goals as goal

pub returns : goal.returns
returns c =
    let entries = c.args.entries.now in
    let x = c.args.x in
    let n = c.first_from-index.result in
    let back : to_z w64 (of_z w64 x) ≡ x = search (arith, ints, to_z-of_z) in
    let inside = c.first_from-index.ensures.inside in
    let below : AreBelow entries x n = rw back at c.first_from-index.ensures.before in
    let from : n < length entries → x ≤ℤ get_or entries n (pos 0) = rw back at c.first_from-index.ensures.there in
    let copied : c.extend_from_slice.new.self.items ≡ entries = c.in_ok-extend_from_slice.ensures.items ∙ ap (λ xs. xs ++ entries) c.in_ok-all.ensures.items in
    let put : c.insert.new.self.items ≡ insert c.extend_from_slice.new.self.items n x = rw back at c.in_ok-insert.ensures.items in
    let are : c.insert.new.self.items ≡ insert entries n x = put ∙ ap (λ xs. insert xs n x) copied in
    record {
      inside = inside;
      are = are;
      ascending = rw are (still_ascending entries x n inside c.requires.ascending below (all_above entries x n c.requires.ascending from c.requires.new));
    }
