use Rattle.std.proofs.Common.{FitsSigned, ap, map, pos, rules, w64, ◌+ℤ◌, ◌≡◌, ◌∙◌}
use Rattle.std.proofs.lemmas.Int.{to_z-of_z}
use Rattle.bw_cells.specs.Distances.{distance_from}
use Rattle.bw_rank.specs.Ranks.{AreRanks}
use Rattle.bw_dictionary.proofs.Encoded.{ranked_by, within}
use Rattle.bw_dictionary.proofs.ranked_cells.rank_between.Goals as goal

pub values_at-requires : goal.values_at-requires
values_at-requires g c =
    let cells = g.C.Cells.cells c.args.cells.now in
    let base = c.args.ends.least in
    let greatest = c.args.ends.greatest in
    let ranks = c.in_ok-entries.field-0 in
    let fits_base : FitsSigned w64 base = search rules in
    let fits_greatest : FitsSigned w64 greatest = search rules in
    let are : AreRanks (map (distance_from base) cells) ranks.entries.items ranks.ranks.items = rw (c.deref.ensures.value, c.in_ok-distances.ensures, to_z-of_z w64 base fits_base) at c.in_ok-entries.ensures in
    rw c.deref-2.ensures.value (within base greatest cells ranks.entries.items ranks.ranks.items fits_base fits_greatest c.requires.least c.requires.greatest are)

pub returns : goal.returns
returns g c =
    let cells = g.C.Cells.cells c.args.cells.now in
    let base = c.args.ends.least in
    let greatest = c.args.ends.greatest in
    let ranks = c.in_ok-entries.field-0 in
    let fits_base : FitsSigned w64 base = search rules in
    let fits_greatest : FitsSigned w64 greatest = search rules in
    let are : AreRanks (map (distance_from base) cells) ranks.entries.items ranks.ranks.items = rw (c.deref.ensures.value, c.in_ok-distances.ensures, to_z-of_z w64 base fits_base) at c.in_ok-entries.ensures in
    let values : c.in_ok-values_at.field-0.items ≡ map (λ n. base +ℤ pos n) ranks.entries.items = c.in_ok-values_at.ensures ∙ ap (map (λ n. base +ℤ pos n)) c.deref-2.ensures.value in
    let ranked = ranked_by base greatest cells ranks.entries.items ranks.ranks.items fits_base fits_greatest c.requires.least c.requires.greatest are c.in_ok-values_at.field-0.items values in
    record {
      entries = ranked.0;
      places = ranked.1;
    }
