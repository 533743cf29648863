use Rattle.bw_model.proofs.Listed.{listing_is, whole_listing}
use Rattle.bw_model.proofs.listing.listing_of.Goals as goal

pub new-requires : goal.new-requires
new-requires c = whole_listing c.args.tables.now c.in_ok-headings.headings.items c.in_ok-cells.cells.items c.in_ok-headings.ensures.items c.in_ok-cells.ensures

pub returns : goal.returns
returns c =
    listing_is c.args.tables.now c.in_ok-headings.headings.items c.in_ok-cells.cells.items c.in_ok-headings.ensures.items c.in_ok-cells.ensures c.new.result c.new.ensures.headings c.new.ensures.lines
