use Rattle.bw_model.proofs.Listed.{listing_is, whole_listing}
use Rattle.bw_engine.specs.Stores.{store_of}
use Rattle.bw_engine.proofs.listing.listing_of.Goals as goal

pub new-requires : goal.new-requires
new-requires c = whole_listing (store_of c.args.tables.now.entries) c.in_ok-headings.headings.items c.in_ok-cells.cells.items c.in_ok-headings.ensures c.in_ok-cells.ensures

pub returns : goal.returns
returns c =
    listing_is (store_of c.args.tables.now.entries) c.in_ok-headings.headings.items c.in_ok-cells.cells.items c.in_ok-headings.ensures c.in_ok-cells.ensures c.new.result c.new.ensures.headings c.new.ensures.lines
