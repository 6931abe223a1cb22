use Rattle.kf_tree.proofs.Listed.{listing_of}
use Rattle.kf_tree.proofs.listing.Names.new.Goals as goal

pub returns : goal.returns
returns c = record {
  listed = listing_of c.args.table.now c.requires.lawful.0 c.args.dir c.requires.lawful.1 _ c.args.limit _ c.children_above.ensures.listed;
}
