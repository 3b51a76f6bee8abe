use Rattle.osm_o5c.proofs.numbers.+write_varint.Given as goal

abbrev pub decreases-write_varint : goal.decreases-write_varint
decreases-write_varint l = l.most
