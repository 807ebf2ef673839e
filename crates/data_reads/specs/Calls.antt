-- What ROM data replies, by the definition of the reads.
use Rattle.info.specs.Reads.{Reply}
use Rattle.data_reads.specs.declared.Counted.{Counted}

abbrev pub counted_of : Reply → Counted
counted_of r = record { number = r.number; count = r.count }
