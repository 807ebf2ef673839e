-- What a byte read replies, by the definition of the reads.
use Rattle.std.specs.Prelude.{get_or}
use Rattle.info.specs.Reads.{Reply}
use Rattle.byte_reads.specs.declared.ByteRead.{ByteRead}

-- the byte, 0 beside a refusal
abbrev pub byte_of : Reply → ByteRead
byte_of r = record { number = r.number; byte = get_or r.bytes 0 0; count = r.count }
