use Rattle.std.proofs.Common.{arith}
use Rattle.strings.proofs.Steps.{read_short}
use Rattle.strings.proofs.read_string_at_ptr.Goals as goal

pub overflow_cast-length : goal.overflow_cast-length
overflow_cast-length c = record { fits = omega (arith, read_short _ _ _ _ _ _ c.in_ok-read-in-None.ensures.item) }
