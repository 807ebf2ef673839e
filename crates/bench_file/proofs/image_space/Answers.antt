use Rattle.std.proofs.Common.{ℕ, sym}
use Rattle.std.proofs.lemmas.List.{length-replicate}
use Rattle.bench_file.proofs.image_space.Goals as goal

pub returns : goal.returns
returns c = sym (length-replicate {0} {A = ℕ} 2097152 0)
